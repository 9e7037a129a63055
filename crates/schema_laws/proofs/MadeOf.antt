-- Schemas that sources alone made hold their options.
use Rattle.std.proofs.Common.{List, [], ◌∷◌, map, sym, subst}
use Rattle.settled_records.proofs.Typed.{typed_given}
use Rattle.schema_laws.specs.HeldOptions.{HoldsOptions}
use Rattle.schema_laws.proofs.Batch.{holds_more}
use Rattle.schema_core.specs.Refusals.{SourcesLinked}
use Rattle.schema_core.specs.declared.schema.Schema.{Schema}
use Rattle.schema_laws.proofs.Grown.{HasGrown, grown, made_grown, sources_more}
use Rattle.schema_laws.proofs.SourceFiles.{options_of}
use Rattle.schema_laws.specs.Histories.{IsMadeBy, Sources, of_sources}

-- so it stays where sources are added
held_more : (old new : Schema) (given : Sources) → HasGrown old.pool → HasGrown new.pool → HoldsOptions old.pool → SourcesLinked old.pool given new.pool → HoldsOptions new.pool
held_more old new given was g held (files, read, (linked, (typed, types, (adds, faultless, few)), settles, settled, bare)) =
    let m = holds_more was.batches old.pool linked new.pool typed was.typed was.is.kept g.is new.sound g.names faultless settles
    (record { settled = settled; bare = bare }) (typed_given files typed (options_of given files read) types) held was.alike g.plain in
    m.held

pub made_held : (batches : List Sources) (s : Schema) → IsMadeBy SourcesLinked batches s → HoldsOptions s.pool
made_held [] s is = subst HoldsOptions (sym is) tt
made_held (last ∷ earlier) s (old, before, linked, pool) =
    let was : HasGrown old.pool = grown (map of_sources earlier) old (made_grown earlier old before) in
    held_more old s last was (sources_more old s last was linked pool) (made_held earlier old before) linked
