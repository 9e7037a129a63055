-- Schemas of the same files in the end, but for lines, columns and comments, have one view: of what their records say, too.
use Rattle.std.proofs.Common.{◌≡◌, ◌≤◌, ◌∙◌, List, [], ◌∷◌, map, sym, subst}
use Rattle.descriptor_records.specs.Content.{FileContent, file_view, unlocated}
use Rattle.schema_core.specs.Refusals.{SourcesLinked}
use Rattle.schema_core.specs.declared.schema.Schema.{Schema}
use Rattle.schema_view.specs.Lawful.{AddsLawful, AreSettled, Key, SameFiles, has_key, outlines, sources, times_by}
use Rattle.schema_view.specs.Outlines.{AreApart}
use Rattle.schema_view.specs.Views.{view_of}
use Rattle.schema_view.proofs.Orders.{one_view}
use Rattle.stored_options.proofs.Unlocated.{outlines_unlocated, times_unlocated, view_unlocated}
use Rattle.texts_view.proofs.Alike.{stand_again}
use Rattle.schema_laws.specs.Histories.{BatchLinked, IsMadeBy}
use Rattle.schema_laws.specs.SameSources.{given_in}
use Rattle.schema_laws.proofs.Grown.{grown, made_grown}
use Rattle.schema_laws.proofs.SameRecords.{same_but_for_places}

-- a history of files is one of sources
made_of : (batches : List (List FileContent)) (s : Schema) (made : IsMadeBy BatchLinked batches s) → IsMadeBy SourcesLinked (given_in batches s made) s
made_of [] s made = made
made_of (last ∷ earlier) s (old, before, add, pool) = (old, made_of earlier old before, add.linked, pool)

-- the records of such a schema are lawful by themselves, and linked to what they are
lawful : (batches : List (List FileContent)) (s : Schema) → IsMadeBy BatchLinked batches s → AddsLawful [] (map file_view s.pool.records) (map file_view s.pool.records)
lawful batches s made =
    let has = grown _ s (made_grown (given_in batches s made) s (made_of batches s made)) in
    stand_again has.batches (map file_view has.typed.but.linked.records) (map file_view s.pool.records) has.typed.but.built.built has.alike

pub same_view : (batches others : List (List FileContent)) (s t : Schema) → IsMadeBy BatchLinked batches s → IsMadeBy BatchLinked others t
    → SameFiles (map unlocated (sources batches)) (map unlocated (sources others)) → view_of (map file_view s.pool.records) ≡ view_of (map file_view t.pool.records)
same_view batches others s t made also same =
    let here = map file_view s.pool.records in
    let there = map file_view t.pool.records in
    let records : SameFiles (map unlocated here) (map unlocated there) = same_but_for_places batches others s t made also same in
    let l = lawful others t also in
    let apart : AreApart (outlines (map unlocated there)) = subst AreApart (sym (outlines_unlocated there)) l.1.apart in
    let settled : AreSettled there = subst AreSettled (sym l.2) l.1.together in
    let keys : (k : Key) → times_by (has_key k) (map unlocated there) ≤ 1 = λ k. subst (λ n. n ≤ 1) (sym (times_unlocated (has_key k) there)) (settled.extended k) in
    sym (view_unlocated here)
    ∙ one_view (map unlocated here) (map unlocated there) (λ f. (records f).0) (λ f. (records f).1) apart keys
    ∙ view_unlocated there
