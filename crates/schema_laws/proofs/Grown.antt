-- What schemas hold, whatever sources and sets were added to them.
use Rattle.std.proofs.Common.{List, [], ◌∷◌, map, ap, sym, subst, arith, rules}
use Rattle.descriptor_records.specs.Content.{FileContent, file_view}
use Rattle.descriptor_records.specs.declared.file.FileDescriptorProto.{FileDescriptorProto}
use Rattle.texts_view.specs.ReadOptions.{read_file}
use Rattle.linked_names.proofs.Accepted.{accepted_apart}
use Rattle.option_parts.specs.OptionTypes.{CanRead}
use Rattle.option_parts.specs.declared.option_scope.OptionScope.{OptionScope}
use Rattle.schema_laws.proofs.Settled.{settled_reads}
use Rattle.plain_records.specs.PlainRecords.{ArePlainFiles}
use Rattle.reflect_pool.specs.Linked.{empty_pool}
use Rattle.reflect_tables.specs.Types.{PoolType}
use Rattle.schema_laws.specs.HeldOptions.{ReadsAlike}
use Rattle.schema_laws.proofs.Again.{none_linked}
use Rattle.schema_laws.proofs.Linked.{names_stay}
use Rattle.schema_laws.proofs.More.{files_copied, reads_more}
use Rattle.settled_view.specs.BuiltBut.{ChangesOptions}
use Rattle.stored_options.specs.CopiedOptions.{ReadsItsBytes}
use Rattle.text_view.specs.SourceNames.{HaveOwnNames}
use Rattle.schema_laws.specs.ToldMessages.{TellsMessages}
use Rattle.schema_laws.proofs.Accepted.{accepted_tell, empty_tells}
use Rattle.schema_laws.proofs.Stays.{settled_tells}
use Rattle.types_view.specs.Typed.{IsTyped}
use Rattle.types_view.proofs.Settled.{empty_typed}
use Rattle.schema_core.specs.Refusals.{FilesLinked, IsPool, SourcesLinked}
use Rattle.schema_core.specs.declared.schema.Schema.{Schema}
use Rattle.schema_laws.proofs.GivenOptions.{set_read, sources_read}
use Rattle.schema_laws.proofs.Naming.{empty_sources}
use Rattle.schema_laws.proofs.PlainRecords.{set_plain, sources_plain}
use Rattle.schema_laws.specs.Histories.{Addition, AdditionLinked, IsMadeBy, Sources, of_set, of_sources}
use Rattle.schema_laws.specs.Records.{HasPlainRecords}

-- all that is so of such a schema's pool
pub record HasGrown (p : PoolType) : Type 0 where
  pub is : IsPool p
  pub names : HaveOwnNames p
  pub plain : HasPlainRecords p
  pub batches : List (List FileContent)
  pub typed : IsTyped batches p
  pub alike : ReadsAlike typed.but.linked p
  pub told : TellsMessages p
  pub reads : (scope : OptionScope) → CanRead p scope

pub empty_is_pool : IsPool empty_pool
empty_is_pool = record { recorded = search rules; indexed = search rules; kept = search rules }

pub empty_grown : HasGrown empty_pool
empty_grown = record {
  is = empty_is_pool;
  names = empty_sources.names.distinct;
  plain = tt;
  batches = [];
  typed = empty_typed;
  alike = sym (ap (λ (fs : List FileDescriptorProto). map read_file (map file_view fs)) none_linked);
  told = empty_tells;
  reads = λ scope m named. let lt = named.0 in absurd (omega (arith, lt));
}

-- files more, of whose options linking reads what their bytes say
files_more : (old new : Schema) (files : List FileDescriptorProto) → HasGrown old.pool → IsPool new.pool → ArePlainFiles ReadsItsBytes (map file_view files) → HasPlainRecords new.pool
    → FilesLinked old.pool files new.pool → HasGrown new.pool
files_more old new files was pool read plain (linked, (typed, types, (adds, faultless, few)), settles, settled, bare) =
    let changes : ChangesOptions linked new.pool = record { settled = settled; bare = bare } in
    let names : HaveOwnNames new.pool = names_stay linked new.pool settled (accepted_apart old.pool linked typed old.sound faultless was.names) in
    let m = reads_more was.batches old.pool linked new.pool typed was.typed pool new.sound names faultless settles changes (files_copied files typed read types) was.alike in
    record {
      is = pool;
      names = names;
      plain = plain;
      batches = _;
      typed = m.built;
      alike = m.alike;
      told = settled_tells linked new.pool changes (accepted_tell old.pool linked typed was.told faultless);
      reads = λ scope. settled_reads linked new.pool changes scope (settles.readable scope);
    }

pub sources_more : (old new : Schema) (given : Sources) → HasGrown old.pool → SourcesLinked old.pool given new.pool → IsPool new.pool → HasGrown new.pool
sources_more old new given was linked pool =
    files_more old new linked.0 was pool (sources_read given linked.0 linked.1) (sources_plain old.pool new.pool given new.sound was.plain linked) linked.2

grown_more : (old new : Schema) (given : Addition) → HasGrown old.pool → AdditionLinked old.pool given new.pool → IsPool new.pool → HasGrown new.pool
grown_more old new (of_sources given) was linked pool = sources_more old new given was linked pool
grown_more old new (of_set bytes) was linked pool =
    files_more old new linked.0 was pool (set_read bytes linked.0 linked.1) (set_plain old.pool new.pool bytes new.sound was.plain linked) linked.2

pub grown : (additions : List Addition) (s : Schema) → IsMadeBy AdditionLinked additions s → HasGrown s.pool
grown [] s is = subst HasGrown (sym is) empty_grown
grown (last ∷ earlier) s (old, before, linked, pool) = grown_more old s last (grown earlier old before) linked pool

-- schemas that sources alone made are such
pub made_grown : (batches : List Sources) (s : Schema) → IsMadeBy SourcesLinked batches s → IsMadeBy AdditionLinked (map of_sources batches) s
made_grown [] s is = is
made_grown (last ∷ earlier) s (old, before, linked, pool) = (old, made_grown earlier old before, linked, pool)
