-- A batch of files more, of sources or of a set: linking reads of all records what it read of those that
-- it made.
use Rattle.std.proofs.Common.{List, ◌∷◌, map, length, refl, ◌∙◌}
use Rattle.descriptor_records.specs.Content.{FileContent, OptionsContent, file_view}
use Rattle.descriptor_records.specs.declared.file.FileDescriptorProto.{FileDescriptorProto}
use Rattle.settled_records.proofs.Typed.{copied, typed_says}
use Rattle.message_view.specs.Sound.{IsSound}
use Rattle.option_parts.specs.TypedOptions.{TypedFiles}
use Rattle.option_parts.specs.declared.option_scope.OptionScope.{OptionScope}
use Rattle.option_parts.specs.declared.option_scope.OptionScope.TheVariants as scopes
use Rattle.plain_records.specs.PlainRecords.{ArePlainFiles}
use Rattle.reflect_build.specs.Accepted.{FaultlessFiles}
use Rattle.reflect_build.specs.Refusals.{IsOf, Linking, new_files}
use Rattle.reflect_options.specs.Settling.{SettlesPool}
use Rattle.reflect_tables.specs.Types.{PoolType}
use Rattle.settled_view.specs.BuiltBut.{ChangesOptions}
use Rattle.stored_options.specs.CopiedOptions.{AreCopied, ReadsItsBytes}
use Rattle.text_view.specs.SourceNames.{HaveOwnNames}
use Rattle.types_view.specs.Pools.{IsPool}
use Rattle.types_view.specs.Typed.{IsTyped}
use Rattle.types_view.proofs.Settled.{typed_more}
use Rattle.schema_laws.proofs.Linked.{linked_names, linked_sound}
use Rattle.schema_laws.proofs.Read.{read_behind, settled_reads_alike}
use Rattle.schema_laws.proofs.Said.{batch_says}
use Rattle.schema_laws.specs.HeldOptions.{ReadsAlike}

-- ---- options are copied
copied_so : (scope : OptionScope) (o : OptionsContent) → ReadsItsBytes scope o → AreCopied scope (copied scope o)
copied_so scopes.Field o reads = (o, reads, refl)
copied_so scopes.Enum o reads = (o, reads, refl)
copied_so scope o reads = (o, reads, refl)

pub files_copied : (files typed : List FileDescriptorProto) → ArePlainFiles ReadsItsBytes (map file_view files) → TypedFiles files typed → ArePlainFiles AreCopied (map file_view typed)
files_copied = typed_says ReadsItsBytes AreCopied copied_so

-- ---- the pool that was linked and settled
pub record ReadsMore (earlier : List (List FileContent)) (old new : PoolType) (typed : List FileDescriptorProto) : Type 0 where
  pub linking : Linking
  pub of : IsOf old linking
  pub built : IsTyped (map file_view (new_files linking.indexes typed) ∷ earlier) new
  pub alike : ReadsAlike built.but.linked new

pub reads_more : (earlier : List (List FileContent)) (old linked new : PoolType) (typed : List FileDescriptorProto) (was : IsTyped earlier old) → IsPool new
    → IsSound new → HaveOwnNames new → FaultlessFiles old typed linked → SettlesPool linked (length old.files) new → ChangesOptions linked new
    → ArePlainFiles AreCopied (map file_view typed) → ReadsAlike was.but.linked old → ReadsMore earlier old new typed
reads_more earlier old linked new typed was whole sound names faultless settles changes given alike =
    let m = typed_more earlier old linked new typed was whole faultless changes in
    record {
      linking = m.linking;
      of = m.of;
      built = m.typed;
      alike =
          settled_reads_alike linked new (length old.files) settles (linked_sound linked new changes.settled sound) (linked_names linked new changes.settled names)
          (batch_says AreCopied old linked typed faultless given)
          ∙ read_behind old was.but.linked linked m.typed.but.linked m.more alike m.beside m.behind;
    }
