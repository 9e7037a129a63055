-- A batch of sources more: options are held as they were or as the batch gives them, and linking reads
-- of all records what it read of those that it made.
use Rattle.std.proofs.Common.{List, ◌∷◌, map, length}
use Rattle.descriptor_records.specs.Content.{FileContent, file_view}
use Rattle.descriptor_records.specs.declared.file.FileDescriptorProto.{FileDescriptorProto}
use Rattle.message_view.specs.Sound.{IsSound}
use Rattle.plain_records.specs.PlainRecords.{ArePlainFiles}
use Rattle.plain_records.specs.SaidOptions.{SaysAndIsSettled}
use Rattle.plain_records.specs.SourceOptions.{AreGiven}
use Rattle.plain_records.proofs.Both.{files_weaker}
use Rattle.reflect_build.specs.Accepted.{FaultlessFiles}
use Rattle.reflect_build.specs.Refusals.{IsOf, Linking, new_files}
use Rattle.reflect_options.specs.Settling.{SettlesPool}
use Rattle.reflect_tables.specs.Types.{PoolType}
use Rattle.settled_view.specs.BuiltBut.{ChangesOptions}
use Rattle.stored_options.specs.CopiedOptions.{AreCopied}
use Rattle.stored_options.proofs.Copied.{read_copied}
use Rattle.text_view.specs.SourceNames.{HaveOwnNames}
use Rattle.types_view.specs.Pools.{IsKept, IsPool}
use Rattle.types_view.specs.Typed.{IsTyped}
use Rattle.schema_laws.proofs.HeldStill.{held_stay}
use Rattle.schema_laws.proofs.Held.{held_after}
use Rattle.schema_laws.proofs.Linked.{linked_sound}
use Rattle.schema_laws.proofs.More.{reads_more}
use Rattle.schema_laws.specs.HeldOptions.{AreHeld, HoldsOptions, ReadsAlike}

-- what is so of a pool of one batch more
pub record HoldsMore (earlier : List (List FileContent)) (old new : PoolType) (typed : List FileDescriptorProto) : Type 0 where
  pub linking : Linking
  pub of : IsOf old linking
  pub built : IsTyped (map file_view (new_files linking.indexes typed) ∷ earlier) new
  pub held : HoldsOptions new
  pub alike : ReadsAlike built.but.linked new

pub holds_more : (earlier : List (List FileContent)) (old linked new : PoolType) (typed : List FileDescriptorProto) (was : IsTyped earlier old) → IsKept old → IsPool new
    → IsSound new → HaveOwnNames new → FaultlessFiles old typed linked → SettlesPool linked (length old.files) new → ChangesOptions linked new
    → ArePlainFiles AreGiven (map file_view typed) → HoldsOptions old → ReadsAlike was.but.linked old → ArePlainFiles SaysAndIsSettled (map file_view new.records)
    → HoldsMore earlier old new typed
holds_more earlier old linked new typed was kept whole sound names faultless settles changes given held alike done =
    let copied = files_weaker AreGiven AreCopied (λ scope o is. read_copied scope o is.0) (map file_view typed) given in
    let m = reads_more earlier old linked new typed was whole sound names faultless settles changes copied alike in
    record {
      linking = m.linking;
      of = m.of;
      built = m.built;
      held = held_after old linked new typed faultless settles changes.settled (linked_sound linked new changes.settled sound) given
          (files_weaker (AreHeld old) (AreHeld new) (held_stay earlier _ old new was m.built kept whole.kept) (map file_view old.records) held) done;
      alike = m.alike;
    }
