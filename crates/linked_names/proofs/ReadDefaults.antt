-- A batch without lists in oneofs keeps it so that fields without presence are read as not set.
use Rattle.std.proofs.Common.{◌≡◌, ◌<◌, ◌++◌, ◌+◌, inl, inr, ℕ, true, false, true≢false, List, [], map, length, Option, None, Some, unwrap_or, refl, sym, ap, ◌∙◌, subst}
use Rattle.std.specs.List.{AllByRecursion}
use Rattle.std.specs.Option.{option_and_then}
use Rattle.descriptor_records.specs.Content.{file_view}
use Rattle.descriptor_records.specs.declared.file.FileDescriptorProto.{FileDescriptorProto}
use Rattle.reflect_declarations.specs.Declarations.{Declaration}
use Rattle.reflect_passes.specs.NameFaults.{name_faults}
use Rattle.reflect_tables.specs.Types.{PoolType, FieldType, IsWithin, ArePooled, counts_of, no_field, type_at, type_of_field}
use Rattle.reflect_tables.specs.Views.{message_of, record_file}
use Rattle.reflect_build.specs.Accepted.{FaultlessBatch, FaultlessFiles}
use Rattle.reflect_build.specs.Refusals.{Linking, with_declared, IsOf, is_unknown, new_files}
use Rattle.reflect_entries.specs.Members.{first_number}
use Rattle.reflect_pool.specs.Parts.{members_of}
use Rattle.reflect_message.specs.Known.{known_field, known_extension}
use Rattle.protobuf_model.specs.Types.{Name, Field}
use Rattle.text_model.specs.Printed.{lacks_presence}
use Rattle.text_model.specs.Unset.{HasReadDefault, HaveReadDefaults}
use Rattle.message_view.specs.Sound.{HaveNumbers, IsSound}
use Rattle.message_view.specs.Types.{either_field, field_at, field_of, label_of, oneof_at, part_of, place_in, types_of, values_of}
use Rattle.message_view.proofs.Fields.{held_is}
use Rattle.text_view.proofs.Places.{field_place}
use Rattle.source_records.specs.LoneLists.{GivesLoneLists}
use Rattle.reflect_index.proofs.Among.{Among, all_of, get_at, of_all, of_filter, of_place}
use Rattle.linked_view.proofs.Grown.{field_within}
use Rattle.linked_names.proofs.Accepted.{all, b, enums_are, files_are, later_field, messages_are, no_field_there, which_type}
use Rattle.linked_names.proofs.Kept.{known_same}
use Rattle.linked_names.proofs.LoneLists.{IsLone, batch_lone}
use Rattle.linked_names.proofs.FieldsKept.{lacked_before, oneof_stays, place_stays, read_still}
use Rattle.linked_names.proofs.Unset.{IsReadUnset, declared_unset, field_read}

-- a field that the model has as lacking presence is in no oneof there, and its default is read
abbrev IsRead : PoolType → ℕ → FieldType → Type 0
IsRead p i f = lacks_presence (part_of p (values_of p f)) (label_of p f) ≡ true
    → (oneof_at p i f ≡ None) × HasReadDefault (part_of p (values_of p f)) (label_of p f)

-- a field of a type that was there holds what was there
known_within : (pool : PoolType) → ArePooled pool → (i n : ℕ) (f : FieldType)
    → known_field pool i n ≡ Some f → IsWithin (counts_of pool) f.kind
known_within pool pooled i n f known =
    let at = field_place pool i n f known in
    let g = type_of_field pool i at.place in
    subst (λ (g : FieldType). IsWithin (counts_of pool) g.kind) at.field
    (field_within pool i g pooled (of_place g (type_at pool i).fields at.place
    (get_at (type_at pool i).fields at.place no_field at.there)))

module _ (old new : PoolType) (ns : List FileDescriptorProto) (w : Linking) (is : IsOf old w)
    (pooled : ArePooled old) (names : name_faults w.indexes w.known w.before w.first ns ≡ [])
    (batch : FaultlessBatch (with_declared w ns) ns new) (numbers : HaveNumbers new)
    (lone : (x : Declaration) → Among x (all old new ns w is pooled names batch) → IsLone x)
    (reads : HaveReadDefaults (types_of old)) where
  -- a field of a type that was there
  old_read : (t : Name) (n : ℕ) (f : FieldType) → place_in new.messages t < length old.messages
      → known_field new (place_in new.messages t) n ≡ Some f
      → IsRead new (place_in new.messages t) f
  old_read t n f here known lacks =
      let batched = b old new ns w is pooled names batch in
      let messages = messages_are old new ns w is pooled names batch in
      let enums = enums_are old new ns w is pooled names batch in
      let i = place_in new.messages t in
      let before : known_field old i n ≡ Some f =
      sym (known_same old new batched (map record_file ns) pooled
      (files_are old new ns w is pooled names batch) messages enums i here n) ∙ known in
      let there : place_in (old.messages ++ map message_of batched.messages.items) t
      < length old.messages = subst (λ l. place_in l t < length old.messages) messages here in
      let place : place_in old.messages t ≡ i =
      place_stays old.messages (map message_of batched.messages.items) t there
      ∙ sym (ap (λ l. place_in l t) messages) in
      let within = known_within old pooled i n f before in
      let found : types_of old t n ≡ Some (field_of old (oneof_at old i f) false f) =
      ap (λ k. field_at old k n) place
      ∙ ap (λ o. either_field old i o (known_extension old i n)) before in
      let its = reads t n (field_of old (oneof_at old i f) false f) found refl
      (lacked_before old new batched messages enums f within lacks) in (
        oneof_stays old new batched messages enums i f here ∙ its.0,
        read_still old new batched messages enums f within its.1,
      )

  -- and one of any type
  known_read : (t : Name) (n : ℕ) (f : FieldType)
      → known_field new (place_in new.messages t) n ≡ Some f
      → IsRead new (place_in new.messages t) f
  known_read t n f known lacks =
      let i = place_in new.messages t in
      let at = field_place new i n f known in
      elim (which_type old new ns w is pooled names batch i) [
        | inl (here, type) ↦ old_read t n f here known lacks
        | inr (inl later) ↦ (
            let d = subst (λ f. IsReadUnset new f) at.field (declared_unset batch.references
            (all old new ns w is pooled names batch) (w.before.messages + later.place) at.place
            (type_of_field new i at.place)
            (later_field old new ns w is pooled names batch i at.place later at.there)
            new numbers lone) in
            let read = field_read new f (held_is new f f at.held).0 d lacks in
            (ap (option_and_then (λ k. first_number (members_of new i k))) (d.alone read.0), read.1))
        | inr (inr none) ↦ absurd
            (no_field_there old new ns w is pooled names batch i at.place none.1 at.there)
      ]

  all_read : HaveReadDefaults (types_of new)
  all_read t n f e declared lacks =
      by (known_field new i n) refl (known_extension new i n) refl where
        i : ℕ
        i = place_in new.messages t

        Read : Field → Type 0
        Read f = lacks_presence f.part f.label ≡ true
            → (f.oneof ≡ None) × HasReadDefault f.part f.label

        by : (a : Option FieldType) → known_field new i n ≡ a
            → (c : Option FieldType) → known_extension new i n ≡ c
            → (f.oneof ≡ None) × HasReadDefault f.part f.label
        by (Some g) known c also =
            let same : f ≡ field_of new (oneof_at new i g) false g = ap (λ o. unwrap_or o f)
            (sym e ∙ ap (λ o. either_field new i o (known_extension new i n)) known) in
            subst Read (sym same) (known_read t n g known) lacks
        by None none (Some g) also =
            let same : f ≡ field_of new None true g = ap (λ o. unwrap_or o f)
            (sym e ∙ ap (λ o. either_field new i o (known_extension new i n)) none
            ∙ ap (either_field new i None) also) in
            absurd (true≢false (sym (ap (λ (f : Field). f.extension) same) ∙ declared))
        by None none None also =
            absurd (cc (sym (ap (λ o. either_field new i o (known_extension new i n)) none
            ∙ ap (either_field new i None) also) ∙ e))

pub accepted_unset : (old new : PoolType) (files : List FileDescriptorProto) → IsSound old
    → HaveNumbers new → FaultlessFiles old files new
    → AllByRecursion (λ (f : FileDescriptorProto). GivesLoneLists (file_view f)) files
    → HaveReadDefaults (types_of old) → HaveReadDefaults (types_of new)
accepted_unset old new files sound numbers (w, is, (names, batch)) lone reads =
    let ns = new_files w.indexes files in
    let Gives = λ (f : FileDescriptorProto). GivesLoneLists (file_view f) in
    all_read old new ns w is sound.pooled names batch numbers
    (batch_lone w.before w.first ns (all_of Gives ns (λ f h.
    of_all Gives f files lone (of_filter (is_unknown w.indexes) f files h).0))) reads
