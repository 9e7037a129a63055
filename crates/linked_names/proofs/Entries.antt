-- The parts of maps' entries, by their records.
use Rattle.std.proofs.Common.{◌≡◌, ◌⊎◌, inl, inr, ◌<◌, ◌&&◌, ◌==◌, not, ℕ, zero, suc, ℤ, pos, Bool, true, false, List, [], ◌∷◌, map, length, Option, None, Some, unwrap_or, option_map, String, Global, codes, slice_get, refl, sym, ap, ◌∙◌, subst, arith}
use Rattle.std.specs.Option.{option_and_then}
use Rattle.descriptor_records.specs.Content.{Text, FieldContent, text_view, field_view, options_view}
use Rattle.descriptor_records.specs.FieldNumbers.{type_number}
use Rattle.descriptor_records.specs.declared.field.FieldDescriptorProto.{FieldDescriptorProto}
use Rattle.descriptor_records.specs.declared.field.FieldType.TheVariants as numbers
use Rattle.descriptor_records.specs.declared.file.FileDescriptorProto.{FileDescriptorProto}
use Rattle.descriptor_records.specs.declared.options.Options.{Options}
use Rattle.reflect_declarations.specs.Declarations.{Declaration}
use Rattle.reflect_walk.specs.MapEntries.{says_entry, is_true}
use Rattle.reflect_fields.specs.Fields.{natural}
use Rattle.reflect_fields.specs.FieldDefaults.{IsDefault}
use Rattle.reflect_passes.specs.NameFaults.{name_faults}
use Rattle.reflect_index.specs.Entry.{KeepsEntry}
use Rattle.reflect_index.specs.OfDeclarations.{messages_in, stored_ranges}
use Rattle.reflect_tables.specs.Types.{PoolType, FieldType, KindType, DefaultType, MessageType, ArePooled, no_field, type_at, type_of_field}
use Rattle.reflect_tables.specs.Views.{message_of}
use Rattle.reflect_tables.specs.declared.stored.StoredEntry.{StoredEntry}
use Rattle.reflect_tables.specs.declared.stored.StoredMessage.{StoredMessage}
use Rattle.reflect_pool.specs.Parts.{members_of}
use Rattle.reflect_entries.specs.Members.{first_number}
use Rattle.reflect_message.specs.Known.{if_held, known_field, known_extension, numbered_field}
use Rattle.reflect_build.specs.Accepted.{FaultlessBatch}
use Rattle.reflect_build.specs.Refusals.{Linking, with_declared, IsOf}
use Rattle.protobuf_model.specs.Types.{oneof_of, same_oneof, rival}
use Rattle.message_view.specs.Types.{either_field, field_at, oneof_at}
use Rattle.message_view.proofs.Fields.{held_is}
use Rattle.text_view.specs.SourceNames.{HasPartNames}
use Rattle.source_records.specs.SourceNames.{IsPart, AreParts, IsEntry}
use Rattle.reflect_index.proofs.Among.{Among, of_all, of_find, of_place, place_of, index_is, get_map}
use Rattle.linked_view.proofs.Declared.{declared_at}
use Rattle.linked_view.proofs.DefaultValues.{IsGiven}
use Rattle.linked_view.proofs.Parts.{HasNumberAt, has_places}
use Rattle.linked_names.proofs.Batch.{ds}
use Rattle.reflect_index.proofs.Behind.{get_in}
use Rattle.linked_names.proofs.Sourced.{IsSourced, named_text}
use Rattle.linked_names.proofs.Stored.{declared, inside, message_sourced, number_other}

-- ---- oneofs

-- the oneof of the field of a number is that of the type's own field
pub own_oneof : (pool : PoolType) (i n : ℕ)
    → oneof_of (field_at pool i n) ≡ option_and_then (oneof_at pool i) (known_field pool i n)
own_oneof pool i n = by (known_field pool i n) (known_extension pool i n) where
  by : (f x : Option FieldType)
      → oneof_of (either_field pool i f x) ≡ option_and_then (oneof_at pool i) f
  by (Some f) x = refl
  by None (Some x) = refl
  by None None = refl

known_among : (pool : PoolType) (i n : ℕ) (f : FieldType) → known_field pool i n ≡ Some f
    → Among f (type_at pool i).fields
known_among pool i n f e = by (numbered_field pool i n) refl where
  by : (o : Option FieldType) → numbered_field pool i n ≡ o → Among f (type_at pool i).fields
  by None is = absurd (cc (sym (ap (option_and_then (if_held pool)) is) ∙ e))
  by (Some h) is =
      let same = (held_is pool h f (sym (ap (option_and_then (if_held pool)) is) ∙ e)).1 in
      subst (λ (g : FieldType). Among g (type_at pool i).fields) same
      (of_find (λ (g : FieldType). g.number == n) h (type_at pool i).fields is).0

-- fields that are in no oneof are in no one together
alone_apart : (pool : PoolType) (i : ℕ)
    → ((f : FieldType) → Among f (type_at pool i).fields → f.oneof ≡ None)
    → rival (field_at pool i) 2 1 ≡ false
alone_apart pool i alone =
    ap (λ o. not (1 == 2) && same_oneof o (oneof_of (field_at pool i 1)))
    (own_oneof pool i 2 ∙ by (known_field pool i 2) refl) where
      by : (o : Option FieldType) → known_field pool i 2 ≡ o
          → option_and_then (oneof_at pool i) o ≡ None
      by None is = refl
      by (Some f) is = ap (option_and_then (λ k. first_number (members_of pool i k)))
          (alone f (known_among pool i 2 f is))

-- ---- records

entry_said : (o : Option Options) → says_entry o ≡ true → IsEntry (option_map options_view o)
entry_said None e = absurd (cc e)
entry_said (Some o) e = by o.map_entry e where
  by : (b : Option Bool) → is_true b ≡ true → b ≡ Some true
  by None e = absurd (cc e)
  by (Some true) e = refl
  by (Some false) e = absurd (cc e)

abbrev KeyPart : FieldContent → Type 0
KeyPart f = IsPart (codes "key") (pos 1) f

abbrev ValuePart : FieldContent → Type 0
ValuePart f = IsPart (codes "value") (pos 2) f

which_part : (fs : List FieldDescriptorProto) → AreParts (map field_view fs) → (j : ℕ)
    (r : FieldDescriptorProto) → slice_get fs j ≡ Some r
    → KeyPart (field_view r) ⊎ ValuePart (field_view r)
which_part [] are j r e = absurd are
which_part (a ∷ []) are j r e = absurd are
which_part (a ∷ b ∷ c ∷ fs) are j r e = absurd are
which_part (a ∷ b ∷ []) are zero r e = let same : a ≡ r = cc e in
    inl (subst (λ (f : FieldDescriptorProto). KeyPart (field_view f)) same are.0)
which_part (a ∷ b ∷ []) are (suc zero) r e = let same : b ≡ r = cc e in
    inr (subst (λ (f : FieldDescriptorProto). ValuePart (field_view f)) same are.1)
which_part (a ∷ b ∷ []) are (suc (suc j)) r e = absurd (cc e)

-- a field is called so, is no group, and has no default of its own
pub record IsPlainPart (name : Text) (f : FieldType) : Type 0 where
  pub named : f.name ≡ name
  pub plain : f.group ≡ false
  pub usual : f.default ≡ None

untexted : (o : Option (String Global)) → text_view o ≡ None → o ≡ None
untexted None e = refl
untexted (Some s) e = absurd (cc e)

no_default : (k : KindType) (r : FieldDescriptorProto) (d : Option DefaultType)
    → text_view r.default_value ≡ None → IsDefault k r d → d ≡ None
no_default k r d none h =
    subst (λ o. IsGiven o k r.field_type d) (untexted r.default_value none) h

module _ (old new : PoolType) (ns : List FileDescriptorProto) (w : Linking) (is : IsOf old w)
    (pooled : ArePooled old) (names : name_faults w.indexes w.known w.before w.first ns ≡ [])
    (batch : FaultlessBatch (with_declared w ns) ns new)
    (sourced : (d : Declaration) → Among d (ds old new ns w is pooled names batch)
    → IsSourced ns w.first (ds old new ns w is pooled names batch) d) (i k : ℕ)
    (m : StoredMessage)
    (at : slice_get batch.types.new.now.messages.items k ≡ Some m)
    (type : type_at new i ≡ message_of m) where
  abbrev all : List Declaration
  all = ds old new ns w is pooled names batch

  abbrev Here : ℕ → Type 0
  Here j = j < length (type_at new i).fields

  -- a field of an entries' type is of one of two records
  part_of : (j : ℕ) → (lt : Here j) → m.is_entry ≡ true
      → KeyPart (field_view (declared old new ns w is pooled names batch i k m at type j lt).own)
      ⊎ ValuePart (field_view (declared old new ns w is pooled names batch i k m at type j lt).own)
  part_of j lt says =
      let d = declared old new ns w is pooled names batch i k m at type j lt in
      let outer = inside old new ns w is pooled names batch i k m at type j lt in
      let own = outer.declared.own in
      let src = message_sourced old new ns w is pooled names batch sourced
      outer.declared.declaration own outer.declared.here outer.declared.body in
      let kept = declared_at (messages_in all)
      (map stored_ranges batch.types.new.now.messages.items) k own (stored_ranges m)
      batch.declared.ranges outer.place
      (get_map stored_ranges batch.types.new.now.messages.items k m at) in
      which_part own.field (src.parts (entry_said own.options (sym kept.is_entry ∙ says))) j d.own
      outer.declared.field

  plain_part : (name : Text) (n : ℤ) (j : ℕ) (lt : Here j)
      → IsPart name n
      (field_view (declared old new ns w is pooled names batch i k m at type j lt).own)
      → IsPlainPart name (type_of_field new i j)
  plain_part name n j lt part =
      let d = declared old new ns w is pooled names batch i k m at type j lt in
      record {
        named = d.says.says.name ∙ named_text d.own.name name part.named;
        plain = d.says.says.group
            ∙ number_other (type_number numbers.Group) d.own.field_type part.plain;
        usual = no_default d.holds d.own (type_of_field new i j).default part.usual
            d.says.says.default;
      }

  key_part : (j : ℕ) → (lt : Here j) → m.is_entry ≡ true → (type_of_field new i j).number ≡ 1
      → IsPlainPart (codes "key") (type_of_field new i j)
  key_part j lt says one =
      let d = declared old new ns w is pooled names batch i k m at type j lt in
      elim (part_of j lt says) [
        | inl part ↦ plain_part (codes "key") (pos 1) j lt part
        | inr part ↦ (
            let two : (type_of_field new i j).number ≡ 2 =
            d.says.says.number ∙ ap (λ o. unwrap_or (natural o) 0) part.numbered in
            absurd (omega (arith, one, two)))
      ]

  value_part : (j : ℕ) → (lt : Here j) → m.is_entry ≡ true → (type_of_field new i j).number ≡ 2
      → IsPlainPart (codes "value") (type_of_field new i j)
  value_part j lt says two =
      let d = declared old new ns w is pooled names batch i k m at type j lt in
      elim (part_of j lt says) [
        | inr part ↦ plain_part (codes "value") (pos 2) j lt part
        | inl part ↦ (
            let one : (type_of_field new i j).number ≡ 1 =
            d.says.says.number ∙ ap (λ o. unwrap_or (natural o) 0) part.numbered in
            absurd (omega (arith, one, two)))
      ]

  alone : (j : ℕ) → Here j → m.is_entry ≡ true → (type_of_field new i j).oneof ≡ None
  alone j lt says =
      let d = declared old new ns w is pooled names batch i k m at type j lt in
      d.says.oneof ∙ elim (part_of j lt says) [
        | inl part ↦ ap natural part.alone
        | inr part ↦ ap natural part.alone
      ]

  pub entry_named : (e : StoredEntry) → (type_at new i).entry ≡ Some e → HasPartNames new i e
  entry_named e entry =
      let fs = (type_at new i).fields in
      let places = has_places m.is_entry (message_of m).fields m.entry e
      (of_all KeepsEntry m batch.types.new.now.messages.items batch.declared.entries.entries
      (of_place m batch.types.new.now.messages.items k at))
      (sym (ap (λ (t : MessageType). t.entry) type) ∙ entry) in
      let key = subst (λ (t : MessageType). HasNumberAt t.fields 1 e.key) (sym type) places.key in
      let value = subst (λ (t : MessageType). HasNumberAt t.fields 2 e.value) (sym type)
      places.value in
      let first = key_part e.key key.there places.says_so key.number in
      let second = value_part e.value value.there places.says_so value.number in
      record {
        key = first.named;
        value = second.named;
        plain_key = first.plain;
        plain_value = second.plain;
        usual_key = first.usual;
        usual_value = second.usual;
        apart = alone_apart new i (λ f h. by f (place_of f fs h) places.says_so);
      } where
        by : (f : FieldType) → (j : ℕ) × (slice_get (type_at new i).fields j ≡ Some f)
            → m.is_entry ≡ true → f.oneof ≡ None
        by f (j, there) says =
            let lt = get_in (type_at new i).fields j f there in
            ap (λ (g : FieldType). g.oneof)
            (sym (index_is (type_at new i).fields j f no_field there)) ∙ alone j lt says
