-- A field or an extension of a message's type is set exactly where its content is seen.
use Rattle.std.proofs.Common.{◌≡◌, ◌<◌, ℕ, zero, suc, not, Bool, true, false, cond, length, map, Option, Some, None, option_map, refl, sym, ap, ◌∙◌, subst}
use Rattle.std.specs.Option.{option_and_then}
use Rattle.reflect_tables.specs.Types.{PoolType, FieldType, extension_at, type_at, type_of_field}
use Rattle.reflect_pool.specs.FieldsLeft.{field_type}
use Rattle.reflect_pool.specs.declared.extension.ExtensionDescriptor.{ExtensionDescriptor}
use Rattle.reflect_pool.specs.declared.field.FieldDescriptor.{FieldDescriptor}
use Rattle.reflect_scalar.specs.FieldTypes.{extension_pool, extension_type, field_pool}
use Rattle.reflect_scalar.specs.Floats.{HoldsFloats}
use Rattle.reflect_entries.specs.Entries.{value_at}
use Rattle.reflect_message.specs.Contents.{content_of}
use Rattle.reflect_message.specs.Declares.{Declares, Extends, OwnsExtension}
use Rattle.reflect_message.specs.Held.{extensions_of, fields_of, unknown_of}
use Rattle.reflect_message.specs.Known.{holds_floats, if_held, known_extension, known_field}
use Rattle.reflect_message.specs.Names.{DynamicMessage, Value}
use Rattle.reflect_message.specs.Present.{is_held}
use Rattle.reflect_contents.specs.Walked.{set_fields_of}
use Rattle.protobuf_model.specs.Meaning.{payloads}
use Rattle.protobuf_model.specs.Values.{Content, absent, content}
use Rattle.text_model.specs.Value.{is_set}
use Rattle.message_view.specs.Shaped.{IsShaped, Shaped}
use Rattle.message_view.specs.Sound.{IsNotKept, IsSound}
use Rattle.message_view.specs.Views as views
use Rattle.message_view.specs.Views.{content_view, held_either, held_in, view}
use Rattle.message_view.proofs.Fields.{extension_owned, known_extension_is, none_owned}
use Rattle.text_view.proofs.Apart.{extension_first, no_field_there}
use Rattle.text_view.proofs.Puts.{seen_at}
use Rattle.print_view.specs.Walked.{contents_under, held_extensions_of, is_field, kept_records, seen_as}
use Rattle.print_view.proofs.Entries.{found_at}
use Rattle.print_view.proofs.Walking.{extension_set, extensions_walked, field_set, fields_walked, records_walked}

held_seen : (b : Bool) (c : Content) → b ≡ is_set (cond b (content c) absent)
held_seen true c = refl
held_seen false c = refl

module _ (m : DynamicMessage) (sound : IsSound m.descriptor.pool.now) (levels : ℕ) (shaped : IsShaped (Shaped levels) m.descriptor (content_of m)) where
  abbrev pool : PoolType
  pool = m.descriptor.pool.now

  abbrev i : ℕ
  i = m.descriptor.index

  -- by a number under which messages hold a field
  known_seen : (n : ℕ) (f : FieldType) → known_field pool i n ≡ Some f → is_held pool f (value_at (fields_of m) n) ≡ is_set (view m n)
  known_seen n f there = by (value_at (fields_of m) n) refl ∙ sym (ap is_set holds) where
    holds : view m n ≡ held_in pool f (option_map content_view (value_at (fields_of m) n))
    holds =
        seen_at m n
        ∙ ap (λ o. held_either pool o (known_extension pool i n) (option_map content_view (value_at (fields_of m) n)) (option_map content_view (value_at (extensions_of m) n)) (payloads n (unknown_of m))) there

    by : (o : Option Value) → value_at (fields_of m) n ≡ o → is_held pool f o ≡ is_set (held_in pool f (option_map content_view o))
    by None at = refl
    by (Some v) at = field_set m sound levels shaped n v f at there ∙ held_seen (views.is_set pool f (content_view v)) (content_view v)

  -- under a number that nothing has that messages hold no content is seen
  none_seen : (n : ℕ) → known_field pool i n ≡ None → known_extension pool i n ≡ None → is_set (view m n) ≡ false
  none_seen n none also =
      ap is_set (seen_at m n
      ∙ ap (λ o. held_either pool o (known_extension pool i n) (option_map content_view (value_at (fields_of m) n)) (option_map content_view (value_at (extensions_of m) n)) (payloads n (unknown_of m))) none
      ∙ ap (λ o. held_either pool None o (option_map content_view (value_at (fields_of m) n)) (option_map content_view (value_at (extensions_of m) n)) (payloads n (unknown_of m))) also)

  -- no extension has the number of a field
  none_beside : (k : ℕ) → k < length (type_at pool i).fields → known_extension pool i (type_of_field pool i k).number ≡ None
  none_beside k less = by (known_extension pool i n) refl where
    n : ℕ
    n = (type_of_field pool i k).number

    differ : (x : ExtensionDescriptor) → OwnsExtension m.descriptor x → (extension_type x).number ≡ n → ⊥
    differ x owns number =
        let its_own = ap (λ p. (extension_at p x.index).field.number) (sym owns.0.0) in
        let its_type = ap (λ p. (extension_at p x.index).extendee) (sym owns.0.0) ∙ owns.0.1 in
        sound.apart.kept x.index owns.1.0
        (subst (λ j. IsNotKept pool j (extension_at pool x.index).field.number) (sym its_type)
        (subst (IsNotKept pool i) (sym number ∙ sym its_own) (sound.apart.free i k less)))

    by : (o : Option FieldType) → known_extension pool i n ≡ o → known_extension pool i n ≡ None
    by None is = is
    by (Some g) is = let x = known_extension_is m.descriptor n g is in absurd (differ x.0 x.1 (ap (λ (t : FieldType). t.number) x.2 ∙ x.3))

  -- a field at a place of the type: of floating-point numbers nothing is held, and nothing is seen
  place_seen : (k : ℕ) → k < length (type_at pool i).fields
      → is_held pool (type_of_field pool i k) (value_at (fields_of m) (type_of_field pool i k).number) ≡ is_set (view m (type_of_field pool i k).number)
  place_seen k less = by (holds_floats pool f) refl where
    f : FieldType
    f = type_of_field pool i k

    known_as : known_field pool i f.number ≡ if_held pool f
    known_as = ap (option_and_then (if_held pool)) (found_at pool i sound.apart k less)

    by : (b : Bool) → holds_floats pool f ≡ b → is_held pool f (value_at (fields_of m) f.number) ≡ is_set (view m f.number)
    by false is = known_seen f.number f (known_as ∙ ap (λ b. cond b None (Some f)) is)
    by true is =
        let none : known_field pool i f.number ≡ None = known_as ∙ ap (λ b. cond b None (Some f)) is in
        ap (is_held pool f) (shaped.unowned f.number (none_owned m.descriptor f.number none)) ∙ sym (none_seen f.number none (none_beside k less))

  pub field_seen : (f : FieldDescriptor) → Declares m.descriptor f → is_held (field_pool f) (field_type f) (value_at (fields_of m) (field_type f).number) ≡ is_set (view m (field_type f).number)
  field_seen f declares = subst (λ p. IsSeen p f.message.index) (sym declares.1) (subst (IsSeen pool) (sym declares.0) (place_seen f.index less)) where
    IsSeen : PoolType → ℕ → Type 0
    IsSeen p j = is_held p (type_of_field p j f.index) (value_at (fields_of m) (type_of_field p j f.index).number) ≡ is_set (view m (type_of_field p j f.index).number)

    less : f.index < length (type_at pool i).fields
    less = subst (λ j. f.index < length (type_at pool j).fields) declares.0 (subst (λ p. f.index < length (type_at p f.message.index).fields) declares.1 f.in_range)

  pub extension_seen : (x : ExtensionDescriptor) → Extends m.descriptor x → (HoldsFloats (extension_pool x) (extension_type x) → ⊥)
      → is_held (extension_pool x) (extension_type x) (value_at (extensions_of m) (extension_type x).number) ≡ is_set (view m (extension_type x).number)
  extension_seen x extends whole = ap (λ p. is_held p g (value_at (extensions_of m) n)) extends.0 ∙ by (value_at (extensions_of m) n) refl ∙ sym (ap is_set holds) where
    g : FieldType
    g = extension_type x

    n : ℕ
    n = (extension_type x).number

    owns : OwnsExtension m.descriptor x
    owns = (extends, extension_first m.descriptor sound.apart x extends.0 extends.1 (subst (λ p. x.index < length p.extensions) extends.0 x.in_range), whole)

    none : known_field pool i n ≡ None
    none = no_field_there m.descriptor sound.apart x owns

    there : known_extension pool i n ≡ Some g
    there = extension_owned m.descriptor x owns

    holds : view m n ≡ held_in pool g (option_map content_view (value_at (extensions_of m) n))
    holds =
        seen_at m n
        ∙ ap (λ o. held_either pool o (known_extension pool i n) (option_map content_view (value_at (fields_of m) n)) (option_map content_view (value_at (extensions_of m) n)) (payloads n (unknown_of m))) none
        ∙ ap (λ o. held_either pool None o (option_map content_view (value_at (fields_of m) n)) (option_map content_view (value_at (extensions_of m) n)) (payloads n (unknown_of m))) there

    by : (o : Option Value) → value_at (extensions_of m) n ≡ o → is_held pool g o ≡ is_set (held_in pool g (option_map content_view o))
    by None at = refl
    by (Some v) at = extension_set m sound levels shaped n v g at none there ∙ held_seen (views.is_set pool g (content_view v)) (content_view v)

-- ---- of however many levels the message is

pub fields_seen : (m : DynamicMessage) → IsSound m.descriptor.pool.now → (levels : ℕ) → Shaped levels m → (f : FieldDescriptor) → Declares m.descriptor f
    → is_held (field_pool f) (field_type f) (value_at (fields_of m) (field_type f).number) ≡ is_set (view m (field_type f).number)
fields_seen m sound zero none f declares = absurd none
fields_seen m sound (suc levels) shaped f declares = field_seen m sound levels shaped f declares

pub extensions_seen : (m : DynamicMessage) → IsSound m.descriptor.pool.now → (levels : ℕ) → Shaped levels m → (x : ExtensionDescriptor) → Extends m.descriptor x → (HoldsFloats (extension_pool x) (extension_type x) → ⊥)
    → is_held (extension_pool x) (extension_type x) (value_at (extensions_of m) (extension_type x).number) ≡ is_set (view m (extension_type x).number)
extensions_seen m sound zero none x extends whole = absurd none
extensions_seen m sound (suc levels) shaped x extends whole = extension_seen m sound levels shaped x extends whole

pub all_fields : (m : DynamicMessage) → IsSound m.descriptor.pool.now → (levels : ℕ) → Shaped levels m → map seen_as (set_fields_of m) ≡ contents_under (is_field m) (view m)
all_fields m sound zero none = absurd none
all_fields m sound (suc levels) shaped = fields_walked m sound levels shaped

pub all_extensions : (m : DynamicMessage) → IsSound m.descriptor.pool.now → (levels : ℕ) → Shaped levels m → map seen_as (held_extensions_of m) ≡ contents_under (λ n. not (is_field m n)) (view m)
all_extensions m sound zero none = absurd none
all_extensions m sound (suc levels) shaped = extensions_walked m sound levels shaped

pub all_records : (m : DynamicMessage) → IsSound m.descriptor.pool.now → (levels : ℕ) → Shaped levels m → unknown_of m ≡ kept_records (view m)
all_records m sound zero none = absurd none
all_records m sound (suc levels) shaped = records_walked m sound levels shaped
