-- A message of which nothing is printed that keeps a record keeps none.
use Rattle.std.proofs.Common.{◌≡◌, inl, inr, ℕ, suc, Bool, true, false, cond, List, [], Option, Some, None, option_map, refl, sym, ap, ◌∙◌, subst}
use Rattle.std.specs.List.{AllByRecursion}
use Rattle.protox_lex.specs.Class.{Text}
use Rattle.reflect_tables.specs.Types.{PoolType, FieldType}
use Rattle.reflect_pool.specs.Shapes.{is_repeated, holds_list, holds_map}
use Rattle.reflect_entries.specs.Entries.{value_at}
use Rattle.reflect_message.specs.Bytes as forms
use Rattle.reflect_message.specs.Contents.{content_of}
use Rattle.reflect_message.specs.Held.{fields_of, extensions_of, unknown_of}
use Rattle.reflect_message.specs.Known.{holds_floats, known_field, known_extension}
use Rattle.reflect_message.specs.Names.{DynamicMessage, Value}
use Rattle.print_parts.specs.Entries.{Entry, AreDeclared, extension_entries}
use Rattle.text_lines.specs.declared.options.FormatOptions.{FormatOptions}
use Rattle.protobuf_model.specs.Meaning.{payloads}
use Rattle.protobuf_model.specs.Types.{Name, Field, Types}
use Rattle.protobuf_model.specs.Values.{Content, Held, Message, absent, content}
use Rattle.text_model.specs.Plain.{IsPlain, IsPlainContent, IsPlainHeld}
use Rattle.text_model.proofs.InBytes.{IsHeldInBytes, IsInBytes}
use Rattle.message_view.specs.Shaped.{FitsAs, IsShaped, Shaped}
use Rattle.message_view.specs.Sound.{IsSound}
use Rattle.message_view.specs.Types.{either_field, field_at, field_of, kind_in, name_at, oneof_at, types_of, values_of}
use Rattle.message_view.specs.Views.{content_view, held_either, held_in, is_set, view}
use Rattle.message_view.proofs.Fields.{known}
use Rattle.message_view.proofs.Sound.{named}
use Rattle.text_view.proofs.Puts.{seen_at}
use Rattle.text_view.specs.Schemas.{schema_of}
use Rattle.print_view.proofs.Chosen.{field_fits}
use Rattle.print_view.proofs.Contents.{EachContent, Forms, forms_inside}
use Rattle.print_view.proofs.Entries.{set_same}
use Rattle.print_view.proofs.Extending.{extension_fits}
use Rattle.print_view.proofs.KeepsNone.{EntryKeepsNone, FieldKeepsNone, MessageKeepsNone}
use Rattle.print_view.proofs.NoneSkipped.{of_extension, of_field}

-- with `Q` of the messages that a message with `R` holds
module _ (options : FormatOptions) (m : DynamicMessage) (sound : IsSound m.descriptor.pool.now) (levels : ℕ) (shaped : IsShaped (Shaped levels) m.descriptor (content_of m)) (Q R : Name → Message → Type 0)
    (inside : (t : Name) (v : Message) → R t v → (n : ℕ) (f : Field) (c : Content) → types_of m.descriptor.pool.now t n ≡ Some f → v n ≡ content c → EachContent Q f.part.kind c)
    (ds : List Entry) (declared : AreDeclared options m ds) (fields : AllByRecursion (EntryKeepsNone m.descriptor.pool.now Q) ds) (extensions : AllByRecursion (EntryKeepsNone m.descriptor.pool.now Q) (extension_entries m)) (none : unknown_of m ≡ []) where
  abbrev pool : PoolType
  pool = m.descriptor.pool.now

  abbrev i : ℕ
  i = m.descriptor.index

  abbrev types : Types
  types = types_of m.descriptor.pool.now

  -- what is set by the model's test is set by the program's
  also_set : (f : FieldType) (v : Value) → (holds_floats pool f ≡ false) × FitsAs (Shaped levels) pool f (holds_map pool f) (holds_list pool f) v → (is_repeated f.cardinality ≡ true → f.presence ≡ false)
      → is_set pool f (content_view v) ≡ true → forms.is_set pool f (forms.form_of v) ≡ true
  also_set f v fit repeats set = set_same pool (Shaped levels) f v fit.0 repeats fit.1 ∙ set

  field_none : (n : ℕ) (f : FieldType) (v : Value) → known_field pool i n ≡ Some f → value_at (fields_of m) n ≡ Some v → is_set pool f (content_view v) ≡ true → FieldKeepsNone pool Q f v
  field_none n f v there at set =
      let number : f.number ≡ n = (known m.descriptor n f there).3 in
      of_field options m (EntryKeepsNone pool Q) f v (ap (known_field pool i) number ∙ there) (ap (value_at (fields_of m)) number ∙ at)
      (also_set f v (field_fits m levels shaped n v f at there) (sound.lists.unset i n f (inl there)) set) ds declared fields

  extension_none : (n : ℕ) (f : FieldType) (v : Value) → known_field pool i n ≡ None → known_extension pool i n ≡ Some f → value_at (extensions_of m) n ≡ Some v → is_set pool f (content_view v) ≡ true → FieldKeepsNone pool Q f v
  extension_none n f v none there at set =
      of_extension options m (EntryKeepsNone pool Q) n f v there at (also_set f v (extension_fits m levels shaped n v f at none there) (sound.lists.unset i n f (inr there)) set) extensions

  -- ---- what stands under a number

  module _ (bytes : IsInBytes (view m)) (within : R (name_at m.descriptor.pool.now m.descriptor.index) (view m)) (n : ℕ) where
    -- by the field and the extension that have it, and what they hold
    abbrev under : (f x : Option FieldType) (a b : Option Value) → Held
    under f x a b = held_either pool f x (option_map content_view a) (option_map content_view b) (payloads n (unknown_of m))

    abbrev Seen : (f x : Option FieldType) (a b : Option Value) → Type 0
    Seen f x a b = (field_at pool i n ≡ either_field pool i f x) × (view m n ≡ under f x a b)

    abbrev IsFine : (f x : Option FieldType) (a b : Option Value) → Type 0
    IsFine f x a b = IsPlainHeld types (either_field pool i f x) (under f x a b)

    type_is : types (name_at pool i) n ≡ field_at pool i n
    type_is = named pool sound.names i n m.descriptor.in_range

    -- what a field or an extension holds
    held_fine : (g : Field) (f : FieldType) (v : Value) → g.part.kind ≡ kind_in pool (values_of pool f).group (values_of pool f).kind → field_at pool i n ≡ Some g → view m n ≡ held_in pool f (Some (content_view v)) → (is_set pool f (content_view v) ≡ true → FieldKeepsNone pool Q f v)
        → IsPlainHeld types (Some g) (held_in pool f (Some (content_view v)))
    held_fine g f v kind type holds keeps = by (is_set pool f (content_view v)) refl where
      by : (b : Bool) → is_set pool f (content_view v) ≡ b → IsPlainHeld types (Some g) (cond b (content (content_view v)) absent)
      by false unset = refl
      by true set =
          let here : view m n ≡ content (content_view v) = holds ∙ ap (λ b. cond b (content (content_view v)) absent) set in
          subst (λ k. IsPlainContent types k (content_view v)) (sym kind)
          (keeps set (subst IsHeldInBytes here (bytes n)) (subst (λ k. EachContent Q k (content_view v)) kind (inside (name_at pool i) (view m) within n g (content_view v) (type_is ∙ type) here)))

    by_parts : (f x : Option FieldType) (a b : Option Value) → known_field pool i n ≡ f → known_extension pool i n ≡ x → value_at (fields_of m) n ≡ a → value_at (extensions_of m) n ≡ b → Seen f x a b → IsFine f x a b
    by_parts (Some f) x None b there also at beside seen = refl
    by_parts (Some f) x (Some v) b there also at beside seen = held_fine (field_of pool (oneof_at pool i f) false f) f v refl seen.0 seen.1 (field_none n f v there at)
    by_parts None (Some f) a None without there at beside seen = refl
    by_parts None (Some f) a (Some v) without there at beside seen = held_fine (field_of pool None true f) f v refl seen.0 seen.1 (extension_none n f v without there beside)
    by_parts None None a b without also at beside seen = ap (payloads n) none

    under_number : IsPlainHeld types (types (name_at pool i) n) (view m n)
    under_number =
        subst (λ o. IsPlainHeld types o (view m n)) (sym type_is)
        (subst (IsPlainHeld types (field_at pool i n)) (sym (seen_at m n))
        (by_parts (known_field pool i n) (known_extension pool i n) (value_at (fields_of m) n) (value_at (extensions_of m) n) refl refl refl refl (refl, seen_at m n)))

  all_plain : IsInBytes (view m) → R (name_at pool i) (view m) → IsPlain types (name_at pool i) (view m)
  all_plain bytes within n = under_number bytes within n

-- so it is in the pool that the message is of
pub gathered : (options : FormatOptions) (decoded : Name → Text → Option Message) (expands : Bool) (x : ℕ) (pool : PoolType) → IsSound pool → (levels : ℕ) (m : DynamicMessage) → m.descriptor.pool.now ≡ pool → Shaped (suc levels) m
    → (ds : List Entry) → AreDeclared options m ds → AllByRecursion (EntryKeepsNone pool (Forms (schema_of pool decoded) expands x levels)) ds → AllByRecursion (EntryKeepsNone pool (Forms (schema_of pool decoded) expands x levels)) (extension_entries m)
    → unknown_of m ≡ [] → MessageKeepsNone (types_of pool) (Forms (schema_of pool decoded) expands x (suc levels)) (name_at pool m.descriptor.index) (view m)
gathered options decoded expands x _ sound levels m there shaped ds declared fields extensions none =
    subst (λ q. IsSound q → AllByRecursion (EntryKeepsNone q (Forms (schema_of q decoded) expands x levels)) ds → AllByRecursion (EntryKeepsNone q (Forms (schema_of q decoded) expands x levels)) (extension_entries m)
    → MessageKeepsNone (types_of q) (Forms (schema_of q decoded) expands x (suc levels)) (name_at q m.descriptor.index) (view m)) there
    (λ s f e. all_plain options m s levels shaped (Forms (schema_of m.descriptor.pool.now decoded) expands x levels) (Forms (schema_of m.descriptor.pool.now decoded) expands x (suc levels))
    (λ t v h. forms_inside (schema_of m.descriptor.pool.now decoded) expands x levels t v h) ds declared f e none) sound fields extensions
