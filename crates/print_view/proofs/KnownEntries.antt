-- What is printed of a message that holds no unknown records: entries that hold none, and no records.
use Rattle.std.proofs.Common.{◌≡◌, inl, inr, ℕ, suc, ◌==◌, Bool, true, false, true≢false, cond, List, [], ◌∷◌, ◌++◌, map, Option, Some, None, option_map, refl, sym, ap, ◌∙◌, subst, arith}
use Rattle.std.proofs.lemmas.Bool.{or_parts}
use Rattle.std.specs.List.{AllByRecursion}
use Rattle.protox_lex.specs.Class.{Text}
use Rattle.reflect_tables.specs.Types.{PoolType, FieldType}
use Rattle.reflect_wire.specs.Records.{Payload}
use Rattle.reflect_entries.specs.Entries.{value_at}
use Rattle.reflect_message.specs.Contents.{content_of}
use Rattle.reflect_message.specs.Defaults.{IsDefault}
use Rattle.reflect_message.specs.Held.{fields_of, extensions_of, unknown_of}
use Rattle.reflect_message.specs.Known.{is_float, known_field, known_extension}
use Rattle.reflect_message.specs.Names.{DynamicMessage, Value}
use Rattle.print_parts.specs.Entries.{Entry, undeclared, AreDeclared, AreOthers, IsByNumber, extension_entries}
use Rattle.text_lines.specs.declared.options.FormatOptions.{FormatOptions}
use Rattle.protobuf_model.specs.Meaning.{payloads}
use Rattle.protobuf_model.specs.Types.{Name, Field}
use Rattle.protobuf_model.specs.Values.{Content, Message, absent, content}
use Rattle.text_model.specs.Plain.{IsPlain, IsPlainHeld}
use Rattle.message_view.specs.Shaped.{IsShaped, Shaped}
use Rattle.message_view.specs.Sound.{IsSound}
use Rattle.message_view.specs.Types.{either_field, field_at, field_of, name_at, oneof_at, types_of}
use Rattle.message_view.specs.Views.{content_view, held_either, held_in, is_set, view}
use Rattle.message_view.proofs.Accepting.{known_whole}
use Rattle.message_view.proofs.Fields.{by_number}
use Rattle.message_view.proofs.Sound.{named}
use Rattle.text_view.specs.Schemas.{schema_of}
use Rattle.text_view.proofs.Puts.{seen_at}
use Rattle.print_view.specs.Forms.{HaveMessagePresence}
use Rattle.print_view.proofs.Ascending.{as_they_stand}
use Rattle.print_view.proofs.AllKnown.{AllKnown, Wholly, each_unset, value_known}
use Rattle.print_view.proofs.Chosen.{all_declared, field_fits}
use Rattle.print_view.proofs.Contents.{EachContent, Forms, each_both, forms_inside, plain_inside}
use Rattle.print_view.proofs.Extending.{all_extensions, extension_fits}
use Rattle.print_view.proofs.Inside.{EachValue, EachEntry, default_value}

-- of records of which none has a number there is none
no_records : (rs : List (ℕ × Payload)) → ((n : ℕ) → payloads n rs ≡ []) → rs ≡ []
no_records [] none = refl
no_records (r ∷ rs) none =
    let self : (r.0 == r.0) ≡ true = grind arith in
    absurd (cc (sym (ap (λ b. cond b (r.1 ∷ payloads r.0 rs) (payloads r.0 rs)) self) ∙ none r.0))

-- what is printed of a message: entries that hold none of such messages, and behind those of fields those of extensions alone
abbrev pub ArePrinted : FormatOptions → (Name → Text → Option Message) → PoolType → ℕ → ℕ → DynamicMessage → Type 0
ArePrinted options decoded pool x levels m = (ds os : List Entry) → AreDeclared options m ds → AreOthers options m os
    → AllByRecursion (EachEntry (AllKnown options decoded pool x levels)) ds × AllByRecursion (EachEntry (AllKnown options decoded pool x levels)) os × (os ≡ extension_entries m)

module _ (options : FormatOptions) (decoded : Name → Text → Option Message) (m : DynamicMessage) (sound : IsSound m.descriptor.pool.now) (present : options.skip_default_fields ≡ false → HaveMessagePresence m.descriptor.pool.now)
    (x levels : ℕ) (shaped : IsShaped (Shaped levels) m.descriptor (content_of m)) (known : Wholly options decoded m.descriptor.pool.now x (suc levels) (name_at m.descriptor.pool.now m.descriptor.index) (view m)) where
  abbrev pool : PoolType
  pool = m.descriptor.pool.now

  abbrev i : ℕ
  i = m.descriptor.index

  abbrev Q : Name → Message → Type 0
  Q = Wholly options decoded m.descriptor.pool.now x levels

  abbrev Has : DynamicMessage → Type 0
  Has = AllKnown options decoded m.descriptor.pool.now x levels

  type_is : (n : ℕ) → types_of pool (name_at pool i) n ≡ field_at pool i n
  type_is n = named pool sound.names i n m.descriptor.in_range

  -- ---- what fields and extensions hold

  inside : (n : ℕ) (f : Field) (c : Content) → field_at pool i n ≡ Some f → view m n ≡ content c → EachContent Q f.part.kind c
  inside n f c is holds =
      each_both (IsPlain (types_of pool)) (Forms (schema_of pool decoded) options.expand_any x levels) f.part.kind c
      (plain_inside (types_of pool) (name_at pool i) (view m) known.0 n f c (type_is n ∙ is) holds)
      (forms_inside (schema_of pool decoded) options.expand_any x levels (name_at pool i) (view m) known.1 n f c (type_is n ∙ is) holds)

  -- set or not
  inside_held : (n : ℕ) (f : Field) (g : FieldType) (v : Value) → field_at pool i n ≡ Some f → view m n ≡ held_in pool g (Some (content_view v)) → EachContent Q f.part.kind (content_view v)
  inside_held n f g v is holds = by (is_set pool g (content_view v)) refl where
    by : (b : Bool) → is_set pool g (content_view v) ≡ b → EachContent Q f.part.kind (content_view v)
    by true set = inside n f (content_view v) is (holds ∙ ap (λ b. cond b (content (content_view v)) absent) set)
    by false unset = each_unset Q pool g f.part.kind (content_view v) unset

  field_known : (f : FieldType) (v : Value) → known_field pool i f.number ≡ Some f → value_at (fields_of m) f.number ≡ Some v → EachValue Has v
  field_known f v there at =
      let n = f.number in
      let fit = field_fits m levels shaped n v f at there in
      let holds : view m n ≡ held_in pool f (Some (content_view v)) =
      seen_at m n
      ∙ ap (λ o. held_either pool o (known_extension pool i n) (option_map content_view (value_at (fields_of m) n)) (option_map content_view (value_at (extensions_of m) n)) (payloads n (unknown_of m))) there
      ∙ ap (λ o. held_in pool f (option_map content_view o)) at in
      value_known options decoded pool sound.entries x levels f v fit.0 fit.1
      (inside_held n (field_of pool (oneof_at pool i f) false f) f v (ap (λ o. either_field pool i o (known_extension pool i n)) there) holds)

  extension_known : (n : ℕ) (f : FieldType) (v : Value) → known_field pool i n ≡ None → known_extension pool i n ≡ Some f → value_at (extensions_of m) n ≡ Some v → EachValue Has v
  extension_known n f v none there at =
      let fit = extension_fits m levels shaped n v f at none there in
      let holds : view m n ≡ held_in pool f (Some (content_view v)) =
      seen_at m n
      ∙ ap (λ o. held_either pool o (known_extension pool i n) (option_map content_view (value_at (fields_of m) n)) (option_map content_view (value_at (extensions_of m) n)) (payloads n (unknown_of m))) none
      ∙ ap (λ o. held_either pool None o (option_map content_view (value_at (fields_of m) n)) (option_map content_view (value_at (extensions_of m) n)) (payloads n (unknown_of m))) there
      ∙ ap (λ o. held_in pool f (option_map content_view o)) at in
      value_known options decoded pool sound.entries x levels f v fit.0 fit.1
      (inside_held n (field_of pool None true f) f v (ap (λ o. either_field pool i o (known_extension pool i n)) none ∙ ap (either_field pool i None) there) holds)

  default_known : (f : FieldType) (v : Value) → known_field pool i f.number ≡ Some f → f.presence ≡ false → options.skip_default_fields ≡ false → IsDefault pool f v → EachValue Has v
  default_known f v there unset shows stands =
      default_value Has pool f v (or_parts (is_float f.kind) _ (known_whole m.descriptor f.number f there)).0
      (λ type alone. true≢false (sym (present shows i f.number f there type alone) ∙ unset)) stands

  -- ---- no records

  none_unknown : unknown_of m ≡ []
  none_unknown =
      no_records (unknown_of m)
      (by_number m.descriptor (λ n. payloads n (unknown_of m) ≡ []) (λ f owns. shaped.declared _ (inl (f, owns, refl))) (λ y owns none. shaped.declared _ (inr (y, owns, refl))) neither) where
        neither : (n : ℕ) → known_field pool i n ≡ None → known_extension pool i n ≡ None → payloads n (unknown_of m) ≡ []
        neither n none also =
            subst (IsPlainHeld (types_of pool) (types_of pool (name_at pool i) n))
            (seen_at m n
            ∙ ap (λ o. held_either pool o (known_extension pool i n) (option_map content_view (value_at (fields_of m) n)) (option_map content_view (value_at (extensions_of m) n)) (payloads n (unknown_of m))) none
            ∙ ap (λ o. held_either pool None o (option_map content_view (value_at (fields_of m) n)) (option_map content_view (value_at (extensions_of m) n)) (payloads n (unknown_of m))) also)
            (known.0 n)

  -- so extensions are all that is printed behind the fields
  others_are : (os : List Entry) → AreOthers options m os → os ≡ extension_entries m
  others_are os = by options.skip_unknown_fields where
    by : (b : Bool) → cond b (os ≡ extension_entries m) (IsByNumber (extension_entries m ++ map undeclared (unknown_of m)) os) → os ≡ extension_entries m
    by true is = is
    by false sorted = as_they_stand m shaped.ordered.extensions (unknown_of m) os sorted none_unknown

  own_printed : ArePrinted options decoded m.descriptor.pool.now x levels m
  own_printed ds os declared others =
      let same = others_are os others in (
        all_declared m levels shaped options (EachEntry Has) field_known default_known ds declared,
        subst (AllByRecursion (EachEntry Has)) (sym same) (all_extensions m levels shaped (EachEntry Has) extension_known),
        same,
      )

-- so it is in the pool that the message is of
pub are_printed : (options : FormatOptions) (decoded : Name → Text → Option Message) (pool : PoolType) → IsSound pool → (options.skip_default_fields ≡ false → HaveMessagePresence pool) → (x levels : ℕ) (m : DynamicMessage)
    → AllKnown options decoded pool x (suc levels) m → ArePrinted options decoded pool x levels m
are_printed options decoded q sound present x levels m h =
    subst (λ q. IsSound q → (options.skip_default_fields ≡ false → HaveMessagePresence q) → Wholly options decoded q x (suc levels) (name_at q m.descriptor.index) (view m) → ArePrinted options decoded q x levels m) h.there
    (λ s p k. own_printed options decoded m s p x levels h.shaped k) sound present h.known
