-- What walks over a message give, one number behind the other, is what is seen under the numbers.
use Rattle.std.proofs.Common.{◌≡◌, inl, inr, ℕ, ◌==◌, ◌&&◌, not, Bool, true, false, cond, List, [], ◌∷◌, ◌++◌, map, Option, Some, None, option_map, refl, sym, ap, ◌∙◌}
use Rattle.std.specs.List.{cons_option, find, filter, filter_map}
use Rattle.std.specs.Option.{option_and_then}
use Rattle.reflect_tables.specs.Types.{PoolType, FieldType, ExtensionType}
use Rattle.reflect_wire.specs.Records.{Payload}
use Rattle.reflect_pool.specs.FieldsLeft.{field_type}
use Rattle.reflect_pool.specs.declared.extension.ExtensionDescriptor.{ExtensionDescriptor}
use Rattle.reflect_pool.specs.declared.field.FieldDescriptor.{FieldDescriptor}
use Rattle.reflect_scalar.specs.FieldTypes.{extension_type}
use Rattle.reflect_entries.specs.Entries.{value_at}
use Rattle.reflect_contents.specs.Walked.{Holding, if_set, set_extension, set_field, set_fields_of}
use Rattle.reflect_message.specs.Bytes as forms
use Rattle.reflect_message.specs.Contents.{content_of}
use Rattle.reflect_message.specs.Declares.{Owns, OwnsExtension}
use Rattle.reflect_message.specs.Held.{extensions_of, fields_of, unknown_of}
use Rattle.reflect_message.specs.Known.{holds_floats, if_held, known_extension, known_field, numbered_field}
use Rattle.reflect_message.specs.Names.{DynamicMessage, Value}
use Rattle.protobuf_model.specs.Bytes.{is_declared, numbered}
use Rattle.protobuf_model.specs.Meaning.{payloads}
use Rattle.protobuf_model.specs.Values.{Content, absent, content}
use Rattle.message_view.specs.Shaped.{IsShaped, Shaped}
use Rattle.message_view.specs.Sound.{IsSound}
use Rattle.message_view.specs.Types.{either_field, field_at}
use Rattle.message_view.specs.Views as views
use Rattle.message_view.specs.Views.{content_view, held_either, held_in, view}
use Rattle.message_view.proofs.Fields.{by_number, extension_owned, known, known_extension_is, owned}
use Rattle.message_view.proofs.Ordering.{in_order, rises}
use Rattle.text_view.proofs.Puts.{seen_at}
use Rattle.print_view.specs.Walked.{content_at, contents_under, held_extensions_of, is_field, kept_records, records_at, seen_as}
use Rattle.print_view.proofs.Chosen.{Found, field_fits, found_fields, is_known}
use Rattle.print_view.proofs.Counting.{all_numbers, each, same_numbers, shown, under}
use Rattle.print_view.proofs.Entries.{set_same}
use Rattle.print_view.proofs.Extending.{extension_fits, found_extensions, no_field_too}

module _ (m : DynamicMessage) (sound : IsSound m.descriptor.pool.now) (levels : ℕ) (shaped : IsShaped (Shaped levels) m.descriptor (content_of m)) where
  abbrev pool : PoolType
  pool = m.descriptor.pool.now

  abbrev i : ℕ
  i = m.descriptor.index

  -- what is held is set by the program's test exactly if it is by the model's
  abbrev SetAlike : FieldType → Value → Type 0
  SetAlike f v = forms.is_set pool f (forms.form_of v) ≡ views.is_set pool f (content_view v)

  pub field_set : (n : ℕ) (v : Value) (f : FieldType) → value_at (fields_of m) n ≡ Some v → known_field pool i n ≡ Some f → SetAlike f v
  field_set n v f at is =
      let fit = field_fits m levels shaped n v f at is in
      set_same pool (Shaped levels) f v fit.0 (sound.lists.unset i n f (inl is)) fit.1

  pub extension_set : (n : ℕ) (v : Value) (f : FieldType) → value_at (extensions_of m) n ≡ Some v → known_field pool i n ≡ None → known_extension pool i n ≡ Some f → SetAlike f v
  extension_set n v f at none is =
      let fit = extension_fits m levels shaped n v f at none is in
      set_same pool (Shaped levels) f v fit.0 (sound.lists.unset i n f (inr is)) fit.1

  -- ---- fields

  -- what a walk gives of an entry, by the field of its number
  abbrev of_field : Option FieldType → ℕ → Value → List (ℕ × Content)
  of_field None n v = []
  of_field (Some f) n v = cond (views.is_set pool f (content_view v)) ((n, content_view v) ∷ []) []

  abbrev first : ℕ → Value → List (ℕ × Content)
  first n v = of_field (known_field pool i n) n v

  field_entry : (n : ℕ) (v : Value) (rest : List Holding) → value_at (fields_of m) n ≡ Some v
      → map seen_as (cons_option (set_field pool i (n, v)) rest) ≡ first n v ++ map seen_as rest
  field_entry n v rest at = by (numbered_field pool i n) refl where
    put : Option Holding → List (ℕ × Content)
    put o = map seen_as (cons_option o rest)

    by : (o : Option FieldType) → numbered_field pool i n ≡ o → put (set_field pool i (n, v)) ≡ first n v ++ map seen_as rest
    by None is =
        ap (λ o. put (option_and_then (if_set pool v) o)) is
        ∙ sym (ap (λ o. of_field (option_and_then (if_held pool) o) n v ++ map seen_as rest) is)
    by (Some f) is =
        let there = is_known m levels shaped n v f at is in
        ap (λ o. put (option_and_then (if_set pool v) o)) is
        ∙ ap (λ b. put (cond b (Some (f, v)) None)) (field_set n v f at there)
        ∙ shown_so (known m.descriptor n f there).3 (views.is_set pool f (content_view v))
        ∙ sym (ap (λ o. of_field o n v ++ map seen_as rest) there) where
          shown_so : f.number ≡ n → (b : Bool) → put (cond b (Some (f, v)) None) ≡ cond b ((n, content_view v) ∷ []) [] ++ map seen_as rest
          shown_so number true = ap (λ k. (k, content_view v) ∷ map seen_as rest) number
          shown_so number false = refl

  fields_said : (es : List (ℕ × Value)) → Found (fields_of m) es → map seen_as (filter_map (set_field pool i) es) ≡ each first es
  fields_said [] all = refl
  fields_said (e ∷ es) all = field_entry e.0 e.1 (filter_map (set_field pool i) es) all.0 ∙ ap (λ l. first e.0 e.1 ++ l) (fields_said es all.1)

  fields_at : (n : ℕ) (f x : Option FieldType) (v : Option Value) (b : Option Content) (ps : List Payload)
      → cond (is_declared (either_field pool i f x)) (content_at n (held_either pool f x (option_map content_view v) b ps)) [] ≡ shown (λ k u. of_field f k u) v n
  fields_at n (Some f) x None b ps = refl
  fields_at n (Some f) x (Some v) b ps = by (views.is_set pool f (content_view v)) where
    by : (s : Bool) → content_at n (cond s (content (content_view v)) absent) ≡ cond s ((n, content_view v) ∷ []) []
    by true = refl
    by false = refl
  fields_at n None (Some y) None b ps = refl
  fields_at n None (Some y) (Some v) b ps = refl
  fields_at n None None None b ps = refl
  fields_at n None None (Some v) b ps = refl

  first_at : (n : ℕ) → cond (is_field m n) (content_at n (view m n)) [] ≡ under first (fields_of m) n
  first_at n =
      ap (λ h. cond (is_declared (field_at pool i n)) (content_at n h) []) (seen_at m n)
      ∙ fields_at n (known_field pool i n) (known_extension pool i n) (value_at (fields_of m) n) (option_map content_view (value_at (extensions_of m) n)) (payloads n (unknown_of m))
      ∙ same_shown (value_at (fields_of m) n) where
        same_shown : (v : Option Value) → shown (λ k u. of_field (known_field pool i n) k u) v n ≡ shown first v n
        same_shown None = refl
        same_shown (Some v) = refl

  pub fields_walked : map seen_as (set_fields_of m) ≡ contents_under (is_field m) (view m)
  fields_walked =
      fields_said (fields_of m) (found_fields m levels shaped)
      ∙ sym (same_numbers (λ n. cond (is_field m n) (content_at n (view m n)) []) (under first (fields_of m)) (λ n le. first_at n)
      ∙ all_numbers first (fields_of m) (rises (fields_of m) shaped.ordered.fields))

  -- ---- extensions

  abbrev of_extension : (f x : Option FieldType) → ℕ → Value → List (ℕ × Content)
  of_extension (Some f) x n v = []
  of_extension None None n v = []
  of_extension None (Some x) n v = cond (views.is_set pool x (content_view v)) ((n, content_view v) ∷ []) []

  abbrev second : ℕ → Value → List (ℕ × Content)
  second n v = of_extension (known_field pool i n) (known_extension pool i n) n v

  abbrev is_whole : Holding → Bool
  is_whole h = not (holds_floats pool h.0)

  abbrev extends : ℕ → ExtensionType → Bool
  extends n x = (x.extendee == i) && (x.field.number == n)

  extension_entry : (n : ℕ) (v : Value) (rest : List Holding) → value_at (extensions_of m) n ≡ Some v
      → map seen_as (filter is_whole (cons_option (set_extension pool i (n, v)) rest)) ≡ second n v ++ map seen_as (filter is_whole rest)
  extension_entry n v rest at = by (known_field pool i n) refl (find (extends n) pool.extensions) refl where
    behind : List (ℕ × Content)
    behind = map seen_as (filter is_whole rest)

    put : Option Holding → List (ℕ × Content)
    put o = map seen_as (filter is_whole (cons_option o rest))

    by : (o : Option FieldType) → known_field pool i n ≡ o → (x : Option ExtensionType) → find (extends n) pool.extensions ≡ x → put (set_extension pool i (n, v)) ≡ second n v ++ behind
    by (Some f) there x is = absurd (no_field_too m levels shaped n v f at there)
    by None none None is =
        ap (λ o. put (option_and_then (if_set pool v) (option_map (λ (x : ExtensionType). x.field) o))) is
        ∙ sym (ap (λ o. of_extension o (known_extension pool i n) n v ++ behind) none
        ∙ ap (λ o. of_extension None (option_and_then (λ (x : ExtensionType). if_held pool x.field) o) n v ++ behind) is)
    by None none (Some y) is =
        ap (λ o. put (option_and_then (if_set pool v) (option_map (λ (x : ExtensionType). x.field) o))) is
        ∙ within (holds_floats pool y.field) refl
        ∙ sym (ap (λ o. of_extension o (known_extension pool i n) n v ++ behind) none) where
          known_as : known_extension pool i n ≡ if_held pool y.field
          known_as = ap (option_and_then (λ (x : ExtensionType). if_held pool x.field)) is

          within : (b : Bool) → holds_floats pool y.field ≡ b → put (if_set pool v y.field) ≡ of_extension None (known_extension pool i n) n v ++ behind
          within true e =
              let nothing : known_extension pool i n ≡ None = known_as ∙ ap (λ b. cond b None (Some y.field)) e in
              drops (forms.is_set pool y.field (forms.form_of v)) ∙ sym (ap (λ o. of_extension None o n v ++ behind) nothing) where
                drops : (b : Bool) → put (cond b (Some (y.field, v)) None) ≡ behind
                drops true = ap (λ b. map seen_as (cond (not b) ((y.field, v) ∷ filter is_whole rest) (filter is_whole rest))) e
                drops false = refl
          within false e =
              let there : known_extension pool i n ≡ Some y.field = known_as ∙ ap (λ b. cond b None (Some y.field)) e in
              ap (λ b. put (cond b (Some (y.field, v)) None)) (extension_set n v y.field at none there)
              ∙ shown_so (known_extension_is m.descriptor n y.field there).3 (views.is_set pool y.field (content_view v))
              ∙ sym (ap (λ o. of_extension None o n v ++ behind) there) where
                shown_so : y.field.number ≡ n → (b : Bool) → put (cond b (Some (y.field, v)) None) ≡ cond b ((n, content_view v) ∷ []) [] ++ behind
                shown_so number true =
                    ap (λ b. map seen_as (cond (not b) ((y.field, v) ∷ filter is_whole rest) (filter is_whole rest))) e
                    ∙ ap (λ k. (k, content_view v) ∷ behind) number
                shown_so number false = refl

  extensions_said : (es : List (ℕ × Value)) → Found (extensions_of m) es → map seen_as (filter is_whole (filter_map (set_extension pool i) es)) ≡ each second es
  extensions_said [] all = refl
  extensions_said (e ∷ es) all = extension_entry e.0 e.1 (filter_map (set_extension pool i) es) all.0 ∙ ap (λ l. second e.0 e.1 ++ l) (extensions_said es all.1)

  extensions_at : (n : ℕ) (f x : Option FieldType) (v : Option Value) (a : Option Content) (ps : List Payload)
      → cond (not (is_declared (either_field pool i f x))) (content_at n (held_either pool f x a (option_map content_view v) ps)) [] ≡ shown (λ k u. of_extension f x k u) v n
  extensions_at n (Some f) x None a ps = refl
  extensions_at n (Some f) x (Some v) a ps = refl
  extensions_at n None (Some y) None a ps = refl
  extensions_at n None (Some y) (Some v) a ps = by (views.is_set pool y (content_view v)) where
    by : (s : Bool) → content_at n (cond s (content (content_view v)) absent) ≡ cond s ((n, content_view v) ∷ []) []
    by true = refl
    by false = refl
  extensions_at n None None None a ps = refl
  extensions_at n None None (Some v) a ps = refl

  second_at : (n : ℕ) → cond (not (is_field m n)) (content_at n (view m n)) [] ≡ under second (extensions_of m) n
  second_at n =
      ap (λ h. cond (not (is_declared (field_at pool i n))) (content_at n h) []) (seen_at m n)
      ∙ extensions_at n (known_field pool i n) (known_extension pool i n) (value_at (extensions_of m) n) (option_map content_view (value_at (fields_of m) n)) (payloads n (unknown_of m))
      ∙ same_shown (value_at (extensions_of m) n) where
        same_shown : (v : Option Value) → shown (λ k u. of_extension (known_field pool i n) (known_extension pool i n) k u) v n ≡ shown second v n
        same_shown None = refl
        same_shown (Some v) = refl

  pub extensions_walked : map seen_as (held_extensions_of m) ≡ contents_under (λ n. not (is_field m n)) (view m)
  extensions_walked =
      extensions_said (extensions_of m) (found_extensions m levels shaped)
      ∙ sym (same_numbers (λ n. cond (not (is_field m n)) (content_at n (view m n)) []) (under second (extensions_of m)) (λ n le. second_at n)
      ∙ all_numbers second (extensions_of m) (rises (extensions_of m) shaped.ordered.extensions))

  -- ---- records

  -- where a field may hold something there are none
  none_kept : (n : ℕ) (f : FieldType) (o : Option Content) → records_at n (held_in pool f o) ≡ []
  none_kept n f None = refl
  none_kept n f (Some c) = by (views.is_set pool f c) where
    by : (b : Bool) → records_at n (cond b (content c) absent) ≡ []
    by true = refl
    by false = refl

  abbrev AreSeen : ℕ → Type 0
  AreSeen n = numbered n (payloads n (unknown_of m)) ≡ records_at n (view m n)

  records_seen : (n : ℕ) → AreSeen n
  records_seen = by_number m.descriptor AreSeen of_a_field of_an_extension neither where
    of_a_field : (f : FieldDescriptor) → Owns m.descriptor f → AreSeen (field_type f).number
    of_a_field f owns =
        let n = (field_type f).number in
        ap (numbered n) (shaped.declared n (inl (f, owns, refl)))
        ∙ sym (ap (records_at n) (seen_at m n
        ∙ ap (λ o. held_either pool o (known_extension pool i n) (option_map content_view (value_at (fields_of m) n)) (option_map content_view (value_at (extensions_of m) n)) (payloads n (unknown_of m))) (owned m.descriptor f owns))
        ∙ none_kept n (field_type f) (option_map content_view (value_at (fields_of m) n)))

    of_an_extension : (x : ExtensionDescriptor) → OwnsExtension m.descriptor x → known_field pool i (extension_type x).number ≡ None → AreSeen (extension_type x).number
    of_an_extension x owns none =
        let n = (extension_type x).number in
        ap (numbered n) (shaped.declared n (inr (x, owns, refl)))
        ∙ sym (ap (records_at n) (seen_at m n
        ∙ ap (λ o. held_either pool o (known_extension pool i n) (option_map content_view (value_at (fields_of m) n)) (option_map content_view (value_at (extensions_of m) n)) (payloads n (unknown_of m))) none
        ∙ ap (λ o. held_either pool None o (option_map content_view (value_at (fields_of m) n)) (option_map content_view (value_at (extensions_of m) n)) (payloads n (unknown_of m))) (extension_owned m.descriptor x owns))
        ∙ none_kept n (extension_type x) (option_map content_view (value_at (extensions_of m) n)))

    neither : (n : ℕ) → known_field pool i n ≡ None → known_extension pool i n ≡ None → AreSeen n
    neither n none also =
        sym (ap (records_at n) (seen_at m n
        ∙ ap (λ o. held_either pool o (known_extension pool i n) (option_map content_view (value_at (fields_of m) n)) (option_map content_view (value_at (extensions_of m) n)) (payloads n (unknown_of m))) none
        ∙ ap (λ o. held_either pool None o (option_map content_view (value_at (fields_of m) n)) (option_map content_view (value_at (extensions_of m) n)) (payloads n (unknown_of m))) also))

  pub records_walked : unknown_of m ≡ kept_records (view m)
  records_walked =
      in_order (unknown_of m) shaped.ordered.unknown
      ∙ same_numbers (λ n. numbered n (payloads n (unknown_of m))) (λ n. records_at n (view m n)) (λ n le. records_seen n)
