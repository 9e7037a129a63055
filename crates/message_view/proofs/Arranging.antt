-- The bytes of a message, in the program's words and in the model's.
use Rattle.std.proofs.Common.{◌≡◌, ◌<◌, ◌≤◌, inl, inr, ℕ, zero, suc, ◌-◌, ◌^◌, ◌==◌, Bool, true, false, cond, nat_lt, nat_le, List, [], ◌∷◌, ◌++◌, reverse, length, Option, Some, None, option_map, refl, sym, ap, ◌∙◌, subst, append-nil, append_assoc, arith}
use Rattle.std.specs.List.{AllByRecursion, flat_map}
use Rattle.std.proofs.lemmas.List.{reverse-append}
use Rattle.reflect_tables.specs.Types.{PoolType, FieldType}
use Rattle.reflect_pool.specs.FieldsLeft.{field_type}
use Rattle.reflect_pool.specs.Shapes.{holds_list, holds_map}
use Rattle.reflect_pool.specs.declared.message.MessageDescriptor.{MessageDescriptor}
use Rattle.reflect_wire.specs.Records.{Payload}
use Rattle.reflect_entries.specs.Entries.{value_at}
use Rattle.reflect_entries.specs.Sets.{up_to, above}
use Rattle.reflect_scalar.specs.FieldTypes.{extension_type}
use Rattle.reflect_message.specs.Bytes.{Form, content_bytes, declared_bytes, extension_bytes, others_down, content, form_of, forms, message_bytes}
use Rattle.reflect_message.specs.Contents.{Content, content_of}
use Rattle.reflect_message.specs.Declares.{IsDeclared}
use Rattle.reflect_message.specs.Known.{known_field, known_extension}
use Rattle.reflect_message.specs.Names.{DynamicMessage, Value}
use Rattle.message_laws.specs.MapKeys.{HaveMapKeys}
use Rattle.protobuf_model.specs.Values as model
use Rattle.protobuf_model.specs.Values.{Held}
use Rattle.protobuf_model.specs.Types.{Field, Types}
use Rattle.protobuf_model.specs.Meaning.{payloads}
use Rattle.protobuf_model.specs.Bytes.{field_numbers, numbered, run, is_declared, arranged, payloads_under, bytes_of}
use Rattle.protobuf_model.proofs.Bridge.{bytes_join}
use Rattle.reflect_decode.specs.Ordered.{Ascend}
use Rattle.reflect_decode.proofs.Ordering.{above_ascend}
use Rattle.message_view.specs.Shaped.{FitsAs, IsShaped, Shaped}
use Rattle.message_view.specs.Sound.{HaveEntryFields, HaveLists}
use Rattle.message_view.specs.Types.{name_at, field_of, oneof_at, either_field, field_at}
use Rattle.message_view.specs.Views.{held_in, held_either, content_view, contents_view, view, view_of}
use Rattle.message_view.proofs.Accepting.{known_whole, extension_known_whole}
use Rattle.message_view.proofs.Fields.{known, known_extension_is}
use Rattle.message_view.proofs.Forms.{bytes_opened}
use Rattle.message_view.proofs.Ordering.{Rise, rises, between_ascend, in_order, run_all, filter_in, filter_out, missing, listed, found, listed_at, listed_ascends, mixed, mixed_at, mixed_ascends, found_each}
use Rattle.message_view.proofs.Seen.{value_at-view, view_opened}
use Rattle.message_view.proofs.Written.{bytes, field_same}

-- entries from the last one down, and from the first one up
module _ (b : ℕ × Form → List ℕ) where
  abbrev down : ℕ → List (ℕ × Form) → List (ℕ × Payload) → List ℕ
  down low [] rs = bytes (above low rs)
  down low (e ∷ es) rs = down low es (up_to e.0 rs) ++ (b e ++ bytes (above e.0 rs))

  abbrev up : ℕ → List (ℕ × Form) → List (ℕ × Payload) → List ℕ
  up low [] rs = bytes (above low rs)
  up low (e ∷ es) rs = (bytes (above low (up_to e.0 rs)) ++ b e) ++ up e.0 es rs

  within : (n m : ℕ) (rs : List (ℕ × Payload)) → n ≤ m → up_to n (up_to m rs) ≡ up_to n rs
  within n m [] le = refl
  within n m (r ∷ rs) le = by (nat_le r.0 m) refl (nat_le r.0 n) refl (within n m rs le) where
    by : (x : Bool) → nat_le r.0 m ≡ x → (y : Bool) → nat_le r.0 n ≡ y → up_to n (up_to m rs) ≡ up_to n rs → up_to n (cond x (r ∷ up_to m rs) (up_to m rs)) ≡ cond y (r ∷ up_to n rs) (up_to n rs)
    by true e true k ih = ap (λ c. cond c (r ∷ up_to n (up_to m rs)) (up_to n (up_to m rs))) k ∙ ap (λ l. r ∷ l) ih
    by true e false k ih = ap (λ c. cond c (r ∷ up_to n (up_to m rs)) (up_to n (up_to m rs))) k ∙ ih
    by false e true k ih = absurd (grind (arith, e, k, le))
    by false e false k ih = ih

  -- the last entry is the first of those from the first up
  last_first : (low : ℕ) (xs : List (ℕ × Form)) (e : ℕ × Form) (rs : List (ℕ × Payload)) → AllByRecursion (λ (x : ℕ × Form). e.0 ≤ x.0) xs
      → down low (xs ++ e ∷ []) rs ≡ (bytes (above low (up_to e.0 rs)) ++ b e) ++ down e.0 xs rs
  last_first low [] e rs all = sym (append_assoc (bytes (above low (up_to e.0 rs))) (b e) (bytes (above e.0 rs)))
  last_first low (x ∷ xs) e rs all =
      let last = b x ++ bytes (above x.0 rs) in
      ap (λ l. l ++ last) (last_first low xs e (up_to x.0 rs) all.1 ∙ ap (λ us. (bytes (above low us) ++ b e) ++ down e.0 xs (up_to x.0 rs)) (within e.0 x.0 rs all.0))
      ∙ append_assoc (bytes (above low (up_to e.0 rs)) ++ b e) (down e.0 xs (up_to x.0 rs)) last

  all_append : (P : ℕ × Form → Type 0) (xs ys : List (ℕ × Form)) → AllByRecursion P xs → AllByRecursion P ys → AllByRecursion P (xs ++ ys)
  all_append P [] ys h k = k
  all_append P (x ∷ xs) ys h k = (h.0, all_append P xs ys h.1 k)

  all_reverse : (P : ℕ × Form → Type 0) (xs : List (ℕ × Form)) → AllByRecursion P xs → AllByRecursion P (reverse xs)
  all_reverse P [] h = tt
  all_reverse P (x ∷ xs) h = subst (AllByRecursion P) (sym (reverse-append (x ∷ []) xs)) (all_append P (reverse xs) (x ∷ []) (all_reverse P xs h.1) (h.0, tt))

  all_above : (n low high : ℕ) (xs : List (ℕ × Form)) → n ≤ low → Rise low high xs → AllByRecursion (λ (x : ℕ × Form). n ≤ x.0) xs
  all_above n low high [] le h = tt
  all_above n low high (x ∷ xs) le h = (omega (arith, le, h.0), all_above n (suc x.0) high xs (omega (arith, le, h.0)) h.1)

  down_up : (low l high : ℕ) (es : List (ℕ × Form)) (rs : List (ℕ × Payload)) → Rise l high es → down low (reverse es) rs ≡ up low es rs
  down_up low l high [] rs h = refl
  down_up low l high (e ∷ es) rs h =
      ap (λ xs. down low xs rs) (reverse-append (e ∷ []) es)
      ∙ last_first low (reverse es) e rs (all_reverse (λ (x : ℕ × Form). e.0 ≤ x.0) es (all_above e.0 (suc e.0) high es (omega arith) h.1))
      ∙ ap (λ l. (bytes (above low (up_to e.0 rs)) ++ b e) ++ l) (down_up e.0 (suc e.0) high es rs h.1)

others_are : (pool : PoolType) (i : ℕ) (xs : List (ℕ × Form)) (rs : List (ℕ × Payload)) → others_down pool i xs rs ≡ down (extension_bytes pool i) 0 xs rs
others_are pool i [] rs = refl
others_are pool i (x ∷ xs) rs = ap (λ l. l ++ (extension_bytes pool i x ++ bytes (above x.0 rs))) (others_are pool i xs (up_to x.0 rs))

rise_forms : (low high : ℕ) (es : List (ℕ × Value)) → Rise low high es → Rise low high (forms es)
rise_forms low high [] h = h
rise_forms low high (e ∷ es) h = (h.0, rise_forms (suc e.0) high es h.1)

module _ (d : MessageDescriptor) (keys_of : HaveMapKeys d.pool.now) (parts : HaveEntryFields d.pool.now) (repeats : HaveLists d.pool.now) (types_of : Types) (told : (n : ℕ) → types_of (name_at d.pool.now d.index) n ≡ field_at d.pool.now d.index n)
    (inner : DynamicMessage → Type 0) (inner_bytes : (m : DynamicMessage) → m.descriptor.pool.now ≡ d.pool.now → inner m → message_bytes m ≡ bytes_of types_of (name_at d.pool.now m.descriptor.index) (view m)) (c : Content) (shaped : IsShaped inner d c) where
  abbrev pool : PoolType
  pool = d.pool.now

  fields_rise : Rise 1 (2 ^ 29 - 1) c.fields
  fields_rise = rises c.fields shaped.ordered.fields

  extensions_rise : Rise 1 (2 ^ 29 - 1) c.extensions
  extensions_rise = rises c.extensions shaped.ordered.extensions

  abbrev type : ℕ → Option Field
  type = types_of (name_at pool d.index)

  abbrev of_field : Option FieldType → Value → List Payload
  of_field None v = []
  of_field (Some f) v = payloads_under types_of (Some (field_of pool (oneof_at pool d.index f) false f)) (held_in pool f (Some (content_view v)))

  abbrev of_extension : Option FieldType → Option FieldType → Value → List Payload
  of_extension (Some f) x v = []
  of_extension None None v = []
  of_extension None (Some x) v = payloads_under types_of (Some (field_of pool None true x)) (held_in pool x (Some (content_view v)))

  abbrev first : ℕ × Value → List Payload
  first e = of_field (known_field pool d.index e.0) e.1

  abbrev second : ℕ × Value → List Payload
  second e = of_extension (known_field pool d.index e.0) (known_extension pool d.index e.0) e.1

  -- an entry of the fields
  field_entry : (n : ℕ) (v : Value) → value_at c.fields n ≡ Some v → declared_bytes pool d.index (n, form_of v) ≡ bytes (numbered n (first (n, v)))
  field_entry n v at = by (known_field pool d.index n) refl where
    by : (o : Option FieldType) → known_field pool d.index n ≡ o → ◌≡◌ {A = List ℕ} (elim o [ None ↦ [] | Some f ↦ content_bytes pool f (form_of v) ]) (bytes (numbered n (of_field o v)))
    by None is = refl
    by (Some g) is =
        let f = known d n g is in
        let fits = subst (λ t. FitsAs inner pool t (holds_map pool t) (holds_list pool t) v) f.2 (shaped.fields f.0 f.1 v (ap (λ (t : FieldType). value_at c.fields t.number) f.2 ∙ ap (value_at c.fields) f.3 ∙ at)) in
        subst (λ k. content_bytes pool g (form_of v) ≡ bytes (numbered k (of_field (Some g) v))) f.3
        (field_same pool types_of inner inner_bytes keys_of parts g v (oneof_at pool d.index g) false (known_whole d n g is) (repeats.unset d.index n g (inl is)) (repeats.packed d.index n g (inl is)) fits)

  extension_entry : (n : ℕ) (v : Value) → value_at c.extensions n ≡ Some v → extension_bytes pool d.index (n, form_of v) ≡ bytes (numbered n (second (n, v)))
  extension_entry n v at = by (known_field pool d.index n) refl (known_extension pool d.index n) refl where
    by : (o : Option FieldType) → known_field pool d.index n ≡ o → (x : Option FieldType) → known_extension pool d.index n ≡ x
        → ◌≡◌ {A = List ℕ} (elim x [ None ↦ [] | Some f ↦ content_bytes pool f (form_of v) ]) (bytes (numbered n (of_extension o x v)))
    by (Some g) is x also = let f = known d n g is in absurd (cc (sym (ap (λ (t : FieldType). value_at c.extensions t.number) f.2 ∙ ap (value_at c.extensions) f.3 ∙ at) ∙ shaped.apart f.0 f.1))
    by None none None also = refl
    by None none (Some g) is =
        let x = known_extension_is d n g is in
        let number : (extension_type x.0).number ≡ n = ap (λ (t : FieldType). t.number) x.2 ∙ x.3 in
        let fits = subst (λ t. FitsAs inner pool t (holds_map pool t) (holds_list pool t) v) x.2 (shaped.extensions x.0 x.1 (ap (known_field pool d.index) number ∙ none) v (ap (value_at c.extensions) number ∙ at)) in
        subst (λ k. content_bytes pool g (form_of v) ≡ bytes (numbered k (of_extension None (Some g) v))) x.3
        (field_same pool types_of inner inner_bytes keys_of parts g v None true (extension_known_whole d n g is) (repeats.unset d.index n g (inr is)) (repeats.packed d.index n g (inr is)) fits)

  fields_are : (es : List (ℕ × Value)) → AllByRecursion (λ (e : ℕ × Value). value_at c.fields e.0 ≡ Some e.1) es → flat_map (declared_bytes pool d.index) (forms es) ≡ bytes (listed first es)
  fields_are [] all = refl
  fields_are (e ∷ es) all =
      ap (λ l. l ++ flat_map (declared_bytes pool d.index) (forms es)) (field_entry e.0 e.1 all.0) ∙ ap (λ l. bytes (numbered e.0 (first e)) ++ l) (fields_are es all.1)
      ∙ sym (bytes_join (numbered e.0 (first e)) (listed first es))

  others_up : (low : ℕ) (es : List (ℕ × Value)) (rs : List (ℕ × Payload)) → AllByRecursion (λ (e : ℕ × Value). value_at c.extensions e.0 ≡ Some e.1) es → up (extension_bytes pool d.index) low (forms es) rs ≡ bytes (mixed second low es rs)
  others_up low [] rs all = refl
  others_up low (e ∷ es) rs all =
      ap (λ l. (bytes (above low (up_to e.0 rs)) ++ l) ++ up (extension_bytes pool d.index) e.0 (forms es) rs) (extension_entry e.0 e.1 all.0)
      ∙ ap (λ l. (bytes (above low (up_to e.0 rs)) ++ bytes (numbered e.0 (second e))) ++ l) (others_up e.0 es rs all.1)
      ∙ append_assoc (bytes (above low (up_to e.0 rs))) (bytes (numbered e.0 (second e))) (bytes (mixed second e.0 es rs))
      ∙ ap (λ l. bytes (above low (up_to e.0 rs)) ++ l) (sym (bytes_join (numbered e.0 (second e)) (mixed second e.0 es rs)))
      ∙ sym (bytes_join (above low (up_to e.0 rs)) (numbered e.0 (second e) ++ mixed second e.0 es rs))

  abbrev under : ℕ → List Payload
  under n = payloads_under types_of (type n) (view_of pool d.index c n)

  abbrev seen : Option FieldType → Option FieldType → ℕ → Held
  seen f x n = held_either pool f x (value_at (contents_view c.fields) n) (value_at (contents_view c.extensions) n) (payloads n c.unknown)

  abbrev whole : Option FieldType → Option FieldType → ℕ → List Payload
  whole f x n = payloads_under types_of (either_field pool d.index f x) (seen f x n)

  -- of a number, what the fields have
  first_at : (n : ℕ) → found first (value_at c.fields n) n ≡ cond (is_declared (type n)) (under n) []
  first_at n = by (known_field pool d.index n) refl (known_extension pool d.index n) refl (value_at c.fields n) refl ∙ sym (ap (λ o. cond (is_declared o) (payloads_under types_of o (view_of pool d.index c n)) []) (told n)) where
    by : (f : Option FieldType) → known_field pool d.index n ≡ f → (x : Option FieldType) → known_extension pool d.index n ≡ x → (v : Option Value) → value_at c.fields n ≡ v
        → found first (value_at c.fields n) n ≡ cond (is_declared (field_at pool d.index n)) (payloads_under types_of (field_at pool d.index n) (view_of pool d.index c n)) []
    by f is x also v at =
        ap (λ o. found first o n) at ∙ shown f x v is
        ∙ sym (ap (λ o. cond (is_declared (either_field pool d.index o (known_extension pool d.index n))) (whole o (known_extension pool d.index n) n) []) is
        ∙ ap (λ o. cond (is_declared (either_field pool d.index f o)) (whole f o n) []) also ∙ ap (λ o. cond (is_declared (either_field pool d.index f x)) (payloads_under types_of (either_field pool d.index f x) (held_either pool f x o (value_at (contents_view c.extensions) n) (payloads n c.unknown))) []) (value_at-view c.fields n ∙ ap (option_map content_view) at)) where
          shown : (f x : Option FieldType) (v : Option Value) → known_field pool d.index n ≡ f
              → found first v n ≡ cond (is_declared (either_field pool d.index f x)) (payloads_under types_of (either_field pool d.index f x) (held_either pool f x (option_map content_view v) (value_at (contents_view c.extensions) n) (payloads n c.unknown))) []
          shown (Some g) x None is = refl
          shown (Some g) x (Some v) is = ap (λ o. of_field o v) is
          shown None x None is = none_of x where
            none_of : (x : Option FieldType) → [] ≡ cond (is_declared (either_field pool d.index None x)) (payloads_under types_of (either_field pool d.index None x) (held_either pool None x None (value_at (contents_view c.extensions) n) (payloads n c.unknown))) []
            none_of None = refl
            none_of (Some y) = refl
          shown None x (Some v) is = ap (λ o. of_field o v) is ∙ none_of x where
            none_of : (x : Option FieldType) → [] ≡ cond (is_declared (either_field pool d.index None x)) (payloads_under types_of (either_field pool d.index None x) (held_either pool None x (Some (content_view v)) (value_at (contents_view c.extensions) n) (payloads n c.unknown))) []
            none_of None = refl
            none_of (Some y) = refl

  -- and what extensions and records have
  second_at : (n : ℕ) → payloads n c.unknown ++ found second (value_at c.extensions n) n ≡ cond (is_declared (type n)) [] (under n)
  second_at n = by (known_field pool d.index n) refl (known_extension pool d.index n) refl (value_at c.extensions n) refl ∙ sym (ap (λ o. cond (is_declared o) [] (payloads_under types_of o (view_of pool d.index c n))) (told n)) where
    abbreviated : Option FieldType → Option FieldType → Option model.Content → Held
    abbreviated f x o = held_either pool f x (value_at (contents_view c.fields) n) o (payloads n c.unknown)

    no_records : (n : ℕ) → IsDeclared d n → payloads n c.unknown ≡ []
    no_records n is = shaped.declared n is

    shown : (f x : Option FieldType) (v : Option Value) → known_field pool d.index n ≡ f → known_extension pool d.index n ≡ x → value_at c.extensions n ≡ v
        → payloads n c.unknown ++ found second v n ≡ cond (is_declared (either_field pool d.index f x)) [] (payloads_under types_of (either_field pool d.index f x) (held_either pool f x (value_at (contents_view c.fields) n) (option_map content_view v) (payloads n c.unknown)))
    shown (Some g) x v is also at =
        let f = known d n g is in
        let number : (field_type f.0).number ≡ n = ap (λ (t : FieldType). t.number) f.2 ∙ f.3 in
        let none : v ≡ None = sym at ∙ sym (ap (value_at c.extensions) number) ∙ shaped.apart f.0 f.1 in
        ap (λ ps. ps ++ found second v n) (no_records n (inl (f.0, f.1, number))) ∙ ap (λ o. found second o n) none
    shown None (Some g) v is also at =
        let x = known_extension_is d n g also in
        let number : (extension_type x.0).number ≡ n = ap (λ (t : FieldType). t.number) x.2 ∙ x.3 in
        ap (λ ps. ps ++ found second v n) (no_records n (inr (x.0, x.1, number))) ∙ of_value v where
          of_value : (v : Option Value) → found second v n ≡ payloads_under types_of (Some (field_of pool None true g)) (held_in pool g (option_map content_view v))
          of_value None = refl
          of_value (Some v) = ap (λ o. of_extension o (known_extension pool d.index n) v) is ∙ ap (λ o. of_extension None o v) also
    shown None None None is also at = append-nil (payloads n c.unknown)
    shown None None (Some v) is also at =
        ap (λ ps. payloads n c.unknown ++ ps) (ap (λ o. of_extension o (known_extension pool d.index n) v) is ∙ ap (λ o. of_extension None o v) also) ∙ append-nil (payloads n c.unknown)

    by : (f : Option FieldType) → known_field pool d.index n ≡ f → (x : Option FieldType) → known_extension pool d.index n ≡ x → (v : Option Value) → value_at c.extensions n ≡ v
        → payloads n c.unknown ++ found second (value_at c.extensions n) n ≡ cond (is_declared (field_at pool d.index n)) [] (payloads_under types_of (field_at pool d.index n) (view_of pool d.index c n))
    by f is x also v at =
        ap (λ o. payloads n c.unknown ++ found second o n) at ∙ shown f x v is also at
        ∙ sym (ap (λ o. cond (is_declared (either_field pool d.index o (known_extension pool d.index n))) [] (whole o (known_extension pool d.index n) n)) is
        ∙ ap (λ o. cond (is_declared (either_field pool d.index f o)) [] (whole f o n)) also
        ∙ ap (λ o. cond (is_declared (either_field pool d.index f x)) [] (payloads_under types_of (either_field pool d.index f x) (held_either pool f x (value_at (contents_view c.fields) n) o (payloads n c.unknown)))) (value_at-view c.extensions n ∙ ap (option_map content_view) at))

  -- the fields in order
  fields_run : listed first c.fields ≡ run (λ n. cond (is_declared (type n)) (under n) []) field_numbers
  fields_run =
      in_order (listed first c.fields) (listed_ascends first 1 1 (2 ^ 29 - 1) c.fields (omega arith) (omega arith) fields_rise)
      ∙ run_all (λ n. payloads n (listed first c.fields)) (λ n. cond (is_declared (type n)) (under n) []) (λ n le. listed_at first n 1 (2 ^ 29 - 1) c.fields fields_rise ∙ first_at n)

  -- and the others
  others_run : mixed second 0 c.extensions c.unknown ≡ run (λ n. cond (is_declared (type n)) [] (under n)) field_numbers
  others_run =
      let top = 2 ^ 29 - 1 in
      let from_zero = mixed_ascends second 0 top c.extensions c.unknown (omega arith) extensions_rise (λ l h le. between_ascend l 1 top h c.unknown le shaped.ordered.unknown) (λ l le. above_ascend l 1 top c.unknown le shaped.ordered.unknown) in
      in_order (mixed second 0 c.extensions c.unknown) (raised from_zero)
      ∙ run_all (λ n. payloads n (mixed second 0 c.extensions c.unknown)) (λ n. cond (is_declared (type n)) [] (under n))
      (λ n le. mixed_at second n 0 top c.extensions c.unknown extensions_rise
      ∙ ap (λ ps. ps ++ found second (value_at c.extensions n) n) (filter_in (λ r. nat_lt 0 r.0) n c.unknown (λ r is. grind (arith, is, le))) ∙ second_at n) where
        raised : Ascend 0 (2 ^ 29 - 1) (mixed second 0 c.extensions c.unknown) → Ascend 1 (2 ^ 29 - 1) (mixed second 0 c.extensions c.unknown)
        raised h = positive (mixed second 0 c.extensions c.unknown) h none where
          none : payloads 0 (mixed second 0 c.extensions c.unknown) ≡ []
          none =
              mixed_at second 0 0 (2 ^ 29 - 1) c.extensions c.unknown extensions_rise
              ∙ ap (λ ps. ps ++ found second (value_at c.extensions 0) 0) (filter_out (λ r. nat_lt 0 r.0) 0 c.unknown (λ r is. grind (arith, is)))
              ∙ ap (λ o. found second o 0) (missing second 0 1 (2 ^ 29 - 1) c.extensions (omega arith) extensions_rise)

          positive : (rs : List (ℕ × Payload)) → Ascend 0 (2 ^ 29 - 1) rs → payloads 0 rs ≡ [] → Ascend 1 (2 ^ 29 - 1) rs
          positive [] h e = omega arith
          positive (r ∷ rs) h e = by (r.0 == 0) refl where
            by : (b : Bool) → (r.0 == 0) ≡ b → Ascend 1 (2 ^ 29 - 1) (r ∷ rs)
            by true is = absurd (cc (sym (ap (λ b. cond b (r.1 ∷ payloads 0 rs) (payloads 0 rs)) is) ∙ e))
            by false is = (grind (arith, is), h.1)

  -- the bytes of a message that holds this
  pub content_same : content pool d.index (forms c.fields) (forms c.extensions) c.unknown ≡ bytes (arranged type under)
  content_same =
      let top = 2 ^ 29 - 1 in
      ap (λ l. l ++ others_down pool d.index (reverse (forms c.extensions)) c.unknown) (fields_are c.fields (found_each 1 top c.fields fields_rise))
      ∙ ap (λ l. bytes (listed first c.fields) ++ l)
      (others_are pool d.index (reverse (forms c.extensions)) c.unknown
      ∙ down_up (extension_bytes pool d.index) 0 1 top (forms c.extensions) c.unknown (rise_forms 1 top c.extensions extensions_rise)
      ∙ others_up 0 c.extensions c.unknown (found_each 1 top c.extensions extensions_rise))
      ∙ ap (λ rs. bytes rs ++ bytes (mixed second 0 c.extensions c.unknown)) fields_run
      ∙ ap (λ rs. bytes (run (λ n. cond (is_declared (type n)) (under n) []) field_numbers) ++ bytes rs) others_run
      ∙ sym (bytes_join (run (λ n. cond (is_declared (type n)) (under n) []) field_numbers) (run (λ n. cond (is_declared (type n)) [] (under n)) field_numbers))

module _ (pool : PoolType) (keys_of : HaveMapKeys pool) (parts : HaveEntryFields pool) (repeats : HaveLists pool) (types_of : Types) (told : (i n : ℕ) → i < length pool.messages → types_of (name_at pool i) n ≡ field_at pool i n) where
  -- the bytes of a message are those of its view
  pub shaped_bytes : (levels : ℕ) (m : DynamicMessage) → m.descriptor.pool.now ≡ pool → Shaped levels m → message_bytes m ≡ bytes_of types_of (name_at pool m.descriptor.index) (view m)
  shaped_bytes zero m there h = absurd h
  shaped_bytes (suc levels) m there h = by (shaped_bytes levels) where
    by : ((m : DynamicMessage) → m.descriptor.pool.now ≡ pool → Shaped levels m → message_bytes m ≡ bytes_of types_of (name_at pool m.descriptor.index) (view m)) → message_bytes m ≡ bytes_of types_of (name_at pool m.descriptor.index) (view m)
    by below =
        let d = m.descriptor in
        let here = sym there in
        let one = content_same d (subst HaveMapKeys here keys_of) (subst HaveEntryFields here parts) (subst HaveLists here repeats) types_of
        (λ n. subst (λ p. types_of (name_at p d.index) n ≡ field_at p d.index n) here (told d.index n (subst (λ p. d.index < length p.messages) there d.in_range)))
        (Shaped levels) (λ m same. subst (λ p. Shaped levels m → message_bytes m ≡ bytes_of types_of (name_at p m.descriptor.index) (view m)) here (below m (same ∙ there))) (content_of m) h in
        bytes_opened m ∙ one
        ∙ sym (ap (bytes_of types_of (name_at d.pool.now d.index)) (view_opened m))
        ∙ ap (λ p. bytes_of types_of (name_at p d.index) (view m)) there
