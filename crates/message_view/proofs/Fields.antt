-- The fields and extensions that messages of a type hold, by their numbers.
use Rattle.std.proofs.Common.{◌≡◌, inl, inr, ℕ, ◌==◌, ◌&&◌, Bool, true, false, true≢false, cond, List, Option, None, Some, unwrap_or, refl, sym, ap, ◌∙◌, subst, arith}
use Rattle.std.proofs.lemmas.Bool.{and_parts}
use Rattle.std.specs.List.{find}
use Rattle.std.specs.Option.{option_and_then}
use Rattle.reflect_tables.specs.Finding.{IsFirst}
use Rattle.reflect_tables.specs.Types.{PoolType, FieldType, ExtensionType, type_at, type_of_field, no_field, no_extension, extension_at}
use Rattle.reflect_pool.specs.FieldsLeft.{field_type}
use Rattle.reflect_pool.specs.declared.message.MessageDescriptor.{MessageDescriptor}
use Rattle.reflect_pool.specs.declared.field.FieldDescriptor.{FieldDescriptor}
use Rattle.reflect_pool.specs.declared.extension.ExtensionDescriptor.{ExtensionDescriptor}
use Rattle.reflect_scalar.specs.FieldTypes.{extension_type}
use Rattle.reflect_scalar.specs.Floats.{HoldsFloats}
use Rattle.reflect_scalar.proofs.First.{Tells, find_place}
use Rattle.reflect_message.specs.Declares.{Owns, OwnsExtension, NoField, IsDeclared}
use Rattle.reflect_message.specs.Known.{numbered_field, holds_floats, if_held, known_field, known_extension}
use Rattle.reflect_message.proofs.Known.{field_found, floats_held, kept, extension_known}

-- a field that is held holds no floating-point numbers
pub held_is : (pool : PoolType) (f g : FieldType) → if_held pool f ≡ Some g → (holds_floats pool f ≡ false) × (f ≡ g)
held_is pool f g e = by (holds_floats pool f) refl where
  by : (b : Bool) → holds_floats pool f ≡ b → (holds_floats pool f ≡ false) × (f ≡ g)
  by true is = absurd (cc (sym (ap (λ b. cond b None (Some f)) is) ∙ e))
  by false is = (is, ap (λ o. unwrap_or o f) (sym (ap (λ b. cond b None (Some f)) is) ∙ e))

unfloated : (pool : PoolType) (f : FieldType) → holds_floats pool f ≡ false → HoldsFloats pool f → ⊥
unfloated pool f is h = true≢false (sym (floats_held pool f h) ∙ is)

numbered : (n : ℕ) → Tells (λ (f : FieldType). f.number ≡ n) (λ f. f.number == n)
numbered n = record { says = λ f e. grind (arith, e); passes = λ f e. grind (arith, e) }

extending : (i n : ℕ) → Tells (λ (x : ExtensionType). (x.extendee ≡ i) × (x.field.number ≡ n)) (λ x. (x.extendee == i) && (x.field.number == n))
extending i n = record {
  says = λ x e. let two = and_parts (x.extendee == i) (x.field.number == n) e in (grind (arith, two.0), grind (arith, two.1));
  passes = λ x h. grind (arith, h.0, h.1);
}

module _ (m : MessageDescriptor) where
  -- a field as its type has it
  pub its_place : (f : FieldDescriptor) → Owns m f → type_of_field m.pool.now m.index f.index ≡ field_type f
  its_place f h = ap (λ i. type_of_field m.pool.now i f.index) (sym h.0.0) ∙ ap (λ p. type_of_field p f.message.index f.index) (sym h.0.1)

  -- a field that has the records of its number is known under it
  pub owned : (f : FieldDescriptor) → Owns m f → known_field m.pool.now m.index (field_type f).number ≡ Some (field_type f)
  owned f h =
      ap (option_and_then (if_held m.pool.now)) (field_found m.pool.now m.index (field_type f).number f.index h.1)
      ∙ ap (if_held m.pool.now) (its_place f h)
      ∙ kept m.pool.now (field_type f) (subst (λ p. HoldsFloats p (field_type f) → ⊥) h.0.1 h.2)

  -- and a field that is known has them
  pub known : (n : ℕ) (g : FieldType) → known_field m.pool.now m.index n ≡ Some g → (f : FieldDescriptor) × Owns m f × (field_type f ≡ g) × (g.number ≡ n)
  known n g e = by (numbered_field m.pool.now m.index n) refl where
    fields : List FieldType
    fields = (type_at m.pool.now m.index).fields

    by : (o : Option FieldType) → numbered_field m.pool.now m.index n ≡ o → (f : FieldDescriptor) × Owns m f × (field_type f ≡ g) × (g.number ≡ n)
    by None is = absurd (cc (sym (ap (option_and_then (if_held m.pool.now)) is) ∙ e))
    by (Some h) is =
        let kept_h = held_is m.pool.now h g (sym (ap (option_and_then (if_held m.pool.now)) is) ∙ e) in
        let place = find_place (λ (g : FieldType). g.number ≡ n) (λ g. g.number == n) (numbered n) fields h is in
        let f : FieldDescriptor = record { message = m; index = place.0; in_range = place.1.0 } in
        let same : h ≡ field_type f = ap (λ o. unwrap_or o h) (sym is ∙ place.2 no_field) in
        let number : (field_type f).number ≡ n = place.1.1.0 no_field in
        let first = subst (λ q. IsFirst (λ g. g.number ≡ q) fields (Some place.0)) (sym number) place.1 in
        (f, ((refl, refl), first, subst (λ t. HoldsFloats m.pool.now t → ⊥) same (unfloated m.pool.now h kept_h.0)), sym same ∙ kept_h.1, ap (λ (t : FieldType). t.number) (sym kept_h.1 ∙ same) ∙ number)

  -- the same of extensions
  pub extension_owned : (x : ExtensionDescriptor) → OwnsExtension m x → known_extension m.pool.now m.index (extension_type x).number ≡ Some (extension_type x)
  extension_owned x h = extension_known m (extension_type x).number x h.0.0 h.1 h.2

  pub known_extension_is : (n : ℕ) (g : FieldType) → known_extension m.pool.now m.index n ≡ Some g → (x : ExtensionDescriptor) × OwnsExtension m x × (extension_type x ≡ g) × (g.number ≡ n)
  known_extension_is n g e = by (find (λ x. (x.extendee == m.index) && (x.field.number == n)) m.pool.now.extensions) refl where
    by : (o : Option ExtensionType) → find (λ x. (x.extendee == m.index) && (x.field.number == n)) m.pool.now.extensions ≡ o → (x : ExtensionDescriptor) × OwnsExtension m x × (extension_type x ≡ g) × (g.number ≡ n)
    by None is = absurd (cc (sym (ap (option_and_then (λ (x : ExtensionType). if_held m.pool.now x.field)) is) ∙ e))
    by (Some y) is =
        let kept_y = held_is m.pool.now y.field g (sym (ap (option_and_then (λ (x : ExtensionType). if_held m.pool.now x.field)) is) ∙ e) in
        let place = find_place (λ (x : ExtensionType). (x.extendee ≡ m.index) × (x.field.number ≡ n)) (λ x. (x.extendee == m.index) && (x.field.number == n)) (extending m.index n) m.pool.now.extensions y is in
        let x : ExtensionDescriptor = record { pool = m.pool; index = place.0; in_range = place.1.0 } in
        let same : y ≡ extension_at m.pool.now place.0 = ap (λ o. unwrap_or o y) (sym is ∙ place.2 no_extension) in
        let here = place.1.1.0 no_extension in
        let first = subst (λ q. IsFirst (λ (y : ExtensionType). (y.extendee ≡ m.index) × (y.field.number ≡ q)) m.pool.now.extensions (Some place.0)) (sym here.1) place.1 in
        let types : extension_type x ≡ g = ap (λ (y : ExtensionType). y.field) (sym same) ∙ kept_y.1 in
        (x, ((refl, here.0), first, subst (λ (y : ExtensionType). HoldsFloats m.pool.now y.field → ⊥) same (unfloated m.pool.now y.field kept_y.0)), types, ap (λ (t : FieldType). t.number) (sym types) ∙ here.1)

  -- what is so of each field, of each extension whose number no field has, and of a number of neither, is so of each number
  pub by_number : (P : ℕ → Type 0) → ((f : FieldDescriptor) → Owns m f → P (field_type f).number)
      → ((x : ExtensionDescriptor) → OwnsExtension m x → known_field m.pool.now m.index (extension_type x).number ≡ None → P (extension_type x).number)
      → ((n : ℕ) → known_field m.pool.now m.index n ≡ None → known_extension m.pool.now m.index n ≡ None → P n) → (n : ℕ) → P n
  by_number P field extension neither n = by (known_field m.pool.now m.index n) refl (known_extension m.pool.now m.index n) refl where
    by : (f : Option FieldType) → known_field m.pool.now m.index n ≡ f → (x : Option FieldType) → known_extension m.pool.now m.index n ≡ x → P n
    by (Some g) is x also = let h = known n g is in subst P (ap (λ (t : FieldType). t.number) h.2 ∙ h.3) (field h.0 h.1)
    by None none (Some g) is =
        let h = known_extension_is n g is in
        let number : (extension_type h.0).number ≡ n = ap (λ (t : FieldType). t.number) h.2 ∙ h.3 in
        subst P number (extension h.0 h.1 (ap (known_field m.pool.now m.index) number ∙ none))
    by None none None also = neither n none also

  -- neither holds floating-point numbers
  pub owned_whole : (f : FieldDescriptor) → Owns m f → holds_floats m.pool.now (field_type f) ≡ false
  owned_whole f h = (held_is m.pool.now (field_type f) (field_type f) (kept m.pool.now (field_type f) (subst (λ p. HoldsFloats p (field_type f) → ⊥) h.0.1 h.2))).0

  pub extension_whole : (x : ExtensionDescriptor) → OwnsExtension m x → holds_floats m.pool.now (extension_type x) ≡ false
  extension_whole x h = (held_is m.pool.now (extension_type x) (extension_type x) (kept m.pool.now (extension_type x) (subst (λ p. HoldsFloats p (extension_type x) → ⊥) h.0.0 h.2))).0

  -- a number of which neither is known is not declared
  pub none_owned : (n : ℕ) → known_field m.pool.now m.index n ≡ None → NoField m n
  none_owned n none f owns is = cc (sym (owned f owns) ∙ ap (known_field m.pool.now m.index) is ∙ none)

  -- and of a number that no field has none is known
  pub none_known : (n : ℕ) → NoField m n → known_field m.pool.now m.index n ≡ None
  none_known n none = by (known_field m.pool.now m.index n) refl where
    by : (o : Option FieldType) → known_field m.pool.now m.index n ≡ o → o ≡ None
    by None is = refl
    by (Some g) is = let f = known n g is in absurd (none f.0 f.1 (ap (λ (t : FieldType). t.number) f.2 ∙ f.3))

  pub not_declared : (n : ℕ) → known_field m.pool.now m.index n ≡ None → known_extension m.pool.now m.index n ≡ None → IsDeclared m n → ⊥
  not_declared n none also (inl h) = none_owned n none h.0 h.1 h.2
  not_declared n none also (inr h) = cc (sym (extension_owned h.0 h.1) ∙ ap (known_extension m.pool.now m.index) h.2 ∙ also)
