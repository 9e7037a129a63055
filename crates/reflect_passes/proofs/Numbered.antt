-- One more extension's place.
use Rattle.std.proofs.Common.{◌≡◌, ℕ, ◌+◌, ◌<◌, ◌≤◌, Bool, true, false, ◌==◌, cond, Option, Some, None, is_some, List, [], ◌∷◌, ◌++◌, take, length, get_or, ap, sym, subst, ◌∙◌, arith, refl}
use Rattle.std.proofs.lemmas.List.{take_more, length-take-le}
use Rattle.std.proofs.lemmas.Option.{same_Some}
use Rattle.std.specs.Cmp.{both_tied, unsigned_ties}
use Rattle.std.specs.Ordering.{is_eq, nat_cmp}
use Rattle.reflect_tables.specs.declared.stored.StoredExtension.{StoredExtension}
use Rattle.reflect_tables.specs.ExtensionNumbers.{KeyType, Numbers, KeepsNumbers, key_cmp}
use Rattle.reflect_passes.specs.Extensions.{has_key, with_number, with_numbers}

with_push : (known : Numbers) (i : ℕ) (xs : List StoredExtension) (x : StoredExtension) → with_numbers known i (xs ++ x ∷ []) ≡ with_number (with_numbers known i xs) (i + length xs) x
with_push known i [] x = let e : i ≡ i + 0 = omega arith in ap {B = Numbers} (λ n. with_number known n x) e
with_push known i (y ∷ xs) x =
    let e : i + 1 + length xs ≡ i + length (y ∷ xs) = omega arith in
    with_push (with_number known i y) (i + 1) xs x ∙ ap {B = Numbers} (λ n. with_number (with_numbers (with_number known i y) (i + 1) xs) n x) e

pub places_more : (known now : Numbers) (i at k : ℕ) (xs : List StoredExtension) (x : StoredExtension) → k < length xs → x ≡ get_or xs k x → at ≡ i + k → now ≡ with_numbers known i (take k xs)
    → with_number now at x ≡ with_numbers known i (take (k + 1) xs)
places_more known now i at k xs x lt is index same =
    let len : length (take k xs) ≡ k = length-take-le k xs (omega (arith, lt)) in
    ap {B = Numbers} (λ m. with_number m at x) same
    ∙ ap {B = Numbers} (λ n. with_number (with_numbers known i (take k xs)) n x) (index ∙ ap (λ n. i + n) (sym len))
    ∙ ap {B = Numbers} (λ y. with_number (with_numbers known i (take k xs)) (i + length (take k xs)) y) is
    ∙ sym (ap (with_numbers known i) (take_more xs k x lt) ∙ with_push known i (take k xs) (get_or xs k x))

pub keeps_on : (low high : ℕ) (a b c : Numbers) → low ≤ high → KeepsNumbers low a b → KeepsNumbers high b c → KeepsNumbers low a c
keeps_on low high a b c le k l = λ t i lt. let more : i < high = omega (arith, lt, le) in (λ e. (l t i more).0 ((k t i lt).0 e), λ e. (k t i lt).1 ((l t i more).1 e))

-- the message and the number are the extension's
pub same_key : (k : KeyType) (x : StoredExtension) → has_key k x ≡ true → ◌≡◌ {A = KeyType} (x.extendee, x.field.number) k
same_key k x is =
    let message : x.extendee ≡ k.0 = grind (arith, is) in
    let number : x.field.number ≡ k.1 = grind (arith, is) in
    λ i. (message i, number i)

-- what is found at the key of an extension
pub at_key : (k : KeyType) (x : StoredExtension) → is_eq (key_cmp (x.extendee, x.field.number) k) ≡ has_key k x
at_key k x =
    sym (both_tied (x.extendee == k.0) (x.field.number == k.1) (nat_cmp x.extendee k.0) (nat_cmp x.field.number k.1) (unsigned_ties x.extendee k.0) (unsigned_ties x.field.number k.1))

pub with_new : (known : Numbers) (i : ℕ) (x : StoredExtension) → is_some (known (x.extendee, x.field.number)) ≡ false → with_number known i x ≡ (λ k. cond (has_key k x) (Some i) (known k))
with_new known i x new = rw new refl

-- a new message and number have a place that is not below
pub keeps_new : (known now : Numbers) (i : ℕ) (x : StoredExtension) → is_some (known (x.extendee, x.field.number)) ≡ false → now ≡ with_number known i x → KeepsNumbers i known now
keeps_new known now i x new e = subst (KeepsNumbers i known) (sym e) (λ k j lt. rw new (by k j lt (has_key k x) refl)) where
  no : (o : Option ℕ) (j : ℕ) → is_some o ≡ false → o ≡ Some j → ⊥
  no None j is h = absurd (cc)
  no (Some y) j is h = absurd (cc)

  by : (k : KeyType) (j : ℕ) → j < i → (b : Bool) → has_key k x ≡ b → (known k ≡ Some j → cond (has_key k x) (Some i) (known k) ≡ Some j) × (cond (has_key k x) (Some i) (known k) ≡ Some j → known k ≡ Some j)
  by k j lt true is = rw is (
    λ h. absurd (no (known k) j (ap (λ n. is_some (known n)) (sym (same_key k x is)) ∙ new) h),
    λ h. let same : i ≡ j = same_Some i j h in absurd (omega (arith, same, lt)),
  )
  by k j lt false is = rw is (λ h. h, λ h. h)
