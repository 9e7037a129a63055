-- More digits write no smaller a number.
use Rattle.std.proofs.Common.{◌≡◌, ℕ, ◌+◌, ◌*◌, ◌≤◌, ◌<◌, List, [], ◌∷◌, take, drop, get_or, length, fold, ap, sym, ◌∙◌, arith, refl}
use Rattle.std.proofs.lemmas.List.{take-append-drop, take_more}
use Rattle.std.proofs.lemmas.Grind.{fold-append}
use Rattle.std.proofs.Math.Nat.{mul-le-mul_left}
use Rattle.std.proofs.Math.Nat.{mul_comm}
use Rattle.std.proofs.Common.{◌^◌, None, Some}
use Rattle.std.proofs.lemmas.Bool.{le-ltb, lt-ltb}
use Rattle.protox_lex.specs.Lex.{digit, value, short}

abbrev grow : ℕ → ℕ → ℕ → ℕ
grow radix n b = radix * n + digit b

le-times : (radix n : ℕ) → 1 ≤ radix → n ≤ radix * n
le-times radix n h = grind (arith, mul-le-mul_left n h)

grows : (radix n : ℕ) (digits : List ℕ) → 1 ≤ radix → n ≤ fold (grow radix) n digits
grows radix n [] h = omega arith
grows radix n (b ∷ bs) h = omega (arith, le-times radix n h, grows radix (radix * n + digit b) bs h)

pub value-take-le : (radix i : ℕ) (digits : List ℕ) → 1 ≤ radix → value radix (take i digits) ≤ value radix digits
value-take-le radix i digits h =
    let e : value radix digits ≡ fold (grow radix) (value radix (take i digits)) (drop i digits) = ap (value radix) (sym (take-append-drop i digits)) ∙ fold-append (grow radix) 0 (take i digits) (drop i digits) in
    omega (arith, e, grows radix (value radix (take i digits)) (drop i digits) h)

pub value-more-le : (radix i d : ℕ) (digits : List ℕ) → 1 ≤ radix → i < length digits → radix * value radix (take i digits) + digit (get_or digits i d) ≤ value radix digits
value-more-le radix i d digits h lt =
    let e : value radix (take (i + 1) digits) ≡ radix * value radix (take i digits) + digit (get_or digits i d) = ap (value radix) (take_more digits i d lt) ∙ fold-append (grow radix) 0 (take i digits) (get_or digits i d ∷ []) in
    omega (arith, e, value-take-le radix (i + 1) digits h)

pub is_long : (n : ℕ) → 2 ^ 64 ≤ n → short n ≡ None
is_long n h = rw (le-ltb n (2 ^ 64) h) refl

pub is_short : (n : ℕ) → n < 2 ^ 64 → short n ≡ Some n
is_short n h = rw (lt-ltb n (2 ^ 64) h) refl

pub over : (m n v r d : ℕ) → m ≡ n → (n * r < 2 ^ 64 → ⊥) → r * m + d ≤ v → 2 ^ 64 ≤ v
over m n v r d e h le = let k : n * r ≡ r * m = ap (λ x. x * r) (sym e) ∙ mul_comm m r in omega (arith, k, h)

pub over_sum : (m n v r d k : ℕ) → m ≡ n → k ≡ n * r → (k + d < 2 ^ 64 → ⊥) → r * m + d ≤ v → 2 ^ 64 ≤ v
over_sum m n v r d k e f h le = let g : n * r ≡ r * m = ap (λ x. x * r) (sym e) ∙ mul_comm m r in omega (arith, g, h)
