-- The turns of the loops in strings and comments.
use Rattle.std.proofs.Common.{◌≡◌, ℕ, zero, suc, ◌+◌, ◌-◌, ◌≤◌, ◌<◌, [], ◌∷◌, ◌++◌, drop, length, ap, ◌∙◌, arith, refl}
use Rattle.protox_lex.specs.Class.{Text}
use Rattle.protox_lex.specs.Lex.{unit_len, after_unit, contents_from, contents_len, unit_of, bytes_of, unescaped_from, unescaped}

-- what is left of an escape is passed over
pub contents_pass : (q left : ℕ) (y : Text) → left ≤ length y → contents_from q left y ≡ left + contents_len q (drop left y)
unfolding contents_from
contents_pass q zero y le = omega arith
contents_pass q (suc left) [] le = absurd (omega arith)
contents_pass q (suc left) (b ∷ y) le = omega (arith, contents_pass q left y (omega arith))

pub contents_step : (q : ℕ) (y : Text) → 0 < unit_len q y → unit_len q y ≤ length y → contents_len q y ≡ unit_len q y + contents_len q (drop (unit_len q y) y)
unfolding contents_from
contents_step q [] some le = absurd (omega arith)
contents_step q (b ∷ y) some le = by (unit_len q (b ∷ y)) refl some le where
  by : (n : ℕ) → unit_len q (b ∷ y) ≡ n → 0 < n → n ≤ length (b ∷ y) → contents_len q (b ∷ y) ≡ n + contents_len q (drop n (b ∷ y))
  by zero e some le = absurd (omega arith)
  by (suc n) e some le = ap (λ k. after_unit k (λ m. contents_from q m y)) e ∙ omega (arith, contents_pass q n y (omega arith))

pub contents_end : (q : ℕ) (y : Text) → unit_len q y ≡ 0 → contents_len q y ≡ 0
unfolding contents_from
contents_end q [] e = refl
contents_end q (b ∷ y) e = ap (λ k. after_unit k (λ m. contents_from q m y)) e

pub contents_none : (q : ℕ) (y : Text) → length y ≡ 0 → contents_len q y ≡ 0
unfolding contents_from
contents_none q [] e = refl
contents_none q (b ∷ y) e = absurd (omega arith)

unescaped_pass : (left : ℕ) (y : Text) → left ≤ length y → unescaped_from left y ≡ unescaped (drop left y)
unfolding unescaped_from
unescaped_pass zero y le = refl
unescaped_pass (suc left) [] le = absurd (omega arith)
unescaped_pass (suc left) (b ∷ y) le = unescaped_pass left y (omega arith)

-- one unit is read, and then the rest
pub unescaped_step : (y : Text) (n : ℕ) → (unit_of y).1 ≡ n → 1 ≤ n → n ≤ length y → unescaped y ≡ bytes_of (unit_of y).0 ++ unescaped (drop n y)
unfolding unescaped_from
unescaped_step [] n e some le = absurd (omega arith)
unescaped_step (b ∷ y) zero e some le = absurd (omega arith)
unescaped_step (b ∷ y) (suc n) e some le =
    let one : (unit_of (b ∷ y)).1 - 1 ≡ n = omega (arith, e) in
    ap (λ k. bytes_of (unit_of (b ∷ y)).0 ++ unescaped_from k y) one ∙ ap (λ t. bytes_of (unit_of (b ∷ y)).0 ++ t) (unescaped_pass n y (omega arith))

pub unescaped_none : (y : Text) → length y ≡ 0 → unescaped y ≡ []
unfolding unescaped_from
unescaped_none [] e = refl
unescaped_none (b ∷ y) e = absurd (omega arith)
