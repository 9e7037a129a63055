-- Lines of a source, byte by byte.
use Rattle.std.proofs.Common.{◌≡◌, ℕ, zero, suc, ◌+◌, ◌<◌, ◌-◌, ◌≤◌, List, [], ◌∷◌, drop, get_or, length, eqb, Option, None, Some, refl, ap, ◌∙◌, arith}
use Rattle.std.specs.Option.{option_map}
use Rattle.std.proofs.lemmas.Bool.{eqb-true, false_from_ne_true}
use Rattle.std.proofs.lemmas.List.{drop_more}
use Rattle.reflect_faults.specs.SourceBytes.{first_of_line}

-- so many bytes more
abbrev pub behind : ℕ → Option ℕ → Option ℕ
behind n o = option_map (λ k. n + k) o

behind_one : (n : ℕ) (o : Option ℕ) → behind n (option_map suc o) ≡ behind (n + 1) o
behind_one n None = refl
behind_one n (Some k) = ap Some (omega arith)

pub starts_at_zero : (s : List ℕ) → first_of_line s 0 ≡ Some 0
starts_at_zero [] = refl
starts_at_zero (b ∷ rest) = refl

-- where a line starts, looked for behind a byte that ends no line
pub past_other : (s : List ℕ) (i n : ℕ) → i < length s → 1 ≤ n → (get_or s i 0 ≡ 10 → ⊥)
    → behind i (first_of_line (drop i s) n) ≡ behind (i + 1) (first_of_line (drop (i + 1) s) n)
past_other s i zero lt le other = absurd (omega (arith, le))
past_other s i (suc n) lt le other =
    ap (λ l. behind i (first_of_line l (suc n))) (drop_more s i 0 lt)
    ∙ rw (false_from_ne_true (eqb (get_or s i 0) 10) (λ e. other (eqb-true _ _ e))) (behind_one i (first_of_line (drop (i + 1) s) (suc n)))

-- behind one that does
pub past_end : (s : List ℕ) (i n : ℕ) → i < length s → 1 ≤ n → get_or s i 0 ≡ 10
    → behind i (first_of_line (drop i s) n) ≡ behind (i + 1) (first_of_line (drop (i + 1) s) (n - 1))
past_end s i zero lt le is = absurd (omega (arith, le))
past_end s i (suc n) lt le is =
    ap (λ l. behind i (first_of_line l (suc n))) (drop_more s i 0 lt)
    ∙ rw is (behind_one i (first_of_line (drop (i + 1) s) n)
    ∙ ap (λ m. behind (i + 1) (first_of_line (drop (i + 1) s) m)) (omega arith))

-- and behind the one in front of the line
pub at_end : (s : List ℕ) (i n : ℕ) → i < length s → 1 ≤ n → n ≤ 1 → get_or s i 0 ≡ 10
    → behind i (first_of_line (drop i s) n) ≡ Some (i + 1)
at_end s i n lt le few is =
    let last : n - 1 ≡ 0 = omega (arith, le, few) in
    past_end s i n lt le is
    ∙ ap (λ m. behind (i + 1) (first_of_line (drop (i + 1) s) m)) last
    ∙ ap (behind (i + 1)) (starts_at_zero (drop (i + 1) s)) ∙ ap Some (omega arith)
