-- What stands under numbers, one number after another.
use Rattle.std.proofs.Common.{◌≡◌, ◌⊎◌, inl, inr, ◌≤◌, ℕ, zero, suc, ◌+◌, ◌-◌, ◌^◌, ◌==◌, Bool, true, false, cond, List, [], ◌∷◌, ◌++◌, Option, Some, None, refl, sym, ap, ◌∙◌, subst, arith}
use Rattle.std.specs.List.{filter, flat_map}
use Rattle.reflect_entries.specs.Entries.{value_at}
use Rattle.protobuf_model.specs.Bytes.{count_from, field_numbers}
use Rattle.message_view.proofs.Ordering.{Rise, apart, missing}

module _ {X : Type 0} where
  pub none : (k low : ℕ) (g : ℕ → List X) → ((n : ℕ) → low ≤ n → g n ≡ []) → flat_map g (count_from low k) ≡ []
  none zero low g e = refl
  none (suc k) low g e = ap (λ l. l ++ flat_map g (count_from (suc low) k)) (e low (omega arith)) ∙ none k (suc low) g (λ n le. e n (omega (arith, le)))

  pub same : (k low : ℕ) (g h : ℕ → List X) → ((n : ℕ) → low ≤ n → g n ≡ h n) → flat_map g (count_from low k) ≡ flat_map h (count_from low k)
  same zero low g h e = refl
  same (suc k) low g h e =
      ap (λ l. l ++ flat_map g (count_from (suc low) k)) (e low (omega arith))
      ∙ ap (λ l. h low ++ l) (same k (suc low) g h (λ n le. e n (omega (arith, le))))

  pub same_numbers : (g h : ℕ → List X) → ((n : ℕ) → 1 ≤ n → g n ≡ h n) → flat_map g field_numbers ≡ flat_map h field_numbers
  unfolding field_numbers
  same_numbers g h e = same (2 ^ 29 - 1) 1 g h e

  -- of numbers that pass a test
  pub filtered : (p : ℕ → Bool) (g : ℕ → List X) (ns : List ℕ) → flat_map g (filter p ns) ≡ flat_map (λ n. cond (p n) (g n) []) ns
  filtered p g [] = refl
  filtered p g (n ∷ ns) = by (p n) (filtered p g ns) where
    by : (b : Bool) → flat_map g (filter p ns) ≡ flat_map (λ n. cond (p n) (g n) []) ns → flat_map g (cond b (n ∷ filter p ns) (filter p ns)) ≡ cond b (g n) [] ++ flat_map (λ n. cond (p n) (g n) []) ns
    by true ih = ap (λ l. g n ++ l) ih
    by false ih = ih

-- what rises does not end below its start
pub rise_ends : {V : Type 0} → (low high : ℕ) (es : List (ℕ × V)) → Rise low high es → low ≤ suc high
rise_ends low high [] r = r
rise_ends low high (e ∷ es) r = let rest = rise_ends (suc e.0) high es r.1 in omega (arith, rest, r.0)

module _ {V X : Type 0} (h : ℕ → V → List X) where
  abbrev pub shown : Option V → ℕ → List X
  shown None n = []
  shown (Some v) n = h n v

  abbrev pub under : List (ℕ × V) → ℕ → List X
  under es n = shown (value_at es n) n

  abbrev pub each : List (ℕ × V) → List X
  each es = flat_map (λ e. h e.0 e.1) es

  either : (low n : ℕ) → low ≤ n → (n ≡ low) ⊎ (suc low ≤ n)
  either low n le = grind (arith, le)

  by_number : (k low high : ℕ) (es : List (ℕ × V)) → suc high ≡ low + k → Rise low high es → flat_map (under es) (count_from low k) ≡ each es
  by_number k low high [] q r = none k low (under []) (λ n le. refl)
  by_number zero low high (e ∷ es) q r = let rest = rise_ends (suc e.0) high es r.1 in absurd (omega (arith, rest, r.0, q))
  by_number (suc k) low high (e ∷ es) q r =
      by (either low e.0 r.0) (λ rise. by_number k (suc low) high es (omega (arith, q)) rise) (λ rise. by_number k (suc low) high (e ∷ es) (omega (arith, q)) rise) where
        Goal : List (ℕ × V) → Type 0
        Goal fs = Rise (suc low) high fs → flat_map (under fs) (count_from (suc low) k) ≡ each fs

        others : e.0 ≡ low → flat_map (under (e ∷ es)) (count_from (suc low) k) ≡ flat_map (under es) (count_from (suc low) k)
        others is = same k (suc low) (under (e ∷ es)) (under es) (λ n le. ap (λ b. shown (cond b (Some e.1) (value_at es n)) n) (apart n e.0 (λ s. omega (arith, s, le, is))))

        by : (e.0 ≡ low) ⊎ (suc low ≤ e.0) → Goal es → Goal (e ∷ es) → flat_map (under (e ∷ es)) (count_from low (suc k)) ≡ each (e ∷ es)
        by (inl is) behind whole =
            let t : (low == e.0) ≡ true = grind (arith, is) in
            let first : under (e ∷ es) low ≡ h e.0 e.1 = ap (λ b. shown (cond b (Some e.1) (value_at es low)) low) t ∙ ap (λ n. h n e.1) (sym is) in
            ap (λ l. l ++ flat_map (under (e ∷ es)) (count_from (suc low) k)) first
            ∙ ap (λ l. h e.0 e.1 ++ l) (others is ∙ behind (subst (λ n. Rise (suc n) high es) is r.1))
        by (inr lt) behind whole =
            let first : under (e ∷ es) low ≡ [] = ap (λ o. shown o low) (missing (λ x. []) low (suc low) high (e ∷ es) (omega arith) (lt, r.1)) in
            ap (λ l. l ++ flat_map (under (e ∷ es)) (count_from (suc low) k)) first ∙ whole (lt, r.1)

  -- what stands under all numbers that fields may have
  pub all_numbers : (es : List (ℕ × V)) → Rise 1 (2 ^ 29 - 1) es → flat_map (under es) field_numbers ≡ each es
  unfolding field_numbers
  all_numbers es r = by_number (2 ^ 29 - 1) 1 (2 ^ 29 - 1) es (omega arith) r
