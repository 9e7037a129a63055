-- Each declared field of a type stands once among the numbers of its fields.
use Rattle.std.proofs.Common.{◌≡◌, ◌≢◌, ◌<◌, ◌==◌, ℕ, suc, Bool, true, false, cond, not, List, [], ◌∷◌, length, map, Option, Some, None, refl, sym, ap, ◌∙◌, arith}
use Rattle.std.specs.Prelude.{slice_index_or}
use Rattle.std.specs.List.{filter, find}
use Rattle.std.specs.Option.{option_and_then}
use Rattle.reflect_tables.specs.Types.{PoolType, FieldType, no_field}
use Rattle.reflect_message.specs.Known.{holds_floats, if_held}

-- no two have one number
abbrev pub AreDistinct : List FieldType → Type 0
AreDistinct fs = (j k : ℕ) → j < length fs → k < length fs → (slice_index_or fs j no_field).number ≡ (slice_index_or fs k no_field).number → j ≡ k

behind : (f : FieldType) (fs : List FieldType) → AreDistinct (f ∷ fs) → AreDistinct fs
behind f fs apart j k lt less e = let same = apart (suc j) (suc k) (omega (arith, lt)) (omega (arith, less)) e in omega (arith, same)

first_apart : (f : FieldType) (fs : List FieldType) → AreDistinct (f ∷ fs) → (k : ℕ) → k < length fs → (slice_index_or fs k no_field).number ≢ f.number
first_apart f fs apart k lt e = let same = apart (suc k) 0 (omega (arith, lt)) (omega arith) e in absurd (omega (arith, same))

module _ (pool : PoolType) (n : ℕ) where
  -- the numbers of those that messages hold
  abbrev numbers : List FieldType → List ℕ
  numbers fs = map (λ (f : FieldType). f.number) (filter (λ f. not (holds_floats pool f)) fs)

  abbrev found : List FieldType → Option FieldType
  found fs = option_and_then (if_held pool) (find (λ (f : FieldType). f.number == n) fs)

  abbrev pub listed : Option FieldType → List ℕ
  listed None = []
  listed (Some f) = n ∷ []

  other_number : (a : ℕ) → a ≢ n → (a == n) ≡ false
  other_number a other = grind (arith, other)

  same_number : (a : ℕ) → (a == n) ≡ true → a ≡ n
  same_number a e = grind (arith, e)

  abbrev kept : FieldType → List ℕ → List ℕ
  kept f ns = cond (f.number == n) (f.number ∷ ns) ns

  none_left : (fs : List FieldType) → ((k : ℕ) → k < length fs → (slice_index_or fs k no_field).number ≢ n) → filter (λ q. q == n) (numbers fs) ≡ []
  none_left [] other = refl
  none_left (f ∷ fs) other = by (holds_floats pool f) refl (none_left fs (λ k lt. other (suc k) (omega (arith, lt)))) where
    by : (b : Bool) → holds_floats pool f ≡ b → filter (λ q. q == n) (numbers fs) ≡ [] → filter (λ q. q == n) (numbers (f ∷ fs)) ≡ []
    by true is rest = ap (λ b. filter (λ q. q == n) (map (λ (f : FieldType). f.number) (cond (not b) (f ∷ filter (λ f. not (holds_floats pool f)) fs) (filter (λ f. not (holds_floats pool f)) fs)))) is ∙ rest
    by false is rest =
        ap (λ b. filter (λ q. q == n) (map (λ (f : FieldType). f.number) (cond (not b) (f ∷ filter (λ f. not (holds_floats pool f)) fs) (filter (λ f. not (holds_floats pool f)) fs)))) is
        ∙ ap (λ b. cond b (f.number ∷ filter (λ q. q == n) (numbers fs)) (filter (λ q. q == n) (numbers fs))) (other_number f.number (other 0 (omega arith))) ∙ rest

  pub numbered_once : (fs : List FieldType) → AreDistinct fs → filter (λ q. q == n) (numbers fs) ≡ listed (found fs)
  numbered_once [] apart = refl
  numbered_once (f ∷ fs) apart = by (holds_floats pool f) refl (f.number == n) refl (numbered_once fs (behind f fs apart)) where
    rest : List ℕ
    rest = filter (λ q. q == n) (numbers fs)

    -- what the first adds, by whether it is held
    begins : (b : Bool) → holds_floats pool f ≡ b → filter (λ q. q == n) (numbers (f ∷ fs)) ≡ cond b rest (kept f rest)
    begins true is = ap (λ b. filter (λ q. q == n) (map (λ (f : FieldType). f.number) (cond (not b) (f ∷ filter (λ f. not (holds_floats pool f)) fs) (filter (λ f. not (holds_floats pool f)) fs)))) is
    begins false is = ap (λ b. filter (λ q. q == n) (map (λ (f : FieldType). f.number) (cond (not b) (f ∷ filter (λ f. not (holds_floats pool f)) fs) (filter (λ f. not (holds_floats pool f)) fs)))) is

    finds : (c : Bool) → (f.number == n) ≡ c → found (f ∷ fs) ≡ option_and_then (if_held pool) (cond c (Some f) (find (λ (f : FieldType). f.number == n) fs))
    finds c is = ap (λ c. option_and_then (if_held pool) (cond c (Some f) (find (λ (f : FieldType). f.number == n) fs))) is

    no_more : f.number ≡ n → rest ≡ []
    no_more same = none_left fs (λ k lt e. first_apart f fs apart k lt (e ∙ sym same))

    by : (b : Bool) → holds_floats pool f ≡ b → (c : Bool) → (f.number == n) ≡ c → rest ≡ listed (found fs) → filter (λ q. q == n) (numbers (f ∷ fs)) ≡ listed (found (f ∷ fs))
    by true floats true here later =
        begins true floats ∙ no_more (same_number f.number here)
        ∙ sym (ap listed (finds true here ∙ ap (λ b. cond b None (Some f)) floats))
    by true floats false other later = begins true floats ∙ later ∙ sym (ap listed (finds false other))
    by false held true here later =
        begins false held ∙ ap (λ c. cond c (f.number ∷ rest) rest) here ∙ ap (λ ns. f.number ∷ ns) (no_more (same_number f.number here))
        ∙ ap (λ q. q ∷ []) (same_number f.number here)
        ∙ sym (ap listed (finds true here ∙ ap (λ b. cond b None (Some f)) held))
    by false held false other later =
        begins false held ∙ ap (λ c. cond c (f.number ∷ rest) rest) other ∙ later ∙ sym (ap listed (finds false other))
