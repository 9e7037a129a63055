-- Records in the order of their numbers.
use Rattle.std.proofs.Common.{◌≡◌, ◌⊎◌, inl, inr, ◌<◌, ◌≤◌, ℕ, zero, suc, ◌+◌, ◌-◌, ◌^◌, ◌==◌, Bool, true, false, cond, nat_lt, nat_le, List, [], ◌∷◌, ◌++◌, Option, Some, None, refl, sym, ap, ◌∙◌, subst, append-nil, arith}
use Rattle.std.specs.List.{AllByRecursion, filter, flat_map}
use Rattle.std.specs.Option.{IsSome}
use Rattle.reflect_wire.specs.Records.{Payload}
use Rattle.reflect_entries.specs.Entries.{IsAscending, value_at}
use Rattle.reflect_entries.specs.Sets.{up_to, above}
use Rattle.reflect_message.specs.Names.{Value}
use Rattle.reflect_decode.specs.Ordered.{AreNumbered, Ascend, last}
use Rattle.reflect_decode.proofs.Ordering.{lower, ascend_append, above_ascend, up_to_ascend}
use Rattle.protobuf_model.specs.Meaning.{payloads}
use Rattle.protobuf_model.specs.Bytes.{count_from, field_numbers, numbered, run}
use Rattle.protobuf_model.proofs.Arranged.{payloads-append, payloads-own, payloads-other}

-- each number is above the one before it, from one number up to another
abbrev pub Rise : {V : Type 0} → ℕ → ℕ → List (ℕ × V) → Type 0
Rise low high [] = low ≤ suc high
Rise low high (e ∷ es) = (low ≤ e.0) × Rise (suc e.0) high es

-- a number that a field may have
abbrev IsNumber : ℕ × Value → Type 0
IsNumber e = (1 ≤ e.0) × (e.0 ≤ last)

numbers_of : (es : List (ℕ × Value)) → ((n : ℕ) → IsSome (value_at es n) → (1 ≤ n) × (n ≤ last))
    → AllByRecursion IsNumber es
numbers_of [] within = tt
numbers_of (e ∷ es) within = (within e.0 here, numbers_of es (λ n some. within n (later n some))) where
  self : (n : ℕ) → (n == n) ≡ true
  self n = grind arith

  here : IsSome (value_at (e ∷ es) e.0)
  here = subst (λ b. IsSome (cond b (Some e.1) (value_at es e.0))) (sym (self e.0)) refl

  later : (n : ℕ) → IsSome (value_at es n) → IsSome (value_at (e ∷ es) n)
  later n some = by (n == e.0) where
    by : (b : Bool) → IsSome (cond b (Some e.1) (value_at es n))
    by true = refl
    by false = some

rise_behind : (e : ℕ × Value) (es : List (ℕ × Value)) → IsAscending (e ∷ es) → AllByRecursion IsNumber (e ∷ es)
    → Rise (suc e.0) last es
rise_behind e [] up all = omega (arith, all.0.1)
rise_behind e (f ∷ es) up all =
    let here : e.0 < f.0 = up 0 1 e (omega arith) (omega arith) in
    (omega (arith, here), rise_behind f es behind all.1) where
      behind : IsAscending (f ∷ es)
      behind i j d lt below = up (suc i) (suc j) d (omega (arith, lt)) (omega (arith, below))

-- from the lowest number of a field up to the highest
pub rises : (es : List (ℕ × Value)) → AreNumbered es → Rise 1 (2 ^ 29 - 1) es
rises [] h = omega arith
rises (e ∷ es) h =
    let all = numbers_of (e ∷ es) h.within in
    (all.0.0, rise_behind e es h.ascending all)

ends : (low high : ℕ) (rs : List (ℕ × Payload)) → Ascend low high rs → low ≤ high
ends low high [] h = h
ends low high (r ∷ rs) h = let rest = ends r.0 high rs h.1 in omega (arith, rest, h.0)

pub ascend_numbered : (n : ℕ) (ps : List Payload) → Ascend n n (numbered n ps)
ascend_numbered n [] = omega arith
ascend_numbered n (p ∷ ps) = (omega arith, ascend_numbered n ps)

-- numbers that differ are told apart
pub apart : (q n : ℕ) → (q ≡ n → ⊥) → (q == n) ≡ false
apart q n h = by (q == n) refl where
  by : (b : Bool) → (q == n) ≡ b → (q == n) ≡ false
  by true e = absurd (h (grind (arith, e)))
  by false e = e

skipped : (n : ℕ) (r : ℕ × Payload) (rs : List (ℕ × Payload)) → (r.0 ≡ n → ⊥) → payloads n (r ∷ rs) ≡ payloads n rs
skipped n r rs h = ap (λ b. cond b (r.1 ∷ payloads n rs) (payloads n rs)) (apart r.0 n h)

taken : (n : ℕ) (r : ℕ × Payload) (rs : List (ℕ × Payload)) → r.0 ≡ n → payloads n (r ∷ rs) ≡ r.1 ∷ payloads n rs
taken n r rs e = let same : (r.0 == n) ≡ true = grind (arith, e) in ap (λ b. cond b (r.1 ∷ payloads n rs) (payloads n rs)) same

-- of numbers below the first there are none
pub none_below : (n low high : ℕ) (rs : List (ℕ × Payload)) → n < low → Ascend low high rs → payloads n rs ≡ []
none_below n low high [] lt h = refl
none_below n low high (r ∷ rs) lt h = skipped n r rs (λ e. omega (arith, e, lt, h.0)) ∙ none_below n r.0 high rs (omega (arith, lt, h.0)) h.1

run_same : (u w : ℕ → List Payload) (low k : ℕ) → ((n : ℕ) → low ≤ n → u n ≡ w n) → run u (count_from low k) ≡ run w (count_from low k)
run_same u w low zero same = refl
run_same u w low (suc k) same =
    ap (λ ps. numbered low ps ++ run u (count_from (suc low) k)) (same low (omega arith))
    ∙ ap (λ rs. numbered low (w low) ++ rs) (run_same u w (suc low) k (λ n le. same n (omega (arith, le))))

-- records in the order of their numbers are those of each number, one number after the other
step : (low k : ℕ) → ((rs : List (ℕ × Payload)) → Ascend (suc low) (low + suc k) rs → rs ≡ run (λ n. payloads n rs) (count_from (suc low) (suc k)))
    → (rs : List (ℕ × Payload)) → Ascend low (low + suc k) rs → rs ≡ run (λ n. payloads n rs) (count_from low (suc (suc k)))
step low k later [] h = sym (nothing low (suc (suc k))) where
  nothing : (low k : ℕ) → run (λ n. payloads n []) (count_from low k) ≡ []
  nothing low zero = refl
  nothing low (suc k) = nothing (suc low) k
step low k later (r ∷ rs) h = by (step low k later rs) (either low r.0 h.0) where
  either : (low n : ℕ) → low ≤ n → (n ≡ low) ⊎ (suc low ≤ n)
  either low n le = grind (arith, le)

  by : (Ascend low (low + suc k) rs → rs ≡ run (λ n. payloads n rs) (count_from low (suc (suc k)))) → (r.0 ≡ low) ⊎ (suc low ≤ r.0) → (r ∷ rs) ≡ run (λ n. payloads n (r ∷ rs)) (count_from low (suc (suc k)))
  by rest (inl e) =
      let tail = lower low r.0 (low + suc k) rs (omega (arith, e)) h.1 in
      let others : run (λ n. payloads n (r ∷ rs)) (count_from (suc low) (suc k)) ≡ run (λ n. payloads n rs) (count_from (suc low) (suc k)) =
      run_same (λ n. payloads n (r ∷ rs)) (λ n. payloads n rs) (suc low) (suc k) (λ n le. skipped n r rs (λ same. omega (arith, same, le, e))) in
      ap (λ l. r ∷ l) (rest tail)
      ∙ ap (λ n. (n, r.1) ∷ run (λ n. payloads n rs) (count_from low (suc (suc k)))) e
      ∙ sym (ap (λ ps. numbered low ps ++ run (λ n. payloads n (r ∷ rs)) (count_from (suc low) (suc k))) (taken low r rs e)
      ∙ ap (λ l. (low, r.1) ∷ (numbered low (payloads low rs) ++ l)) others)
  by rest (inr lt) =
      let whole : Ascend (suc low) (low + suc k) (r ∷ rs) = (lt, h.1) in
      later (r ∷ rs) whole ∙ sym (ap (λ ps. numbered low ps ++ run (λ n. payloads n (r ∷ rs)) (count_from (suc low) (suc k))) (none_below low (suc low) (low + suc k) (r ∷ rs) (omega arith) whole))

one_number : (low : ℕ) (rs : List (ℕ × Payload)) → Ascend low low rs → rs ≡ run (λ n. payloads n rs) (count_from low 1)
one_number low rs h = sym (append-nil (numbered low (payloads low rs)) ∙ all_of rs h) where
  all_of : (rs : List (ℕ × Payload)) → Ascend low low rs → numbered low (payloads low rs) ≡ rs
  all_of [] h = refl
  all_of (r ∷ rs) h =
      let end = ends r.0 low rs h.1 in
      let e : r.0 ≡ low = omega (arith, end, h.0) in
      ap (numbered low) (taken low r rs e) ∙ ap (λ l. (low, r.1) ∷ l) (all_of rs (lower low r.0 low rs (omega (arith, e)) h.1)) ∙ ap (λ n. (n, r.1) ∷ rs) (sym e)

counted : (k low : ℕ) (rs : List (ℕ × Payload)) → Ascend low (low + k) rs → rs ≡ run (λ n. payloads n rs) (count_from low (suc k))
counted zero low rs h = let end : low + 0 ≡ low = omega arith in one_number low rs (subst (λ e. Ascend low e rs) end h)
counted (suc k) low rs h = step low k (λ rs a. let end : low + suc k ≡ suc low + k = omega arith in counted k (suc low) rs (subst (λ e. Ascend (suc low) e rs) end a)) rs h

pub in_order : (rs : List (ℕ × Payload)) → Ascend 1 (2 ^ 29 - 1) rs → rs ≡ run (λ n. payloads n rs) field_numbers
unfolding field_numbers
in_order rs h =
    let end : 2 ^ 29 - 1 ≡ 1 + (2 ^ 29 - 2) = omega arith in
    let count : suc (2 ^ 29 - 2) ≡ 2 ^ 29 - 1 = omega arith in
    counted (2 ^ 29 - 2) 1 rs (subst (λ e. Ascend 1 e rs) end h) ∙ ap (λ k. run (λ n. payloads n rs) (count_from 1 k)) count

-- the payloads of a number among those that pass a test
pub filter_in : (test : ℕ × Payload → Bool) (n : ℕ) (rs : List (ℕ × Payload)) → ((r : ℕ × Payload) → r.0 ≡ n → test r ≡ true) → payloads n (filter test rs) ≡ payloads n rs
filter_in test n [] t = refl
filter_in test n (r ∷ rs) t = by (test r) refl (filter_in test n rs t) where
  by : (b : Bool) → test r ≡ b → payloads n (filter test rs) ≡ payloads n rs → payloads n (cond b (r ∷ filter test rs) (filter test rs)) ≡ payloads n (r ∷ rs)
  by true e ih = ap (λ ps. cond (r.0 == n) (r.1 ∷ ps) ps) ih
  by false e ih = ih ∙ sym (skipped n r rs (λ is. absurd (cc (sym e ∙ t r is))))

pub filter_out : (test : ℕ × Payload → Bool) (n : ℕ) (rs : List (ℕ × Payload)) → ((r : ℕ × Payload) → r.0 ≡ n → test r ≡ false) → payloads n (filter test rs) ≡ []
filter_out test n [] t = refl
filter_out test n (r ∷ rs) t = by (test r) refl (filter_out test n rs t) where
  by : (b : Bool) → test r ≡ b → payloads n (filter test rs) ≡ [] → payloads n (cond b (r ∷ filter test rs) (filter test rs)) ≡ []
  by true e ih = skipped n r (filter test rs) (λ is. absurd (cc (sym e ∙ t r is))) ∙ ih
  by false e ih = ih

module _ {V : Type 0} (under : ℕ × V → List Payload) where
  -- the records of the entries
  abbrev pub listed : List (ℕ × V) → List (ℕ × Payload)
  listed es = flat_map (λ e. numbered e.0 (under e)) es

  abbrev pub found : Option V → ℕ → List Payload
  found None n = []
  found (Some v) n = under (n, v)

  rise_ends : (low high : ℕ) (es : List (ℕ × V)) → Rise low high es → low ≤ suc high
  rise_ends low high [] h = h
  rise_ends low high (e ∷ es) h = let rest = rise_ends (suc e.0) high es h.1 in omega (arith, rest, h.0)

  pub missing : (n low high : ℕ) (es : List (ℕ × V)) → n < low → Rise low high es → value_at es n ≡ None
  missing n low high [] lt h = refl
  missing n low high (e ∷ es) lt h = ap (λ b. cond b (Some e.1) (value_at es n)) (apart n e.0 (λ is. omega (arith, is, lt, h.0))) ∙ missing n (suc e.0) high es (omega (arith, lt, h.0)) h.1

  pub listed_at : (n low high : ℕ) (es : List (ℕ × V)) → Rise low high es → payloads n (listed es) ≡ found (value_at es n) n
  listed_at n low high [] h = refl
  listed_at n low high (e ∷ es) h = payloads-append n (numbered e.0 (under e)) (listed es) ∙ by (n == e.0) refl (listed_at n (suc e.0) high es h.1) where
    by : (b : Bool) → (n == e.0) ≡ b → payloads n (listed es) ≡ found (value_at es n) n → payloads n (numbered e.0 (under e)) ++ payloads n (listed es) ≡ found (cond b (Some e.1) (value_at es n)) n
    by true is ih =
        let same : e.0 ≡ n = grind (arith, is) in
        let rest : payloads n (listed es) ≡ [] = ih ∙ ap (λ o. found o n) (missing n (suc e.0) high es (omega (arith, same)) h.1) in
        ap (λ ps. payloads n (numbered e.0 (under e)) ++ ps) rest ∙ append-nil (payloads n (numbered e.0 (under e)))
        ∙ ap (λ k. payloads n (numbered k (under (k, e.1)))) same ∙ payloads-own n (under (n, e.1))
    by false is ih = ap (λ ps. ps ++ payloads n (listed es)) (payloads-other n e.0 (under e) (λ same. absurd (grind (arith, is, same)))) ∙ ih

  -- from any number below the first
  pub listed_ascends : (l low high : ℕ) (es : List (ℕ × V)) → l ≤ high → l ≤ low → Rise low high es → Ascend l high (listed es)
  listed_ascends l low high [] le under_low h = le
  listed_ascends l low high (e ∷ es) le under_low h =
      let here = rise_ends (suc e.0) high es h.1 in
      let rest = listed_ascends e.0 (suc e.0) high es (omega (arith, here)) (omega arith) h.1 in
      lower l e.0 high (numbered e.0 (under e) ++ listed es) (omega (arith, h.0, under_low)) (ascend_append e.0 e.0 high (numbered e.0 (under e)) (listed es) (ascend_numbered e.0 (under e)) rest)

  -- the entries, each behind the records up to its number and before those above it
  abbrev pub mixed : ℕ → List (ℕ × V) → List (ℕ × Payload) → List (ℕ × Payload)
  mixed low [] rs = above low rs
  mixed low (e ∷ es) rs = above low (up_to e.0 rs) ++ (numbered e.0 (under e) ++ mixed e.0 es rs)

  pub mixed_ascends : (low high : ℕ) (es : List (ℕ × V)) (rs : List (ℕ × Payload)) → low ≤ high → Rise (suc low) high es → ((l h : ℕ) → l ≤ h → Ascend l h (above l (up_to h rs)))
      → ((l : ℕ) → l ≤ high → Ascend l high (above l rs)) → Ascend low high (mixed low es rs)
  mixed_ascends low high [] rs le rise b c = c low le
  mixed_ascends low high (e ∷ es) rs le rise b c =
      let here = rise_ends (suc e.0) high es rise.1 in
      let low_e : low ≤ e.0 = omega (arith, rise.0) in
      let rest = mixed_ascends e.0 high es rs (omega (arith, here)) rise.1 b c in
      ascend_append low e.0 high (above low (up_to e.0 rs)) (numbered e.0 (under e) ++ mixed e.0 es rs) (b low e.0 low_e) (ascend_append e.0 e.0 high (numbered e.0 (under e)) (mixed e.0 es rs) (ascend_numbered e.0 (under e)) rest)

  pub mixed_at : (n low high : ℕ) (es : List (ℕ × V)) (rs : List (ℕ × Payload)) → Rise (suc low) high es → payloads n (mixed low es rs) ≡ payloads n (above low rs) ++ found (value_at es n) n
  mixed_at n low high [] rs h = sym (append-nil (payloads n (above low rs)))
  mixed_at n low high (e ∷ es) rs h =
      payloads-append n (above low (up_to e.0 rs)) (numbered e.0 (under e) ++ mixed e.0 es rs)
      ∙ ap (λ ps. payloads n (above low (up_to e.0 rs)) ++ ps) (payloads-append n (numbered e.0 (under e)) (mixed e.0 es rs) ∙ ap (λ ps. payloads n (numbered e.0 (under e)) ++ ps) (mixed_at n e.0 high es rs h.1))
      ∙ by (compared n e.0) where
        compared : (n k : ℕ) → (n < k) ⊎ (n ≡ k) ⊎ (k < n)
        compared n k = grind arith

        shown : List Payload
        shown = payloads n (above low (up_to e.0 rs)) ++ (payloads n (numbered e.0 (under e)) ++ (payloads n (above e.0 rs) ++ found (value_at es n) n))

        first : n ≤ e.0 → payloads n (above low (up_to e.0 rs)) ≡ payloads n (above low rs)
        first le = by_low (nat_lt low n) refl where
          by_low : (b : Bool) → nat_lt low n ≡ b → payloads n (above low (up_to e.0 rs)) ≡ payloads n (above low rs)
          by_low true t =
              filter_in (λ r. nat_lt low r.0) n (up_to e.0 rs) (λ r is. ap (nat_lt low) is ∙ t)
              ∙ filter_in (λ r. nat_le r.0 e.0) n rs (λ r is. grind (arith, is, le))
              ∙ sym (filter_in (λ r. nat_lt low r.0) n rs (λ r is. ap (nat_lt low) is ∙ t))
          by_low false t = filter_out (λ r. nat_lt low r.0) n (up_to e.0 rs) (λ r is. ap (nat_lt low) is ∙ t) ∙ sym (filter_out (λ r. nat_lt low r.0) n rs (λ r is. ap (nat_lt low) is ∙ t))

        none_above : n ≤ e.0 → payloads n (above e.0 rs) ++ found (value_at es n) n ≡ []
        none_above le =
            ap (λ ps. ps ++ found (value_at es n) n) (filter_out (λ r. nat_lt e.0 r.0) n rs (λ r is. grind (arith, is, le)))
            ∙ ap (λ o. found o n) (missing n (suc e.0) high es (omega (arith, le)) h.1)

        by : (n < e.0) ⊎ (n ≡ e.0) ⊎ (e.0 < n) → shown ≡ payloads n (above low rs) ++ found (cond (n == e.0) (Some e.1) (value_at es n)) n
        by (inl lt) =
            let le : n ≤ e.0 = omega (arith, lt) in
            let other : (n == e.0) ≡ false = apart n e.0 (λ is. omega (arith, is, lt)) in
            let unseen : value_at es n ≡ None = missing n (suc e.0) high es (omega (arith, lt)) h.1 in
            ap (λ ps. ps ++ (payloads n (numbered e.0 (under e)) ++ (payloads n (above e.0 rs) ++ found (value_at es n) n))) (first le)
            ∙ ap (λ ps. payloads n (above low rs) ++ (payloads n (numbered e.0 (under e)) ++ ps)) (none_above le)
            ∙ ap (λ ps. payloads n (above low rs) ++ (ps ++ [])) (payloads-other n e.0 (under e) (λ is. omega (arith, is, lt)))
            ∙ sym (ap (λ b. payloads n (above low rs) ++ found (cond b (Some e.1) (value_at es n)) n) other ∙ ap (λ o. payloads n (above low rs) ++ found o n) unseen)
        by (inr (inl is)) =
            let le : n ≤ e.0 = omega (arith, is) in
            let same : (n == e.0) ≡ true = grind (arith, is) in
            ap (λ ps. ps ++ (payloads n (numbered e.0 (under e)) ++ (payloads n (above e.0 rs) ++ found (value_at es n) n))) (first le)
            ∙ ap (λ ps. payloads n (above low rs) ++ (payloads n (numbered e.0 (under e)) ++ ps)) (none_above le)
            ∙ ap (λ ps. payloads n (above low rs) ++ ps) (append-nil (payloads n (numbered e.0 (under e))) ∙ ap (λ k. payloads n (numbered k (under (k, e.1)))) (sym is) ∙ payloads-own n (under (n, e.1)))
            ∙ sym (ap (λ b. payloads n (above low rs) ++ found (cond b (Some e.1) (value_at es n)) n) same)
        by (inr (inr gt)) =
            let other : (n == e.0) ≡ false = apart n e.0 (λ is. omega (arith, is, gt)) in
            let over : low < n = omega (arith, gt, h.0) in
            let none : payloads n (above low (up_to e.0 rs)) ≡ [] =
            filter_in (λ r. nat_lt low r.0) n (up_to e.0 rs) (λ r is. grind (arith, is, over)) ∙ filter_out (λ r. nat_le r.0 e.0) n rs (λ r is. grind (arith, is, gt)) in
            let behind : payloads n (above e.0 rs) ≡ payloads n (above low rs) =
            filter_in (λ r. nat_lt e.0 r.0) n rs (λ r is. grind (arith, is, gt)) ∙ sym (filter_in (λ r. nat_lt low r.0) n rs (λ r is. grind (arith, is, over))) in
            ap (λ ps. ps ++ (payloads n (numbered e.0 (under e)) ++ (payloads n (above e.0 rs) ++ found (value_at es n) n))) none
            ∙ ap (λ ps. ps ++ (payloads n (above e.0 rs) ++ found (value_at es n) n)) (payloads-other n e.0 (under e) (λ is. omega (arith, is, gt)))
            ∙ ap (λ ps. ps ++ found (value_at es n) n) behind
            ∙ sym (ap (λ b. payloads n (above low rs) ++ found (cond b (Some e.1) (value_at es n)) n) other)

pub run_all : (u w : ℕ → List Payload) → ((n : ℕ) → 1 ≤ n → u n ≡ w n) → run u field_numbers ≡ run w field_numbers
unfolding field_numbers
run_all u w same = run_same u w 1 (2 ^ 29 - 1) same

-- each entry is found under its number
pub found_each : {V : Type 0} → (low high : ℕ) (es : List (ℕ × V)) → Rise low high es → AllByRecursion (λ (e : ℕ × V). value_at es e.0 ≡ Some e.1) es
found_each low high [] h = tt
found_each {V} low high (e ∷ es) h = (ap (λ b. cond b (Some e.1) (value_at es e.0)) (let self : (e.0 == e.0) ≡ true = grind arith in self), later es (suc e.0) (omega arith) h.1 (found_each (suc e.0) high es h.1)) where
  later : (fs : List (ℕ × V)) (l : ℕ) → e.0 < l → Rise l high fs → AllByRecursion (λ (f : ℕ × V). value_at es f.0 ≡ Some f.1) fs → AllByRecursion (λ (f : ℕ × V). value_at (e ∷ es) f.0 ≡ Some f.1) fs
  later [] l lt rise all = tt
  later (f ∷ fs) l lt rise all =
      (ap (λ b. cond b (Some e.1) (value_at es f.0)) (apart f.0 e.0 (λ is. omega (arith, is, lt, rise.0))) ∙ all.0, later fs (suc f.0) (omega (arith, lt, rise.0)) rise.1 all.1)

-- from any number on
pub between_ascend : (l m high h : ℕ) (rs : List (ℕ × Payload)) → l ≤ h → Ascend m high rs → Ascend l h (above l (up_to h rs))
between_ascend l m high h rs le a = by (cases m h) where
  cases : (m h : ℕ) → (m ≤ h) ⊎ (h < m)
  cases m h = grind arith

  none : (q : ℕ) (rs : List (ℕ × Payload)) → h < q → Ascend q high rs → up_to h rs ≡ []
  none q [] lt a = refl
  none q (p ∷ rs) lt a = let more : h < p.0 = omega (arith, lt, a.0) in ap (λ b. cond b (p ∷ up_to h rs) (up_to h rs)) (let t : nat_le p.0 h ≡ false = grind (arith, more) in t) ∙ none p.0 rs more a.1

  by : (m ≤ h) ⊎ (h < m) → Ascend l h (above l (up_to h rs))
  by (inl some) = above_ascend l m h (up_to h rs) le (up_to_ascend m high h rs some a)
  by (inr lt) = subst (λ us. Ascend l h (above l us)) (sym (none m rs lt a)) le
