-- What is in order stays so while records are taken in.
use Rattle.std.proofs.Common.{◌≡◌, ◌≢◌, ◌⊎◌, inl, inr, ◌<◌, ◌≤◌, ℕ, Bool, true, false, cond, nat_lt, nat_le, List, [], ◌∷◌, ◌++◌, None, refl, sym, ap, ◌∙◌, subst, arith}
use Rattle.std.specs.Option.{IsSome}
use Rattle.reflect_wire.specs.Records.{Payload}
use Rattle.reflect_entries.specs.Entries.{IsAscending, value_at}
use Rattle.reflect_entries.specs.Sets.{up_to, above, with_record}
use Rattle.reflect_message.specs.Contents.{nothing}
use Rattle.reflect_message.specs.Held.{Same}
use Rattle.reflect_message.specs.Names.{Value}
use Rattle.reflect_decode.specs.Ordered.{AreNumbered, Ascend, IsOrdered, last}

pub lower : (l low high : ℕ) (rs : List (ℕ × Payload)) → l ≤ low → Ascend low high rs
    → Ascend l high rs
lower l low high [] le h = omega (arith, le, h)
lower l low high (r ∷ rs) le h = (omega (arith, le, h.0), h.1)

pub ascend_append : (low mid high : ℕ) (a b : List (ℕ × Payload)) → Ascend low mid a
    → Ascend mid high b → Ascend low high (a ++ b)
ascend_append low mid high [] b h k = lower low mid high b h k
ascend_append low mid high (r ∷ a) b h k = (h.0, ascend_append r.0 mid high a b h.1 k)

-- those above a number
pub above_ascend : (l m high : ℕ) (rs : List (ℕ × Payload)) → l ≤ high → Ascend m high rs
    → Ascend l high (above l rs)
above_ascend l m high [] le a = le
above_ascend l m high (r ∷ rs) le a =
    by (nat_lt l r.0) refl (above_ascend l r.0 high rs le a.1) where
      all_above : (q : ℕ) (rs : List (ℕ × Payload)) → l < q → Ascend q high rs → above l rs ≡ rs
      all_above q [] lt a = refl
      all_above q (p ∷ rs) lt a =
          let more : l < p.0 = omega (arith, lt, a.0) in
          let passes : nat_lt l p.0 ≡ true = grind (arith, more) in
          ap (λ b. cond b (p ∷ above l rs) (above l rs)) passes
          ∙ ap (λ l. p ∷ l) (all_above p.0 rs more a.1)

      by : (b : Bool) → nat_lt l r.0 ≡ b → Ascend l high (above l rs)
          → Ascend l high (cond b (r ∷ above l rs) (above l rs))
      by false e later = later
      by true e later =
          let lt : l < r.0 = grind (arith, e) in
          (omega (arith, lt), subst (Ascend r.0 high) (sym (all_above r.0 rs lt a.1)) a.1)

-- those up to a number
pub up_to_ascend : (m high h : ℕ) (rs : List (ℕ × Payload)) → m ≤ h → Ascend m high rs
    → Ascend m h (up_to h rs)
up_to_ascend m high h [] le a = le
up_to_ascend m high h (r ∷ rs) le a =
    by (nat_le r.0 h) refl (up_to_ascend m high h rs le (lower m r.0 high rs a.0 a.1))
    (λ here. up_to_ascend r.0 high h rs here a.1) where
      by : (b : Bool) → nat_le r.0 h ≡ b → Ascend m h (up_to h rs)
          → (r.0 ≤ h → Ascend r.0 h (up_to h rs))
          → Ascend m h (cond b (r ∷ up_to h rs) (up_to h rs))
      by false e later other = later
      by true e later other = (a.0, other (grind (arith, e)))

-- a record more behind those of its number
pub record_placed : (low high n : ℕ) (p : Payload) (rs : List (ℕ × Payload)) → low ≤ n → n ≤ high
    → Ascend low high rs → Ascend low high (with_record rs (n, p))
record_placed low high n p rs least most h =
    ascend_append low n high (up_to n rs) ((n, p) ∷ above n rs)
    (up_to_ascend low high n rs least h) (omega arith, above_ascend n low high rs most h)

module _ (n : ℕ) (number : (1 ≤ n) × (n ≤ last)) (old new : List (ℕ × Value)) where
  -- another number holds what it held, or nothing
  abbrev pub Holds : ℕ → Type 0
  Holds k = Same old new k ⊎ (value_at new k ≡ None)

  -- what is put under one number, while others may be unset
  pub numbered_put : (IsAscending old → IsAscending new) → ((k : ℕ) → k ≢ n → Holds k)
      → AreNumbered old → AreNumbered new
  numbered_put rising others h = record {
    ascending = rising h.ascending;
    within = λ k some. by k some (compared k n);
  } where
    compared : (k n : ℕ) → (k < n) ⊎ (k ≡ n) ⊎ (n < k)
    compared k n = grind arith

    held : (k : ℕ) → IsSome (value_at new k) → Holds k → (1 ≤ k) × (k ≤ last)
    held k some (inl same) = h.within k (subst IsSome same some)
    held k some (inr none) = absurd (cc (some, none))

    by : (k : ℕ) → IsSome (value_at new k) → (k < n) ⊎ (k ≡ n) ⊎ (n < k) → (1 ≤ k) × (k ≤ last)
    by k some (inl lt) = held k some (others k (λ e. omega (arith, e, lt)))
    by k some (inr (inl is)) = subst (λ k. (1 ≤ k) × (k ≤ last)) (sym is) number
    by k some (inr (inr gt)) = held k some (others k (λ e. omega (arith, e, gt)))

nothing_numbered : AreNumbered []
nothing_numbered = record {
  ascending = λ i j d lt below. absurd (omega (arith, below));
  within = λ n some. absurd (cc some);
}

pub nothing_ordered : IsOrdered nothing
nothing_ordered = record {
  fields = nothing_numbered;
  extensions = nothing_numbered;
  unknown = omega arith;
}
