-- Sets that are written from the last to the first, down to a number.
use Rattle.std.proofs.Common.{◌≡◌, ℕ, ◌<◌, ◌≤◌, ◌+◌, List, [], ◌∷◌, ◌++◌, length, Option, Some, None, Bor, nat_lt, nat_le, ap, sym, ◌∙◌, refl, arith}
use Rattle.std.proofs.lemmas.List.{append_assoc, append-nil, length-append}
use Rattle.std.proofs.lemmas.List.Elements.{filter-append}
use Rattle.std.specs.List.{AllByRecursion}
use Rattle.std.specs.List.Sorted.{IsStrictlySortedBy}
use Rattle.std.specs.Map.{keys_of}
use Rattle.std.specs.Option.{MatchOption}
use Rattle.std.specs.Ordering.{nat_cmp}
use Rattle.std.specs.declared.cmp.Ordering.TheVariants.{Less}
use Rattle.reflect_wire.proofs.Views.{set_view-out}
use Rattle.reflect_wire.specs.Encoding.{records_bytes, field_bytes}
use Rattle.reflect_wire.specs.Records.{Payload}
use Rattle.reflect_wire.specs.Views.{records_of, set_view}
use Rattle.reflect_wire.specs.declared.unknown.UnknownFieldSet.{UnknownFieldSet}
use Rattle.reflect_entries.specs.Descends.{IsDescent, sets_left}
use Rattle.reflect_entries.specs.Sets.{set_records, records_in, AreGrouped, above, up_to}
use Rattle.reflect_entries.proofs.Copies.{below, joined}
use Rattle.reflect_entries.proofs.Sets.{map-append, low, not_above, not_low, high, all_in, all_of_two, weaken}

-- ---- how records are written

bytes_of_two : (rs qs : List (ℕ × Payload)) → records_bytes (records_of (rs ++ qs)) ≡ records_bytes (records_of rs) ++ records_bytes (records_of qs)
bytes_of_two [] qs = refl
bytes_of_two (r ∷ rs) qs = ap (λ l. field_bytes r ++ l) (bytes_of_two rs qs) ∙ sym (append_assoc (field_bytes r) (records_bytes (records_of rs)) (records_bytes (records_of qs)))

set_bytes : (s : UnknownFieldSet) → records_bytes (records_of (set_records s)) ≡ records_bytes (set_view s)
set_bytes s = ap records_bytes (sym (set_view-out s))

-- the first set and the others
pub length_of_sets : (n : ℕ) (s : UnknownFieldSet) (sets : List (ℕ × UnknownFieldSet))
    → length (records_bytes (records_of (records_in ((n, s) ∷ sets)))) ≡ length (records_bytes (set_view s)) + length (records_bytes (records_of (records_in sets)))
length_of_sets n s sets =
    ap length (bytes_of_two (set_records s) (records_in sets) ∙ ap (λ l. l ++ records_bytes (records_of (records_in sets))) (set_bytes s)) ∙ length-append (records_bytes (set_view s)) (records_bytes (records_of (records_in sets)))

-- ---- sets of which the last is known

front_all : {X : Type 0} (P : X → Type 0) (xs ys : List X) → AllByRecursion P (xs ++ ys) → AllByRecursion P xs
front_all P [] ys h = tt
front_all P (x ∷ xs) ys h = (h.0, front_all P xs ys h.1)

behind_all : {X : Type 0} (P : X → Type 0) (xs ys : List X) → AllByRecursion P (xs ++ ys) → AllByRecursion P ys
behind_all P [] ys h = h
behind_all P (x ∷ xs) ys h = behind_all P xs ys h.1

front_sorted : (ns ms : List ℕ) → IsStrictlySortedBy nat_cmp (ns ++ ms) → IsStrictlySortedBy nat_cmp ns
unfolding IsStrictlySortedBy
front_sorted [] ms s = tt
front_sorted (n ∷ ns) ms s = (front_all (λ y. nat_cmp n y ≡ Less) ns ms s.0, front_sorted ns ms s.1)

-- where a last set is taken out, or there was none
pub record TakesTheLast (rest : List (ℕ × UnknownFieldSet)) (n : ℕ) (s : UnknownFieldSet) : Type 0 where
  pub up : IsStrictlySortedBy nat_cmp (keys_of (rest ++ (n, s) ∷ []))
  pub grouped : AreGrouped (rest ++ (n, s) ∷ [])

pub last_of : (rest : List (ℕ × UnknownFieldSet)) (e : Bor ℕ × Bor UnknownFieldSet) → IsDescent rest (Some e) → TakesTheLast rest e.0.now e.1.now
last_of rest e d = record { up = d.ascending; grouped = d.grouped }

-- what is left once the last was taken is what was left before it
pub stepped : (rest less : List (ℕ × UnknownFieldSet)) (next : Option (Bor ℕ × Bor UnknownFieldSet)) → MatchOption next ((rest ≡ []) × (less ≡ [])) (λ x. rest ≡ less ++ (x.0.now, x.1.now) ∷ [])
    → (sets_left less next ≡ rest) × (next ≡ None → less ≡ [])
stepped rest less None h = (append-nil less ∙ (h.1 ∙ sym h.0), λ e. h.1)
stepped rest less (Some x) h = (sym h, λ e. absurd (cc))

module _ (rest : List (ℕ × UnknownFieldSet)) (n : ℕ) (s : UnknownFieldSet) (h : TakesTheLast rest n s) where
  numbers : keys_of (rest ++ (n, s) ∷ []) ≡ keys_of rest ++ n ∷ []
  numbers = map-append (λ e. e.0) rest ((n, s) ∷ [])

  lower : AllByRecursion (λ k. k < n) (keys_of rest)
  lower = below (keys_of rest) [] n (rw (← numbers) h.up)

  pub still_up : IsStrictlySortedBy nat_cmp (keys_of rest)
  still_up = front_sorted (keys_of rest) (n ∷ []) (rw (← numbers) h.up)

  pub still_grouped : AreGrouped rest
  still_grouped = front_all (λ e. _) rest ((n, s) ∷ []) h.grouped

  last_grouped : AllByRecursion (λ r. r.0 ≡ n) (set_records s)
  last_grouped = (behind_all (λ e. _) rest ((n, s) ∷ []) h.grouped).0.1

  -- no number is above the last
  module _ (least : ℕ) (le : n ≤ least) where
    all_low : AllByRecursion (λ r. r.0 ≤ least) (records_in (rest ++ (n, s) ∷ []))
    all_low = all_in (λ k. k ≤ least) (rest ++ (n, s) ∷ []) h.grouped
        (rw numbers (all_of_two (λ k. k ≤ least) (keys_of rest) (n ∷ []) (weaken (λ k. k < n) (λ k. k ≤ least) (keys_of rest) (λ k lt. omega (arith, lt, le)) lower) (le, tt)))

    pub none_above : above least (records_in (rest ++ (n, s) ∷ [])) ≡ []
    none_above = not_above least (records_in (rest ++ (n, s) ∷ [])) all_low

    pub all_up_to : up_to least (records_in (rest ++ (n, s) ∷ [])) ≡ records_in (rest ++ (n, s) ∷ [])
    all_up_to = low least (records_in (rest ++ (n, s) ∷ [])) all_low

  -- the last is above a number
  module _ (least : ℕ) (lt : least < n) where
    last_high : AllByRecursion (λ r. least < r.0) (set_records s)
    last_high = weaken (λ r. r.0 ≡ n) (λ r. least < r.0) (set_records s) (λ r same. omega (arith, same, lt)) last_grouped

    pub above_less : above least (records_in (rest ++ (n, s) ∷ [])) ≡ above least (records_in rest) ++ set_records s
    above_less = ap (above least) (joined rest n s) ∙ (filter-append (λ r. nat_lt least r.0) (records_in rest) (set_records s) ∙ ap (λ l. above least (records_in rest) ++ l) (high least (set_records s) last_high))

    pub up_to_same : up_to least (records_in (rest ++ (n, s) ∷ [])) ≡ up_to least (records_in rest)
    up_to_same = ap (up_to least) (joined rest n s) ∙ (filter-append (λ r. nat_le r.0 least) (records_in rest) (set_records s) ∙ (ap (λ l. up_to least (records_in rest) ++ l) (not_low least (set_records s) last_high) ∙ append-nil (up_to least (records_in rest))))

    -- what is written of it stands in front of what was written before
    pub written_more : (behind : List ℕ) → records_bytes (records_of (above least (records_in rest))) ++ (records_bytes (set_view s) ++ behind)
        ≡ records_bytes (records_of (above least (records_in (rest ++ (n, s) ∷ [])))) ++ behind
    written_more behind =
        ap (λ l. records_bytes (records_of (above least (records_in rest))) ++ (l ++ behind)) (sym (set_bytes s))
        ∙ (sym (append_assoc (records_bytes (records_of (above least (records_in rest)))) (records_bytes (records_of (set_records s))) behind)
        ∙ (ap (λ l. l ++ behind) (sym (bytes_of_two (above least (records_in rest)) (set_records s)))
        ∙ ap (λ l. records_bytes (records_of l) ++ behind) (sym above_less)))
