-- Numbers and values side by side, seen as pairs.
use Rattle.std.proofs.Common.{◌≡◌, ℕ, zero, suc, ◌<◌, ◌≤◌, List, [], ◌∷◌, length, get_or, set, map, refl, sym, ap, ◌∙◌, arith, nat_cmp, Less}
use Rattle.std.proofs.lemmas.List.{length-map}
use Rattle.std.proofs.lemmas.Map.Keys.{sorted_head, sorted_tail}
use Rattle.std.proofs.lemmas.Slice.Zip.{get_or-zip, length-zip}
use Rattle.std.specs.List.{AllByRecursion, HoldsAt, zip, insert, remove}
use Rattle.std.specs.List.Sorted.{IsPartitionPoint, IsStrictlySortedBy}
use Rattle.reflect_entries.specs.Entries.{Ascend, IsAscending}

-- ---- numbers that ascend, one at a time and by places

below_all : (n : ℕ) (ks : List ℕ) → AllByRecursion (λ k. nat_cmp n k ≡ Less) ks → (j d : ℕ) → j < length ks → n < get_or ks j d
below_all n [] h j d lt = absurd (omega (arith, lt))
below_all n (k ∷ ks) h zero d lt = let less = h.0 in grind (arith, less)
below_all n (k ∷ ks) h (suc j) d lt = below_all n ks h.1 j d (omega (arith, lt))

pub ascend_from : (ks : List ℕ) → IsStrictlySortedBy nat_cmp ks → Ascend ks
ascend_from [] s i j d lt short = absurd (omega (arith, short))
ascend_from (k ∷ ks) s zero zero d lt short = absurd (omega (arith, lt))
ascend_from (k ∷ ks) s (suc i) zero d lt short = absurd (omega (arith, lt))
ascend_from (k ∷ ks) s zero (suc j) d lt short = below_all k ks (sorted_head nat_cmp k ks s) j d (omega (arith, short))
ascend_from (k ∷ ks) s (suc i) (suc j) d lt short = ascend_from ks (sorted_tail nat_cmp k ks s) i j d (omega (arith, lt)) (omega (arith, short))

all_above : (n : ℕ) (ks : List ℕ) → ((j d : ℕ) → j < length ks → n < get_or ks j d) → AllByRecursion (λ k. nat_cmp n k ≡ Less) ks
all_above n [] h = tt
all_above n (k ∷ ks) h = (let lt = h zero 0 (omega arith) in grind (arith, lt), all_above n ks (λ j d lt. h (suc j) d (omega (arith, lt))))

pub sorted_from : (ks : List ℕ) → Ascend ks → IsStrictlySortedBy nat_cmp ks
unfolding IsStrictlySortedBy
sorted_from [] h = tt
sorted_from (k ∷ ks) h = (all_above k ks (λ j d lt. h zero (suc j) d (omega arith) (omega (arith, lt))), sorted_from ks (λ i j d lt short. h (suc i) (suc j) d (omega (arith, lt)) (omega (arith, short))))

-- ---- pairs

-- the pairs of a list, taken apart and put together
pub zip_parts : {A B : Type 0} → (es : List (A × B)) (xs : List A) (ys : List B) → xs ≡ map (λ (e : A × B). e.0) es → ys ≡ map (λ (e : A × B). e.1) es → zip xs ys ≡ es
zip_parts {A} {B} es xs ys a b = ap (λ l. zip l ys) a ∙ ap (zip (map (λ (e : A × B). e.0) es)) b ∙ same es where
  same : (es : List (A × B)) → zip (map (λ (e : A × B). e.0) es) (map (λ (e : A × B). e.1) es) ≡ es
  same [] = refl
  same (e ∷ es) = ap (λ l. e ∷ l) (same es)

-- halves of one list are as long as each other
pub even_parts : {A B : Type 0} → (es : List (A × B)) (xs : List A) (ys : List B) → xs ≡ map (λ (e : A × B). e.0) es → ys ≡ map (λ (e : A × B). e.1) es → length xs ≡ length ys
even_parts {A} {B} es xs ys a b = ap length a ∙ length-map es (λ (e : A × B). e.0) ∙ sym (length-map es (λ (e : A × B). e.1)) ∙ sym (ap length b)

pub zip_next : {A B : Type 0} → (xs ms : List A) (ys ws : List B) (x : A) (y : B) → xs ≡ x ∷ ms → ys ≡ y ∷ ws → zip xs ys ≡ (x, y) ∷ zip ms ws
zip_next xs ms ys ws x y a b = ap (λ l. zip l ys) a ∙ ap (zip (x ∷ ms)) b

pub zip_ended : {A B : Type 0} → (xs : List A) (ys : List B) → length xs ≡ 0 → zip xs ys ≡ []
zip_ended [] ys e = refl
zip_ended (x ∷ xs) ys e = absurd (cc e)

module _ {V : Type 0} where
  pub pairs_ascend : (ks : List ℕ) (vs : List V) → length vs ≡ length ks → Ascend ks → IsAscending (zip ks vs)
  pairs_ascend ks vs e up i j d lt short =
      let long : j < length ks = omega (arith, short, length-zip ks vs, e) in
      rw (get_or-zip ks vs i d (omega (arith, lt, long)) (omega (arith, lt, long, e)), get_or-zip ks vs j d long (omega (arith, long, e))) (up i j d.0 lt long)

  pub numbers_sorted : (ks : List ℕ) (vs : List V) → length vs ≡ length ks → IsAscending (zip ks vs) → V → IsStrictlySortedBy nat_cmp ks
  numbers_sorted ks vs e up v = sorted_from ks (λ i j d lt short.
      let a = get_or-zip ks vs i (d, v) (omega (arith, lt, short)) (omega (arith, lt, short, e)) in
      let b = get_or-zip ks vs j (d, v) short (omega (arith, short, e)) in
      let at = up i j (d, v) lt (omega (arith, short, length-zip ks vs, e)) in
      rw (a, b) at at)

  pub held_at : (ks : List ℕ) (vs : List V) (i n : ℕ) → length vs ≡ length ks → i < length ks → HoldsAt (λ k. k ≡ n) ks i → HoldsAt (λ e. e.0 ≡ n) (zip ks vs) i
  held_at ks vs i n e lt at d = rw (get_or-zip ks vs i d lt (omega (arith, lt, e))) (at d.0)

  pub number_at : (ks : List ℕ) (vs : List V) (i n : ℕ) → length vs ≡ length ks → i < length ks → V → HoldsAt (λ e. e.0 ≡ n) (zip ks vs) i → HoldsAt (λ k. k ≡ n) ks i
  number_at ks vs i n e lt v at d = rw (get_or-zip ks vs i (d, v) lt (omega (arith, lt, e))) at (at (d, v))

  pub parted : (ks : List ℕ) (vs : List V) (i n : ℕ) → length vs ≡ length ks → i ≤ length ks → IsPartitionPoint (λ k. k < n) (λ k. n < k) ks i → IsPartitionPoint (λ e. e.0 < n) (λ e. n < e.0) (zip ks vs) i
  parted ks vs i n e le p = (
    λ k d a b. let short : k < length ks = omega (arith, b, le) in rw (get_or-zip ks vs k d short (omega (arith, short, e))) (p.0 k d.0 a b),
    λ k d a b. let short : k < length ks = omega (arith, b, length-zip ks vs, e) in rw (get_or-zip ks vs k d short (omega (arith, short, e))) (p.1 k d.0 a short),
  )

  pub zip-insert : (ks : List ℕ) (vs : List V) (i n : ℕ) (v : V) → length vs ≡ length ks → i ≤ length ks → zip (insert ks i n) (insert vs i v) ≡ insert (zip ks vs) i (n, v)
  zip-insert ks vs zero n v e le = refl
  zip-insert [] vs (suc i) n v e le = absurd (omega (arith, le))
  zip-insert (k ∷ ks) [] (suc i) n v e le = absurd (omega (arith, e))
  zip-insert (k ∷ ks) (w ∷ vs) (suc i) n v e le = ap (λ l. (k, w) ∷ l) (zip-insert ks vs i n v (omega (arith, e)) (omega (arith, le)))

  pub zip-remove : (ks : List ℕ) (vs : List V) (i : ℕ) → length vs ≡ length ks → i < length ks → zip (remove ks i) (remove vs i) ≡ remove (zip ks vs) i
  zip-remove [] vs i e lt = absurd (omega (arith, lt))
  zip-remove (k ∷ ks) [] i e lt = absurd (omega (arith, e))
  zip-remove (k ∷ ks) (w ∷ vs) zero e lt = refl
  zip-remove (k ∷ ks) (w ∷ vs) (suc i) e lt = ap (λ l. (k, w) ∷ l) (zip-remove ks vs i (omega (arith, e)) (omega (arith, lt)))

  pub zip-set : (ks : List ℕ) (vs : List V) (i d : ℕ) (v : V) → length vs ≡ length ks → i < length ks → zip ks (set vs i v) ≡ set (zip ks vs) i (get_or ks i d, v)
  zip-set [] vs i d v e lt = absurd (omega (arith, lt))
  zip-set (k ∷ ks) [] i d v e lt = absurd (omega (arith, e))
  zip-set (k ∷ ks) (w ∷ vs) zero d v e lt = refl
  zip-set (k ∷ ks) (w ∷ vs) (suc i) d v e lt = ap (λ l. (k, w) ∷ l) (zip-set ks vs i d v (omega (arith, e)) (omega (arith, lt)))
