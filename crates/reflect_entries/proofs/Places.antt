-- What stands under numbers, where a pair is found at a place, or where a place is left for it.
use Rattle.std.proofs.Common.{◌≡◌, ◌≢◌, ◌<◌, ◌≤◌, ℕ, suc, ◌+◌, ◌-◌, cond, Option, Some, None, List, [], ◌∷◌, ◌++◌, length, get_or, set, take, drop, refl, sym, ap, ◌∙◌, arith, add-one, eqb, ne_eqb, eq-eqb, take-append-drop, drop-cons, length-take, length-drop, get_or-take, get_or-drop, get_or-set_same, get_or-set_other, length-set, ◌⊎◌, inl, inr, ⊎_elim}
use Rattle.std.specs.List.{All, HoldsAt, insert, remove}
use Rattle.std.specs.List.Sorted.{IsPartitionPoint}
use Rattle.std.proofs.lemmas.Bool.Decides.{eqb_tells, leb_tells}
use Rattle.std.proofs.lemmas.List.{take-set, drop-set}
use Rattle.std.proofs.lemmas.List.Edits.{get_or-insert_below, get_or-insert_at, get_or-insert_above, length-insert}
use Rattle.std.proofs.lemmas.List.Elements.{All-head, All-tail}
use Rattle.std.proofs.lemmas.List.Quantifiers.{all_pairs_remove}
use Rattle.reflect_entries.specs.Entries.{IsAscending, Updates, value_at}

module _ {V : Type 0} where
  -- a pair tells nothing of another number
  skip : (xs : List (ℕ × V)) (e : ℕ × V) (ys : List (ℕ × V)) (q : ℕ) → q ≢ e.0 → value_at (xs ++ e ∷ ys) q ≡ value_at (xs ++ ys) q
  skip [] e ys q ne = rw (ne_eqb q e.0 ne) refl
  skip (x ∷ xs) e ys q ne = ap (λ o. cond (eqb q x.0) (Some x.1) o) (skip xs e ys q ne)

  -- nor do pairs with lower numbers, or with higher ones
  past : (xs ys : List (ℕ × V)) (q : ℕ) → All (λ e. e.0 < q) xs → value_at (xs ++ ys) q ≡ value_at ys q
  past [] ys q h = refl
  past (x ∷ xs) ys q h =
      let lt : x.0 < q = All-head (λ e. e.0 < q) x xs h in
      rw (ne_eqb q x.0 (λ e. omega arith)) (past xs ys q (All-tail (λ e. e.0 < q) x xs h))

  above : (ys : List (ℕ × V)) (q : ℕ) → All (λ e. q < e.0) ys → value_at ys q ≡ None
  above [] q h = refl
  above (y ∷ ys) q h =
      let lt : q < y.0 = All-head (λ e. q < e.0) y ys h in
      rw (ne_eqb q y.0 (λ e. omega arith)) (above ys q (All-tail (λ e. q < e.0) y ys h))

  first : (e : ℕ × V) (ys : List (ℕ × V)) (q : ℕ) → e.0 ≡ q → value_at (e ∷ ys) q ≡ Some e.1
  first e ys q same = rw (eq-eqb q e.0 (sym same)) refl

  -- the pairs before a place and behind it
  lower : (es : List (ℕ × V)) (i q : ℕ) → i ≤ length es → ((k : ℕ) (d : ℕ × V) → k < i → (get_or es k d).0 < q) → All (λ e. e.0 < q) (take i es)
  lower es i q le h k d lt = let small : k < i = omega (arith, length-take i es) in rw (get_or-take i es k d small) (h k d small)

  higher : (es : List (ℕ × V)) (i q : ℕ) → ((k : ℕ) (d : ℕ × V) → i ≤ k → k < length es → q < (get_or es k d).0) → All (λ e. q < e.0) (drop i es)
  higher es i q h k d lt = rw (get_or-drop i es k d) (h (i + k) d (omega arith) (omega (arith, length-drop i es)))

  parted : (es : List (ℕ × V)) (i : ℕ) (d : ℕ × V) → i < length es → es ≡ take i es ++ get_or es i d ∷ drop (suc i) es
  parted es i d lt = sym (take-append-drop i es) ∙ ap (λ l. take i es ++ l) (drop-cons es i d lt)

  set_parted : (es : List (ℕ × V)) (i : ℕ) (e : ℕ × V) → i < length es → set es i e ≡ take i es ++ e ∷ drop (suc i) es
  set_parted es i e lt =
      sym (take-append-drop i (set es i e)) ∙ (ap (λ l. l ++ drop i (set es i e)) (take-set es i e) ∙ ap (λ l. take i es ++ l) (rw (← add-one) (drop-set es i e lt)))

  -- a pair at a place, with the number that is looked for
  module _ (es : List (ℕ × V)) (i n : ℕ) (lt : i < length es) (at : HoldsAt (λ e. e.0 ≡ n) es i) (up : IsAscending es) where
    before : All (λ e. e.0 < n) (take i es)
    before = lower es i n (omega arith) (λ k d less. omega (arith, up k i d less lt, at d))

    behind : All (λ e. n < e.0) (drop (suc i) es)
    behind = higher es (suc i) n (λ k d le less. omega (arith, up i k d (omega arith) less, at d))

    pub found : (p : ℕ × V) → p ≡ get_or es i p → value_at es n ≡ Some p.1
    found p is =
        ap (λ l. value_at l n) (parted es i p lt)
        ∙ (past (take i es) (get_or es i p ∷ drop (suc i) es) n before ∙ (first (get_or es i p) (drop (suc i) es) n (at p) ∙ sym (ap (λ e. Some e.1) is)))

    number_kept : (k : ℕ) (w : V) → k ≡ n → (a : ℕ) (d : ℕ × V) → (get_or (set es i (k, w)) a d).0 ≡ (get_or es a d).0
    number_kept k w same a d =
        ⊎_elim
        (λ t. let e : a ≡ i = t.1 in rw e (ap (λ p. p.0) (get_or-set_same es i (k, w) d lt) ∙ (same ∙ sym (at d))))
        (λ t. ap (λ p. p.0) (get_or-set_other es i a (k, w) d t.1))
        (eqb_tells a i)

    pub written : (k : ℕ) (w : V) → k ≡ n → Updates es (set es i (k, w)) n (Some w)
    written k w same = record {
      here = ap (λ l. value_at l n) (set_parted es i (k, w) lt) ∙ (past (take i es) ((k, w) ∷ drop (suc i) es) n before ∙ first (k, w) (drop (suc i) es) n same);
      others = λ q ne.
          let d : ℕ × V = (k, w) in
          ap (λ l. value_at l q) (set_parted es i d lt) ∙ (skip (take i es) d (drop (suc i) es) q (λ e. ne (e ∙ same)) ∙ (sym (skip (take i es) (get_or es i d) (drop (suc i) es) q (λ e. ne (e ∙ at d))) ∙ ap (λ l. value_at l q) (sym (parted es i d lt))));
      ascending = λ a b d less below.
          let short : b < length es = omega (arith, length-set es i (k, w)) in
          rw (number_kept k w same a d, number_kept k w same b d) (up a b d less short);
    }

    pub replaced : (p : ℕ × V) → p ≡ get_or es i p → (w : V) → Updates es (set es i (p.0, w)) n (Some w)
    replaced p is w = written p.0 w (ap (λ e. e.0) is ∙ at p)

    pub taken : (d : ℕ × V) → Updates es (remove es i) n None
    taken d = record {
      here = past (take i es) (drop (suc i) es) n before ∙ above (drop (suc i) es) n behind;
      others = λ q ne. sym (skip (take i es) (get_or es i d) (drop (suc i) es) q (λ e. ne (e ∙ at d))) ∙ ap (λ l. value_at l q) (sym (parted es i d lt));
      ascending = all_pairs_remove (λ a b. a.0 < b.0) es i lt up;
    }

  -- a place that divides the lower numbers from the higher ones
  module _ (es : List (ℕ × V)) (i n : ℕ) (le : i ≤ length es) (parts : IsPartitionPoint (λ e. e.0 < n) (λ e. n < e.0) es i) where
    below_it : All (λ e. e.0 < n) (take i es)
    below_it = lower es i n le (λ k d less. parts.0 k d (omega arith) less)

    above_it : All (λ e. n < e.0) (drop i es)
    above_it = higher es i n parts.1

    -- where a pair of the list with one more comes from
    spot : (w : V) (a : ℕ) (d : ℕ × V)
        → ((a < i) × (get_or (insert es i (n, w)) a d ≡ get_or es a d)) ⊎ (((a ≡ i) × (get_or (insert es i (n, w)) a d ≡ (n, w))) ⊎ ((i < a) × (get_or (insert es i (n, w)) a d ≡ get_or es (a - 1) d)))
    spot w a d =
        ⊎_elim
        (λ t. ⊎_elim
        (λ s. inr (inl (s.1, ap (λ j. get_or (insert es i (n, w)) j d) s.1 ∙ get_or-insert_at es i (n, w) d le)))
        (λ s. let big : i < a = omega (arith, t.1, s.1) in let back : a ≡ a - 1 + 1 = omega arith in inr (inr (big, ap (λ j. get_or (insert es i (n, w)) j d) back ∙ get_or-insert_above es i (n, w) d (a - 1) (omega arith) le)))
        (eqb_tells a i))
        (λ t. inl (t.1, get_or-insert_below es i (n, w) d a t.1 le))
        (leb_tells i a)

    pub missing : value_at es n ≡ None
    missing = ap (λ l. value_at l n) (sym (take-append-drop i es)) ∙ (past (take i es) (drop i es) n below_it ∙ above (drop i es) n above_it)

    pub unchanged : IsAscending es → Updates es es n None
    unchanged up = record { here = missing; others = λ q ne. refl; ascending = up }

    pub put : (w : V) → IsAscending es → Updates es (insert es i (n, w)) n (Some w)
    put w up = record {
      here = past (take i es) ((n, w) ∷ drop i es) n below_it ∙ first (n, w) (drop i es) n refl;
      others = λ q ne. skip (take i es) (n, w) (drop i es) q ne ∙ ap (λ l. value_at l q) (take-append-drop i es);
      ascending = λ a b d less below.
          let short : b < length es + 1 = omega (arith, length-insert es i (n, w) le) in
          ⊎_elim
          (λ p. rw (p.1, get_or-insert_below es i (n, w) d a (omega arith) le) (up a b d less (omega arith)))
          (⊎_elim
          (λ p. rw (p.1, get_or-insert_below es i (n, w) d a (omega arith) le) (parts.0 a d (omega arith) (omega arith)))
          (λ p. rw p.1 (⊎_elim
          (λ r. rw r.1 (up a (b - 1) d (omega arith) (omega arith)))
          (⊎_elim
          (λ r. rw r.1 (parts.1 (b - 1) d (omega arith) (omega arith)))
          (λ r. rw r.1 (up (a - 1) (b - 1) d (omega arith) (omega arith))))
          (spot w a d))))
          (spot w b d);
    }

  -- what is put under a number last stands there
  pub again : {es fs gs : List (ℕ × V)} {n : ℕ} {v w : Option V} → Updates es fs n v → Updates fs gs n w → Updates es gs n w
  again one two = record { here = two.here; others = λ q ne. two.others q ne ∙ one.others q ne; ascending = two.ascending }
