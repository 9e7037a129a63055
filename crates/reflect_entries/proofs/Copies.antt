-- Sets that are copied one by one, by ascending number.
use Rattle.std.proofs.Common.{◌≡◌, ℕ, ◌<◌, List, [], ◌∷◌, ◌++◌, ap, sym, ◌∙◌, refl, arith}
use Rattle.std.proofs.lemmas.List.{append_assoc, append-nil}
use Rattle.std.specs.List.{AllByRecursion}
use Rattle.std.specs.List.Sorted.{IsStrictlySortedBy}
use Rattle.std.specs.BTreeMap.{insert_entry}
use Rattle.std.specs.Map.{keys_of}
use Rattle.std.specs.Ordering.{nat_cmp, match_ordering}
use Rattle.std.specs.declared.cmp.Ordering.TheVariants.{Less, Greater}
use Rattle.std.proofs.lemmas.Map.Keys.{sorted_head, sorted_tail}
use Rattle.reflect_wire.proofs.Views.{set_view-out}
use Rattle.reflect_wire.specs.Records.{Payload}
use Rattle.reflect_wire.specs.Views.{records_of, set_view}
use Rattle.reflect_wire.specs.declared.unknown.UnknownFieldSet.{UnknownFieldSet}
use Rattle.reflect_entries.specs.Sets.{set_records, records_in, AreGrouped}
use Rattle.reflect_entries.proofs.Sets.{map-append}

-- ---- a set with the view of another has its records

same_list : (rs qs : List (ℕ × Payload)) → records_of rs ≡ records_of qs → rs ≡ qs
same_list [] [] e = refl
same_list [] (q ∷ qs) e = absurd (cc)
same_list (r ∷ rs) [] e = absurd (cc)
same_list (r ∷ rs) (q ∷ qs) e =
    let number : r.0 ≡ q.0 = cc in
    let payload : r.1 ≡ q.1 = cc in
    let others : rs ≡ qs = same_list rs qs (cc) in
    let first : r ≡ q = ap (λ n. (n, r.1)) number ∙ ap (λ p. (q.0, p)) payload in
    ap (λ x. x ∷ rs) first ∙ ap (λ l. q ∷ l) others

pub same_set : (s t : UnknownFieldSet) → set_view s ≡ set_view t → set_records s ≡ set_records t
same_set s t e = same_list (set_records s) (set_records t) (sym (set_view-out s) ∙ (e ∙ set_view-out t))

-- ---- a number above all others goes to the end

at_end : (sets : List (ℕ × UnknownFieldSet)) (n : ℕ) (s : UnknownFieldSet) → AllByRecursion (λ k. k < n) (keys_of sets) → insert_entry nat_cmp sets n s ≡ sets ++ (n, s) ∷ []
at_end [] n s h = refl
at_end (e ∷ sets) n s h =
    let lt = h.0 in
    let is : nat_cmp n e.0 ≡ Greater = grind (arith, lt) in
    ap (λ o. match_ordering o ((n, s) ∷ e ∷ sets) ((e.0, s) ∷ sets) (e ∷ insert_entry nat_cmp sets n s)) is ∙ ap (λ l. e ∷ l) (at_end sets n s h.1)

-- of ascending numbers those before one are below it
pub below : (ns ms : List ℕ) (n : ℕ) → IsStrictlySortedBy nat_cmp (ns ++ n ∷ ms) → AllByRecursion (λ k. k < n) ns
below [] ms n s = tt
below (k ∷ ns) ms n s = (of_last ns (sorted_head nat_cmp k (ns ++ n ∷ ms) s), below ns ms n (sorted_tail nat_cmp k (ns ++ n ∷ ms) s))
  where
    of_last : (xs : List ℕ) → AllByRecursion (λ y. nat_cmp k y ≡ Less) (xs ++ n ∷ ms) → k < n
    of_last [] h = let less = h.0 in grind (arith, less)
    of_last (x ∷ xs) h = of_last xs h.1

-- ---- what is copied and what is left are all

pub record Copies (all rest copy : List (ℕ × UnknownFieldSet)) : Type 0 where
  pub numbers : keys_of copy ++ keys_of rest ≡ keys_of all
  pub records : records_in copy ++ records_in rest ≡ records_in all
  pub grouped : AreGrouped copy
  pub still : AreGrouped rest

pub joined : (xs : List (ℕ × UnknownFieldSet)) (n : ℕ) (s : UnknownFieldSet) → records_in (xs ++ (n, s) ∷ []) ≡ records_in xs ++ set_records s
joined [] n s = append-nil (set_records s)
joined (x ∷ xs) n s = ap (λ l. set_records x.1 ++ l) (joined xs n s) ∙ sym (append_assoc (set_records x.1) (records_in xs) (set_records s))

grouped_end : (xs : List (ℕ × UnknownFieldSet)) (e : ℕ × UnknownFieldSet) → AreGrouped xs → AreGrouped (e ∷ []) → AreGrouped (xs ++ e ∷ [])
grouped_end [] e g h = h
grouped_end (x ∷ xs) e g h = (g.0, grouped_end xs e g.1 h)

pub copied_one : (all rest copy : List (ℕ × UnknownFieldSet)) (n : ℕ) (s t : UnknownFieldSet) → IsStrictlySortedBy nat_cmp (keys_of all) → set_view t ≡ set_view s
    → Copies all ((n, s) ∷ rest) copy → Copies all rest (insert_entry nat_cmp copy n t)
copied_one all rest copy n s t up view was =
    let lower : AllByRecursion (λ k. k < n) (keys_of copy) = below (keys_of copy) (keys_of rest) n (rw was.numbers up) in
    let end = at_end copy n t lower in
    let same = same_set t s view in
    record {
      numbers = ap (λ es. keys_of es ++ keys_of rest) end ∙ (ap (λ l. l ++ keys_of rest) (map-append (λ e. e.0) copy ((n, t) ∷ [])) ∙ (append_assoc (keys_of copy) (n ∷ []) (keys_of rest) ∙ was.numbers));
      records = ap (λ es. records_in es ++ records_in rest) end ∙ (ap (λ l. l ++ records_in rest) (joined copy n t) ∙ (append_assoc (records_in copy) (set_records t) (records_in rest) ∙ (ap (λ l. records_in copy ++ (l ++ records_in rest)) same ∙ was.records)));
      grouped = rw end (grouped_end copy (n, t) was.grouped (rw same was.still.0, tt));
      still = was.still.1;
    }
