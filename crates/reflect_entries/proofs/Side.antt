-- What stands under a number, of numbers and values side by side.
use Rattle.std.proofs.Common.{◌≡◌, ℕ, zero, suc, unwrap_or, ◌<◌, ◌≤◌, List, [], ◌∷◌, length, get_or, set, Some, None, refl, sym, ap, ◌∙◌, arith, nat_cmp}
use Rattle.std.proofs.lemmas.List.Edits.{get_or-insert_at, length-insert, length-remove}
use Rattle.std.proofs.lemmas.Slice.Zip.{get_or-zip, length-zip}
use Rattle.std.specs.List.{HoldsAt, zip, insert, remove}
use Rattle.std.specs.List.Sorted.{IsPartitionPoint, IsStrictlySortedBy}
use Rattle.reflect_entries.specs.Entries.{IsAscending, Updates, value_at}
use Rattle.reflect_entries.proofs.Places.{found, missing, put, taken, written, unchanged}
use Rattle.reflect_entries.proofs.Zips.{ascend_from, pairs_ascend, numbers_sorted, held_at, parted, zip-insert, zip-remove, zip-set}

any_value : {V : Type 0} (vs : List V) (i : ℕ) (d : V) → get_or vs i d ≡ get_or vs i (get_or vs i d)
any_value [] i d = refl
any_value (v ∷ vs) zero d = refl
any_value (v ∷ vs) (suc i) d = any_value vs i d

module _ {V : Type 0} (ks : List ℕ) (vs : List V) (e : length vs ≡ length ks) (up : IsStrictlySortedBy nat_cmp ks) (i n : ℕ) where
  pairs_up : IsAscending (zip ks vs)
  pairs_up = pairs_ascend ks vs e (ascend_from ks up)

  -- at the number's place
  module _ (lt : i < length ks) (at : HoldsAt (λ k. k ≡ n) ks i) where
    here : HoldsAt (λ p. p.0 ≡ n) (zip ks vs) i
    here = held_at ks vs i n e lt at

    short : i < length (zip ks vs)
    short = omega (arith, lt, length-zip ks vs, e)

    pub got : (v : V) → v ≡ get_or vs i v → value_at (zip ks vs) n ≡ Some v
    got v is = found (zip ks vs) i n short here pairs_up (n, v) (sym (get_or-zip ks vs i (n, v) lt (omega (arith, lt, e)) ∙ (ap (λ k. (k, get_or vs i v)) (at n) ∙ ap (λ w. (n, w)) (sym is))))

    -- what stands there stands there still
    pub stays : (default : V) → Updates (zip ks vs) (zip ks vs) n (Some (unwrap_or (value_at (zip ks vs) n) default))
    stays default =
        let is = got (get_or vs i default) (any_value vs i default) in
        record { here = is ∙ ap (λ o. Some (unwrap_or o default)) (sym is); others = λ q ne. refl; ascending = pairs_up }

    pub took : V → Updates (zip ks vs) (zip (remove ks i) (remove vs i)) n None
    took v = rw (zip-remove ks vs i e lt) (taken (zip ks vs) i n short here pairs_up (n, v))

    pub sorted_out : V → IsStrictlySortedBy nat_cmp (remove ks i)
    sorted_out v = numbers_sorted (remove ks i) (remove vs i) (omega (arith, e, lt, length-remove ks i lt, length-remove vs i (omega (arith, e, lt)))) (took v).ascending v

    pub put_over : (v : V) → Updates (zip ks vs) (zip ks (set vs i v)) n (Some v)
    put_over v = rw (zip-set ks vs i n v e lt, at n) (written (zip ks vs) i n short here pairs_up n v refl)

  -- at the place where the number would stand
  module _ (le : i ≤ length ks) (p : IsPartitionPoint (λ k. k < n) (λ k. n < k) ks i) where
    long : i ≤ length (zip ks vs)
    long = omega (arith, le, length-zip ks vs, e)

    apart : IsPartitionPoint (λ p. p.0 < n) (λ p. n < p.0) (zip ks vs) i
    apart = parted ks vs i n e le p

    pub not_got : value_at (zip ks vs) n ≡ None
    not_got = missing (zip ks vs) i n long apart

    pub left : Updates (zip ks vs) (zip ks vs) n None
    left = unchanged (zip ks vs) i n long apart pairs_up

    pub put_in : (v : V) → Updates (zip ks vs) (zip (insert ks i n) (insert vs i v)) n (Some v)
    put_in v = rw (zip-insert ks vs i n v e le) (put (zip ks vs) i n long apart v pairs_up)

    pub put_default : (v : V) → Updates (zip ks vs) (zip (insert ks i n) (insert vs i v)) n (Some (unwrap_or (value_at (zip ks vs) n) v))
    put_default v = rw not_got (put_in v)

    pub there_now : (v : V) → (i < length (zip (insert ks i n) (insert vs i v))) × HoldsAt (λ p. p.0 ≡ n) (zip (insert ks i n) (insert vs i v)) i
    there_now v =
        let more = length-insert ks i n le in
        let as_many : length (insert vs i v) ≡ length (insert ks i n) = omega (arith, e, more, length-insert vs i v (omega (arith, e, le))) in
        let lt : i < length (insert ks i n) = omega (arith, le, more) in
        (omega (arith, lt, length-zip (insert ks i n) (insert vs i v), as_many), held_at (insert ks i n) (insert vs i v) i n as_many lt (λ d. get_or-insert_at ks i n d le))

    pub sorted_in : V → IsStrictlySortedBy nat_cmp (insert ks i n)
    sorted_in v = numbers_sorted (insert ks i n) (insert vs i v) (omega (arith, e, length-insert ks i n le, length-insert vs i v (omega (arith, e, le)))) (put_in v).ascending v
