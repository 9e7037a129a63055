-- The members of a oneof are the fields that name it.
use Rattle.std.proofs.Common.{◌≡◌, ℕ, zero, suc, ◌+◌, ◌<◌, List, [], ◌∷◌, Bool, true, false, cond, map, length, get_or, ap, ◌∙◌, arith, refl}
use Rattle.std.specs.List.{AllByRecursion, filter}
use Rattle.reflect_tables.specs.Types.{FieldType, MessageType, PoolType, ListsMembers, is_member, members_from, no_field, no_type, type_of_field}
use Rattle.reflect_pool.specs.Parts.{type_of_oneof, members_of}

-- the fields at the places of members, where the list goes on from a place of the whole
at_places : (k at : ℕ) (whole fs : List FieldType) → ((j : ℕ) → get_or whole (at + j) no_field ≡ get_or fs j no_field) → map (λ p. get_or whole p no_field) (members_from at k fs) ≡ filter (is_member k) fs
at_places k at whole [] same = refl
at_places k at whole (f ∷ fs) same = by (is_member k f) (at_places k (at + 1) whole fs next) where
  next : (j : ℕ) → get_or whole (at + 1 + j) no_field ≡ get_or fs j no_field
  next j = let e : at + 1 + j ≡ at + suc j = omega arith in ap (λ n. get_or whole n no_field) e ∙ same (suc j)

  here : get_or whole at no_field ≡ f
  here = let e : at ≡ at + zero = omega arith in ap (λ n. get_or whole n no_field) e ∙ same zero

  by : (b : Bool) → map (λ p. get_or whole p no_field) (members_from (at + 1) k fs) ≡ filter (is_member k) fs
      → map (λ p. get_or whole p no_field) (cond b (at ∷ members_from (at + 1) k fs) (members_from (at + 1) k fs)) ≡ cond b (f ∷ filter (is_member k) fs) (filter (is_member k) fs)
  by true e = λ i. here i ∷ e i
  by false e = e

listed_at : (xs : List MessageType) (i : ℕ) → AllByRecursion ListsMembers xs → i < length xs → ListsMembers (get_or xs i no_type)
listed_at [] i all lt = absurd (omega (arith, lt))
listed_at (x ∷ xs) zero all lt = all.0
listed_at (x ∷ xs) (suc i) all lt = listed_at xs i all.1 (omega (arith, lt))

pub members_are : (p : PoolType) (i k : ℕ) → AllByRecursion ListsMembers p.messages → i < length p.messages → k < length (get_or p.messages i no_type).oneofs → map (type_of_field p i) (type_of_oneof p i k).fields ≡ members_of p i k
members_are p i k all lt inner =
    let fs = (get_or p.messages i no_type).fields in
    let from : (j : ℕ) → get_or fs (0 + j) no_field ≡ get_or fs j no_field = λ j. let e : 0 + j ≡ j = omega arith in ap (λ n. get_or fs n no_field) e in
    ap (map (type_of_field p i)) (listed_at p.messages i all lt k inner) ∙ at_places k 0 fs fs from
