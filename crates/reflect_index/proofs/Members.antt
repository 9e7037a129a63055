-- The members of oneofs, as their lists grow.
use Rattle.std.proofs.Common.{◌≡◌, ◌==◌, ℕ, zero, suc, ◌+◌, ◌<◌, List, [], ◌∷◌, ◌++◌, Bool, true, false, cond, None, Some, map, length, get_or, ap, sym, subst, ◌∙◌, arith, refl}
use Rattle.std.proofs.Math.ListN.{set, length-map}
use Rattle.std.proofs.lemmas.List.{append-nil, get_or-set_other, length-set}
use Rattle.std.proofs.lemmas.Grind.{get_or-set_at}
use Rattle.reflect_index.specs.Members.{Joins, oneof_members}
use Rattle.reflect_tables.specs.Types.{FieldType, OneofType, AreListed, is_member, members_from, no_oneof}
use Rattle.reflect_tables.specs.Views.{oneof_of}
use Rattle.reflect_tables.specs.declared.stored.StoredOneof.{StoredOneof}

-- a field that is a member of no oneof that is there
pub joins_none : (f : FieldType) (place : ℕ) (os : List OneofType) → ((k : ℕ) → k < length os → is_member k f ≡ false) → Joins f place os os
joins_none f place os out = record {
  count = refl;
  lists = λ k lt. sym (append-nil (get_or os k no_oneof).fields) ∙ ap (λ b. (get_or os k no_oneof).fields ++ cond b (place ∷ []) []) (sym (out k lt));
}

pub joins_one : (f : FieldType) (place i : ℕ) (os : List OneofType) (o : OneofType) → f.oneof ≡ Some i → i < length os → o.fields ≡ (get_or os i no_oneof).fields ++ place ∷ [] → Joins f place os (set os i o)
joins_one f place i os o is inside more = record { count = length-set os i o; lists = λ k lt. by k (k == i) refl } where
  member : (k : ℕ) → is_member k f ≡ (k == i)
  member k = ap (λ p. elim p [ None ↦ false | Some j ↦ k == j ]) is

  by : (k : ℕ) (b : Bool) → (k == i) ≡ b → (get_or (set os i o) k no_oneof).fields ≡ (get_or os k no_oneof).fields ++ cond (is_member k f) (place ∷ []) []
  by k true same =
      let e : k ≡ i = grind (arith, same) in
      ap (λ (x : OneofType). x.fields) (get_or-set_at os i k o no_oneof e inside) ∙ more ∙ ap (λ n. (get_or os n no_oneof).fields ++ place ∷ []) (sym e)
      ∙ ap (λ b. (get_or os k no_oneof).fields ++ cond b (place ∷ []) []) (sym (member k ∙ same))
  by k false other =
      let apart : k ≡ i → ⊥ = λ e. absurd (grind (arith, other, e)) in
      ap (λ (x : OneofType). x.fields) (get_or-set_other os i k o no_oneof apart) ∙ sym (append-nil (get_or os k no_oneof).fields)
      ∙ ap (λ b. (get_or os k no_oneof).fields ++ cond b (place ∷ []) []) (sym (member k ∙ other))

members_push : (place k : ℕ) (fs : List FieldType) (f : FieldType) → members_from place k (fs ++ f ∷ []) ≡ members_from place k fs ++ cond (is_member k f) ((place + length fs) ∷ []) []
members_push place k [] f = let e : place ≡ place + length {A = FieldType} [] = omega arith in ap (λ n. cond (is_member k f) (n ∷ []) []) e
members_push place k (g ∷ fs) f = by (is_member k g) (members_push (place + 1) k fs f) where
  shift : members_from (place + 1) k fs ++ cond (is_member k f) ((place + 1 + length fs) ∷ []) [] ≡ members_from (place + 1) k fs ++ cond (is_member k f) ((place + length (g ∷ fs)) ∷ []) []
  shift = let e : place + 1 + length fs ≡ place + length (g ∷ fs) = omega arith in ap (λ n. members_from (place + 1) k fs ++ cond (is_member k f) (n ∷ []) []) e

  by : (b : Bool) → members_from (place + 1) k (fs ++ f ∷ []) ≡ members_from (place + 1) k fs ++ cond (is_member k f) ((place + 1 + length fs) ∷ []) []
      → cond b (place ∷ members_from (place + 1) k (fs ++ f ∷ [])) (members_from (place + 1) k (fs ++ f ∷ [])) ≡ cond b (place ∷ members_from (place + 1) k fs) (members_from (place + 1) k fs) ++ cond (is_member k f) ((place + length (g ∷ fs)) ∷ []) []
  by true e = ap (λ l. place ∷ l) (e ∙ shift)
  by false e = e ∙ shift

pub listed_more : (os now : List OneofType) (fs : List FieldType) (f : FieldType) (at : ℕ) → at ≡ length fs → AreListed os fs → Joins f at os now → AreListed now (fs ++ f ∷ [])
listed_more os now fs f at is are j = λ k lt.
    let old : k < length os = omega (arith, lt, j.count) in
    let place : 0 + length fs ≡ at = omega (arith, is) in
    j.lists k old ∙ ap (λ l. l ++ cond (is_member k f) (at ∷ []) []) (are k old)
    ∙ sym (members_push 0 k fs f ∙ ap (λ n. members_from 0 k fs ++ cond (is_member k f) (n ∷ []) []) place)

pub emptied : (os : List OneofType) (p : ℕ) (o : OneofType) → p < length os → o.fields ≡ [] → ((j : ℕ) → j < p → (get_or os j no_oneof).fields ≡ []) → (k : ℕ) → k < p + 1 → (get_or (set os p o) k no_oneof).fields ≡ []
emptied os p o inside none before k lt = by (k == p) refl where
  by : (b : Bool) → (k == p) ≡ b → (get_or (set os p o) k no_oneof).fields ≡ []
  by true same = let e : k ≡ p = grind (arith, same) in ap (λ (x : OneofType). x.fields) (get_or-set_at os p k o no_oneof e inside) ∙ none
  by false other =
      let apart : k ≡ p → ⊥ = λ e. absurd (grind (arith, other, e)) in
      let low : k < p = grind (arith, other, lt) in
      ap (λ (x : OneofType). x.fields) (get_or-set_other os p k o no_oneof apart) ∙ before k low

-- what holds of each up to a place holds of one more
pub all_set : {X : Type 0} (P : X → Type 0) (xs : List X) (p : ℕ) (x : X) → p < length xs → P x → ((k : ℕ) (d : X) → k < p → P (get_or xs k d)) → (k : ℕ) (d : X) → k < p + 1 → P (get_or (set xs p x) k d)
all_set {X} P xs p x inside here before k d lt = by (k == p) refl where
  by : (b : Bool) → (k == p) ≡ b → P (get_or (set xs p x) k d)
  by true same = let e : k ≡ p = grind (arith, same) in subst P (sym (get_or-set_at xs p k x d e inside)) here
  by false other =
      let apart : k ≡ p → ⊥ = λ e. absurd (grind (arith, other, e)) in
      let low : k < p = grind (arith, other, lt) in
      subst P (sym (get_or-set_other xs p k x d apart)) (before k d low)

members_at : (os : List StoredOneof) (k : ℕ) → (get_or (map oneof_of os) k no_oneof).fields ≡ get_or (map oneof_members os) k []
members_at [] k = refl
members_at (o ∷ os) zero = refl
members_at (o ∷ os) (suc k) = members_at os k

-- oneofs with the same members list them
pub listed_same : (os ns : List StoredOneof) (fs : List FieldType) → map oneof_members ns ≡ map oneof_members os → AreListed (map oneof_of os) fs → AreListed (map oneof_of ns) fs
listed_same os ns fs same are = λ k lt.
    let long : length (map oneof_of ns) ≡ length (map oneof_of os) = length-map ns oneof_of ∙ sym (length-map ns oneof_members) ∙ ap length same ∙ length-map os oneof_members ∙ sym (length-map os oneof_of) in
    members_at ns k ∙ ap (λ l. get_or l k []) same ∙ sym (members_at os k) ∙ are k (omega (arith, lt, long))
