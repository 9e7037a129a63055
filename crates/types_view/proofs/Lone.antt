-- Oneofs that have one member.
use Rattle.std.proofs.Common.{◌≡◌, ◌∙◌, inl, inr, ◌+◌, ◌<◌, ◌&&◌, ◌==◌, ℕ, zero, suc, Bool, true, false, cond, List, [], ◌∷◌, Option, Some, None, length, map, slice_get, slice_index_or, ap, sym, subst, refl, arith}
use Rattle.std.specs.List.{filter}
use Rattle.reflect_index.specs.Members.{IsMarked, MarksOneofs, is_lone, is_optional}
use Rattle.reflect_index.proofs.Among.{Among, index_is}
use Rattle.reflect_tables.specs.Types.{FieldType, ListsMembers, OneofType, is_member, members_from, no_oneof}
use Rattle.reflect_tables.specs.Views.{field_of, message_of, oneof_of}
use Rattle.reflect_tables.specs.declared.stored.StoredField.{StoredField}
use Rattle.reflect_tables.specs.declared.stored.StoredMessage.{StoredMessage}
use Rattle.reflect_tables.specs.declared.stored.StoredOneof.{StoredOneof}
use Rattle.linked_view.proofs.Places.{index_map}

-- ---- members by their places

-- a member's place is among them
place_among : (p k j : ℕ) (es : List FieldType) (e : FieldType) → slice_get es j ≡ Some e
    → is_member k e ≡ true → Among (p + j) (members_from p k es)
place_among p k j [] e at is = absurd (cc at)
place_among p k zero (f ∷ es) e at is =
    let same : f ≡ e = cc at in
    let here : p ≡ p + 0 = omega arith in
    let more = members_from (p + 1) k es in
    subst (λ b. Among (p + 0) (cond b (p ∷ more) more)) (sym (ap (is_member k) same ∙ is)) (inl here)
place_among p k (suc j) (f ∷ es) e at is =
    by (is_member k f) (place_among (p + 1) k j es e at is) where
      more : List ℕ
      more = members_from (p + 1) k es

      place : p + 1 + j ≡ p + suc j
      place = omega arith

      by : (b : Bool) → Among (p + 1 + j) more → Among (p + suc j) (cond b (p ∷ more) more)
      by true h = inr (subst (λ n. Among n more) place h)
      by false h = subst (λ n. Among n more) place h

as_many : (p k : ℕ) (es : List FieldType)
    → length (members_from p k es) ≡ length (filter (is_member k) es)
as_many p k [] = refl
as_many p k (e ∷ es) = by (is_member k e) (as_many (p + 1) k es) where
  by : (b : Bool) → length (members_from (p + 1) k es) ≡ length (filter (is_member k) es)
      → length (cond b (p ∷ members_from (p + 1) k es) (members_from (p + 1) k es))
      ≡ length (cond b (e ∷ filter (is_member k) es) (filter (is_member k) es))
  by true h = ap suc h
  by false h = h

-- ---- the only member

and_true : (b : Bool) → b ≡ (b && true)
and_true true = refl
and_true false = refl

and_false : (b : Bool) → false ≡ (b && false)
and_false true = refl
and_false false = refl

lone_is : (fs : List StoredField) (ps : List ℕ) (j : ℕ) (s : StoredField) → slice_get fs j ≡ Some s
    → Among j ps → is_lone fs ps ≡ (s.is_proto3_optional && (length ps == 1))
lone_is fs [] j s at h = absurd h
lone_is fs (q ∷ []) j s at (inl same) =
    let one : (length (q ∷ []) == 1) ≡ true = grind arith in
    ap is_optional (ap (slice_get fs) same ∙ at)
    ∙ and_true s.is_proto3_optional
    ∙ sym (ap (λ b. s.is_proto3_optional && b) one)
lone_is fs (q ∷ []) j s at (inr h) = absurd h
lone_is fs (q ∷ r ∷ ps) j s at h =
    let more : (length (q ∷ r ∷ ps) == 1) ≡ false = grind arith in
    and_false s.is_proto3_optional ∙ sym (ap (λ b. s.is_proto3_optional && b) more)

-- ---- of a message

there_at : {X : Type 0} (xs : List X) (k : ℕ) → k < length xs
    → (x : X) × (slice_get xs k ≡ Some x)
there_at [] k lt = absurd (omega (arith, lt))
there_at (x ∷ xs) zero lt = (x, refl)
there_at (x ∷ xs) (suc k) lt = there_at xs k (omega (arith, lt))

member_is : (k : ℕ) (e : FieldType) → e.oneof ≡ Some k → is_member k e ≡ true
member_is k e is =
    let same : (k == k) ≡ true = grind arith in
    ap (λ (o : Option ℕ). elim o as (λ _. Bool) [ None ↦ false | Some j ↦ k == j ]) is ∙ same

as_long : (os : List StoredOneof) → length (map oneof_of os) ≡ length os
as_long [] = refl
as_long (o ∷ os) = ap suc (as_long os)

-- the oneof that a field is in is called synthetic where the field is the only member, and was
-- declared `optional`
pub marked : (y : StoredMessage) (j k : ℕ) (s : StoredField) → MarksOneofs y
    → ListsMembers (message_of y) → slice_get y.fields.list.items j ≡ Some s
    → slice_get (message_of y).fields j ≡ Some (field_of s) → (field_of s).oneof ≡ Some k
    → k < length (message_of y).oneofs
    → (slice_index_or (message_of y).oneofs k no_oneof).synthetic
    ≡ (s.is_proto3_optional && (length (filter (is_member k) (message_of y).fields) == 1))
marked y j k s marks lists at here is lt =
    let stored = y.oneofs.items in
    let fields = (message_of y).fields in
    let long = as_long stored in
    let low : k < length stored = omega (arith, lt, long) in
    let o = there_at stored k low in
    let oneof : slice_index_or (message_of y).oneofs k no_oneof ≡ oneof_of o.0 =
    index_map oneof_of no_oneof stored k o.0 o.1 in
    let own : IsMarked y.fields.list.items o.0 =
    subst (IsMarked y.fields.list.items) (index_is stored k o.0 o.0 o.1) (marks k o.0 low) in
    let places : o.0.fields.items ≡ members_from 0 k fields =
    sym (ap (λ (x : OneofType). x.fields) oneof) ∙ lists k lt in
    let behind : 0 + j ≡ j = omega arith in
    let among : Among j (members_from 0 k fields) =
    subst (λ n. Among n (members_from 0 k fields)) behind
    (place_among 0 k j fields (field_of s) here (member_is k (field_of s) is)) in
    ap (λ (x : OneofType). x.synthetic) oneof
    ∙ own
    ∙ ap (is_lone y.fields.list.items) places
    ∙ lone_is y.fields.list.items (members_from 0 k fields) j s at among
    ∙ ap (λ n. s.is_proto3_optional && (n == 1)) (as_many 0 k fields)
