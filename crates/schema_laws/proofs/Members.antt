-- A field whose oneof tells no first member is in no oneof.
use Rattle.std.proofs.Common.{◌≡◌, ◌∙◌, ℕ, ◌==◌, Bool, true, false, true≢false, cond, List, [], ◌∷◌, Option, Some, None, unwrap_or, ap, refl, sym, arith}
use Rattle.std.specs.List.{filter, find}
use Rattle.std.specs.Option.{option_and_then}
use Rattle.message_view.specs.Types.{oneof_at}
use Rattle.reflect_entries.specs.Members.{first_number}
use Rattle.reflect_message.specs.Known.{numbered_field}
use Rattle.reflect_pool.specs.Parts.{members_of}
use Rattle.reflect_tables.specs.Types.{FieldType, PoolType, is_member, type_at}

-- what is found and kept is among what is kept, so that there is a first of these
has_first : (test keep : FieldType → Bool) (fs : List FieldType) (g : FieldType) → find test fs ≡ Some g → keep g ≡ true → first_number (filter keep fs) ≡ None → ⊥
has_first test keep [] g found kept none = cc found
has_first test keep (f ∷ fs) g found kept none = by (keep f) refl (test f) refl (has_first test keep fs g) where
  rest : (b : Bool) → keep f ≡ b → first_number (cond b (f ∷ filter keep fs) (filter keep fs)) ≡ None
  rest b is = sym (ap (λ b. first_number (cond b (f ∷ filter keep fs) (filter keep fs))) is) ∙ none

  left : (c : Bool) → test f ≡ c → cond c (Some f) (find test fs) ≡ Some g
  left c is = sym (ap (λ c. cond c (Some f) (find test fs)) is) ∙ found

  by : (b : Bool) → keep f ≡ b → (c : Bool) → test f ≡ c → (find test fs ≡ Some g → keep g ≡ true → first_number (filter keep fs) ≡ None → ⊥) → ⊥
  by true is c passed more = cc (rest true is)
  by false is true passed more =
      let same : f ≡ g = ap (λ o. unwrap_or o f) (left true passed) in
      true≢false (sym kept ∙ ap keep (sym same) ∙ is)
  by false is false passed more = more (left false passed) kept (rest false is)

-- the oneof of a field has a first member, so that a field of which none is told is in no oneof
pub in_no_oneof : (pool : PoolType) (i n : ℕ) (g : FieldType) → numbered_field pool i n ≡ Some g → oneof_at pool i g ≡ None → g.oneof ≡ None
in_no_oneof pool i n g is none = by g.oneof refl where
  by : (o : Option ℕ) → g.oneof ≡ o → g.oneof ≡ None
  by None e = e
  by (Some k) e =
      let self : (k == k) ≡ true = grind arith in
      let member : is_member k g ≡ true = ap (λ o. elim o [ None ↦ false | Some j ↦ k == j ]) e ∙ self in
      let no_first : first_number (members_of pool i k) ≡ None = sym (ap (option_and_then (λ k. first_number (members_of pool i k))) e) ∙ none in
      absurd (has_first (λ f. f.number == n) (is_member k) (type_at pool i).fields g is member no_first)
