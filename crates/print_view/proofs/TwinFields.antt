-- What the same records leave twice in messages of one type, where nothing stood, is alike under each number.
use Rattle.std.proofs.Common.{◌≡◌, ◌⊎◌, inl, inr, ◌≤◌, ℕ, ◌==◌, ◌++◌, Bool, true, false, cond, List, [], ◌∷◌, Option, Some, None, refl, sym, ap, ◌∙◌, subst, arith}
use Rattle.std.specs.List.{AllByRecursion}
use Rattle.protobuf_model.proofs.Lists.{all_map}
use Rattle.reflect_tables.specs.Types.{FieldType, PoolType}
use Rattle.reflect_wire.specs.Records.{Payload}
use Rattle.reflect_pool.specs.FieldsLeft.{field_type}
use Rattle.reflect_pool.specs.Shapes.{is_repeated}
use Rattle.reflect_pool.specs.declared.extension.ExtensionDescriptor.{ExtensionDescriptor}
use Rattle.reflect_pool.specs.declared.field.FieldDescriptor.{FieldDescriptor}
use Rattle.reflect_pool.specs.declared.message.MessageDescriptor.{MessageDescriptor}
use Rattle.reflect_entries.specs.Entries.{value_at}
use Rattle.reflect_scalar.specs.FieldTypes.{extension_type}
use Rattle.reflect_message.specs.Contents.{Content, nothing}
use Rattle.reflect_message.specs.Declares.{Owns, OwnsExtension}
use Rattle.reflect_message.specs.Known.{holds_floats, known_extension, known_field}
use Rattle.reflect_message.specs.Names.{Value}
use Rattle.reflect_message.specs.Oneofs.{IsSibling}
use Rattle.reflect_decode.specs.Fields.{LeavesField, NoSibling}
use Rattle.reflect_decode.specs.Keeps.{numbered, payloads}
use Rattle.reflect_decode.specs.Messages.{Takes}
use Rattle.reflect_decode.specs.Ordered.{Ascend, last}
use Rattle.reflect_decode.specs.Taking.{Leaves}
use Rattle.print_parts.specs.Pairwise.{Pairwise}
use Rattle.message_view.proofs.Fields.{by_number, extension_whole, known, known_extension_is, none_owned, not_declared, owned_whole}
use Rattle.valid_view.proofs.Behind.{LeftBehind}
use Rattle.print_view.proofs.Alike.{FieldAlike, Likeness}
use Rattle.print_view.proofs.OneOrder.{sorted_each}
use Rattle.print_view.proofs.Sorting.{Rises}

-- ---- the last record of another member of a oneof
read_there : (n : ℕ) (before behind : List (ℕ × Payload)) (r : ℕ × Payload) → r.0 ≡ n → numbered n (before ++ r ∷ behind) ≡ [] → ⊥
read_there n [] behind r same none = by (r.0 == n) refl none where
  by : (b : Bool) → (r.0 == n) ≡ b → cond b (r ∷ numbered n behind) (numbered n behind) ≡ [] → ⊥
  by true is h = cc h
  by false is h = grind (arith, is, same)
read_there n (b ∷ before) behind r same none = by (read_there n before behind r same) (b.0 == n) none where
  by : (numbered n (before ++ r ∷ behind) ≡ [] → ⊥) → (t : Bool) → cond t (b ∷ numbered n (before ++ r ∷ behind)) (numbered n (before ++ r ∷ behind)) ≡ [] → ⊥
  by later true h = cc h
  by later false h = later h

module _ (d : MessageDescriptor) (f : FieldDescriptor) where
  one_behind : (before lead behind after : List (ℕ × Payload)) (r q : ℕ × Payload) → before ++ r ∷ behind ≡ lead ++ q ∷ after → IsSibling d f r.0 → NoSibling d f behind → IsSibling d f q.0 → NoSibling d f after → behind ≡ after
  one_behind [] [] behind after r q e first free second none = cc e
  one_behind [] (x ∷ lead) behind after r q e first free second none =
      let tails : behind ≡ lead ++ q ∷ after = cc e in
      absurd (read_there q.0 lead after q refl (ap (numbered q.0) (sym tails) ∙ free q.0 second))
  one_behind (x ∷ before) [] behind after r q e first free second none =
      let tails : before ++ r ∷ behind ≡ after = cc e in
      absurd (read_there r.0 before behind r refl (ap (numbered r.0) tails ∙ none r.0 first))
  one_behind (x ∷ before) (y ∷ lead) behind after r q e first free second none =
      let tails : before ++ r ∷ behind ≡ lead ++ q ∷ after = cc e in
      one_behind before lead behind after r q tails first free second none

-- ---- records in order, of which those of each number are the same
ascends : (low high : ℕ) (rs : List (ℕ × Payload)) → Ascend low high rs → AllByRecursion (λ (r : ℕ × Payload). low ≤ r.0) rs × Rises (λ (r : ℕ × Payload). r.0) rs
ascends low high [] up = (tt, tt)
ascends low high (r ∷ rs) up =
    let rest = ascends r.0 high rs up.1 in
    let first = up.0 in
    ((first, all_map (λ (q : ℕ × Payload). r.0 ≤ q.0) (λ (q : ℕ × Payload). low ≤ q.0) rs (λ q le. omega (arith, first, le)) rest.0), (rest.0, rest.1))

abbrev IsSame : ℕ × Payload → ℕ × Payload → Type 0
IsSame r q = r ≡ q

each_same : (rs qs : List (ℕ × Payload)) → rs ≡ qs → Pairwise IsSame rs qs
each_same rs qs same = subst (Pairwise IsSame rs) same (itself rs) where
  itself : (rs : List (ℕ × Payload)) → Pairwise IsSame rs rs
  itself [] = refl
  itself (r ∷ rs) = (r, rs, refl, itself rs, refl)

all_same : (rs qs : List (ℕ × Payload)) → Pairwise IsSame rs qs → rs ≡ qs
all_same [] qs none = sym none
all_same (r ∷ rs) qs (q, rest, one, more, is) = ap (λ x. x ∷ rs) one ∙ ap (λ l. q ∷ l) (all_same rs rest more) ∙ sym is

one_list : (rs qs : List (ℕ × Payload)) → Ascend 1 last rs → Ascend 1 last qs → ((n : ℕ) → numbered n rs ≡ numbered n qs) → rs ≡ qs
one_list rs qs up over each =
    all_same rs qs (sorted_each (λ (r : ℕ × Payload). r.0) IsSame (λ r q same. ap (λ (r : ℕ × Payload). r.0) same) rs qs (ascends 1 last rs up).1 (ascends 1 last qs over).1
    (λ n. each_same (numbered n rs) (numbered n qs) (each n)))

-- ---- contents that the same records leave, where what they leave of each field is alike
module _ (takes : Takes) (A : Likeness) (d : MessageDescriptor)
    (leaves : (f : FieldType) → holds_floats d.pool.now f ≡ false → ((is_repeated f.cardinality ≡ true) → f.presence ≡ false) → (o q : Option Value) (ps : List Payload) → Leaves takes d.pool.now f None o ps → Leaves takes d.pool.now f None q ps → FieldAlike A d.pool.now f o q)
    (unset : (k : ℕ) (f : FieldType) → (known_field d.pool.now d.index k ≡ Some f) ⊎ (known_extension d.pool.now d.index k ≡ Some f) → is_repeated f.cardinality ≡ true → f.presence ≡ false)
    (c e : Content) (rs : List (ℕ × Payload)) (one : LeftBehind takes d nothing c rs) (other : LeftBehind takes d nothing e rs) where
  abbrev pool : PoolType
  pool = d.pool.now

  abbrev i : ℕ
  i = d.index

  abbrev Its : FieldType → Option Value → Option Value → Type 0
  Its f o q = FieldAlike A d.pool.now f o q

  pub field_twins : (k : ℕ) (f : FieldType) → known_field pool i k ≡ Some f → Its f (value_at c.fields k) (value_at e.fields k)
  field_twins k f is = subst (λ t. Its t (value_at c.fields k) (value_at e.fields k)) g.2 (subst (λ n. Its (field_type g.0) (value_at c.fields n) (value_at e.fields n)) number (by (one.fields g.0 g.1) (other.fields g.0 g.1))) where
    g : (f' : FieldDescriptor) × Owns d f' × (field_type f' ≡ f) × (f.number ≡ k)
    g = known d k f is

    number : (field_type g.0).number ≡ k
    number = ap (λ (t : FieldType). t.number) g.2 ∙ g.3

    n : ℕ
    n = (field_type g.0).number

    left : (o q : Option Value) (ps : List Payload) → Leaves takes g.0.message.pool.now (field_type g.0) None o ps → Leaves takes g.0.message.pool.now (field_type g.0) None q ps → Its (field_type g.0) o q
    left o q ps a b =
        leaves (field_type g.0) (owned_whole d g.0 g.1) (subst (λ t. is_repeated t.cardinality ≡ true → t.presence ≡ false) (sym g.2) (unset k f (inl is))) o q ps
        (subst (λ p. Leaves takes p (field_type g.0) None o ps) g.1.0.1 a) (subst (λ p. Leaves takes p (field_type g.0) None q ps) g.1.0.1 b)

    by : LeavesField takes d g.0 None (value_at c.fields n) rs → LeavesField takes d g.0 None (value_at e.fields n) rs → Its (field_type g.0) (value_at c.fields n) (value_at e.fields n)
    by (inl a) (inl b) = left (value_at c.fields n) (value_at e.fields n) (payloads n rs) a.1 b.1
    by (inl a) (inr (before, behind, r, is, sibling, free, b)) = absurd (read_there r.0 before behind r refl (ap (numbered r.0) (sym is) ∙ a.0 r.0 sibling))
    by (inr (before, behind, r, is, sibling, free, a)) (inl b) = absurd (read_there r.0 before behind r refl (ap (numbered r.0) (sym is) ∙ b.0 r.0 sibling))
    by (inr (before, behind, r, is, sibling, free, a)) (inr (lead, after, q, also, second, none, b)) =
        let same = one_behind d g.0 before lead behind after r q (sym is ∙ also) sibling free second none in
        left (value_at c.fields n) (value_at e.fields n) (payloads n after) (subst (λ l. Leaves takes g.0.message.pool.now (field_type g.0) None (value_at c.fields n) (payloads n l)) same a) b

  -- where nothing is left
  none_twins : (f : FieldType) → holds_floats pool f ≡ false → (is_repeated f.cardinality ≡ true → f.presence ≡ false) → (o q : Option Value) → o ≡ None → q ≡ None → Its f o q
  none_twins f whole lists o q first second = leaves f whole lists o q [] first second

  pub extension_twins : (k : ℕ) (f : FieldType) → known_extension pool i k ≡ Some f → Its f (value_at c.extensions k) (value_at e.extensions k)
  extension_twins k f is = by (known_field pool i k) refl where
    x : (y : ExtensionDescriptor) × OwnsExtension d y × (extension_type y ≡ f) × (f.number ≡ k)
    x = known_extension_is d k f is

    number : (extension_type x.0).number ≡ k
    number = ap (λ (t : FieldType). t.number) x.2 ∙ x.3

    whole : holds_floats pool f ≡ false
    whole = subst (λ t. holds_floats pool t ≡ false) x.2 (extension_whole d x.0 x.1)

    by : (o : Option FieldType) → known_field pool i k ≡ o → Its f (value_at c.extensions k) (value_at e.extensions k)
    by (Some g) there =
        let h = known d k g there in
        let same : (field_type h.0).number ≡ k = ap (λ (t : FieldType). t.number) h.2 ∙ h.3 in
        none_twins f whole (unset k f (inr is)) (value_at c.extensions k) (value_at e.extensions k)
        (ap (value_at c.extensions) (sym same) ∙ one.apart h.0 h.1) (ap (value_at e.extensions) (sym same) ∙ other.apart h.0 h.1)
    by None none =
        let free = none_owned d (extension_type x.0).number (ap (known_field pool i) number ∙ none) in
        let ps = payloads (extension_type x.0).number rs in
        let a = subst (λ p. Leaves takes p (extension_type x.0) None (value_at c.extensions (extension_type x.0).number) ps) x.1.0.0 (one.extensions x.0 x.1 free) in
        let b = subst (λ p. Leaves takes p (extension_type x.0) None (value_at e.extensions (extension_type x.0).number) ps) x.1.0.0 (other.extensions x.0 x.1 free) in
        let lists = subst (λ t. is_repeated t.cardinality ≡ true → t.presence ≡ false) (sym x.2) (unset k f (inr is)) in
        subst (λ t. Its t (value_at c.extensions k) (value_at e.extensions k)) x.2
        (subst (λ n. Its (extension_type x.0) (value_at c.extensions n) (value_at e.extensions n)) number
        (leaves (extension_type x.0) (extension_whole d x.0 x.1) lists (value_at c.extensions (extension_type x.0).number) (value_at e.extensions (extension_type x.0).number) ps a b))

  -- where no field has the number nothing stands
  pub unowned_twins : (k : ℕ) → known_field pool i k ≡ None → (value_at c.fields k ≡ None) × (value_at e.fields k ≡ None)
  unowned_twins k none = (one.unowned k (none_owned d k none) refl, other.unowned k (none_owned d k none) refl)

  -- the records that are kept
  abbrev Kept : ℕ → Type 0
  Kept n = numbered n c.unknown ≡ numbered n e.unknown

  kept_twins : (n : ℕ) → Kept n
  kept_twins = by_number d Kept
      (λ f owns. let is = inl (f, owns, refl) in one.unknown.declared (field_type f).number is ∙ sym (other.unknown.declared (field_type f).number is))
      (λ x owns none. let is = inr (x, owns, refl) in one.unknown.declared (extension_type x).number is ∙ sym (other.unknown.declared (extension_type x).number is))
      (λ n none also. one.unknown.behind n (not_declared d n none also) ∙ sym (other.unknown.behind n (not_declared d n none also)))

  pub unknown_twins : c.unknown ≡ e.unknown
  unknown_twins = one_list c.unknown e.unknown one.ordered.unknown other.ordered.unknown kept_twins
