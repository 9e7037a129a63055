-- Other members of a oneof, in the words of messages and in those of the model.
use Rattle.std.proofs.Common.{◌≡◌, ◌≢◌, inl, inr, ℕ, zero, suc, ◌<◌, ◌≤◌, ◌+◌, ◌-◌, ◌^◌, ◌==◌, ◌||◌, ◌&&◌, not, Bool, true, false, true≢false, cond, List, [], ◌∷◌, Option, Some, None, option_map, unwrap_or, refl, sym, ap, ◌∙◌, subst, arith}
use Rattle.std.specs.Prelude.{slice_index_or, length, All}
use Rattle.std.specs.List.{filter, list_any}
use Rattle.std.specs.Option.{option_and_then}
use Rattle.protobuf_model.specs.Bytes.{count_from, field_numbers}
use Rattle.protobuf_model.specs.Types.{oneof_of, same_oneof, rival}
use Rattle.protobuf_model.specs.Values.{absent}
use Rattle.reflect_tables.specs.Finding.{IsFirst}
use Rattle.reflect_tables.specs.Types.{PoolType, FieldType, type_at, type_of_field, no_field, is_member}
use Rattle.reflect_entries.specs.Entries.{value_at}
use Rattle.reflect_entries.specs.Members.{first_number, first_member_of}
use Rattle.reflect_pool.specs.FieldsLeft.{field_type}
use Rattle.reflect_pool.specs.Parts.{members_of}
use Rattle.reflect_pool.specs.Shapes.{is_entry, is_repeated, holds_list, holds_map}
use Rattle.reflect_pool.specs.declared.field.FieldDescriptor.{FieldDescriptor}
use Rattle.reflect_pool.specs.declared.message.MessageDescriptor.{MessageDescriptor}
use Rattle.reflect_scalar.specs.FieldTypes.{field_pool}
use Rattle.reflect_scalar.specs.Floats.{HoldsFloats}
use Rattle.reflect_numbered.specs.Called.{HasNumber, IsMeant, NoneMeant, TellsMeant}
use Rattle.reflect_message.specs.Declares.{Owns}
use Rattle.reflect_message.specs.Held.{fields_of}
use Rattle.reflect_message.specs.Known.{known_field}
use Rattle.reflect_message.specs.Oneofs.{IsSibling}
use Rattle.reflect_message.specs.Present.{is_held}
use Rattle.reflect_message.specs.Names.{DynamicMessage}
use Rattle.reflect_format.specs.Filled.{HasRival, IsAlone}
use Rattle.reflect_format.specs.declared.target.Target.TheVariants as targets
use Rattle.text_model.specs.Value.{is_set, has_rival}
use Rattle.message_view.specs.Types.{field_at}
use Rattle.message_view.specs.Views.{content_view, view}
use Rattle.message_view.proofs.Accepting.{not_float}
use Rattle.message_view.proofs.Fields.{its_place, owned, owned_whole}
use Rattle.message_view.proofs.Oneofs.{oneof_told, rival_is_sibling}
use Rattle.message_view.specs.Sound.{AreApart, IsSound}
use Rattle.text_view.specs.Holds.{HoldsKinds}
use Rattle.text_view.proofs.Owned.{under_target}
use Rattle.text_view.proofs.Puts.{is_number, number_is}
use Rattle.text_view.proofs.Set.{any_set, unset_absent}

member_is : (k : ℕ) (f : FieldType) → is_member k f ≡ true → f.oneof ≡ Some k
member_is k f e = by f.oneof e where
  by : (o : Option ℕ) → elim o [ None ↦ false | Some j ↦ k == j ] ≡ true → o ≡ Some k
  by None h = absurd (true≢false (sym h))
  by (Some j) h = let same : k ≡ j = grind (arith, h) in ap Some (sym same)

is_one : (k : ℕ) (f : FieldType) → f.oneof ≡ Some k → is_member k f ≡ true
is_one k f e = ap (λ o. elim o [ None ↦ false | Some j ↦ k == j ]) e ∙ number_is k k refl

-- a member stands among the fields
abbrev StandsIn : ℕ → List FieldType → FieldType → Type 0
StandsIn k fs x = (j : ℕ) × (j < length fs) × (slice_index_or fs j no_field ≡ x) × (x.oneof ≡ Some k)

member_at : (k : ℕ) (fs : List FieldType) (p : ℕ) (x : FieldType) → p < length (filter (is_member k) fs) → slice_index_or (filter (is_member k) fs) p x ≡ x → StandsIn k fs x
member_at k [] p x lt e = absurd (omega (arith, lt))
member_at k (f ∷ fs) p x lt e = by (is_member k f) refl p lt e (λ q less same. member_at k fs q x less same) where
  by : (b : Bool) → is_member k f ≡ b → (p : ℕ) → p < length (cond b (f ∷ filter (is_member k) fs) (filter (is_member k) fs))
      → slice_index_or (cond b (f ∷ filter (is_member k) fs) (filter (is_member k) fs)) p x ≡ x
      → ((q : ℕ) → q < length (filter (is_member k) fs) → slice_index_or (filter (is_member k) fs) q x ≡ x → StandsIn k fs x) → StandsIn k (f ∷ fs) x
  by true is zero lt e later = (0, omega arith, e, ap (λ (g : FieldType). g.oneof) (sym e) ∙ member_is k f is)
  by true is (suc q) lt e later = let r = later q (omega (arith, lt)) e in (suc r.0, omega (arith, r.1), r.2, r.3)
  by false is p lt e later = let r = later p lt e in (suc r.0, omega (arith, r.1), r.2, r.3)

-- and a field that is one among the members
abbrev IsAmong : ℕ → List FieldType → FieldType → Type 0
IsAmong k fs x = (p : ℕ) × (p < length (filter (is_member k) fs)) × ((d : FieldType) → slice_index_or (filter (is_member k) fs) p d ≡ x)

member_there : (k : ℕ) (fs : List FieldType) (j : ℕ) → j < length fs → (slice_index_or fs j no_field).oneof ≡ Some k → IsAmong k fs (slice_index_or fs j no_field)
member_there k [] j lt e = absurd (omega (arith, lt))
member_there k (f ∷ fs) j lt e = by (is_member k f) refl j lt e (λ i less of. member_there k fs i less of) where
  by : (b : Bool) → is_member k f ≡ b → (j : ℕ) → j < suc (length fs) → (slice_index_or (f ∷ fs) j no_field).oneof ≡ Some k
      → ((i : ℕ) → i < length fs → (slice_index_or fs i no_field).oneof ≡ Some k → IsAmong k fs (slice_index_or fs i no_field))
      → (p : ℕ) × (p < length (cond b (f ∷ filter (is_member k) fs) (filter (is_member k) fs)))
      × ((d : FieldType) → slice_index_or (cond b (f ∷ filter (is_member k) fs) (filter (is_member k) fs)) p d ≡ slice_index_or (f ∷ fs) j no_field)
  by true is zero lt of later = (0, omega arith, λ d. refl)
  by true is (suc j) lt of later = let r = later j (omega (arith, lt)) of in (suc r.0, omega (arith, r.1), λ d. r.2 d)
  by false is zero lt of later = absurd (true≢false (sym (is_one k f of) ∙ is))
  by false is (suc j) lt of later = let r = later j (omega (arith, lt)) of in (r.0, r.1, λ d. r.2 d)

-- so does the first of them
first_at : (k first : ℕ) (fs : List FieldType) → first_number (filter (is_member k) fs) ≡ Some first
    → (j : ℕ) × (j < length fs) × ((slice_index_or fs j no_field).number ≡ first) × ((slice_index_or fs j no_field).oneof ≡ Some k)
first_at k first [] e = absurd (cc e)
first_at k first (f ∷ fs) e = by (is_member k f) refl e (λ h. first_at k first fs h) where
  by : (b : Bool) → is_member k f ≡ b → first_number (cond b (f ∷ filter (is_member k) fs) (filter (is_member k) fs)) ≡ Some first
      → (first_number (filter (is_member k) fs) ≡ Some first → (j : ℕ) × (j < length fs) × ((slice_index_or fs j no_field).number ≡ first) × ((slice_index_or fs j no_field).oneof ≡ Some k))
      → (j : ℕ) × (j < suc (length fs)) × ((slice_index_or (f ∷ fs) j no_field).number ≡ first) × ((slice_index_or (f ∷ fs) j no_field).oneof ≡ Some k)
  by true is h later = (0, omega arith, ap (λ o. unwrap_or o f.number) h, member_is k f is)
  by false is h later = let r = later h in (suc r.0, omega (arith, r.1), r.2, r.3)

some_first : (ms : List FieldType) (p : ℕ) → p < length ms → (first : ℕ) × (first_number ms ≡ Some first)
some_first [] p lt = absurd (omega (arith, lt))
some_first (f ∷ ms) p lt = (f.number, refl)

-- oneofs of one first member are one
one_oneof : (pool : PoolType) → AreApart pool → (i a b first : ℕ) → first_number (members_of pool i a) ≡ Some first → first_number (members_of pool i b) ≡ Some first → a ≡ b
one_oneof pool apart i a b first e g =
    let x = first_at a first (type_at pool i).fields e in
    let y = first_at b first (type_at pool i).fields g in
    let same : x.0 ≡ y.0 = apart.fields i x.0 y.0 x.1 y.1 (x.2 ∙ sym y.2) in
    ap (λ o. unwrap_or o a) (sym x.3 ∙ ap (λ j. (type_of_field pool i j).oneof) same ∙ y.3)

never : (b : Bool) → (b && false) ≡ false
never true = refl
never false = refl

or_true : (b : Bool) → (b || true) ≡ true
or_true true = refl
or_true false = refl

-- a field that does not repeat holds one value
pub no_many : (pool : PoolType) (f : FieldType) → is_repeated f.cardinality ≡ false → (holds_map pool f ≡ false) × (holds_list pool f ≡ false)
no_many pool f e =
    (ap (λ b. is_entry pool f.kind && (b && not f.group)) e ∙ never (is_entry pool f.kind), ap (λ b. b && not (holds_map pool f)) e)

-- a number among those that there are
any_at : (test : ℕ → Bool) (q a k : ℕ) → a ≤ q → q < a + k → test q ≡ true → list_any test (count_from a k) ≡ true
any_at test q a zero le lt is = absurd (omega (arith, le, lt))
any_at test q a (suc k) le lt is = by (λ low high. any_at test q (suc a) k low high is) (a == q) refl where
  by : (suc a ≤ q → q < suc a + k → list_any test (count_from (suc a) k) ≡ true) → (b : Bool) → (a == q) ≡ b → (test a || list_any test (count_from (suc a) k)) ≡ true
  by later true e = ap (λ b. b || list_any test (count_from (suc a) k)) (ap test (is_number a q e) ∙ is)
  by later false e =
      let other : a ≢ q = λ same. true≢false (sym (number_is a q same) ∙ e) in
      ap (λ b. test a || b) (later (omega (arith, le, other)) (omega (arith, lt))) ∙ or_true (test a)

any_number : (test : ℕ → Bool) (q : ℕ) → 0 < q → q < 2 ^ 29 → test q ≡ true → list_any test field_numbers ≡ true
unfolding field_numbers
any_number test q low high is = any_at test q 1 (2 ^ 29 - 1) (omega (arith, low)) (omega (arith, high)) is

module _ (m : DynamicMessage) (sound : IsSound m.descriptor.pool.now) (kinds : HoldsKinds m) where
  abbrev pool : PoolType
  pool = m.descriptor.pool.now

  abbrev i : ℕ
  i = m.descriptor.index

  abbrev fields : List FieldType
  fields = (type_at m.descriptor.pool.now m.descriptor.index).fields

  members_here : (g : FieldDescriptor) → Owns m.descriptor g → (k : ℕ) → members_of g.message.pool.now g.message.index k ≡ members_of pool i k
  members_here g h k = ap (λ p. members_of p g.message.index k) h.0.1 ∙ ap (λ j. members_of pool j k) h.0.0

  oneof_here : (g : FieldDescriptor) → Owns m.descriptor g → first_member_of g ≡ option_and_then (λ k. first_number (members_of pool i k)) (field_type g).oneof
  oneof_here g h = ap (λ p. option_and_then (λ k. first_number (members_of p g.message.index k)) (field_type g).oneof) h.0.1 ∙ ap (λ j. option_and_then (λ k. first_number (members_of pool j k)) (field_type g).oneof) h.0.0

  some_of : (o : Option ℕ) (first : ℕ) → option_and_then (λ k. first_number (members_of pool i k)) o ≡ Some first → (k : ℕ) × (o ≡ Some k) × (first_number (members_of pool i k) ≡ Some first)
  some_of None first e = absurd (cc e)
  some_of (Some k) first e = (k, refl, e)

  -- two fields of one number are one
  same_field : (g h : FieldDescriptor) → Owns m.descriptor g → Owns m.descriptor h → (field_type g).number ≡ (field_type h).number → field_type g ≡ field_type h
  same_field g h a b e = ap (λ o. unwrap_or o (field_type g)) (sym (owned m.descriptor g a) ∙ ap (known_field pool i) e ∙ owned m.descriptor h b)

  -- a field that is meant by a number has its records
  meant_place : (q : ℕ) (g : FieldDescriptor) → IsMeant (HasNumber q) m.descriptor g → field_type g ≡ type_of_field pool i g.index
  meant_place q g h = ap (λ (d : MessageDescriptor). type_of_field d.pool.now d.index g.index) h.message

  meant_number : (q : ℕ) (g : FieldDescriptor) → IsMeant (HasNumber q) m.descriptor g → (field_type g).number ≡ q
  meant_number q g h = ap (λ (t : FieldType). t.number) (meant_place q g h) ∙ h.first.1.0 no_field

  meant_owns : (q : ℕ) (g : FieldDescriptor) → IsMeant (HasNumber q) m.descriptor g → Owns m.descriptor g
  meant_owns q g h = (
    (ap (λ (d : MessageDescriptor). d.index) h.message, ap (λ (d : MessageDescriptor). d.pool.now) h.message),
    subst (λ n. IsFirst (λ (t : FieldType). t.number ≡ n) fields (Some g.index)) (sym (meant_number q g h)) h.first,
    h.held,
  )

  -- and the other way round
  owns_meant : (q : ℕ) (g : FieldDescriptor) → Owns m.descriptor g → (field_type g).number ≡ q → NoneMeant (HasNumber q) m.descriptor → ⊥
  owns_meant q g h is none = none (record { message = m.descriptor; index = g.index; in_range = h.1.0 })
      (record {
        message = refl;
        first = subst (λ n. IsFirst (λ (t : FieldType). t.number ≡ n) fields (Some g.index)) is h.1;
        held = subst (λ t. HoldsFloats pool t → ⊥) (sym (its_place m.descriptor g h)) (subst (λ p. HoldsFloats p (field_type g) → ⊥) h.0.1 h.2);
      })

  -- whether a field is set is seen
  seen_set : (g : FieldDescriptor) → Owns m.descriptor g
      → is_held (field_pool g) (field_type g) (value_at (fields_of m) (field_type g).number) ≡ is_set (view m (field_type g).number)
  seen_set g h =
      let held = value_at (fields_of m) (field_type g).number in
      ap (λ p. is_held p (field_type g) held) h.0.1
      ∙ any_set pool (field_type g) (not_float pool (field_type g) (owned_whole m.descriptor g h))
      (sound.lists.unset i (field_type g).number (field_type g) (inl (owned m.descriptor g h))) held
      (kinds.fields (field_type g).number (field_type g) (owned m.descriptor g h))
      ∙ sym (ap is_set (under_target m.descriptor sound.apart (targets.Field g) h m refl))

  unset_seen : (g : FieldDescriptor) → Owns m.descriptor g
      → is_held (field_pool g) (field_type g) (value_at (fields_of m) (field_type g).number) ≡ false → view m (field_type g).number ≡ absent
  unset_seen g h e =
      let under = under_target m.descriptor sound.apart (targets.Field g) h m refl in
      under ∙ unset_absent pool (field_type g) (option_map content_view (value_at (fields_of m) (field_type g).number)) (sym (ap is_set under) ∙ sym (seen_set g h) ∙ e)

  module _ (f : FieldDescriptor) (owns : Owns m.descriptor f) where
    abbrev n : ℕ
    n = (field_type f).number

    -- where a field stands alone nothing is seen of other members
    pub alone_seen : IsAlone (targets.Field f) m → (q : ℕ) → rival (field_at pool i) n q ≡ true → view m q ≡ absent
    alone_seen alone q r = by told where
      sibling : IsSibling m.descriptor f q
      sibling = rival_is_sibling m.descriptor (field_at pool i) (λ n. refl) f owns q r

      g : FieldDescriptor
      g = sibling.1

      mine : (k : ℕ) × ((field_type f).oneof ≡ Some k) × (first_number (members_of pool i k) ≡ Some sibling.0)
      mine = some_of (field_type f).oneof sibling.0 (sym (oneof_here f owns) ∙ sibling.5)

      its : (k : ℕ) × ((field_type g).oneof ≡ Some k) × (first_number (members_of pool i k) ≡ Some sibling.0)
      its = some_of (field_type g).oneof sibling.0 (sym (oneof_here g sibling.2) ∙ sibling.6)

      shared : (field_type g).oneof ≡ Some mine.0
      shared = its.1 ∙ ap Some (one_oneof pool sound.apart i its.0 mine.0 sibling.0 its.2 mine.2)

      among : IsAmong mine.0 fields (type_of_field pool i g.index)
      among = member_there mine.0 fields g.index sibling.2.1.0 (ap (λ (t : FieldType). t.oneof) (its_place m.descriptor g sibling.2) ∙ shared)

      told : TellsMeant (HasNumber q) m false
      told =
          let all = subst (λ (ms : List FieldType). All (λ (t : FieldType). TellsMeant (HasNumber t.number) m false) ms) (members_here f owns mine.0) (alone mine.0 mine.1) in
          subst (λ k. TellsMeant (HasNumber k) m false) (ap (λ (t : FieldType). t.number) (among.2 no_field ∙ its_place m.descriptor g sibling.2) ∙ sibling.3) (all among.0 no_field among.1)

      by : TellsMeant (HasNumber q) m false → view m q ≡ absent
      by (inr h) = absurd (owns_meant q g sibling.2 sibling.3 h.0)
      by (inl h) =
          let its_own = meant_owns q h.0 h.1 in
          let number = meant_number q h.0 h.1 in
          let same : field_type h.0 ≡ field_type g = same_field h.0 g its_own sibling.2 (number ∙ sym sibling.3) in
          ap (view m) (sym number) ∙ unset_seen h.0 its_own (sym h.2)

    -- where another member is set that is seen, or that the field is itself
    pub rival_seen : HasRival (targets.Field f) m → (is_set (view m n) || has_rival (field_at pool i) n (view m)) ≡ true
    rival_seen (o, (of, of_one), (p, x, lt, at, told)) = by told where
      same_members : members_of o.message.pool.now o.message.index o.index ≡ members_of pool i o.index
      same_members = ap (λ (d : MessageDescriptor). members_of d.pool.now d.index o.index) of ∙ members_here f owns o.index

      there : (p < length (members_of pool i o.index)) × (slice_index_or (members_of pool i o.index) p x ≡ x)
      there = subst (λ (ms : List FieldType). (p < length ms) × (slice_index_or ms p x ≡ x)) same_members (lt, at)

      stands : StandsIn o.index fields x
      stands = member_at o.index fields p x there.0 there.1

      first : (a : ℕ) × (first_number (members_of pool i o.index) ≡ Some a)
      first = some_first (members_of pool i o.index) p there.0

      oneof_in : (g : FieldDescriptor) → Owns m.descriptor g → (field_type g).oneof ≡ Some o.index → oneof_of (field_at pool i (field_type g).number) ≡ Some first.0
      oneof_in g h e =
          oneof_told m.descriptor (field_at pool i) (λ n. refl) g h ∙ oneof_here g h
          ∙ ap (option_and_then (λ k. first_number (members_of pool i k))) e ∙ first.1

      seen : (q : ℕ) → is_set (view m q) ≡ true → 0 < q → q < 2 ^ 29 → oneof_of (field_at pool i q) ≡ Some first.0 → (b : Bool) → (q == n) ≡ b → (is_set (view m n) || has_rival (field_at pool i) n (view m)) ≡ true
      seen q set low high in_one true e = ap (λ b. b || has_rival (field_at pool i) n (view m)) (ap (λ k. is_set (view m k)) (sym (is_number q n e)) ∙ set)
      seen q set low high in_one false e =
          let one = oneof_in f owns of_one in
          let rivals : rival (field_at pool i) n q ≡ true =
          ap (λ b. not b && same_oneof (oneof_of (field_at pool i n)) (oneof_of (field_at pool i q))) e
          ∙ ap (λ a. same_oneof a (oneof_of (field_at pool i q))) one ∙ ap (same_oneof (Some first.0)) in_one ∙ number_is first.0 first.0 refl in
          let found : has_rival (field_at pool i) n (view m) ≡ true =
          ap (λ a. elim a [ None ↦ false | Some k ↦ list_any (λ q. rival (field_at pool i) n q && is_set (view m q)) field_numbers ]) one
          ∙ any_number (λ q. rival (field_at pool i) n q && is_set (view m q)) q low high (ap (λ b. b && is_set (view m q)) rivals ∙ set) in
          ap (λ b. is_set (view m n) || b) found ∙ or_true (is_set (view m n))

      by : TellsMeant (HasNumber x.number) m true → (is_set (view m n) || has_rival (field_at pool i) n (view m)) ≡ true
      by (inr h) = absurd (true≢false h.1)
      by (inl h) =
          let g = h.0 in
          let its_own = meant_owns x.number g h.1 in
          let number = meant_number x.number g h.1 in
          let place : g.index ≡ stands.0 =
          sound.apart.fields i g.index stands.0 its_own.1.0 stands.1
          (ap (λ (t : FieldType). t.number) (its_place m.descriptor g its_own) ∙ number ∙ ap (λ (t : FieldType). t.number) (sym stands.2)) in
          let same : field_type g ≡ x = sym (its_place m.descriptor g its_own) ∙ ap (type_of_field pool i) place ∙ stands.2 in
          let in_one : (field_type g).oneof ≡ Some o.index = ap (λ (t : FieldType). t.oneof) same ∙ stands.3 in
          let small = sound.numbers.fields i stands.0 stands.1 in
          seen x.number (ap (λ k. is_set (view m k)) (sym number) ∙ sym (h.2 ∙ seen_set g its_own))
          (subst (λ (t : FieldType). 0 < t.number) stands.2 small.0) (subst (λ (t : FieldType). t.number < 2 ^ 29) stands.2 small.1)
          (ap (λ k. oneof_of (field_at pool i k)) (sym number) ∙ oneof_in g its_own in_one) (x.number == n) refl
