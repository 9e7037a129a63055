-- What stands of oneofs when a field is set.
use Rattle.std.proofs.Common.{◌≡◌, ◌≢◌, ◌⊎◌, inl, inr, ℕ, ◌==◌, Bool, true, false, true≢false, cond, is_some, List, Option, None, Some, refl, sym, ap, ◌∙◌, subst, arith}
use Rattle.std.specs.Option.{IsSome, option_and_then}
use Rattle.reflect_pool.specs.FieldsLeft.{field_type}
use Rattle.reflect_pool.specs.Parts.{members_of}
use Rattle.reflect_pool.specs.declared.message.MessageDescriptor.{MessageDescriptor}
use Rattle.reflect_pool.specs.declared.field.FieldDescriptor.{FieldDescriptor}
use Rattle.reflect_entries.specs.Entries.{value_at}
use Rattle.reflect_entries.specs.Members.{other_than, first_number, first_member_of}
use Rattle.reflect_message.specs.Declares.{Owns}
use Rattle.reflect_message.specs.Oneofs.{IsSibling, AreChosen, MakesRoom, Changes, Chooses, Unsets, sibling}
use Rattle.reflect_message.specs.Names.{Value}
use Rattle.reflect_message.proofs.Owning.{same_first}

pub is_or_not : (o : Option ℕ) (n : ℕ) → (o ≡ Some n) ⊎ (o ≢ Some n)
is_or_not None n = inr (λ e. cc e)
is_or_not (Some k) n = by (k == n) refl where
  by : (b : Bool) → (k == n) ≡ b → (Some k ≡ Some n) ⊎ (Some k ≢ Some n)
  by true same = let is : k ≡ n = grind (arith, same) in inl (ap Some is)
  by false other = inr (λ e. let is : k ≡ n = cc in absurd (grind (arith, other, is)))

other_parts : (k : ℕ) (o : Option ℕ) (n : ℕ) → other_than k o ≡ Some n → (o ≡ Some n) × (n ≢ k)
other_parts k None n e = absurd (cc e)
other_parts k (Some i) n e = by (i == k) refl e where
  by : (b : Bool) → (i == k) ≡ b → cond b None (Some i) ≡ Some n → (Some i ≡ Some n) × (n ≢ k)
  by true same e = absurd (cc e)
  by false other e = let is : i ≡ n = cc in (e, λ same. absurd (grind (arith, other, is, same)))

module _ (f : FieldDescriptor) (choices : List (ℕ × ℕ)) (n : ℕ) where
  pub sibling_is : sibling f choices ≡ Some n → (first : ℕ) × (first_member_of f ≡ Some first) × (value_at choices first ≡ Some n) × (n ≢ (field_type f).number)
  sibling_is e = by (first_member_of f) refl e where
    by : (o : Option ℕ) → first_member_of f ≡ o → option_and_then (λ first. other_than (field_type f).number (value_at choices first)) o ≡ Some n
        → (first : ℕ) × (first_member_of f ≡ Some first) × (value_at choices first ≡ Some n) × (n ≢ (field_type f).number)
    by None is e = absurd (cc e)
    by (Some first) is e = let parts = other_parts (field_type f).number (value_at choices first) n e in (first, is, parts.0, parts.1)

  pub sibling_of : (first : ℕ) → first_member_of f ≡ Some first → value_at choices first ≡ Some n → n ≢ (field_type f).number → sibling f choices ≡ Some n
  sibling_of first member noted other =
      let apart : (n == (field_type f).number) ≡ false = grind (arith, other) in
      ap (option_and_then (λ first. other_than (field_type f).number (value_at choices first))) member ∙ ap (other_than (field_type f).number) noted ∙ ap (λ b. cond b None (Some n)) apart

  -- a field with siblings is in a oneof
  pub in_oneof : sibling f choices ≡ Some n → IsSome (field_type f).oneof
  in_oneof e = by (field_type f).oneof (sibling_is e).1 where
    by : (o : Option ℕ) → option_and_then (λ oneof. first_number (members_of f.message.pool.now f.message.index oneof)) o ≡ Some (sibling_is e).0 → IsSome o
    by None is = absurd (cc is)
    by (Some k) is = refl

pub makes_room : (f : FieldDescriptor) (old new : List (ℕ × ℕ)) → ((first : ℕ) → first_member_of f ≡ Some first → value_at old first ≡ None → value_at new first ≡ Some (field_type f).number)
    → ((first : ℕ) → IsSome (value_at old first) → value_at new first ≡ value_at old first) → ((first : ℕ) → first_member_of f ≢ Some first → value_at new first ≡ value_at old first) → MakesRoom f old new
makes_room f old new fresh stays others = λ first. by first (value_at old first) refl (is_or_not (first_member_of f) first) where
  by : (first : ℕ) (o : Option ℕ) → value_at old first ≡ o → (first_member_of f ≡ Some first) ⊎ (first_member_of f ≢ Some first)
      → (value_at new first ≡ value_at old first) ⊎ ((first_member_of f ≡ Some first) × (value_at old first ≡ None) × (value_at new first ≡ Some (field_type f).number))
  by first (Some k) some either = inl (stays first (ap is_some some))
  by first None none (inl is) = inr (is, none, fresh first is none)
  by first None none (inr not) = inl (others first not)

-- making room for a choice changes no sibling
pub room_keeps : (f : FieldDescriptor) (old new : List (ℕ × ℕ)) → MakesRoom f old new → sibling f new ≡ sibling f old
room_keeps f old new room = by (first_member_of f) where
  k : ℕ
  k = (field_type f).number

  within : (first : ℕ) → (value_at new first ≡ value_at old first) ⊎ ((first_member_of f ≡ Some first) × (value_at old first ≡ None) × (value_at new first ≡ Some k)) → other_than k (value_at new first) ≡ other_than k (value_at old first)
  within first (inl same) = ap (other_than k) same
  within first (inr (_, none, fresh)) =
      let same : (k == k) ≡ true = grind (arith) in
      ap (other_than k) fresh ∙ ap (λ b. cond b None (Some k)) same ∙ sym (ap (other_than k) none)

  by : (o : Option ℕ) → option_and_then (λ first. other_than k (value_at new first)) o ≡ option_and_then (λ first. other_than k (value_at old first)) o
  by None = refl
  by (Some first) = within first (room first)

-- room is made, and the field is noted
pub room_chosen : (f : FieldDescriptor) (a b c : List (ℕ × ℕ)) → MakesRoom f a b → Chooses f b c → Chooses f a c
room_chosen f a b c room h = record { noted = h.noted; others = λ first e. h.others first e ∙ by first e (room first) } where
  by : (first : ℕ) → first_member_of f ≢ Some first → (value_at b first ≡ value_at a first) ⊎ ((first_member_of f ≡ Some first) × (value_at a first ≡ None) × (value_at b first ≡ Some (field_type f).number)) → value_at b first ≡ value_at a first
  by first other (inl same) = same
  by first other (inr (is, _, _)) = absurd (other is)

-- where room is made for a field of the message, still one member at most of each oneof holds anything
pub room_exclusive : (m : MessageDescriptor) (g : FieldDescriptor) (a b : List (ℕ × ℕ)) (held : List (ℕ × Value)) → Owns m g → MakesRoom g a b → AreChosen m a held → AreChosen m b held
room_exclusive m g a b held owns room h = record { member = λ first n e. by first n e (room first); noted = λ f owned first is stands. within first f (h.noted f owned first is stands) (room first) } where
  by : (first n : ℕ) → value_at b first ≡ Some n → (value_at b first ≡ value_at a first) ⊎ ((first_member_of g ≡ Some first) × (value_at a first ≡ None) × (value_at b first ≡ Some (field_type g).number))
      → (k : FieldDescriptor) × Owns m k × ((field_type k).number ≡ n) × (first_member_of k ≡ Some first)
  by first n e (inl same) = h.member first n (sym same ∙ e)
  by first n e (inr (is, _, fresh)) = let same : (field_type g).number ≡ n = cc (e, fresh) in (g, owns, same, is)

  within : (first : ℕ) (f : FieldDescriptor) → value_at a first ≡ Some (field_type f).number → (value_at b first ≡ value_at a first) ⊎ ((first_member_of g ≡ Some first) × (value_at a first ≡ None) × (value_at b first ≡ Some (field_type g).number)) → value_at b first ≡ Some (field_type f).number
  within first f was (inl same) = same ∙ was
  within first f was (inr (_, none, _)) = absurd (cc (was, none))

-- the field's own value stays
pub own_stays : (g : FieldDescriptor) (choices : List (ℕ × ℕ)) (between after : List (ℕ × Value)) → Unsets g choices between after → value_at after (field_type g).number ≡ value_at between (field_type g).number
own_stays g choices between after h = h.others (field_type g).number (λ e. (sibling_is g choices (field_type g).number e).3 refl)

-- other values stay, and the noted sibling is unset
pub unsets_changes : (g : FieldDescriptor) (choices : List (ℕ × ℕ)) (before between after : List (ℕ × Value)) → ((k : ℕ) → k ≢ (field_type g).number → value_at between k ≡ value_at before k) → Unsets g choices between after → Changes g choices before after
unsets_changes g choices before between after put h = record { unset = h.unset; others = λ n e other. h.others n other ∙ put n e }

module _ (m : MessageDescriptor) (g : FieldDescriptor) (owns : Owns m g) (choices noted : List (ℕ × ℕ)) (before after : List (ℕ × Value)) (chosen : AreChosen m choices before) (chooses : Chooses g choices noted)
    (changes : Changes g choices before after) where
  -- what still stands under another number is no sibling, and stood before
  stood : (n : ℕ) → n ≢ (field_type g).number → IsSome (value_at after n) → (sibling g choices ≢ Some n) × IsSome (value_at before n)
  stood n other stands =
      let kept : sibling g choices ≢ Some n = λ e. true≢false (sym stands ∙ ap is_some (changes.unset n e)) in
      (kept, sym (ap is_some (changes.others n other kept)) ∙ stands)

  still_member : (first n : ℕ) → value_at noted first ≡ Some n → (h : FieldDescriptor) × Owns m h × ((field_type h).number ≡ n) × (first_member_of h ≡ Some first)
  still_member first n e = by (is_or_not (first_member_of g) first) where
    by : (first_member_of g ≡ Some first) ⊎ (first_member_of g ≢ Some first) → (h : FieldDescriptor) × Owns m h × ((field_type h).number ≡ n) × (first_member_of h ≡ Some first)
    by (inl is) = let same : (field_type g).number ≡ n = cc (chooses.noted first is, e) in (g, owns, same, is)
    by (inr not) = chosen.member first n (sym (chooses.others first not) ∙ e)

  still_noted : (f : FieldDescriptor) → Owns m f → (first : ℕ) → first_member_of f ≡ Some first → IsSome (value_at after (field_type f).number) → value_at noted first ≡ Some (field_type f).number
  still_noted f owned first member stands = by ((field_type f).number == (field_type g).number) refl where
    by : (b : Bool) → ((field_type f).number == (field_type g).number) ≡ b → value_at noted first ≡ Some (field_type f).number
    by true e =
        let same : (field_type f).number ≡ (field_type g).number = grind (arith, e) in
        chooses.noted first (sym (same_first m f g owned owns same) ∙ member) ∙ ap Some (sym same)
    by false e =
        let other : (field_type f).number ≢ (field_type g).number = λ same. absurd (grind (arith, e, same)) in
        let there = stood (field_type f).number other stands in
        let was = chosen.noted f owned first member there.1 in
        within other there.0 was (is_or_not (first_member_of g) first) where
          within : (field_type f).number ≢ (field_type g).number → sibling g choices ≢ Some (field_type f).number → value_at choices first ≡ Some (field_type f).number
              → (first_member_of g ≡ Some first) ⊎ (first_member_of g ≢ Some first) → value_at noted first ≡ Some (field_type f).number
          within other kept was (inl is) = absurd (kept (sibling_of g choices (field_type f).number first is was other))
          within other kept was (inr not) = chooses.others first not ∙ was

  pub chosen_next : AreChosen m noted after
  chosen_next = record { member = still_member; noted = still_noted }

  -- another member of the oneof is unset
  pub sibling_unset : (f : FieldDescriptor) → Owns m f → (field_type f).number ≢ (field_type g).number → (first : ℕ) → first_member_of f ≡ Some first → first_member_of g ≡ Some first → value_at after (field_type f).number ≡ None
  sibling_unset f owned other first mine its = by (value_at after (field_type f).number) refl where
    by : (o : Option Value) → value_at after (field_type f).number ≡ o → o ≡ None
    by None is = refl
    by (Some v) is =
        let one = still_noted f owned first mine (ap is_some is) in
        let two = chooses.noted first its in
        let same : (field_type f).number ≡ (field_type g).number = cc (one, two) in
        absurd (other same)

  pub siblings_unset : (n : ℕ) → IsSibling m g n → value_at after n ≡ None
  siblings_unset n s = subst (λ n. value_at after n ≡ None) s.3 (sibling_unset s.1 s.2 (λ e. s.4 (sym s.3 ∙ e)) s.0 s.6 s.5)

  -- what stands under a number of no other member stays
  pub other_stays : (n : ℕ) → n ≢ (field_type g).number → (IsSibling m g n → ⊥) → value_at after n ≡ value_at before n
  other_stays n other apart = changes.others n other kept where
    kept : sibling g choices ≢ Some n
    kept e =
        let is = sibling_is g choices n e in
        let member = chosen.member is.0 n is.2 in
        apart (is.0, member.0, member.1, member.2, other, is.1, member.3)
