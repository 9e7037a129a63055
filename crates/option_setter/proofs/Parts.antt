-- What the first part of an option's name does, with what the parts behind it do.
use Rattle.std.proofs.Common.{◌≡◌, ℕ, zero, suc, ℤ, List, [], ◌∷◌, inl, inr, refl, length}
use Rattle.descriptor_records.specs.Content.{OptionContent}
use Rattle.descriptor_records.specs.declared.options.NamePart.{NamePart}
use Rattle.option_parts.specs.declared.option_error.OptionErrorKind.{OptionErrorKind}
use Rattle.option_parts.specs.declared.option_error.OptionErrorKind.TheVariants as kinds
use Rattle.reflect_format.specs.Steps.{Puts, StaysAscending, StaysExclusive}
use Rattle.reflect_format.specs.declared.target.Target.{Target}
use Rattle.reflect_message.specs.Names.{DynamicMessage}
use Rattle.reflect_message.specs.declared.value.ValueOf.TheVariants as held
use Rattle.reflect_pool.specs.declared.kind.Kind.{Kind}
use Rattle.option_setter.specs.OptionNames.{LacksTarget, NamesTarget}
use Rattle.option_setter.specs.SetOptions.{LeadsInto, LeadsNowhere, MayTake, OfKind, RefusesLast, RefusesParts, RefusesValue, SetsLast, SetsParts, number_of}
use Rattle.option_setter.specs.declared.option_setter.NameScope.{NameScope}

pub empty : (xs : List NamePart) → length xs ≡ 0 → xs ≡ []
empty [] e = refl
empty (x ∷ xs) e = absurd (cc e)

-- an option that says nothing to a target which may take a value
pub refuses_last_value : (t : Target) (o : OptionContent) (m : DynamicMessage) → MayTake t m → (k : Kind) → OfKind t k
    → (e : OptionErrorKind) → RefusesValue k o e → RefusesLast t o m e
refuses_last_value t o m may k is (kinds.FloatOption name) h = absurd h
refuses_last_value t o m may k is (kinds.DuplicateOption name) h = absurd h
refuses_last_value t o m may k is e h = (may, (k, is, h))

module _ (s : NameScope) (o : OptionContent) (part : NamePart) (m : DynamicMessage) (e : OptionErrorKind) where
  lacks_any : (levels : ℕ) (rest : List NamePart) → LacksTarget s m.descriptor part e → RefusesParts s o levels (part ∷ rest) m e
  lacks_any zero [] h = inl h
  lacks_any (suc levels) [] h = inl h
  lacks_any zero (next ∷ rest) h = inl h
  lacks_any (suc levels) (next ∷ rest) h = inl h

  pub lacks_target : (levels : ℕ) (parts rest : List NamePart) → parts ≡ part ∷ rest → LacksTarget s m.descriptor part e → RefusesParts s o levels parts m e
  lacks_target levels parts rest is h = rw is (lacks_any levels rest h)

module _ (s : NameScope) (o : OptionContent) (part : NamePart) (t : Target) where
  -- ---- what is set
  last_set : (levels : ℕ) (old new : DynamicMessage) (xs : List ℤ) → NamesTarget s old.descriptor part t → SetsLast t o old new xs → SetsParts s o levels (part ∷ []) old new (number_of t ∷ xs)
  last_set zero old new xs named set = (t, xs, named, set, refl)
  last_set (suc levels) old new xs named set = (t, xs, named, set, refl)

  pub set_last_part : (levels : ℕ) (parts rest : List NamePart) → parts ≡ part ∷ rest → rest ≡ [] → (old new : DynamicMessage) (xs : List ℤ) → NamesTarget s old.descriptor part t
      → SetsLast t o old new xs → SetsParts s o levels parts old new (number_of t ∷ xs)
  set_last_part levels parts [] is none old new xs named set = rw is (last_set levels old new xs named set)
  set_last_part levels parts (next ∷ rest) is none old new xs named set = absurd (cc none)

  pub set_inner_part : (levels less : ℕ) → levels ≡ suc less → (parts rest : List NamePart) → parts ≡ part ∷ rest → (rest ≡ [] → ⊥) → (old left inner set new : DynamicMessage) (xs : List ℤ)
      → NamesTarget s old.descriptor part t → LeadsInto t old left inner → SetsParts s o less rest inner set xs → Puts t (held.Message set) left new → new.descriptor ≡ old.descriptor
      → StaysExclusive t left new → StaysAscending left new → SetsParts s o levels parts old new (number_of t ∷ xs)
  set_inner_part levels less one parts [] is some old left inner set new xs named into sets puts same exclusive ascending = absurd (some refl)
  set_inner_part levels less one parts (next ∷ rest) is some old left inner set new xs named into sets puts same exclusive ascending =
      rw (one, is) (t, xs, left, inner, set, named, into, sets, puts, same, refl, exclusive, ascending)

  -- ---- what is refused
  module _ (m : DynamicMessage) (e : OptionErrorKind) where
    last_refused : (levels : ℕ) → NamesTarget s m.descriptor part t → RefusesLast t o m e → RefusesParts s o levels (part ∷ []) m e
    last_refused zero named h = inr (t, named, h)
    last_refused (suc levels) named h = inr (t, named, h)

    pub refuses_last : (levels : ℕ) (parts rest : List NamePart) → parts ≡ part ∷ rest → rest ≡ [] → NamesTarget s m.descriptor part t → RefusesLast t o m e → RefusesParts s o levels parts m e
    refuses_last levels parts [] is none named h = rw is (last_refused levels named h)
    refuses_last levels parts (next ∷ rest) is none named h = absurd (cc none)

    pub leads_nowhere : (levels less : ℕ) → levels ≡ suc less → (parts rest : List NamePart) → parts ≡ part ∷ rest → (rest ≡ [] → ⊥) → NamesTarget s m.descriptor part t → LeadsNowhere t m e
        → RefusesParts s o levels parts m e
    leads_nowhere levels less one parts [] is some named h = absurd (some refl)
    leads_nowhere levels less one parts (next ∷ rest) is some named h = rw (one, is) (inr (t, named, inl h))

    pub refuses_inner : (levels less : ℕ) → levels ≡ suc less → (parts rest : List NamePart) → parts ≡ part ∷ rest → (rest ≡ [] → ⊥) → NamesTarget s m.descriptor part t
        → (left inner : DynamicMessage) → LeadsInto t m left inner → RefusesParts s o less rest inner e → RefusesParts s o levels parts m e
    refuses_inner levels less one parts [] is some named left inner into h = absurd (some refl)
    refuses_inner levels less one parts (next ∷ rest) is some named left inner into h = rw (one, is) (inr (t, named, inr (left, inner, into, h)))

  pub too_deep : (levels : ℕ) → levels ≡ 0 → (parts rest : List NamePart) → parts ≡ part ∷ rest → (rest ≡ [] → ⊥) → (m : DynamicMessage) → NamesTarget s m.descriptor part t
      → RefusesParts s o levels parts m kinds.OptionTooDeep
  too_deep levels none parts [] is some m named = absurd (some refl)
  too_deep levels none parts (next ∷ rest) is some m named = rw (none, is) (inr (t, named, refl))
