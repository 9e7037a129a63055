-- An enum has no fault exactly where its first value and its numbers are as they should be.
use Rattle.std.proofs.Common.{◌≡◌, ◌∙◌, inl, inr, ℤ, pos, Bool, true, false, cond, not, ◌&&◌, List, [], ◌∷◌, Option, Some, None, option_map, map, ap, sym, refl, arith}
use Rattle.std.proofs.lemmas.Option.{same_Some}
use Rattle.std.proofs.lemmas.Bool.Decides.{Decides-int_eq}
use Rattle.descriptor_records.specs.Content.{EnumValueContent, OptionsContent, options_view, enum_value_view, enum_view}
use Rattle.descriptor_records.specs.declared.enums.EnumDescriptorProto.{EnumDescriptorProto}
use Rattle.descriptor_records.specs.declared.enums.EnumValueDescriptorProto.{EnumValueDescriptorProto}
use Rattle.descriptor_records.specs.declared.options.Options.{Options}
use Rattle.reflect_faults.specs.Faults.{duplicate_enum_number}
use Rattle.reflect_names.specs.Names.{Places}
use Rattle.reflect_walk.specs.MapEntries.{is_true}
use Rattle.reflect_rules.specs.MapEntries.{is_equal}
use Rattle.reflect_rules.specs.Repeats.{repeat_faults}
use Rattle.reflect_rules.specs.EnumRules.{allows_aliases, alias_faults, first_faults, value_faults, enum_faults}
use Rattle.schema_view.specs.Rules.{AllowsAliases, HasFirst}
use Rattle.linked_view.specs.Enums.{IsNumbered}
use Rattle.linked_view.proofs.Faults.{none_both, both_none, when_to, when_from}
use Rattle.linked_view.proofs.Repeated.{often_seen, once_to, once_from}

pub said : (o : Option Bool) → is_true o ≡ true → o ≡ Some true
said None e = absurd (cc e)
said (Some b) e = ap Some e

aliases_to : (o : Option Options) → allows_aliases o ≡ true → AllowsAliases (option_map options_view o)
aliases_to None e = absurd (cc e)
aliases_to (Some o) e = (options_view o, refl, said o.allow_alias e)

-- what the content of options says to be true, options say
pub said_back : (get : OptionsContent → Option Bool) (o : Options) (x : OptionsContent)
    → Some (options_view o) ≡ Some x → get x ≡ Some true → is_true (get (options_view o)) ≡ true
said_back get o x e is = ap is_true (ap get (same_Some (options_view o) x e) ∙ is)

aliases_from : (o : Option Options) → AllowsAliases (option_map options_view o) → allows_aliases o ≡ true
aliases_from None (x, e, is) = absurd (cc e)
aliases_from (Some o) (x, e, is) = said_back (λ y. y.allow_alias) o x e is

pub equal_to : (o : Option ℤ) (n : ℤ) → is_equal o n ≡ true → o ≡ Some n
equal_to None n e = absurd (cc e)
equal_to (Some z) n e = ap Some ((Decides-int_eq z n).0 e)

pub equal_from : (o : Option ℤ) (n : ℤ) → o ≡ Some n → is_equal o n ≡ true
equal_from None n e = absurd (cc e)
equal_from (Some z) n e = let same : z ≡ n = cc e in (Decides-int_eq z n).1 same

first_to : (p : Bool) (o : Option ℤ) → (p && not (is_equal o (pos 0))) ≡ false → p ≡ true
    → o ≡ Some (pos 0)
first_to p o e is = by (is_equal o (pos 0)) refl where
  by : (b : Bool) → is_equal o (pos 0) ≡ b → o ≡ Some (pos 0)
  by true equal = equal_to o (pos 0) equal
  by false equal =
      let wrong : true ≡ false = sym (ap (λ b. b && not (is_equal o (pos 0))) is
      ∙ ap not equal) ∙ e in absurd (cc wrong)

first_from : (p : Bool) (o : Option ℤ) → (p ≡ true → o ≡ Some (pos 0))
    → (p && not (is_equal o (pos 0))) ≡ false
first_from true o h = ap not (equal_from o (pos 0) (h refl))
first_from false o h = refl

module _ (at : Places) (path : List ℤ) (proto3 : Bool) (e : EnumDescriptorProto) where
  alias_to : alias_faults at path e ≡ [] → IsNumbered (enum_view e)
  alias_to none = by (allows_aliases e.options) refl none where
    by : (b : Bool) → allows_aliases e.options ≡ b → alias_faults at path e ≡ []
        → IsNumbered (enum_view e)
    by true is none = inl (aliases_to e.options is)
    by false is none = inr (λ n.
        let ns = map (λ (v : EnumValueDescriptorProto). v.number) e.value.items in
        let once = once_to duplicate_enum_number (pos 2) (pos 2) path at ns
        (sym (ap (λ b. cond b [] (repeat_faults duplicate_enum_number
        (pos 2) (pos 2) path at ns)) is) ∙ none) n in
        let same = often_seen enum_value_view (λ (v : EnumValueDescriptorProto). v.number)
        (λ (v : EnumValueContent). v.number) (λ v. refl) n e.value.items in
        omega (arith, once, same))

  alias_from : IsNumbered (enum_view e) → alias_faults at path e ≡ []
  alias_from (inl allows) = ap (λ b. cond b [] (repeat_faults
      duplicate_enum_number (pos 2) (pos 2) path at
      (map (λ (v : EnumValueDescriptorProto). v.number) e.value.items))) (aliases_from e.options allows)
  alias_from (inr once) =
      let ns = map (λ (v : EnumValueDescriptorProto). v.number) e.value.items in
      let none = once_from duplicate_enum_number (pos 2) (pos 2) path at ns (λ n.
      let le = once n in
      let same = often_seen enum_value_view (λ (v : EnumValueDescriptorProto). v.number)
      (λ (v : EnumValueContent). v.number) (λ v. refl) n e.value.items in
      omega (arith, le, same)) in
      by (allows_aliases e.options) none where
        by : (b : Bool) → repeat_faults duplicate_enum_number (pos 2)
            (pos 2) path at (map (λ (v : EnumValueDescriptorProto). v.number) e.value.items) ≡ []
            → cond b [] (repeat_faults duplicate_enum_number (pos 2)
            (pos 2) path at (map (λ (v : EnumValueDescriptorProto). v.number) e.value.items)) ≡ []
        by true none = refl
        by false none = none

  values_to : (vs : List EnumValueDescriptorProto) → value_faults at path proto3 e vs ≡ []
      → HasFirst proto3 (map enum_value_view vs) × (alias_faults at path e ≡ [])
  values_to [] none = absurd (cc none)
  values_to (v ∷ vs) none =
      let parts = none_both (first_faults at path proto3 v.number) (alias_faults at path e) none in
      (first_to proto3 v.number (when_to (proto3 && not (is_equal v.number (pos 0))) _ parts.0), parts.1)

  values_from : (vs : List EnumValueDescriptorProto) → HasFirst proto3 (map enum_value_view vs)
      → alias_faults at path e ≡ [] → value_faults at path proto3 e vs ≡ []
  values_from [] first none = absurd first
  values_from (v ∷ vs) first none =
      both_none (first_faults at path proto3 v.number) (alias_faults at path e)
      (when_from (proto3 && not (is_equal v.number (pos 0))) _ (first_from proto3 v.number first)) none

  pub enum_to : enum_faults at path proto3 e ≡ []
      → HasFirst proto3 (enum_view e).value × IsNumbered (enum_view e)
  enum_to none = let parts = values_to e.value.items none in (parts.0, alias_to parts.1)

  pub enum_from : HasFirst proto3 (enum_view e).value × IsNumbered (enum_view e)
      → enum_faults at path proto3 e ≡ []
  enum_from h = values_from e.value.items h.0 (alias_from h.1)
