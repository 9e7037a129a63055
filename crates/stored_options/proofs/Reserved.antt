-- The name of an option that a source may set does not lead to the list of uninterpreted options.
use Rattle.std.proofs.Common.{◌≡◌, ◌<◌, ℕ, ◌&&◌, ◌||◌, not, Bool, true, false, List, [], ◌∷◌, length, map, Some, refl, sym, ap, ◌∙◌, subst}
use Rattle.std.proofs.lemmas.Slice.Eq.{bytes_eq-Decides}
use Rattle.std.specs.List.{AllByRecursion}
use Rattle.std.specs.Prelude.{MatchBool, codes, string_bytes}
use Rattle.std.specs.Str.{bytes_eq}
use Rattle.descriptor_records.specs.Content.{NameContent, OptionContent, option_view}
use Rattle.descriptor_records.specs.declared.options.UninterpretedOption.{UninterpretedOption}
use Rattle.message_view.specs.Sound.{IsNotKept, IsSound}
use Rattle.message_view.specs.Types.{name_at}
use Rattle.option_parts.specs.OptionTypes.{CanRead, HasField, IsNamedType, ListsMessages, type_name}
use Rattle.option_parts.specs.declared.option_scope.OptionScope.{OptionScope}
use Rattle.option_parts.specs.declared.option_scope.OptionScope.TheVariants as scopes
use Rattle.option_setter.specs.OptionNames.{NamesExtension, NamesField}
use Rattle.option_setter.specs.declared.option_setter.NameScope.{NameScope}
use Rattle.reflect_format.specs.Takes.{target_type}
use Rattle.reflect_format.specs.declared.target.Target.{Target}
use Rattle.reflect_format.specs.declared.target.Target.TheVariants as targets
use Rattle.reflect_message.specs.Known.{numbered_field}
use Rattle.reflect_options.specs.Settled.{is_forbidden, is_reserved}
use Rattle.reflect_pool.specs.FieldsLeft.{field_type}
use Rattle.reflect_pool.specs.declared.extension.ExtensionDescriptor.{ExtensionDescriptor}
use Rattle.reflect_pool.specs.declared.message.MessageDescriptor.{MessageDescriptor}
use Rattle.reflect_scalar.specs.FieldTypes.{extension_type}
use Rattle.reflect_tables.specs.Types.{FieldType, PoolType, extension_at, no_extension, no_field, no_type, type_of_field}
use Rattle.settled_records.proofs.Fields.{first_field, same_field}
use Rattle.stored_options.specs.NamedNumbers.{numbers_named}
use Rattle.stored_options.proofs.Spared.{Spares}

-- the name of the list is one that no source may set
listed_reserved : (scope : OptionScope) (name : List ℕ) → bytes_eq name (codes "uninterpreted_option") ≡ true → is_reserved scope name ≡ true
listed_reserved scopes.Message name e = ap (λ b. b || bytes_eq name (codes "map_entry")) e
listed_reserved scope name e = e

-- ---- a field of the type that has the number, and what else may have it

module _ (d : MessageDescriptor) (sound : IsSound d.pool.now) (k : ℕ) (g : FieldType) (is : numbered_field d.pool.now d.index k ≡ Some g) where
  -- no extension
  module _ (x : ExtensionDescriptor) (at : x.pool.now ≡ d.pool.now) (extendee : (extension_at d.pool.now x.index).extendee ≡ d.index)
      (there : x.index < length d.pool.now.extensions) where
    free : IsNotKept d.pool.now d.index k
    free =
        let h = first_field d k g is in
        let number : (type_of_field d.pool.now d.index h.0.index).number ≡ k = h.2.1.0 no_field in
        subst (IsNotKept d.pool.now d.index) number (sound.apart.free d.index h.0.index h.2.0)

    extension_apart : (extension_type x).number ≡ k → ⊥
    extension_apart same =
        let number : (extension_at d.pool.now x.index).field.number ≡ k = ap (λ p. (extension_at p x.index).field.number) (sym at) ∙ same in
        sound.apart.kept x.index there
        (subst (λ i. IsNotKept d.pool.now i (extension_at d.pool.now x.index).field.number) (sym extendee) (subst (IsNotKept d.pool.now d.index) (sym number) free))

  -- a name that leads to it is that of the field
  its_name : (s : NameScope) (b : Bool) (name : List ℕ) (t : Target) → MatchBool b (NamesExtension s d name t) (NamesField d name t) → (target_type t).number ≡ k
      → (b ≡ false) × (name ≡ g.name)
  its_name s true name (targets.Field f) h number = absurd h
  its_name s true name (targets.Extension x) h number =
      absurd (extension_apart x h.0 (h.3.1.0 no_extension).0 h.3.0 number)
  its_name s false name (targets.Field f) h number =
      let its : field_type f ≡ type_of_field d.pool.now d.index f.index = ap (λ (c : MessageDescriptor). type_of_field c.pool.now c.index f.index) h.0 in
      (refl, sym (h.1.1.0 no_field) ∙ ap (λ (u : FieldType). u.name) (sym its ∙ same_field d k g is sound f h.0 number))
  its_name s false name (targets.Extension x) h number = absurd h

-- ---- the list of uninterpreted options

module _ (scope : OptionScope) (s : NameScope) (sound : IsSound s.pool.now) (can : CanRead s.pool.now scope) (m : ℕ)
    (named : IsNamedType s.pool.now scope m) where
  abbrev Lists : PoolType → ℕ → Type 0
  Lists pool i = HasField pool i 999 (ListsMessages pool)

  part_spares : (part : NameContent) → ((not part.is_extension && is_reserved scope part.name_part) ≡ true → ⊥) → numbers_named s (type_name scope) part 999 → ⊥
  part_spares part allowed h =
      let d = h.of_type in
      let here : name_at s.pool.now d.index ≡ type_name scope = ap (λ p. name_at p d.index) (sym h.in_pool) ∙ h.called in
      let within : d.index < length s.pool.now.messages = subst (λ (p : PoolType). d.index < length p.messages) h.in_pool d.in_range in
      let same : m ≡ d.index = sound.names m d.index named.0 within (named.1.0 no_type ∙ sym here) in
      let lists : Lists d.pool.now d.index = subst (λ p. Lists p d.index) (sym h.in_pool) (subst (Lists s.pool.now) same (can m named).uninterpreted) in
      let its = its_name d (subst IsSound (sym h.in_pool) sound) 999 lists.0 lists.1 s h.written.is_extension (string_bytes h.written.name_part) h.target h.named h.number in
      let is_list : bytes_eq (string_bytes h.written.name_part) (codes "uninterpreted_option") ≡ true =
      (bytes_eq-Decides (string_bytes h.written.name_part) (codes "uninterpreted_option")).1 (its.1 ∙ lists.2.named) in
      allowed
      (ap (λ (p : NameContent). not p.is_extension && is_reserved scope p.name_part) (sym h.same_part)
      ∙ ap (λ b. not b && is_reserved scope (string_bytes h.written.name_part)) its.0
      ∙ listed_reserved scope (string_bytes h.written.name_part) is_list)

  name_spares : (parts : List NameContent) → (is_forbidden scope parts ≡ true → ⊥) → Spares (numbers_named s) (type_name scope) 999 parts
  name_spares [] allowed = tt
  name_spares (part ∷ parts) allowed = part_spares part allowed

  pub names_spare : (os : List UninterpretedOption) → AllByRecursion (λ o. is_forbidden scope (option_view o).name ≡ true → ⊥) os
      → AllByRecursion (λ (o : OptionContent). Spares (numbers_named s) (type_name scope) 999 o.name) (map option_view os)
  names_spare [] allowed = tt
  names_spare (o ∷ os) allowed = (name_spares (option_view o).name allowed.0, names_spare os allowed.1)
