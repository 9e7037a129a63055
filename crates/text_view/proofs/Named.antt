-- What a text names, by numbers.
use Rattle.std.proofs.Common.{◌≡◌, ◌⊎◌, inl, inr, ℕ, Option, Some, None, option_map, unwrap_or, refl, ap, ◌∙◌}
use Rattle.protox_lex.specs.Class.{Text}
use Rattle.reflect_tables.specs.Types.{FieldType}
use Rattle.reflect_pool.specs.declared.message.MessageDescriptor.{MessageDescriptor}
use Rattle.reflect_format.specs.Named.{NamesExtension, NamesField, NoExtensionNamed, NoFieldNamed}
use Rattle.reflect_format.specs.Takes.{target_type}
use Rattle.reflect_format.specs.declared.target.Target.{Target}
use Rattle.reflect_format.specs.declared.target.Target.TheVariants as targets
use Rattle.message_view.specs.Sound.{HaveNames, AreApart}
use Rattle.message_view.specs.Types.{name_at, types_of}
use Rattle.message_view.proofs.Sound.{named}
use Rattle.text_view.specs.Names.{field_called, extension_called, names_of}
use Rattle.text_view.specs.Targets.{target_field}
use Rattle.text_view.proofs.Apart.{named_owns, named_extension_owns, field_there, extension_there}
use Rattle.text_view.proofs.Called.{field_named, no_field_named, named_field, none_named, extension_named, no_extension_named, named_extension, none_named_extension}

-- a number that is found is that of a field
numbered : (o : Option FieldType) (n : ℕ) → option_map (λ (f : FieldType). f.number) o ≡ Some n → (g : FieldType) × (o ≡ Some g) × (g.number ≡ n)
numbered None n e = absurd (cc e)
numbered (Some g) n e = (g, refl, ap (λ o. unwrap_or o n) e)

none_numbered : (o : Option FieldType) → option_map (λ (f : FieldType). f.number) o ≡ None → o ≡ None
none_numbered None e = refl
none_numbered (Some g) e = absurd (cc e)

module _ (m : MessageDescriptor) (w : Text) where
  pub fields_found : (t : Target) → NamesField m w t → (names_of m.pool.now m.index).field w ≡ Some (target_type t).number
  fields_found t h = ap (option_map (λ (f : FieldType). f.number)) (field_named m w t h)

  pub found_fields : (n : ℕ) → (names_of m.pool.now m.index).field w ≡ Some n → (t : Target) × NamesField m w t × ((target_type t).number ≡ n)
  found_fields n e =
      let g = numbered (field_called m.pool.now m.index w) n e in
      let t = named_field m w g.0 g.1 in
      (t.0, t.1, ap (λ (f : FieldType). f.number) t.2 ∙ g.2)

  pub none_found : NoFieldNamed m w → (names_of m.pool.now m.index).field w ≡ None
  none_found h = ap (option_map (λ (f : FieldType). f.number)) (no_field_named m w h)

  pub found_none : (names_of m.pool.now m.index).field w ≡ None → NoFieldNamed m w
  found_none e = none_named m w (none_numbered (field_called m.pool.now m.index w) e)

  pub extensions_found : (t : Target) → NamesExtension m w t → (names_of m.pool.now m.index).extension w ≡ Some (target_type t).number
  extensions_found t h = ap (option_map (λ (f : FieldType). f.number)) (extension_named m w t h)

  pub found_extensions : (n : ℕ) → (names_of m.pool.now m.index).extension w ≡ Some n → (t : Target) × NamesExtension m w t × ((target_type t).number ≡ n)
  found_extensions n e =
      let g = numbered (extension_called m.pool.now m.index w) n e in
      let t = named_extension m w g.0 g.1 in
      (t.0, t.1, ap (λ (f : FieldType). f.number) t.2 ∙ g.2)

  pub none_found_extension : NoExtensionNamed m w → (names_of m.pool.now m.index).extension w ≡ None
  none_found_extension h = ap (option_map (λ (f : FieldType). f.number)) (no_extension_named m w h)

  pub found_no_extension : (names_of m.pool.now m.index).extension w ≡ None → NoExtensionNamed m w
  found_no_extension e = none_named_extension m w (none_numbered (extension_called m.pool.now m.index w) e)

-- what is named stands under its number
pub stands : (m : MessageDescriptor) → AreApart m.pool.now → HaveNames m.pool.now → (w : Text) (t : Target) → NamesField m w t ⊎ NamesExtension m w t
    → types_of m.pool.now (name_at m.pool.now m.index) (target_type t).number ≡ Some (target_field m t)
stands m apart names w (targets.Field f) (inl h) = named m.pool.now names m.index (target_type (targets.Field f)).number m.in_range ∙ field_there m apart f (named_owns m apart w f h)
stands m apart names w (targets.Field f) (inr h) = absurd h
stands m apart names w (targets.Extension x) (inl h) = absurd h
stands m apart names w (targets.Extension x) (inr h) = named m.pool.now names m.index (target_type (targets.Extension x)).number m.in_range ∙ extension_there m apart x (named_extension_owns m apart w x h)
