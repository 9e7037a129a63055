-- Options as linking gets them, whether a source gives them or a set does.
use Rattle.std.specs.Prelude.{◌≡◌, List}
use Rattle.descriptor_records.specs.Content.{OptionsContent}
use Rattle.option_parts.specs.TypedOptions.{typed_alias, typed_packed}
use Rattle.option_parts.specs.declared.option_scope.OptionScope.{OptionScope}
use Rattle.option_parts.specs.declared.option_scope.OptionScope.TheVariants as scopes
use Rattle.plain_records.specs.Kinds.{kind_of}
use Rattle.reflect_codec.specs.Meaning.{is_enum, is_field, is_message}
use Rattle.reflect_codec.specs.Reading.{Field, IsBool, IsLastIf, SpellsFields, values_at}

-- what linking reads of options is what their stored bytes say, whatever is left to settle in them
pub record ReadsItsBytes (scope : OptionScope) (o : OptionsContent) : Type 0 where
  pub fields : List Field
  pub spelled : SpellsFields 100 o.encoded fields
  pub packed : IsLastIf (is_field (kind_of scope)) IsBool (values_at 2 fields) o.packed
  pub allow_alias : IsLastIf (is_enum (kind_of scope)) IsBool (values_at 2 fields) o.allow_alias
  pub map_entry : IsLastIf (is_message (kind_of scope)) IsBool (values_at 7 fields) o.map_entry

-- they are such options, over which stands what is left to settle says of what linking reads
abbrev pub AreCopied : OptionScope → OptionsContent → Type 0
AreCopied scope o = (before : OptionsContent) × ReadsItsBytes scope before
    × (o ≡ elim scope [
      | scopes.Field ↦ typed_packed before
      | scopes.Enum ↦ typed_alias before
      | _ ↦ before
    ])
