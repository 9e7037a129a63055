-- Options that say what their bytes do (descriptor.proto; protobuf.dev, "Encoding").
use Rattle.std.specs.Prelude.{◌≡◌, ◌⊎◌, List, [], ◌∷◌}
use Rattle.descriptor_records.specs.Content.{OptionsContent, options_view}
use Rattle.descriptor_records.specs.declared.options.Options.{Options}
use Rattle.reflect_codec.specs.Meaning.{IsOptions}
use Rattle.reflect_codec.specs.Reading.{Field, SpellsFields, payload}
use Rattle.option_parts.specs.declared.option_scope.OptionScope.{OptionScope}
use Rattle.plain_records.specs.Kinds.{kind_of}

-- what linking reads of options, and what is left to settle in them, is what their bytes say
pub record SaysItsBytes (scope : OptionScope) (o : OptionsContent) : Type 0 where
  pub options : Options
  pub is : options_view options ≡ o
  pub fields : List Field
  pub spelled : SpellsFields 100 o.encoded fields
  pub said : IsOptions (kind_of scope) (payload o.encoded ∷ []) fields options

-- nothing that a source wrote is left to settle in them, or something is
abbrev pub IsSettled : OptionsContent → Type 0
IsSettled o = o.uninterpreted_option ≡ []

abbrev pub IsUnsettled : OptionsContent → Type 0
IsUnsettled o = IsSettled o → ⊥

-- options that were settled
abbrev pub SaysAndIsSettled : OptionScope → OptionsContent → Type 0
SaysAndIsSettled scope o = SaysItsBytes scope o × IsSettled o

-- options that were settled, or will be
abbrev pub SaysOrWaits : OptionScope → OptionsContent → Type 0
SaysOrWaits scope o = SaysItsBytes scope o ⊎ IsUnsettled o
