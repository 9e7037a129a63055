-- What the options of a scope are of, as linking reads them.
use Rattle.option_parts.specs.declared.option_scope.OptionScope.{OptionScope}
use Rattle.option_parts.specs.declared.option_scope.OptionScope.TheVariants as scopes
use Rattle.reflect_codec.specs.declared.options.OptionsOf.{OptionsOf}
use Rattle.reflect_codec.specs.declared.options.OptionsOf.TheVariants as of

abbrev pub kind_of : OptionScope → OptionsOf
kind_of scopes.Message = of.Message
kind_of scopes.Field = of.Field
kind_of scopes.Enum = of.Enum
kind_of _ = of.Other
