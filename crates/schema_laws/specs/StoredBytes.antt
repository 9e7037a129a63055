-- Options whose stored bytes are bytes, each a number below 256.
use Rattle.descriptor_records.specs.Content.{OptionsContent}
use Rattle.option_parts.specs.declared.option_scope.OptionScope.{OptionScope}
use Rattle.reflect_wire.specs.Written.{AreBytes}

abbrev pub StoresBytes : OptionScope → OptionsContent → Type 0
StoresBytes scope o = AreBytes o.encoded

-- where nothing is asked of options, plain records are those whose numbers and depths bytes can say
abbrev pub SaysNothing : OptionScope → OptionsContent → Type 0
SaysNothing scope o = Unit {0}
