-- What two refusals of sources or of a set, for their options, tell alike.
use Rattle.std.specs.Prelude.{◌≡◌}
use Rattle.option_parts.specs.Places.{option_place}
use Rattle.option_parts.specs.declared.option_error.OptionError.{OptionError}
use Rattle.stored_options.specs.ToldAlike.{TellAlike}

-- the same place, or none; and a fault of one sort, of an option of one name
pub record TellTheSame (e f : OptionError) : Type 0 where
  pub place : option_place e ≡ option_place f
  pub kind : TellAlike e.kind f.kind
