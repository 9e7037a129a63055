-- The forms in which messages are printed.
use Rattle.std.specs.Prelude.{Bool, true, false}
use Rattle.text_model.specs.Tree.{Separator, no_separator, comma}

pub record Form : Type 0 where
  -- each field on its own line, or all on one line
  pub pretty : Bool
  -- declared fields without presence that are not set are printed too
  pub defaults : Bool
  -- declared fields as they are declared, and not by ascending number
  pub as_declared : Bool
  -- a google.protobuf.Any of a known type as the message that it holds
  pub expands : Bool

-- what stands between two fields: on one line a comma
abbrev pub between : Bool → Separator
between true = no_separator
between false = comma
