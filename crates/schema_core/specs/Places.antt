-- Where a refusal stands.
use Rattle.std.specs.Prelude.{ℕ, ◌+◌, ℤ, pos, List, Option, None, Some, option_map}
use Rattle.std.specs.Option.{option_and_then}
use Rattle.protox_parse.specs.Refusals.{file_of, position_of}
use Rattle.reflect_passes.specs.Errors.{first_place, first_span}
use Rattle.reflect_passes.specs.Texts.{begins}
use Rattle.option_parts.specs.Places.{option_place, option_span}
use Rattle.schema_core.specs.declared.error.SchemaError.{SchemaError}
use Rattle.schema_core.specs.declared.error.SchemaError.TheVariants.{Parse, Link, Options}

-- the file that is told: of a source its own, of files that do not fit together and of their
-- options that of the first fault
abbrev pub told_file : SchemaError → Option (List ℕ)
told_file (Parse e) = Some (file_of e)
told_file (Link e) = option_map (λ p. p.file) (first_place e)
told_file (Options e) = option_map (λ p. p.file) (option_place e)
told_file _ = None

-- a line and a column of a source that are counted from 0, counted from 1
abbrev pub from_one : ℤ × ℤ → Option (ℕ × ℕ)
from_one (pos line, pos column) = Some (line + 1, column + 1)
from_one _ = None

-- and the line and the column at which the first fault begins
abbrev pub told_position : SchemaError → Option (ℕ × ℕ)
told_position (Parse e) = option_and_then from_one (position_of e)
told_position (Link e) = option_and_then begins (first_span e)
told_position (Options e) = option_and_then begins (option_span e)
told_position _ = None
