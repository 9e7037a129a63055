-- How calls end, as C sees it.
use Rattle.std.specs.Prelude.{ℕ}
use Rattle.schema_core.specs.declared.error.SchemaError.{SchemaError}
use Rattle.schema_core.specs.declared.error.SchemaError.TheVariants as error
use Rattle.schema_slot.specs.declared.code.Code.{Code}
use Rattle.schema_slot.specs.declared.code.Code.TheVariants as code

-- the number that stands for it
abbrev pub number_of : Code → ℕ
number_of code.Done = 0
number_of code.Closed = 1
number_of code.Memory = 2
number_of code.Room = 3
number_of code.NotUtf8 = 4
number_of code.Parse = 5
number_of code.Link = 6
number_of code.Options = 7
number_of code.Wire = 8
number_of code.Text = 9
number_of code.UnknownType = 10
number_of code.TooLong = 11

-- a refusal of the schema
abbrev pub code_of : SchemaError → Code
code_of (error.Parse e) = code.Parse
code_of (error.Link e) = code.Link
code_of (error.Options e) = code.Options
code_of (error.Wire e) = code.Wire
code_of (error.Text e) = code.Text
code_of (error.UnknownType n) = code.UnknownType
code_of error.Memory = code.Memory
code_of error.TooLong = code.TooLong
