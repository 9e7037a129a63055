-- What is said of a field that was not set.
use Rattle.std.specs.Prelude.{ℕ, List, ◌++◌, codes}
use Rattle.reflect_pool.specs.FieldsLeft.{field_type}
use Rattle.reflect_numbered.specs.declared.set_field_error.SetFieldError.{SetFieldError}
use Rattle.reflect_numbered.specs.declared.set_field_error.SetFieldError.TheVariants as errors

-- the error by its name, with the field's name in parentheses
abbrev pub named : SetFieldError → List ℕ
named errors.NotFound = codes "NotFound"
named (errors.InvalidType f v) = codes "InvalidType(" ++ ((field_type f).name ++ codes ")")
named errors.Memory = codes "Memory"
