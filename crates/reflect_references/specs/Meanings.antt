-- What references mean, taken one after another.
use Rattle.std.specs.declared.alloc.Global.{Global}
use Rattle.std.specs.Prelude.{List, [], ◌∷◌, Option, Some, None, String}
use Rattle.reflect_scope.specs.declared.definition.DefinitionKind.{DefinitionKind}
use Rattle.reflect_declarations.specs.Declarations.{Declaration, of_file, of_message, of_field, of_oneof, of_enum, of_enum_value, of_service, of_method, of_extension}
use Rattle.reflect_names.specs.declared.resolve_visitor.Reference.{Reference}

-- what the name at a place means, if one stands there: the next reference's meaning
abbrev pub meaning : Option (String Global) → List Reference → Option DefinitionKind
meaning None rs = None
meaning (Some name) [] = None
meaning (Some name) (r ∷ rs) = Some r.definition.kind

-- the references behind it
abbrev pub behind : Option (String Global) → List Reference → List Reference
behind None rs = rs
behind (Some name) [] = []
behind (Some name) (r ∷ rs) = rs

-- the references behind a declaration
abbrev pub rest_behind : Declaration → List Reference → List Reference
rest_behind d rest = elim d.body [
  | of_file f ↦ rest
  | of_message m ↦ rest
  | of_field f ↦ behind f.type_name rest
  | of_oneof o ↦ rest
  | of_enum e ↦ rest
  | of_enum_value v ↦ rest
  | of_service s ↦ rest
  | of_method m ↦ behind m.output_type (behind m.input_type rest)
  | of_extension x ↦ behind x.type_name (behind x.extendee rest)
]
