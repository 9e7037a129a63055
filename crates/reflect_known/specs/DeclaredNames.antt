-- The full names that declarations add.
use Rattle.std.specs.Prelude.{◌++◌, ◌∷◌, List, [], Bool, true, false, cond}
use Rattle.reflect_declarations.specs.Declarations.{Declaration, Body, of_file, of_message, of_field, of_oneof, of_enum, of_enum_value, of_service, of_method, of_extension}
use Rattle.reflect_tables.specs.Names.{Sort, messages, enums, extensions, services, FullName}

abbrev pub is_of : Sort → Body → Bool
is_of s (of_file f) = false
is_of s (of_message m) = elim s
    [ messages ↦ true | enums ↦ false | extensions ↦ false | services ↦ false ]
is_of s (of_field f) = false
is_of s (of_oneof o) = false
is_of s (of_enum e) = elim s [
  | messages ↦ false
  | enums ↦ true
  | extensions ↦ false
  | services ↦ false
]
is_of s (of_enum_value v) = false
is_of s (of_service v) = elim s
    [ messages ↦ false | enums ↦ false | extensions ↦ false | services ↦ true ]
is_of s (of_method m) = false
is_of s (of_extension x) = elim s
    [ messages ↦ false | enums ↦ false | extensions ↦ true | services ↦ false ]

-- the names of a sort behind a declaration
abbrev pub with_name : Sort → List FullName → Declaration → List FullName
with_name s names d = cond (is_of s d.body) (names ++ (d.name, d.file) ∷ []) names

-- the names of a sort behind declarations
abbrev pub with_names : Sort → List FullName → List Declaration → List FullName
with_names s names [] = names
with_names s names (d ∷ ds) = with_names s (with_name s names d) ds
