-- The names that declarations refer to, and files in which these are other names.
use Rattle.std.specs.Prelude.{ℤ, List, [], ◌∷◌, ◌++◌, map, flat_map, Option, Some, None}
use Rattle.descriptor_records.specs.Content.{Text, FieldContent, MethodContent, ServiceContent, MessageContent, message, MessageContents, no_messages, more_messages, FileContent}
use Rattle.schema_view.specs.Files.{text_of, join, package_of}
use Rattle.schema_view.specs.Declarations.{of_message, of_field, of_oneof, of_enum, of_value, of_service, of_method, of_extension, Declaration, declarations}

-- what a reference may mean: a message; or the type of a field, whose number may be given
pub data Want : Type 0 where
  a_message : Want
  a_type : Option ℤ → Want

-- a name, and the full name of the declaration that has it
pub record Reference : Type 0 where
  pub want : Want
  pub scope : Text
  pub name : Text

abbrev pub to_message : Text → Option Text → List Reference
to_message scope None = []
to_message scope (Some name) = record { want = a_message; scope = scope; name = name } ∷ []

abbrev pub to_type : Text → Option ℤ → Option Text → List Reference
to_type scope type None = []
to_type scope type (Some name) = record { want = a_type type; scope = scope; name = name } ∷ []

abbrev pub references_of : Declaration → List Reference
references_of d = elim d.body [
  | of_message m ↦ []
  | of_field f ↦ to_type d.name f.field_type f.type_name
  | of_oneof o ↦ []
  | of_enum e ↦ []
  | of_value v ↦ []
  | of_service s ↦ []
  | of_method m ↦ to_message d.name m.input_type ++ to_message d.name m.output_type
  | of_extension x ↦ to_message d.name x.extendee ++ to_type d.name x.field_type x.type_name
]

abbrev pub references : FileContent → List Reference
references f = flat_map references_of (declarations f)

-- what stands in place of a name, and the number of its type where a field gives none
pub record Target : Type 0 where
  pub name : Text
  pub type : ℤ

-- the same files with other names in their references
module _ (names : Reference → Target) where
  abbrev pub rename_message_type : Text → Option Text → Option Text
  rename_message_type scope None = None
  rename_message_type scope (Some name) =
      Some (names (record { want = a_message; scope = scope; name = name })).name

  abbrev pub rename_type : Text → Option ℤ → Option Text → Option Text
  rename_type scope type None = None
  rename_type scope type (Some name) =
      Some (names (record { want = a_type type; scope = scope; name = name })).name

  -- a type without a number takes that of what its name means
  abbrev pub fill_type : Text → Option ℤ → Option Text → Option ℤ
  fill_type scope (Some n) name = Some n
  fill_type scope None None = None
  fill_type scope None (Some name) =
      Some (names (record { want = a_type None; scope = scope; name = name })).type

  abbrev pub rename_field : Text → FieldContent → FieldContent
  rename_field scope f =
      record f {
        field_type = fill_type (join scope (text_of f.name)) f.field_type f.type_name;
        type_name = rename_type (join scope (text_of f.name)) f.field_type f.type_name;
      }

  abbrev pub rename_extension : Text → FieldContent → FieldContent
  rename_extension scope x =
      record x {
        extendee = rename_message_type (join scope (text_of x.name)) x.extendee;
        field_type = fill_type (join scope (text_of x.name)) x.field_type x.type_name;
        type_name = rename_type (join scope (text_of x.name)) x.field_type x.type_name;
      }

  abbrev pub rename_method : Text → MethodContent → MethodContent
  rename_method scope m =
      record m {
        input_type = rename_message_type (join scope (text_of m.name)) m.input_type;
        output_type = rename_message_type (join scope (text_of m.name)) m.output_type;
      }

  abbrev pub rename_service : Text → ServiceContent → ServiceContent
  rename_service scope s = record s
      { method = map (rename_method (join scope (text_of s.name))) s.method }

  abbrev mutual
    pub rename_message : Text → MessageContent → MessageContent
    rename_message scope (message name fs xs nested es rs os o rr rn) =
        message name (map (rename_field (join scope (text_of name))) fs)
        (map (rename_extension (join scope (text_of name))) xs)
        (rename_messages (join scope (text_of name)) nested) es rs os o rr rn

    pub rename_messages : Text → MessageContents → MessageContents
    rename_messages scope no_messages = no_messages
    rename_messages scope (more_messages m ms) =
        more_messages (rename_message scope m) (rename_messages scope ms)

  abbrev pub rename_references : FileContent → FileContent
  rename_references f =
      record f {
        message_type = map (rename_message (package_of f)) f.message_type;
        service = map (rename_service (package_of f)) f.service;
        extension = map (rename_extension (package_of f)) f.extension;
      }

-- a target's name behind a dot
abbrev pub dotted : Target → Target
dotted t = record t { name = 46 ∷ t.name }

-- each reference as the full name of what it means, behind a dot
abbrev pub linked : (Reference → Target) → FileContent → FileContent
linked meanings f = rename_references (λ r. dotted (meanings r)) f
