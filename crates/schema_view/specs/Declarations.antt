-- What a file declares, by full names, and the references that its declarations make.
use Rattle.std.specs.Prelude.{ℕ, ℤ, List, [], ◌∷◌, ◌++◌, map, flat_map, length, Option}
use Rattle.descriptor_records.specs.Content.{Text, OptionsContent, FieldContent, OneofContent, EnumValueContent, EnumContent, MethodContent, ServiceContent, ExtensionRangeContent, MessageContent, message, MessageContents, no_messages, more_messages, FileContent}
use Rattle.descriptor_records.specs.declared.message.ReservedRange.{ReservedRange}
use Rattle.schema_view.specs.Files.{text_of, join, package_of}
use Rattle.schema_view.specs.Scalars.{scalar_type}

-- of a field what the rules of its message ask: no name that it refers to
pub record FieldFacts : Type 0 where
  pub name : Option Text
  pub number : Option ℤ
  pub label : Option ℤ
  pub scalar : Option ℤ
  pub oneof : Option ℤ

abbrev pub facts_of : FieldContent → FieldFacts
facts_of f = record {
  name = f.name;
  number = f.number;
  label = f.label;
  scalar =
      scalar_type f.field_type f.type_name;
  oneof = f.oneof_index;
}

-- from the first number, below the second
pub record Range : Type 0 where
  pub start : Option ℤ
  pub end : Option ℤ

abbrev pub extension_range : ExtensionRangeContent → Range
extension_range r = record { start = r.start; end = r.end }

abbrev pub reserved_range : ReservedRange → Range
reserved_range r = record { start = r.start; end = r.end }

-- of a message what is not declared by itself
pub record MessageFacts : Type 0 where
  pub name : Option Text
  pub fields : List FieldFacts
  pub oneofs : ℕ
  pub extensions : List ExtensionRangeContent
  pub reserved : List ReservedRange
  pub reserved_names : List Text
  pub options : Option OptionsContent

pub record ServiceFacts : Type 0 where
  pub name : Option Text
  pub options : Option OptionsContent

pub data Body : Type 0 where
  of_message : MessageFacts → Body
  of_field : FieldContent → Body
  of_oneof : OneofContent → Body
  of_enum : EnumContent → Body
  of_value : EnumValueContent → Body
  of_service : ServiceFacts → Body
  of_method : MethodContent → Body
  of_extension : FieldContent → Body

pub record Declaration : Type 0 where
  pub name : Text
  pub body : Body

abbrev pub one_field : Text → FieldContent → Declaration
one_field scope f = record { name = join scope (text_of f.name); body = of_field f }

abbrev pub one_oneof : Text → OneofContent → Declaration
one_oneof scope o = record { name = join scope (text_of o.name); body = of_oneof o }

abbrev pub one_extension : Text → FieldContent → Declaration
one_extension scope x = record { name = join scope (text_of x.name); body = of_extension x }

-- a value stands beside its enum
abbrev pub one_value : Text → EnumValueContent → Declaration
one_value scope v = record { name = join scope (text_of v.name); body = of_value v }

abbrev pub one_enum : Text → EnumContent → List Declaration
one_enum scope e = record { name = join scope (text_of e.name); body = of_enum e }
    ∷ map (one_value scope) e.value

abbrev pub one_method : Text → MethodContent → Declaration
one_method scope m = record { name = join scope (text_of m.name); body = of_method m }

abbrev pub service_facts : ServiceContent → ServiceFacts
service_facts s = record { name = s.name; options = s.options }

abbrev pub one_service : Text → ServiceContent → List Declaration
one_service scope s =
    record { name = join scope (text_of s.name); body = of_service (service_facts s) }
    ∷ map (one_method (join scope (text_of s.name))) s.method

abbrev mutual
  -- a message, its fields, messages, enums, extensions and oneofs
  pub in_message : Text → MessageContent → List Declaration
  in_message scope (message name fs xs nested es rs os o rr rn) =
      record {
        name = join scope (text_of name);
        body = of_message (record {
          name = name;
          fields = map facts_of fs;
          oneofs = length os;
          extensions = rs;
          reserved = rr;
          reserved_names = rn;
          options = o;
        });
      }
      ∷ (map (one_field (join scope (text_of name))) fs
      ++ (in_messages (join scope (text_of name)) nested
      ++ (flat_map (one_enum (join scope (text_of name))) es
      ++ (map (one_extension (join scope (text_of name))) xs
      ++ map (one_oneof (join scope (text_of name))) os))))

  pub in_messages : Text → MessageContents → List Declaration
  in_messages scope no_messages = []
  in_messages scope (more_messages m ms) = in_message scope m ++ in_messages scope ms

-- a file's messages, enums, services and extensions
abbrev pub declarations : FileContent → List Declaration
declarations f =
    flat_map (in_message (package_of f)) f.message_type
    ++ (flat_map (one_enum (package_of f)) f.enum_type
    ++ (flat_map (one_service (package_of f)) f.service
    ++ map (one_extension (package_of f)) f.extension))
