-- Names in records as sources give them (protobuf.dev, "Protocol Buffers Language Specification":
-- Lexical Elements, Group Field, Map Field).
use Rattle.std.specs.Prelude.{◌≡◌, ◌⊎◌, ℤ, pos, List, [], ◌∷◌, true, map, Option, None, Some, codes}
use Rattle.std.specs.Char.{to_ascii_lowercase}
use Rattle.std.specs.List.{AllByRecursion, list_all}
use Rattle.descriptor_records.specs.Content.{Text, FieldContent, OptionsContent, EnumContent, EnumValueContent, MessageContent, message, MessageContents, no_messages, more_messages, messages_of, FileContent}
use Rattle.descriptor_records.specs.FieldNumbers.{type_number}
use Rattle.descriptor_records.specs.declared.field.FieldType.TheVariants as types
use Rattle.protox_lex.specs.Class.{is_in}
use Rattle.protox_lex.specs.declared.class.Class.TheVariants as class
use Rattle.text_model.specs.Identifiers.{is_identifier, is_full_name}
use Rattle.text_model.specs.Printed.{parts}

-- ---- names

-- a name is there, and is an identifier
abbrev pub IsSpelled : Option Text → Type 0
IsSpelled None = ⊥
IsSpelled (Some name) = is_identifier name ≡ true

-- a name is there, of letters, digits and `_`
abbrev pub IsWord : Option Text → Type 0
IsWord None = ⊥
IsWord (Some name) = list_all (is_in class.Word) name ≡ true

-- a package is called by identifiers with dots between them, if there is one
abbrev pub IsPackage : Option Text → Type 0
IsPackage None = Unit {0}
IsPackage (Some name) = is_full_name (parts name) ≡ true

abbrev pub AreSpelled : List FieldContent → Type 0
AreSpelled fs = AllByRecursion (λ (f : FieldContent). IsSpelled f.name) fs

abbrev pub HasSpelledValues : EnumContent → Type 0
HasSpelledValues e = AllByRecursion (λ (v : EnumValueContent). IsSpelled v.name) e.value

-- ---- groups

abbrev pub name_of : MessageContent → Option Text
name_of (message name fields extensions nested enums ranges oneofs options reserved names) = name

abbrev pub Declares : MessageContents → Text → Type 0
Declares no_messages name = ⊥
Declares (more_messages m ms) name = (name_of m ≡ Some name) ⊎ Declares ms name

abbrev pub IsGroup : FieldContent → Type 0
IsGroup f = f.field_type ≡ Some (type_number types.Group)

-- a group is of a type that its message declares, and has the type's name in lower case
pub record IsGroupField (nested : MessageContents) (f : FieldContent) : Type 0 where
  pub type : Text
  pub typed : f.type_name ≡ Some type
  pub spelled : is_identifier type ≡ true
  pub there : Declares nested type
  pub lower : f.name ≡ Some (map to_ascii_lowercase type)

abbrev pub HaveGroupNames : MessageContents → List FieldContent → Type 0
HaveGroupNames nested fs =
    AllByRecursion (λ (f : FieldContent). IsGroup f → IsGroupField nested f) fs

-- ---- entries of maps

-- a part of a map's entries has its name and its number, is no group, has no default of its own and
-- is in no oneof
pub record IsPart (name : Text) (number : ℤ) (f : FieldContent) : Type 0 where
  pub named : f.name ≡ Some name
  pub numbered : f.number ≡ Some number
  pub plain : IsGroup f → ⊥
  pub usual : f.default_value ≡ None
  pub alone : f.oneof_index ≡ None

abbrev pub AreParts : List FieldContent → Type 0
AreParts (key ∷ value ∷ []) =
    IsPart (codes "key") (pos 1) key × IsPart (codes "value") (pos 2) value
AreParts _ = ⊥

abbrev pub IsEntry : Option OptionsContent → Type 0
IsEntry None = ⊥
IsEntry (Some options) = options.map_entry ≡ Some true

-- ---- messages and files

-- What a message has beside the types in it. The type of a map's entries is named after its field,
-- by what may begin with a digit, and nothing is declared in it.
pub record HasOwnNames (name : Option Text) (fields extensions : List FieldContent)
    (nested : MessageContents) (enums : List EnumContent) (options : Option OptionsContent) : Type 0
  where
    pub named : IsSpelled name ⊎ (IsEntry options × IsWord name)
    pub fields_are : AreSpelled fields
    pub extensions_are : AreSpelled extensions
    pub values : AllByRecursion HasSpelledValues enums
    pub groups : HaveGroupNames nested fields
    pub parts : IsEntry options → AreParts fields
    pub none_extended : IsEntry options → extensions ≡ []
    pub none_nested : IsEntry options → nested ≡ no_messages

abbrev mutual
  pub IsSourceMessage : MessageContent → Type 0
  IsSourceMessage (message name fields extensions nested enums ranges oneofs options reserved
      names) =
      HasOwnNames name fields extensions nested enums options × AreSourceMessages nested

  pub AreSourceMessages : MessageContents → Type 0
  AreSourceMessages no_messages = Unit {0}
  AreSourceMessages (more_messages m ms) = IsSourceMessage m × AreSourceMessages ms

-- the record of a file whose names are as sources give them
pub record IsSourceFile (f : FileContent) : Type 0 where
  pub packaged : IsPackage f.package_name
  pub messages : AreSourceMessages (messages_of f.message_type)
  pub enums : AllByRecursion HasSpelledValues f.enum_type
  pub extensions : AreSpelled f.extension
