-- What the entries of declarations are, by their records and by what the references at hand mean.
use Rattle.std.specs.Prelude.{◌≡◌, ℕ, ℤ, pos, List, [], ◌∷◌, ◌++◌, Bool, false, Option, None, Some, unwrap_or}
use Rattle.descriptor_records.specs.declared.enums.EnumValueDescriptorProto.{EnumValueDescriptorProto}
use Rattle.descriptor_records.specs.declared.field.FieldDescriptorProto.{FieldDescriptorProto}
use Rattle.descriptor_records.specs.declared.field.OneofDescriptorProto.{OneofDescriptorProto}
use Rattle.descriptor_records.specs.declared.field.FieldType.{FieldType as TypeNumber}
use Rattle.descriptor_records.specs.declared.service.MethodDescriptorProto.{MethodDescriptorProto}
use Rattle.descriptor_records.specs.FieldNumbers.{type_number}
use Rattle.reflect_scope.specs.declared.definition.DefinitionKind.{DefinitionKind}
use Rattle.reflect_scope.specs.declared.definition.DefinitionKind.TheVariants as kind
use Rattle.reflect_references.specs.Meanings.{meaning, behind}
use Rattle.reflect_fields.specs.Fields.{scalar_type, IsField, IsExtension}
use Rattle.reflect_tables.specs.Types.{KindType, message, enumeration, FieldType, ValueType, ExtensionType, MethodType}
use Rattle.reflect_declarations.specs.Declarations.{Body, of_message, of_field, of_oneof, of_enum, of_enum_value, of_service, of_method, of_extension}
use Rattle.reflect_declarations.specs.Tree.{text_of}
use Rattle.reflect_index.specs.Along.{Met}

-- a message or an enum is meant
abbrev pub IsMeant : Option DefinitionKind → KindType → Type 0
IsMeant (Some (kind.Message i)) k = k ≡ message i
IsMeant (Some (kind.Enum i)) k = k ≡ enumeration i
IsMeant _ k = ⊥

-- the scalar type of the number
abbrev pub IsTyped : Option ℤ → KindType → Type 0
IsTyped None k = ⊥
IsTyped (Some n) k = (t : TypeNumber) × (type_number t ≡ n) × (scalar_type t ≡ Some k)

-- what a field holds: what its type name means, or else its scalar type
abbrev pub HasKind : FieldDescriptorProto → Option DefinitionKind → KindType → Type 0
HasKind r meant k = elim r.type_name [ None ↦ IsTyped r.field_type k | Some name ↦ IsMeant meant k ]

-- a field, and whether it was declared `optional` in a proto3 file
pub record DeclaredField : Type 0 where
  pub field : FieldType
  pub optional : Bool

abbrev pub IsFieldBy : Met → FieldDescriptorProto → DeclaredField → Type 0
IsFieldBy m r f = (holds : KindType) × HasKind r (meaning r.type_name m.hand.rest) holds
    × IsField m.hand.syntax m.declaration.path m.declaration.name holds r f.field
    × (f.optional ≡ unwrap_or r.proto3_optional false)

-- the message that an extension extends comes before its type; its JSON name is the full name in
-- brackets
pub record IsExtensionBy (m : Met) (r : FieldDescriptorProto) (x : ExtensionType) : Type 0 where
  pub file : x.file ≡ m.declaration.file
  pub parent : x.parent ≡ m.declaration.parent
  pub extendee : meaning r.extendee m.hand.rest ≡ Some (kind.Message x.extendee)
  pub holds : KindType
  pub kind : HasKind r (meaning r.type_name (behind r.extendee m.hand.rest)) holds
  pub field : IsExtension m.hand.syntax m.declaration.path m.declaration.name holds r x.field
  pub json_name : x.json_name ≡ 91 ∷ (m.declaration.name ++ 93 ∷ [])

-- the message that a method takes comes before that which it answers
pub record IsMethodBy (m : Met) (r : MethodDescriptorProto) (x : MethodType) : Type 0 where
  pub path : x.path ≡ m.declaration.path
  pub name : x.name ≡ text_of r.name
  pub full_name : x.full_name ≡ m.declaration.name
  pub input : meaning r.input_type m.hand.rest ≡ Some (kind.Message x.input)
  pub output : meaning r.output_type (behind r.input_type m.hand.rest)
      ≡ Some (kind.Message x.output)
  pub client_streaming : x.client_streaming ≡ unwrap_or r.client_streaming false
  pub server_streaming : x.server_streaming ≡ unwrap_or r.server_streaming false

-- a oneof without its members
pub record OneofName : Type 0 where
  pub path : List ℤ
  pub name : List ℕ
  pub full_name : List ℕ

abbrev pub declared_oneof : Met → OneofDescriptorProto → OneofName
declared_oneof m r = record {
  path = m.declaration.path;
  name = text_of r.name;
  full_name =
      m.declaration.name;
}

-- a value without a number has the number 0
abbrev pub declared_value : Met → EnumValueDescriptorProto → ValueType
declared_value m r = record {
  path = m.declaration.path;
  name = text_of r.name;
  full_name = m.declaration.name;
  number = unwrap_or r.number (pos 0);
}

-- what a message, an enum or a service is called, and where it is declared
pub record Head : Type 0 where
  pub path : List ℤ
  pub name : List ℕ
  pub full_name : List ℕ
  pub file : ℕ
  pub parent : Option ℕ

abbrev pub written_name : Body → List ℕ
written_name (of_message r) = text_of r.name
written_name (of_enum r) = text_of r.name
written_name (of_service r) = text_of r.name
written_name _ = []

abbrev pub declared_head : Met → Head
declared_head m = record {
  path = m.declaration.path;
  name = written_name m.declaration.body;
  full_name = m.declaration.name;
  file = m.declaration.file;
  parent = m.declaration.parent;
}

abbrev pub IsHeadOf : Met → Head → Type 0
IsHeadOf m h = h ≡ declared_head m

-- the entry is that of the declaration
abbrev pub IsFieldOf : Met → DeclaredField → Type 0
IsFieldOf m f = elim m.declaration.body [ of_field r ↦ IsFieldBy m r f | _ ↦ ⊥ ]

abbrev pub IsExtensionOf : Met → ExtensionType → Type 0
IsExtensionOf m x = elim m.declaration.body [ of_extension r ↦ IsExtensionBy m r x | _ ↦ ⊥ ]

abbrev pub IsMethodOf : Met → MethodType → Type 0
IsMethodOf m x = elim m.declaration.body [ of_method r ↦ IsMethodBy m r x | _ ↦ ⊥ ]

abbrev pub IsValueOf : Met → ValueType → Type 0
IsValueOf m v = elim m.declaration.body [ of_enum_value r ↦ v ≡ declared_value m r | _ ↦ ⊥ ]

abbrev pub IsOneofOf : Met → OneofName → Type 0
IsOneofOf m o = elim m.declaration.body [ of_oneof r ↦ o ≡ declared_oneof m r | _ ↦ ⊥ ]
