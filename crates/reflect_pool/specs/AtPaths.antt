-- Records that stand where a pool's entries say.
use Rattle.std.specs.Prelude.{◌≡◌, ◌<◌, ℕ, ℤ, List, length, Option, Some, slice_get}
use Rattle.descriptor_records.specs.declared.enums.EnumDescriptorProto.{EnumDescriptorProto}
use Rattle.descriptor_records.specs.declared.enums.EnumValueDescriptorProto.{EnumValueDescriptorProto}
use Rattle.descriptor_records.specs.declared.field.FieldDescriptorProto.{FieldDescriptorProto}
use Rattle.descriptor_records.specs.declared.field.OneofDescriptorProto.{OneofDescriptorProto}
use Rattle.descriptor_records.specs.declared.file.FileDescriptorProto.{FileDescriptorProto}
use Rattle.descriptor_records.specs.declared.message.DescriptorProto.{DescriptorProto}
use Rattle.descriptor_records.specs.declared.service.MethodDescriptorProto.{MethodDescriptorProto}
use Rattle.descriptor_records.specs.declared.service.ServiceDescriptorProto.{ServiceDescriptorProto}
use Rattle.reflect_declarations.specs.Tree.{text_of, parts_of}
use Rattle.reflect_tables.specs.Types.{PoolType, type_at, type_of_field, enum_at, extension_at, service_at}
use Rattle.reflect_pool.specs.Parts.{type_of_oneof, type_of_value, type_of_method}
use Rattle.reflect_pool.specs.Records.{message_along, field_along, oneof_along, enum_along, value_along, extension_along, service_along, method_along}

-- the record at a path of the record of a pool's file, which is called so
pub record Stands {X : Type 0} (along : FileDescriptorProto → List ℤ → Option X)
    (name_of : X → List ℕ) (p : PoolType) (file : ℕ) (path : List ℤ) (name : List ℕ) : Type 0 where
  pub of_file : FileDescriptorProto
  pub own : X
  pub there : slice_get p.records file ≡ Some of_file
  pub at : along of_file path ≡ Some own
  pub named : name_of own ≡ name

-- and this is it
abbrev pub IsRecordAt : {X : Type 0} → (FileDescriptorProto → List ℤ → Option X) → (X → List ℕ)
    → PoolType → ℕ → List ℤ → List ℕ → X → Type 0
IsRecordAt along name_of p file path name x =
    (s : Stands along name_of p file path name) × (s.own ≡ x)

abbrev pub message_name : DescriptorProto → List ℕ
message_name m = text_of (parts_of m).name

abbrev pub field_name : FieldDescriptorProto → List ℕ
field_name f = text_of f.name

abbrev pub oneof_name : OneofDescriptorProto → List ℕ
oneof_name o = text_of o.name

abbrev pub enum_name : EnumDescriptorProto → List ℕ
enum_name e = text_of e.name

abbrev pub value_name : EnumValueDescriptorProto → List ℕ
value_name v = text_of v.name

abbrev pub service_name : ServiceDescriptorProto → List ℕ
service_name s = text_of s.name

abbrev pub method_name : MethodDescriptorProto → List ℕ
method_name m = text_of m.name

-- each of a pool's entries has a record of its name at its path
pub record HaveRecords (p : PoolType) : Type 0 where
  pub messages : (i : ℕ) → i < length p.messages
      → Stands message_along message_name p (type_at p i).file (type_at p i).path (type_at p i).name
  pub fields : (i j : ℕ) → i < length p.messages → j < length (type_at p i).fields
      → Stands field_along field_name p (type_at p i).file (type_of_field p i j).path
      (type_of_field p i j).name
  pub oneofs : (i j : ℕ) → i < length p.messages → j < length (type_at p i).oneofs
      → Stands oneof_along oneof_name p (type_at p i).file (type_of_oneof p i j).path
      (type_of_oneof p i j).name
  pub enums : (i : ℕ) → i < length p.enums
      → Stands enum_along enum_name p (enum_at p i).file (enum_at p i).path (enum_at p i).name
  pub values : (i j : ℕ) → i < length p.enums → j < length (enum_at p i).values
      → Stands value_along value_name p (enum_at p i).file (type_of_value p i j).path
      (type_of_value p i j).name
  pub extensions : (i : ℕ) → i < length p.extensions
      → Stands extension_along field_name p (extension_at p i).file
      (extension_at p i).field.path (extension_at p i).field.name
  pub services : (i : ℕ) → i < length p.services
      → Stands service_along service_name p (service_at p i).file (service_at p i).path
      (service_at p i).name
  pub methods : (i j : ℕ) → i < length p.services → j < length (service_at p i).methods
      → Stands method_along method_name p (service_at p i).file (type_of_method p i j).path
      (type_of_method p i j).name
