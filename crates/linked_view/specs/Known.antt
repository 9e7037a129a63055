-- What names are known for, by index and kind, and by files and sorts.
use Rattle.std.specs.Prelude.{◌≡◌, ℕ, List, [], map, true, false, Contains, Some, slice_get}
use Rattle.descriptor_records.specs.Content.{Text, file_view}
use Rattle.descriptor_records.specs.declared.file.FileDescriptorProto.{FileDescriptorProto}
use Rattle.reflect_scope.specs.declared.definition.Definition.{Definition}
use Rattle.reflect_scope.specs.declared.definition.DefinitionKind.{DefinitionKind}
use Rattle.reflect_scope.specs.declared.definition.DefinitionKind.TheVariants as kind
use Rattle.reflect_scope.specs.Known.{Known, is_package}
use Rattle.schema_view.specs.Outlines.{Sort, message_sort, enum_sort, service_sort, other_sort, Head, outline_of, IsPackage}
use Rattle.schema_view.specs.Lawful.{outlines}

-- a definition of this kind is one of this sort
abbrev pub IsKindOf : DefinitionKind → Sort → Type 0
IsKindOf kind.Package s = ⊥
IsKindOf (kind.Message i) (message_sort extensions reserved) = Unit {0}
IsKindOf (kind.Enum i) (enum_sort values) = Unit {0}
IsKindOf (kind.Service i) service_sort = Unit {0}
IsKindOf kind.Field other_sort = Unit {0}
IsKindOf kind.Oneof other_sort = Unit {0}
IsKindOf kind.EnumValue other_sort = Unit {0}
IsKindOf kind.Method other_sort = Unit {0}
IsKindOf (kind.Extension i) other_sort = Unit {0}
IsKindOf k s = ⊥

-- the file of the definition's index declares the name, as this kind
pub record IsDeclaredAs (files : List FileDescriptorProto) (n : Text)
    (d : Definition) : Type 0 where
  pub file : FileDescriptorProto
  pub head : Head
  pub at : slice_get files d.file ≡ Some file
  pub inside : Contains (outline_of (file_view file)).heads head
  pub name : head.name ≡ n
  pub sort : IsKindOf d.kind head.sort

-- the names that are known are those of packages and of declarations
pub record AreKnown (files : List FileDescriptorProto) (known : Known) : Type 0 where
  pub packages : (n : Text) (d : Definition) → known n ≡ Some d → is_package d.kind ≡ true
      → IsPackage (outlines (map file_view files)) n × (n ≡ [] → ⊥)
  pub declared : (n : Text) (d : Definition) → known n ≡ Some d
      → is_package d.kind ≡ false → IsDeclaredAs files n d
  pub package_known : (n : Text) → IsPackage (outlines (map file_view files)) n → (n ≡ [] → ⊥)
      → (d : Definition) × (known n ≡ Some d) × (is_package d.kind ≡ true)
  pub declared_known : (i : ℕ) (f : FileDescriptorProto) (h : Head) → slice_get files i ≡ Some f
      → Contains (outline_of (file_view f)).heads h
      → (d : Definition) × (known h.name ≡ Some d) × (d.file ≡ i) × IsKindOf d.kind h.sort
