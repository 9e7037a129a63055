-- The full names of a pool's entries, each with the file that declares it.
use Rattle.std.specs.List.{AllByRecursion}
use Rattle.std.specs.Prelude.{◌≡◌, ◌≤◌, ◌∷◌, ℕ, List, [], map, Option, Some, None, slice_get}
use Rattle.reflect_scope.specs.declared.definition.Definition.{Definition}
use Rattle.reflect_scope.specs.declared.definition.DefinitionKind.{DefinitionKind}
use Rattle.reflect_scope.specs.declared.definition.DefinitionKind.TheVariants as kind
use Rattle.reflect_scope.specs.Known.{Known}
use Rattle.reflect_tables.specs.Types.{MessageType, EnumType, ExtensionType, ServiceType, PoolType}

-- what is counted over all files
pub data Sort : Type 0 where
  messages : Sort
  enums : Sort
  extensions : Sort
  services : Sort

-- a full name, and the index of the file that declares it
abbrev pub FullName : Type 0
FullName = List ℕ × ℕ

abbrev pub message_name : MessageType → FullName
message_name m = (m.full_name, m.file)

abbrev pub enum_name : EnumType → FullName
enum_name e = (e.full_name, e.file)

abbrev pub extension_name : ExtensionType → FullName
extension_name x = (x.field.full_name, x.file)

abbrev pub service_name : ServiceType → FullName
service_name s = (s.full_name, s.file)

-- the names of a sort, in the order of their places
abbrev pub names_of : PoolType → Sort → List FullName
names_of p messages = map message_name p.messages
names_of p enums = map enum_name p.enums
names_of p extensions = map extension_name p.extensions
names_of p services = map service_name p.services

-- the place of a definition of the sort
abbrev pub place_of : Sort → DefinitionKind → Option ℕ
place_of s kind.Package = None
place_of s (kind.Message i) = elim s
    [ messages ↦ Some i | enums ↦ None | extensions ↦ None | services ↦ None ]
place_of s kind.Field = None
place_of s kind.Oneof = None
place_of s (kind.Enum i) = elim s
    [ messages ↦ None | enums ↦ Some i | extensions ↦ None | services ↦ None ]
place_of s kind.EnumValue = None
place_of s (kind.Service i) = elim s
    [ messages ↦ None | enums ↦ None | extensions ↦ None | services ↦ Some i ]
place_of s kind.Method = None
place_of s (kind.Extension i) =
    elim s [ messages ↦ None | enums ↦ None | extensions ↦ Some i | services ↦ None ]

abbrev pub with_file : Definition → Option ℕ → Option (ℕ × ℕ)
with_file d None = None
with_file d (Some i) = Some (i, d.file)

-- the place of what a full name stands for, where that is of the sort, and the file of its
-- declaration
abbrev pub place_in : Sort → Option Definition → Option (ℕ × ℕ)
place_in s None = None
place_in s (Some d) = with_file d (place_of s d.kind)

abbrev pub found : Sort → Known → List ℕ → Option (ℕ × ℕ)
found s known t = place_in s (known t)

-- a full name stands for a place exactly where it is the one at this place
abbrev pub AreFound : (List ℕ → Option (ℕ × ℕ)) → List FullName → Type 0
AreFound at names = (t : List ℕ) (i file : ℕ)
    → (at t ≡ Some (i, file) → slice_get names i ≡ Some (t, file))
    × (slice_get names i ≡ Some (t, file) → at t ≡ Some (i, file))

-- the files ascend
abbrev pub AreInOrder : List FullName → Type 0
AreInOrder [] = Unit {0}
AreInOrder (x ∷ xs) = AllByRecursion (λ y. x.1 ≤ y.1) xs × AreInOrder xs

-- the names of each sort stand for their places, and their files ascend
pub record AreNamed (known : Known) (names : Sort → List FullName) : Type 0 where
  pub found : (s : Sort) → AreFound (found s known) (names s)
  pub in_order : (s : Sort) → AreInOrder (names s)
