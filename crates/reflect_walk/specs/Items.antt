-- What is declared by the items of a list.
use Rattle.std.specs.Prelude.{ℕ, ℤ, pos, ◌+◌, ◌++◌, List, [], Option, Some, None}
use Rattle.descriptor_records.specs.declared.file.FileDescriptorProto.{FileDescriptorProto}
use Rattle.reflect_declarations.specs.Tree.{MessageParts}
use Rattle.reflect_declarations.specs.Declarations.{Declaration, each, entry, one_enum, one_extension, one_service}
use Rattle.reflect_declarations.specs.declared.offsets.Offsets.{Offsets}

-- an item at its place in the list, where the index of the first is given
abbrev pub placed : {A : Type 0}
    → (List ℤ → List ℕ → ℕ → Option ℕ → ℕ → A → List Declaration)
    → List ℤ → ℤ → List ℕ → ℕ → Option ℕ → ℕ → ℕ → A → List Declaration
placed declared path tag scope file parent first k x =
    declared (entry path tag k) scope file parent (first + k) x

-- the enums and the extensions of the message of an index, where so much is declared before
abbrev pub message_items : List ℤ → List ℕ → ℕ → ℕ → Offsets → MessageParts → List Declaration
message_items path name file index o m =
    each (one_enum path (pos 4) name file (Some index) o.enums) 0 m.enum_type
    ++ each (one_extension path (pos 6) name file (Some index) o.extensions) 0 m.extension

-- the enums, the services and the extensions of a file
abbrev pub file_items : List ℕ → ℕ → Offsets → FileDescriptorProto → List Declaration
file_items scope file o f =
    each (one_enum [] (pos 5) scope file None o.enums) 0 f.enum_type.items
    ++ (each (one_service scope file o.services) 0 f.service.items
    ++ each (one_extension [] (pos 7) scope file None o.extensions) 0 f.extension.items)
