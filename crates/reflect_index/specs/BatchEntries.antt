-- The entries of a batch are those of its declarations.
use Rattle.std.specs.Prelude.{◌≡◌, ℕ, ◌+◌, List, map}
use Rattle.std.specs.List.{AllZip, AllByRecursion}
use Rattle.reflect_names.specs.declared.resolve_visitor.Reference.{Reference}
use Rattle.reflect_declarations.specs.Declarations.{Declaration}
use Rattle.reflect_declarations.specs.declared.offsets.Offsets.{Offsets}
use Rattle.reflect_tables.specs.Types.{ListsMembers}
use Rattle.reflect_tables.specs.Views.{message_of, extension_of, declared_of}
use Rattle.reflect_index.specs.Along.{before_files, along, parts, all_of, is_message, is_field, is_oneof, is_enum, is_value, is_service, is_method, is_extension}
use Rattle.reflect_index.specs.Children.{in_message, in_file, child_places, file_places, stored_children, children_at, places_at}
use Rattle.reflect_index.specs.Entries.{IsHeadOf, IsFieldOf, IsOneofOf, IsValueOf, IsMethodOf, IsExtensionOf}
use Rattle.reflect_index.specs.Entry.{KeepsEntry}
use Rattle.reflect_index.specs.Grown.{list_at, message_head, enum_head, service_head, stored_fields, stored_oneofs, stored_value_types, stored_methods}
use Rattle.reflect_index.specs.Members.{MarksOneofs}
use Rattle.reflect_index.specs.declared.batch.Batch.{Batch}

-- where references mean this, so much was declared before, and the first file has this index: there
-- are the messages, enums, services and extensions that are declared, each message has the fields
-- and oneofs that are declared in it, each enum the values, and each service the methods; a message
-- lists the places of the types and extensions that it declares, a file those of the types,
-- extensions and services that it declares outside of messages, and a oneof its members; all in
-- their order. A oneof is called synthetic exactly where it stands for one `optional` field of
-- proto3, and the type of a map's entries has its key and its value
pub record IsBatchOf (rs : List Reference) (before : Offsets) (first : ℕ) (ds : List Declaration)
    (b : Batch) : Type 0 where
  pub messages : AllZip IsHeadOf (all_of is_message (along (before_files rs) ds))
      (map message_head b.messages.items)
  pub enums : AllZip IsHeadOf (all_of is_enum (along (before_files rs) ds))
      (map enum_head b.enums.items)
  pub services : AllZip IsHeadOf (all_of is_service (along (before_files rs) ds))
      (map service_head b.services.items)
  pub fields : (k : ℕ) → AllZip IsFieldOf
      (parts is_field (before.messages + k) (along (before_files rs) ds))
      (list_at (map stored_fields b.messages.items) k)
  pub oneofs : (k : ℕ) → AllZip IsOneofOf
      (parts is_oneof (before.messages + k) (along (before_files rs) ds))
      (list_at (map stored_oneofs b.messages.items) k)
  pub values : (k : ℕ) → AllZip IsValueOf
      (parts is_value (before.enums + k) (along (before_files rs) ds))
      (list_at (map stored_value_types b.enums.items) k)
  pub methods : (k : ℕ) → AllZip IsMethodOf
      (parts is_method (before.services + k) (along (before_files rs) ds))
      (list_at (map stored_methods b.services.items) k)
  pub extensions : AllZip IsExtensionOf (all_of is_extension (along (before_files rs) ds))
      (map extension_of b.extensions.items)
  pub children : (k : ℕ) → children_at (map stored_children b.messages.items) k
      ≡ child_places (in_message (before.messages + k) ds)
  pub declared : (k : ℕ) → places_at (map declared_of b.files.items) k
      ≡ file_places (in_file (first + k) ds)
  pub members : AllByRecursion ListsMembers (map message_of b.messages.items)
  pub synthetic : AllByRecursion MarksOneofs b.messages.items
  pub entries : AllByRecursion KeepsEntry b.messages.items
