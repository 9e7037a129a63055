-- Names as sources spell them (protobuf.dev, "Protocol Buffers Language Specification": Lexical
-- Elements, Group Field, Map Field).
use Rattle.std.specs.Prelude.{◌≡◌, ◌≢◌, ◌<◌, ℕ, length, map, true, false, None, Some, codes}
use Rattle.std.specs.Char.{to_ascii_lowercase}
use Rattle.protobuf_model.specs.Types.{rival}
use Rattle.reflect_tables.specs.Types.{PoolType, FieldType, type_at, type_of_field, enum_at, extension_at}
use Rattle.reflect_tables.specs.Types as types
use Rattle.reflect_tables.specs.declared.stored.StoredEntry.{StoredEntry}
use Rattle.reflect_pool.specs.Parts.{type_of_value}
use Rattle.text_model.specs.Identifiers.{is_identifier, is_full_name}
use Rattle.text_model.specs.Printed.{parts}
use Rattle.message_view.specs.Types.{field_at}

-- no two fields of a type have one name, nor two values of an enum, nor two extensions one full
-- name
pub record HaveOwnNames (pool : PoolType) : Type 0 where
  pub fields : (i j k : ℕ) → j < length (type_at pool i).fields
      → k < length (type_at pool i).fields
      → (type_of_field pool i j).name ≡ (type_of_field pool i k).name → j ≡ k
  pub values : (i j k : ℕ) → j < length (enum_at pool i).values
      → k < length (enum_at pool i).values
      → (type_of_value pool i j).name ≡ (type_of_value pool i k).name → j ≡ k
  pub extensions : (j k : ℕ) → j < length pool.extensions → k < length pool.extensions
      → (extension_at pool j).field.full_name ≡ (extension_at pool k).field.full_name → j ≡ k

-- a group is of a message type, whose name no other field of its message has, and has this name in
-- lower case
pub record IsGroupField (pool : PoolType) (i : ℕ) (f : FieldType) : Type 0 where
  pub place : ℕ
  pub kind : f.kind ≡ types.message place
  pub spelled : is_identifier (type_at pool place).name ≡ true
  pub lower : f.name ≡ map to_ascii_lowercase (type_at pool place).name
  pub own : (k : ℕ) → k < length (type_at pool i).fields
      → (type_of_field pool i k).group ≡ false
      → (type_of_field pool i k).name ≢ (type_at pool place).name

-- the key and the value of a map's entries are called so, are no groups, have no defaults of their
-- own, and are not both in one oneof
pub record HasPartNames (pool : PoolType) (i : ℕ) (e : StoredEntry) : Type 0 where
  pub key : (type_of_field pool i e.key).name ≡ codes "key"
  pub value : (type_of_field pool i e.value).name ≡ codes "value"
  pub plain_key : (type_of_field pool i e.key).group ≡ false
  pub plain_value : (type_of_field pool i e.value).group ≡ false
  pub usual_key : (type_of_field pool i e.key).default ≡ None
  pub usual_value : (type_of_field pool i e.value).default ≡ None
  pub apart : rival (field_at pool i) 2 1 ≡ false

-- fields, extensions and values of enums are called as a text can spell them
pub record HasSourceNames (pool : PoolType) : Type 0 where
  pub distinct : HaveOwnNames pool
  pub fields : (i j : ℕ) → j < length (type_at pool i).fields
      → is_identifier (type_of_field pool i j).name ≡ true
  pub values : (i j : ℕ) → j < length (enum_at pool i).values
      → is_identifier (type_of_value pool i j).name ≡ true
  pub extensions : (k : ℕ) → k < length pool.extensions
      → is_full_name (parts (extension_at pool k).field.full_name) ≡ true
  pub groups : (i j : ℕ) → j < length (type_at pool i).fields
      → (type_of_field pool i j).group ≡ true → IsGroupField pool i (type_of_field pool i j)
  pub entries : (i : ℕ) (e : StoredEntry) → (type_at pool i).entry ≡ Some e
      → HasPartNames pool i e
