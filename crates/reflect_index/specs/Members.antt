-- How the lists of a message's oneofs grow, and which oneofs stand for one field.
use Rattle.std.specs.Prelude.{◌≡◌, ◌<◌, ◌++◌, ℕ, List, [], ◌∷◌, length, Bool, false, cond, Option, None, Some, slice_get, slice_index_or}
use Rattle.std.specs.List.{All}
use Rattle.reflect_tables.specs.Types.{FieldType, OneofType, is_member, no_oneof}
use Rattle.reflect_tables.specs.declared.stored.StoredField.{StoredField}
use Rattle.reflect_tables.specs.declared.stored.StoredMessage.{StoredMessage}
use Rattle.reflect_tables.specs.declared.stored.StoredOneof.{StoredOneof}

-- the oneof that the field is a member of lists its place behind the others
pub record Joins (f : FieldType) (place : ℕ) (old new : List OneofType) : Type 0 where
  pub count : length new ≡ length old
  pub lists : (k : ℕ) → k < length old → (slice_index_or new k no_oneof).fields
      ≡ (slice_index_or old k no_oneof).fields ++ cond (is_member k f) (place ∷ []) []

-- the field at a place was declared `optional` in a proto3 file
abbrev pub is_optional : Option StoredField → Bool
is_optional None = false
is_optional (Some f) = f.is_proto3_optional

-- the places are those of such a field alone
abbrev pub is_lone : List StoredField → List ℕ → Bool
is_lone fields (place ∷ []) = is_optional (slice_get fields place)
is_lone fields _ = false

-- a oneof is called synthetic where its only member is a field that was declared `optional` in a
-- proto3 file (descriptor.proto,
-- `proto3_optional`; protobuf.dev, "Application Note: Field Presence")
abbrev pub IsMarked : List StoredField → StoredOneof → Type 0
IsMarked fields o = o.is_synthetic ≡ is_lone fields o.fields.items

abbrev pub AreMarked : List StoredField → List StoredOneof → Type 0
AreMarked fields oneofs = All (IsMarked fields) oneofs

abbrev pub oneof_members : StoredOneof → List ℕ
oneof_members o = o.fields.items

abbrev pub MarksOneofs : StoredMessage → Type 0
MarksOneofs m = AreMarked m.fields.list.items m.oneofs.items
