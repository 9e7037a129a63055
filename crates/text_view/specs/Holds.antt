-- Messages that hold values of the kinds of their fields.
use Rattle.std.specs.Prelude.{◌≡◌, ℕ, Bool, true, false, List, Option, None, Some}
use Rattle.std.specs.List.{AllByRecursion}
use Rattle.protobuf_model.specs.Types.{Scalar}
use Rattle.protobuf_model.specs.Types as kinds
use Rattle.protobuf_model.specs.Values.{Single, truth, int32, int64, uint32, uint64, text, blob, enumerated}
use Rattle.reflect_tables.specs.Types.{PoolType, FieldType, KindType}
use Rattle.reflect_entries.specs.Entries.{value_at}
use Rattle.reflect_pool.specs.Shapes.{holds_list, holds_map}
use Rattle.reflect_scalar.specs.Keys.{key_view}
use Rattle.reflect_scalar.specs.declared.map_key.MapKey.{MapKey}
use Rattle.reflect_message.specs.Held.{fields_of, extensions_of}
use Rattle.reflect_message.specs.KindTypes.{IsScalarType, IsMessageType}
use Rattle.reflect_message.specs.Known.{known_field, known_extension}
use Rattle.reflect_message.specs.Lists.{list_items}
use Rattle.reflect_message.specs.Maps.{map_entries}
use Rattle.reflect_message.specs.Messages.{message_in}
use Rattle.reflect_message.specs.Names.{DynamicMessage, Value}
use Rattle.reflect_format.specs.Kinds.{single_of}
use Rattle.message_view.specs.Singles.{scalar_of, single_view}
use Rattle.message_view.specs.Types.{entry_part}

-- the value has the form that values of the kind have, whatever it says
abbrev pub HasForm : Scalar → Single → Type 0
HasForm kinds.int32 (int32 z) = Unit {0}
HasForm kinds.int64 (int64 z) = Unit {0}
HasForm kinds.uint32 (uint32 n) = Unit {0}
HasForm kinds.uint64 (uint64 n) = Unit {0}
HasForm kinds.sint32 (int32 z) = Unit {0}
HasForm kinds.sint64 (int64 z) = Unit {0}
HasForm kinds.fixed32 (uint32 n) = Unit {0}
HasForm kinds.fixed64 (uint64 n) = Unit {0}
HasForm kinds.sfixed32 (int32 z) = Unit {0}
HasForm kinds.sfixed64 (int64 z) = Unit {0}
HasForm kinds.bool (truth b) = Unit {0}
HasForm kinds.string (text t) = Unit {0}
HasForm kinds.bytes (blob b) = Unit {0}
HasForm kinds.enumeration (enumerated z) = Unit {0}
HasForm _ _ = ⊥

-- a value of the kind: a message, or a single value of its form
abbrev pub IsOfKind : KindType → Value → Type 0
IsOfKind t v =
    (IsMessageType t → (m : DynamicMessage) × (message_in v ≡ Some m))
    × (IsScalarType t → (x : Single) × (single_of v ≡ Some x) × HasForm (scalar_of t) x)

-- the keys of entries have the form of the kind
abbrev pub HaveKeys : Scalar → List (MapKey × Value) → Type 0
HaveKeys k es = AllByRecursion (λ e. HasForm k (single_view (key_view e.0))) es

-- what a field holds, by whether it is a map, and whether it is a list
abbrev pub HoldsAs : PoolType → FieldType → Bool → Bool → Value → Type 0
HoldsAs pool f true list v =
    (es : List (MapKey × Value)) × (map_entries v ≡ Some es)
    × HaveKeys (scalar_of (entry_part pool f 1).kind) es
HoldsAs pool f false true v = (vs : List Value) × (list_items v ≡ Some vs)
HoldsAs pool f false false v = IsOfKind f.kind v

abbrev pub IsHeldAs : PoolType → FieldType → Option Value → Type 0
IsHeldAs pool f None = Unit {0}
IsHeldAs pool f (Some v) = HoldsAs pool f (holds_map pool f) (holds_list pool f) v

-- each field and each extension of the type at a place holds values of its kind
pub record AreHeldAs (pool : PoolType) (i : ℕ)
    (held extended : List (ℕ × Value)) : Type 0 where
  pub fields : (n : ℕ) (f : FieldType) → known_field pool i n ≡ Some f
      → IsHeldAs pool f (value_at held n)
  pub extensions : (n : ℕ) (f : FieldType) → known_extension pool i n ≡ Some f
      → IsHeldAs pool f (value_at extended n)

abbrev pub HoldsKinds : DynamicMessage → Type 0
HoldsKinds m =
    AreHeldAs m.descriptor.pool.now m.descriptor.index (fields_of m) (extensions_of m)
