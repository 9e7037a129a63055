-- That a pool is sound has one proof at most, so that a value may keep it as a fact.
use Rattle.std.proofs.Common.{◌≡◌, ℕ, Option, None, Some, sym, ◌∙◌}
use Rattle.std.proofs.Props.{props}
use mathlib.Core.HLevel.{is_prop→PathP}
use Rattle.reflect_tables.specs.Types.{PoolType, FieldType, KindType, MessageType, EnumType, ExtensionType, ServiceType, FilePlaces, IsWithin, IsAmong, HasParts, ListsMembers, ChildrenWithin, FileWithin, MessageWithin, EnumWithin, ExtensionWithin, ServiceWithin, ArePooled}
use Rattle.reflect_tables.specs.Types as types
use Rattle.reflect_tables.specs.declared.stored.StoredEntry.{StoredEntry}
use Rattle.reflect_tables.specs.declared.tables.Counts.{Counts}
use Rattle.reflect_scalar.specs.Singles as held
use Rattle.protobuf_model.specs.Values as model
use Rattle.protobuf_model.specs.Values.{Single}
use Rattle.protobuf_model.specs.Types.{Scalar}
use Rattle.protobuf_model.specs.Types as kinds
use Rattle.protobuf_model.specs.Scalars.{Suits}
use Rattle.reflect_decode.specs.Refused.{IsKeyKind, IsKeyValue}
use Rattle.message_laws.specs.MapKeys.{HaveMapKeys}
use Rattle.message_view.specs.Sound.{HaveNames, HaveEntryFields, IsPartAt, HaveEntryParts, HaveEntryDefaults, IsSound}

within_prop : (c : Counts) (k : KindType) → IsProp (IsWithin c k)
within_prop c (types.message i) = hlevel props
within_prop c (types.enumeration i) = hlevel props
within_prop c k = hlevel props

among_prop : (n : ℕ) (o : Option ℕ) → IsProp (IsAmong n o)
among_prop n None = hlevel props
among_prop n (Some i) = hlevel props

parts_prop : (n : ℕ) (o : Option StoredEntry) → IsProp (HasParts n o)
parts_prop n None = hlevel props
parts_prop n (Some e) = hlevel props

children_prop : (c : Counts) (p : types.ChildPlaces) → IsProp (ChildrenWithin c p)
children_prop c p = hlevel props

file_prop : (c : Counts) (f : FilePlaces) → IsProp (FileWithin c f)
file_prop c f = hlevel (children_prop, props)

message_prop : (c : Counts) (m : MessageType) → IsProp (MessageWithin c m)
message_prop c m = hlevel (within_prop, among_prop, parts_prop, props)

lists_prop : (m : MessageType) → IsProp (ListsMembers m)
lists_prop m = hlevel props

enum_prop : (c : Counts) (e : EnumType) → IsProp (EnumWithin c e)
enum_prop c e = hlevel (among_prop, props)

extension_prop : (c : Counts) (x : ExtensionType) → IsProp (ExtensionWithin c x)
extension_prop c x = hlevel (among_prop, within_prop, props)

service_prop : (c : Counts) (s : ServiceType) → IsProp (ServiceWithin c s)
service_prop c s = hlevel props

pooled_prop : (p : PoolType) → IsProp (ArePooled p)
pooled_prop p = hlevel (
  file_prop,
  message_prop,
  children_prop,
  lists_prop,
  enum_prop,
  extension_prop,
  service_prop,
  props,
)

names_prop : (p : PoolType) → IsProp (HaveNames p)
names_prop p = hlevel props

key_kind_prop : (k : KindType) → IsProp (IsKeyKind k)
key_kind_prop types.double = hlevel props
key_kind_prop types.float = hlevel props
key_kind_prop types.bytes = hlevel props
key_kind_prop (types.message i) = hlevel props
key_kind_prop (types.enumeration i) = hlevel props
key_kind_prop k = hlevel props

key_value_prop : (o : Option held.Single) → IsProp (IsKeyValue o)
key_value_prop None = hlevel props
key_value_prop (Some (held.truth b)) = hlevel props
key_value_prop (Some (held.int32 z)) = hlevel props
key_value_prop (Some (held.int64 z)) = hlevel props
key_value_prop (Some (held.uint32 n)) = hlevel props
key_value_prop (Some (held.uint64 n)) = hlevel props
key_value_prop (Some (held.text t)) = hlevel props
key_value_prop (Some v) = hlevel props

keys_prop : (p : PoolType) → IsProp (HaveMapKeys p)
keys_prop p = hlevel (key_kind_prop, key_value_prop, props)

kind_set : IsSet KindType
kind_set = hlevel props

field_set : IsSet FieldType
field_set = hlevel (kind_set, props)

option_set : IsSet (Option FieldType)
option_set = hlevel (field_set, props)

-- what is found twice is one
found_same : {X : Type 0} (set : IsSet (Option X)) (o p : Option X) (x y a b : X) (first : x ≡ a)
    (second : y ≡ b) (e : o ≡ Some x) (f : p ≡ Some y) (g : o ≡ Some a) (h : p ≡ Some b)
    → ◌≡◌ {A = (x y : X) × (o ≡ Some x) × (p ≡ Some y)} (x, y, e, f) (a, b, g, h)
found_same set o p x y a b first second e f g h =
    λ i. (
      first i,
      second i,
      is_prop→PathP (λ i. o ≡ Some (first i)) (λ i. set o (Some (first i))) e
          g i,
      is_prop→PathP (λ i. p ≡ Some (second i)) (λ i. set p (Some (second i))) f h i,
    )

found_prop : {X : Type 0} → IsSet (Option X) → (o p : Option X)
    → IsProp ((x y : X) × (o ≡ Some x) × (p ≡ Some y))
found_prop set o p (x, y, e, f) (a, b, g, h) =
    found_same set o p x y a b (cc (sym e ∙ g)) (cc (sym f ∙ h)) e f g h

entries_prop : (p : PoolType) → IsProp (HaveEntryFields p)
entries_prop p = hlevel (found_prop option_set, props)

part_prop : (p : PoolType) (i n place : ℕ) → IsProp (IsPartAt p i n place)
part_prop p i n place = hlevel props

entry_parts_prop : (p : PoolType) → IsProp (HaveEntryParts p)
entry_parts_prop p = hlevel (part_prop, props)

suits_prop : (k : Scalar) (v : Single) → IsProp (Suits k v)
suits_prop kinds.int32 (model.int32 z) = hlevel props
suits_prop kinds.int64 (model.int64 z) = hlevel props
suits_prop kinds.uint32 (model.uint32 n) = hlevel props
suits_prop kinds.uint64 (model.uint64 n) = hlevel props
suits_prop kinds.sint32 (model.int32 z) = hlevel props
suits_prop kinds.sint64 (model.int64 z) = hlevel props
suits_prop kinds.bool (model.truth b) = hlevel props
suits_prop kinds.enumeration (model.enumerated z) = hlevel props
suits_prop kinds.fixed32 (model.uint32 n) = hlevel props
suits_prop kinds.sfixed32 (model.int32 z) = hlevel props
suits_prop kinds.fixed64 (model.uint64 n) = hlevel props
suits_prop kinds.sfixed64 (model.int64 z) = hlevel props
suits_prop kinds.string (model.text t) = hlevel props
suits_prop kinds.bytes (model.blob b) = hlevel props
suits_prop k v = hlevel props

defaults_prop : (p : PoolType) → IsProp (HaveEntryDefaults p)
defaults_prop p = hlevel (suits_prop, props)

pub IsSound-prop : (p : PoolType) → IsProp (IsSound p)
IsSound-prop p = hlevel (
  pooled_prop,
  names_prop,
  keys_prop,
  entries_prop,
  entry_parts_prop,
  defaults_prop,
  props,
)
