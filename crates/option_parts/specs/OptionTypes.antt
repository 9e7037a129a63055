-- What the type of a scope's options has, so that options can be read by it, as descriptor.proto
-- declares it ("Custom Options"): a list of uninterpreted options, the numbers from 1000 on for
-- extensions, and the option that linking reads itself.
use Rattle.std.specs.Prelude.{◌≡◌, ◌<◌, ◌==◌, ◌&&◌, ◌⊎◌, ℕ, List, [], ◌∷◌, Bool, true, false, Option, None, Some, IfSome, codes, map, slice_index_or, string_bytes}
use Rattle.std.specs.List.{list_any}
use Rattle.descriptor_records.specs.declared.message.DescriptorProto.{DescriptorProto}
use Rattle.descriptor_records.specs.declared.message.DescriptorProto.TheViews.{out-DescriptorProto}
use Rattle.reflect_tables.specs.Finding.{IsFirst}
use Rattle.reflect_tables.specs.Types.{PoolType, FieldType, KindType, bool, message}
use Rattle.reflect_pool.specs.Shapes.{holds_list}
use Rattle.reflect_link.specs.Lent.{IsMessageOf}
use Rattle.reflect_link.specs.Reserved.{extension_bounds}
use Rattle.reflect_message.specs.Known.{numbered_field}
use Rattle.option_parts.specs.declared.option_error.OptionErrorKind.{OptionErrorKind}
use Rattle.option_parts.specs.declared.option_error.OptionErrorKind.TheVariants.{BadDescriptorProto}
use Rattle.option_parts.specs.declared.option_scope.OptionScope.{OptionScope}
use Rattle.option_parts.specs.declared.option_scope.OptionScope.TheVariants as scopes

-- the full name of the scope's type
abbrev pub type_name : OptionScope → List ℕ
type_name scopes.File = codes "google.protobuf.FileOptions"
type_name scopes.Message = codes "google.protobuf.MessageOptions"
type_name scopes.Field = codes "google.protobuf.FieldOptions"
type_name scopes.Oneof = codes "google.protobuf.OneofOptions"
type_name scopes.Enum = codes "google.protobuf.EnumOptions"
type_name scopes.EnumValue = codes "google.protobuf.EnumValueOptions"
type_name scopes.Service = codes "google.protobuf.ServiceOptions"
type_name scopes.Method = codes "google.protobuf.MethodOptions"
type_name scopes.ExtensionRange = codes "google.protobuf.ExtensionRangeOptions"

-- the name and the number of the option that linking reads itself
abbrev pub typed_option : OptionScope → Option (List ℕ × ℕ)
typed_option scopes.Field = Some (codes "packed", 2)
typed_option scopes.Enum = Some (codes "allow_alias", 2)
typed_option scopes.Message = Some (codes "map_entry", 7)
typed_option _ = None

-- the field of the number, in the type at a place of the pool, is one of these
abbrev pub HasField : PoolType → ℕ → ℕ → (FieldType → Type 0) → Type 0
HasField pool m number Is = (f : FieldType) × (numbered_field pool m number ≡ Some f) × Is f

abbrev pub IsOfMessages : KindType → Type 0
IsOfMessages (message _) = Unit {0}
IsOfMessages _ = ⊥

-- a list of messages, each written behind its length
pub record ListsMessages (pool : PoolType) (f : FieldType) : Type 0 where
  pub named : f.name ≡ codes "uninterpreted_option"
  pub listed : holds_list pool f ≡ true
  pub by_length : f.group ≡ false
  pub messages : IsOfMessages f.kind

-- one truth value, of which it is told whether it is set
pub record IsTruthValue (name : List ℕ) (f : FieldType) : Type 0 where
  pub named : f.name ≡ name
  pub truth : f.kind ≡ bool
  pub presence : f.presence ≡ true
  pub alone : f.oneof ≡ None

-- the range of all numbers from 1000 on
abbrev pub is_custom : ℕ × ℕ → Bool
is_custom range = (range.0 == 1000) && (range.1 == 536870912)

-- one of the ranges that its record keeps for extensions is that one
abbrev pub KeepsExtensions : PoolType → ℕ → Type 0
KeepsExtensions pool m = (r : DescriptorProto) × IsMessageOf pool m r
    × (list_any is_custom (map extension_bounds (out-DescriptorProto r).extension_range.items)
    ≡ true)

-- options of the scope can be read by the type at a place of the pool
pub record IsOptionType (pool : PoolType) (scope : OptionScope) (m : ℕ) : Type 0 where
  pub uninterpreted : HasField pool m 999 (ListsMessages pool)
  pub extensions : KeepsExtensions pool m
  pub typed : IfSome (typed_option scope) (λ o. HasField pool m o.1 (IsTruthValue o.0))

-- the message type at a place is the pool's first of the scope's name
abbrev pub IsNamedType : PoolType → OptionScope → ℕ → Type 0
IsNamedType pool scope m = IsFirst (λ t. t.full_name ≡ type_name scope) pool.messages (Some m)

-- the pool's type of the scope, if there is one, is such a type
abbrev pub CanRead : PoolType → OptionScope → Type 0
CanRead pool scope = (m : ℕ) → IsNamedType pool scope m → IsOptionType pool scope m

-- there is one, and it is such a type
abbrev pub ReadsOptions : PoolType → OptionScope → Type 0
ReadsOptions pool scope = (m : ℕ) × IsNamedType pool scope m × IsOptionType pool scope m

-- what is told is that the type of this name is none to read options by
abbrev pub TellsName : List ℕ → OptionErrorKind → Type 0
TellsName name (BadDescriptorProto told) = string_bytes told ≡ name
TellsName name _ = ⊥

-- the scopes, as they are gone through
abbrev pub all_scopes : List OptionScope
all_scopes = scopes.File ∷ scopes.Message ∷ scopes.Field ∷ scopes.Oneof ∷ scopes.Enum
    ∷ scopes.EnumValue ∷ scopes.Service ∷ scopes.Method ∷ scopes.ExtensionRange ∷ []

abbrev pub scope_at : ℕ → OptionScope
scope_at n = slice_index_or all_scopes n scopes.File

-- this holds for each scope before a place
abbrev pub HoldsBefore : (OptionScope → Type 0) → ℕ → Type 0
HoldsBefore Holds n = (i : ℕ) → i < n → Holds (scope_at i)

-- it is the name of the first scope's type for which this does not hold
abbrev pub TellsType : (OptionScope → Type 0) → OptionErrorKind → Type 0
TellsType Holds kind = (n : ℕ) × TellsName (type_name (scope_at n)) kind
    × (Holds (scope_at n) → ⊥) × HoldsBefore Holds n

-- the pool has a type of the scope
abbrev pub IsThere : PoolType → OptionScope → Type 0
IsThere pool scope = (m : ℕ) × IsNamedType pool scope m

-- of all nine it is the first that is missing, and where none is the first to read no options by
abbrev pub TellsRequired : PoolType → OptionErrorKind → Type 0
TellsRequired pool kind = TellsType (IsThere pool) kind
    ⊎ (((scope : OptionScope) → IsThere pool scope) × TellsType (CanRead pool) kind)
