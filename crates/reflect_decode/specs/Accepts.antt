-- Which records a message type accepts (protobuf.dev, "Encoding", Message Structure, Packed
-- Repeated Fields, Groups, Maps).
use Rattle.std.specs.Prelude.{◌≡◌, ◌⊎◌, ℕ, zero, suc, ◌<◌, Bool, true, false, List, Option, None, Some}
use Rattle.std.specs.List.{AllByRecursion}
use Rattle.std.specs.Option.{option_or}
use Rattle.reflect_tables.specs.Types.{PoolType, FieldType, KindType}
use Rattle.reflect_pool.specs.Kinds.{IsKind}
use Rattle.reflect_pool.specs.Shapes.{holds_list, holds_map}
use Rattle.reflect_pool.specs.declared.kind.Kind.{Kind}
use Rattle.reflect_pool.specs.declared.kind.Kind.TheVariants as kinds
use Rattle.reflect_pool.specs.declared.message.MessageDescriptor.{MessageDescriptor}
use Rattle.reflect_wire.specs.Records.{Payload}
use Rattle.reflect_scalar.specs.Meaning.{StandsFor}
use Rattle.reflect_scalar.specs.Singles.{Single}
use Rattle.reflect_message.specs.KindTypes.{IsMessageType}
use Rattle.reflect_message.specs.Known.{entry_field, known_field, known_extension}
use Rattle.reflect_decode.specs.Elements.{IsRow}
use Rattle.reflect_decode.specs.Keeps.{payloads}
use Rattle.reflect_decode.specs.Messages.{IsInside, IsEntryBody}

-- which payloads hold a message of the type at a place of a pool, by whether its field is a group
abbrev pub Acceptable : Type 1
Acceptable = Bool → PoolType → ℕ → Payload → Type 0

-- the payload of one value of the kind
abbrev pub AcceptsKind : Acceptable → Bool → Kind → Payload → Type 0
AcceptsKind inner grouped (kinds.Message d) p = inner grouped d.pool.now d.index p
AcceptsKind inner grouped kind p = (v : Single) × StandsFor kind p v

-- the payload of one value of a list, or of values that are packed
abbrev pub AcceptsElement : Acceptable → Bool → Kind → Payload → Type 0
AcceptsElement inner grouped kind p = AcceptsKind inner grouped kind p
    ⊎ ((vs : List Single) × IsRow kind p vs)

abbrev pub AcceptsOne : Acceptable → PoolType → FieldType → Payload → Type 0
AcceptsOne inner pool f p = (kind : Kind) × IsKind pool kind f.kind
    × AcceptsKind inner f.group kind p

abbrev pub AcceptsListed : Acceptable → PoolType → FieldType → Payload → Type 0
AcceptsListed inner pool f p = (kind : Kind) × IsKind pool kind f.kind
    × AcceptsElement inner f.group kind p

-- an entry of a map of the type: its key under 1, its value under 2; a message value is one level
-- below, written or not
abbrev pub AcceptsEntry : ℕ → Acceptable → PoolType → KindType → Payload → Type 0
AcceptsEntry levels inner pool t p =
    (keys values : FieldType) × (rs : List (ℕ × Payload))
    × (entry_field pool t 1 ≡ Some keys) × (entry_field pool t 2 ≡ Some values)
    × IsEntryBody levels p rs × (IsMessageType values.kind → 0 < levels)
    × AllByRecursion (AcceptsOne inner pool keys) (payloads 1 rs)
    × AllByRecursion (AcceptsOne inner pool values) (payloads 2 rs)

-- by whether the field is a map, and whether it is a list
abbrev pub AcceptsAs : ℕ → Acceptable → PoolType → FieldType → Bool → Bool → Payload → Type 0
AcceptsAs levels inner pool f true list p = AcceptsEntry levels inner pool f.kind p
AcceptsAs levels inner pool f false true p = AcceptsListed inner pool f p
AcceptsAs levels inner pool f false false p = AcceptsOne inner pool f p

abbrev pub AcceptsField : ℕ → Acceptable → PoolType → FieldType → Payload → Type 0
AcceptsField levels inner pool f p =
    AcceptsAs levels inner pool f (holds_map pool f) (holds_list pool f) p

-- the field, or else the extension, whose records those of the number are
abbrev pub declared_at : PoolType → ℕ → ℕ → Option FieldType
declared_at pool i n = option_or (known_field pool i n) (known_extension pool i n)

-- of a number that is not declared any payload is accepted
abbrev pub AcceptsIf : ℕ → Acceptable → PoolType → Option FieldType → Payload → Type 0
AcceptsIf levels inner pool None p = Unit {0}
AcceptsIf levels inner pool (Some f) p = AcceptsField levels inner pool f p

abbrev pub AcceptsRecord : ℕ → Acceptable → PoolType → ℕ → ℕ × Payload → Type 0
AcceptsRecord levels inner pool i r = AcceptsIf levels inner pool (declared_at pool i r.0) r.1

-- a message that stands at the last of so many levels, or above; at none there is no message
abbrev pub AcceptsMessage : ℕ → Acceptable
AcceptsMessage zero grouped pool i p = ⊥
AcceptsMessage (suc levels) grouped pool i p =
    (rs : List (ℕ × Payload)) × IsInside grouped levels p rs
    × AllByRecursion (AcceptsRecord levels (AcceptsMessage levels) pool i) rs

-- the type accepts each of the records, with at most so many levels of messages and groups below
abbrev pub Accepts : ℕ → MessageDescriptor → List (ℕ × Payload) → Type 0
Accepts levels m rs =
    AllByRecursion (AcceptsRecord levels (AcceptsMessage levels) m.pool.now m.index) rs
