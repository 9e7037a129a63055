-- The bytes that a message is written in (protobuf.dev, "Encoding").
use Rattle.std.specs.Prelude.{ℕ, Bool, true, false, not, cond, ◌||◌, List, [], ◌∷◌, ◌++◌, map, reverse, Option, None, Some, string_bytes}
use Rattle.std.specs.List.{flat_map}
use Rattle.std.specs.Option.{option_and_then}
use Rattle.std.specs.Int.{w64, cast_unsigned}
use Rattle.reflect_tables.specs.Types.{PoolType, FieldType, KindType}
use Rattle.reflect_tables.specs.Types as types
use Rattle.reflect_wire.specs.Records.{Payload, varint, key_of}
use Rattle.reflect_wire.specs.Views.{records_of}
use Rattle.reflect_wire.specs.Encoding.{key_bytes, field_bytes, records_bytes}
use Rattle.reflect_wire.specs.declared.wire_key.WireType.TheVariants.{StartGroup, EndGroup}
use Rattle.reflect_codec.specs.Fields.{payload_field}
use Rattle.reflect_pool.specs.declared.kind.Kind.TheVariants as kinds
use Rattle.reflect_scalar.specs.Defaults.{default_in, same_single}
use Rattle.reflect_scalar.specs.Keys.{key_view}
use Rattle.reflect_scalar.specs.declared.map_key.MapKey.{MapKey}
use Rattle.reflect_scalar.specs.Singles.{Single, truth, int32, int64, uint32, uint64, text, blob, enumerated}
use Rattle.reflect_scalar.specs.Written.{written, plain_bytes}
use Rattle.reflect_entries.specs.Pairs.{on_value}
use Rattle.reflect_entries.specs.Sets.{up_to, above}
use Rattle.reflect_entries.specs.Undeclared.{undeclared}
use Rattle.reflect_message.specs.Known.{entry_field, known_field, known_extension}
use Rattle.reflect_message.specs.Names.{DynamicMessage, Held, Parts, Value}
use Rattle.reflect_message.specs.declared.parts.HeldOf.TheFolds.{fold-HeldOf, fold-ValueOf}
use Rattle.reflect_message.specs.declared.parts.HeldOf.TheOpen.{HeldOf-F, PartsOf-F, ValueOf-F, MessageOf-F}
use Rattle.reflect_pool.specs.declared.message.MessageDescriptor.{MessageDescriptor}

-- what a single value is written as in a field of the kind, none where it does not suit it
abbrev pub payload_in : KindType → Single → Option Payload
payload_in types.int32 v = written kinds.Int32 v
payload_in types.int64 v = written kinds.Int64 v
payload_in types.uint32 v = written kinds.Uint32 v
payload_in types.uint64 v = written kinds.Uint64 v
payload_in types.sint32 v = written kinds.Sint32 v
payload_in types.sint64 v = written kinds.Sint64 v
payload_in types.fixed32 v = written kinds.Fixed32 v
payload_in types.fixed64 v = written kinds.Fixed64 v
payload_in types.sfixed32 v = written kinds.Sfixed32 v
payload_in types.sfixed64 v = written kinds.Sfixed64 v
payload_in types.bool v = written kinds.Bool v
payload_in types.string v = written kinds.String v
payload_in types.bytes v = written kinds.Bytes v
payload_in (types.enumeration i) (enumerated z) = Some (varint (cast_unsigned w64 z))
payload_in _ _ = None

-- its record, and its bytes in a packed one
abbrev pub record_in : KindType → ℕ → Option Single → List ℕ
record_in kind n v = elim (option_and_then (payload_in kind) v)
    [ None ↦ [] | Some p ↦ field_bytes (n, p) ]

abbrev pub bare_in : KindType → Option Single → List ℕ
bare_in kind v = elim (option_and_then (payload_in kind) v) [ None ↦ [] | Some p ↦ plain_bytes p ]

-- a message's records as the value of a field: between a group's tags, or behind their length
abbrev pub framed : FieldType → List ℕ → List ℕ
framed f body = cond f.group (key_bytes (key_of f.number StartGroup)
    ++ (body ++ key_bytes (key_of f.number EndGroup))) (payload_field f.number body)

-- how a value is written, as one value of a field and as all that a field holds; where it is no
-- single value, it is filled if it is a message, or a list or a map with anything in it
pub record Form : Type 0 where
  pub single : Option Single
  pub filled : Bool
  pub one : FieldType → List ℕ
  pub whole : PoolType → FieldType → List ℕ

abbrev pub is_default : PoolType → FieldType → Option Single → Bool
is_default pool f None = false
is_default pool f (Some v) = elim (default_in pool f) [ None ↦ false | Some d ↦ same_single v d ]

-- a field with presence is written wherever it is held, another where it is filled, or holds no
-- default
abbrev pub is_set : PoolType → FieldType → Form → Bool
is_set pool f w = f.presence || elim w.single
    [ None ↦ w.filled | Some v ↦ not (is_default pool f (Some v)) ]

abbrev pub content_bytes : PoolType → FieldType → Form → List ℕ
content_bytes pool f w = cond (is_set pool f w) (w.whole pool f) []

abbrev pub single_form : Single → Form
single_form v = record {
  single = Some v;
  filled = true;
  one =
      λ f. record_in f.kind f.number (Some v);
  whole = λ pool f. record_in f.kind f.number (Some v);
}

abbrev pub message_form : List ℕ → Form
message_form body = record {
  single = None;
  filled = true;
  one = λ f. framed f body;
  whole =
      λ pool f. framed f body;
}

-- packed, all values stand in one record
abbrev pub list_bytes : FieldType → List Form → List ℕ
list_bytes f ws = flat_map (λ w. w.one f) ws

abbrev pub row_in : KindType → List Form → List ℕ
row_in kind ws = flat_map (λ w. bare_in kind w.single) ws

abbrev pub list_form : List Form → Form
list_form ws = record {
  single = None;
  filled = elim ws [ [] ↦ false | w ∷ rest ↦ true ];
  one = λ f. [];
  whole = λ pool f. cond f.packed (payload_field f.number (row_in f.kind ws)) (list_bytes f ws);
}

-- an entry is a message of the key, left out where it is the default, and the value, likewise
abbrev pub key_part : PoolType → FieldType → Single → List ℕ
key_part pool keys v = cond (keys.presence || not (is_default pool keys (Some v)))
    (record_in keys.kind keys.number (Some v)) []

abbrev pub entry_bytes : PoolType → FieldType → FieldType → FieldType → MapKey × Form → List ℕ
entry_bytes pool f keys values e =
    payload_field f.number (key_part pool keys (key_view e.0) ++ content_bytes pool values e.1)

abbrev pub map_bytes : PoolType → FieldType → List (MapKey × Form) → List ℕ
map_bytes pool f es = elim (entry_field pool f.kind 1) [
  | None ↦ []
  | Some keys ↦ elim (entry_field pool f.kind 2)
      [ None ↦ [] | Some values ↦ flat_map (entry_bytes pool f keys values) es ]
]

abbrev pub map_form : List (MapKey × Form) → Form
map_form es = record {
  single = None;
  filled = elim es [ [] ↦ false | e ∷ rest ↦ true ];
  one =
      λ f. [];
  whole = λ pool f. map_bytes pool f es;
}

-- what a declared field holds, and an extension, by the place of the type that they are of
abbrev pub declared_bytes : PoolType → ℕ → ℕ × Form → List ℕ
declared_bytes pool i e = elim (known_field pool i e.0)
    [ None ↦ [] | Some f ↦ content_bytes pool f e.1 ]

abbrev pub extension_bytes : PoolType → ℕ → ℕ × Form → List ℕ
extension_bytes pool i e = elim (known_extension pool i e.0)
    [ None ↦ [] | Some f ↦ content_bytes pool f e.1 ]

-- extensions, from the last one down, each between the records up to its number and those above it
-- (no record has the number 0)
abbrev pub others_down : PoolType → ℕ → List (ℕ × Form) → List (ℕ × Payload) → List ℕ
others_down pool i [] records = records_bytes (records_of (above 0 records))
others_down pool i (e ∷ es) records = others_down pool i es (up_to e.0 records)
    ++ (extension_bytes pool i e ++ records_bytes (records_of (above e.0 records)))

-- declared fields, then extensions and records of undeclared numbers
abbrev pub content : PoolType → ℕ → List (ℕ × Form) → List (ℕ × Form) → List (ℕ × Payload) → List ℕ
content pool i fields extensions records = flat_map (declared_bytes pool i) fields
    ++ others_down pool i (reverse extensions) records

-- one level of a value, of a message, of what it holds and of its parts
abbrev pub value_step : ValueOf-F MessageDescriptor (PoolType → ℕ → List ℕ) Form (List ℕ)
    (PoolType → ℕ → List ℕ) → Form
value_step (ValueOf-F.Bool b) = single_form (truth b)
value_step (ValueOf-F.I32 z) = single_form (int32 z)
value_step (ValueOf-F.I64 z) = single_form (int64 z)
value_step (ValueOf-F.U32 n) = single_form (uint32 n)
value_step (ValueOf-F.U64 n) = single_form (uint64 n)
value_step (ValueOf-F.String t) = single_form (text (string_bytes t))
value_step (ValueOf-F.Bytes b) = single_form (blob b.items)
value_step (ValueOf-F.EnumNumber z) = single_form (enumerated z)
value_step (ValueOf-F.Message m) = message_form m
value_step (ValueOf-F.List vs) = list_form vs.items
value_step (ValueOf-F.Map es) = map_form es.entries

abbrev pub message_step : MessageOf-F MessageDescriptor (PoolType → ℕ → List ℕ) Form (List ℕ)
    (PoolType → ℕ → List ℕ) → List ℕ
message_step m = m.held m.descriptor.pool.now m.descriptor.index

abbrev pub held_step : HeldOf-F MessageDescriptor (PoolType → ℕ → List ℕ) Form (List ℕ)
    (PoolType → ℕ → List ℕ) → PoolType → ℕ → List ℕ
held_step HeldOf-F.Nothing = λ pool i. []
held_step (HeldOf-F.Block b) = b.value

abbrev pub parts_step : PartsOf-F MessageDescriptor (PoolType → ℕ → List ℕ) Form (List ℕ)
    (PoolType → ℕ → List ℕ) → PoolType → ℕ → List ℕ
parts_step p = λ pool i. content pool i p.fields p.extensions (undeclared p.unknown)

-- how a value is written, at each depth
abbrev pub form_of : Value → Form
form_of = fold-ValueOf MessageDescriptor (PoolType → ℕ → List ℕ) Form (List ℕ)
    (PoolType → ℕ → List ℕ) held_step value_step message_step parts_step

abbrev pub held_bytes : Held → PoolType → ℕ → List ℕ
held_bytes = fold-HeldOf MessageDescriptor (PoolType → ℕ → List ℕ) Form (List ℕ)
    (PoolType → ℕ → List ℕ) held_step value_step message_step parts_step

-- the records of a message
abbrev pub message_bytes : DynamicMessage → List ℕ
message_bytes m = held_bytes m.held m.descriptor.pool.now m.descriptor.index

abbrev pub forms : List (ℕ × Value) → List (ℕ × Form)
forms es = map (on_value form_of) es

abbrev pub parts_bytes : PoolType → ℕ → Parts → List ℕ
parts_bytes pool i p = content pool i (forms p.fields) (forms p.extensions) (undeclared p.unknown)
