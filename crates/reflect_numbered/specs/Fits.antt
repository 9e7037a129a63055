-- Which values suit which fields (protobuf.dev, "Language Guide": Scalar Value Types, Maps), and
-- how much: on the surface a message is of its field's type, whatever it holds; in shape what is
-- held at each depth has the case of its field's kind and label; in type each message is besides of
-- its field's type.
use Rattle.std.specs.Prelude.{◌≡◌, ℕ, ◌==◌, ◌&&◌, not, Bool, true, false, List, map, Option, None, Some, bytes_eq, string_bytes}
use Rattle.std.specs.List.{list_all}
use Rattle.reflect_tables.specs.Types.{PoolType, FieldType, KindType, type_at}
use Rattle.reflect_tables.specs.Types as types
use Rattle.reflect_pool.specs.Shapes.{holds_list, holds_map}
use Rattle.reflect_pool.specs.declared.message.MessageDescriptor.{MessageDescriptor}
use Rattle.reflect_scalar.specs.Floats.{HoldsFloats}
use Rattle.reflect_scalar.specs.Keys.{key_view}
use Rattle.reflect_scalar.specs.Singles.{Single, truth, int32, int64, uint32, uint64, text, blob, enumerated}
use Rattle.reflect_scalar.specs.declared.map_key.MapKey.{MapKey}
use Rattle.reflect_entries.specs.Pairs.{on_value}
use Rattle.reflect_message.specs.Known.{entry_field, known_field, known_extension}
use Rattle.reflect_message.specs.Names.{DynamicMessage, Value}
use Rattle.reflect_message.specs.declared.parts.HeldOf.TheFolds.{fold-HeldOf, fold-ValueOf}
use Rattle.reflect_message.specs.declared.parts.HeldOf.TheOpen.{HeldOf-F, PartsOf-F, ValueOf-F, MessageOf-F}
use Rattle.reflect_numbered.specs.declared.validity.Strictness.{Strictness}
use Rattle.reflect_numbered.specs.declared.validity.Strictness.TheVariants.{Surface, Shape, Types}

-- a single value is one of the kind
abbrev pub is_one : KindType → Single → Bool
is_one types.int32 (int32 z) = true
is_one types.sint32 (int32 z) = true
is_one types.sfixed32 (int32 z) = true
is_one types.int64 (int64 z) = true
is_one types.sint64 (int64 z) = true
is_one types.sfixed64 (int64 z) = true
is_one types.uint32 (uint32 n) = true
is_one types.fixed32 (uint32 n) = true
is_one types.uint64 (uint64 n) = true
is_one types.fixed64 (uint64 n) = true
is_one types.bool (truth b) = true
is_one types.string (text t) = true
is_one types.bytes (blob b) = true
is_one (types.enumeration i) (enumerated z) = true
is_one _ _ = false

-- whether a value suits one value of a kind, and all that a field holds
pub record Fit : Type 0 where
  pub one : Strictness → PoolType → KindType → Bool
  pub whole : Strictness → PoolType → FieldType → Bool

-- the field holds one value
abbrev pub holds_one : PoolType → FieldType → Bool
holds_one pool f = not (holds_list pool f) && not (holds_map pool f)

abbrev pub single_fit : Single → Fit
single_fit v = record {
  one = λ how pool kind. is_one kind v;
  whole = λ how pool f. holds_one pool f && is_one f.kind v;
}

-- a message's type is the kind, as types are compared: by place and full name
abbrev pub has_type : PoolType → KindType → MessageDescriptor → Bool
has_type pool (types.message i) m = (m.index == i)
    && bytes_eq (type_at m.pool.now m.index).full_name (type_at pool i).full_name
has_type pool _ m = false

abbrev pub is_message : KindType → Bool
is_message (types.message i) = true
is_message _ = false

-- a message suits the kind, where what it holds suits its own type so much
abbrev pub message_fits : Strictness → PoolType → KindType → MessageDescriptor
    → (Strictness → PoolType → ℕ → Bool) → Bool
message_fits Surface pool kind m held = has_type pool kind m
message_fits Shape pool kind m held = is_message kind && held Shape m.pool.now m.index
message_fits Types pool kind m held = has_type pool kind m && held Types m.pool.now m.index

abbrev pub message_fit : (Strictness → PoolType → KindType → Bool) → Fit
message_fit fits = record {
  one = fits;
  whole = λ how pool f. holds_one pool f && fits how pool f.kind;
}

abbrev pub all_fit : Strictness → PoolType → KindType → List Fit → Bool
all_fit how pool kind fits = list_all (λ (w : Fit). w.one how pool kind) fits

abbrev pub list_fit : List Fit → Fit
list_fit fits = record {
  one = λ how pool kind. false;
  whole = λ how pool f. holds_list pool f && all_fit how pool f.kind fits;
}

-- the key and the value of an entry
abbrev pub entry_fits : Strictness → PoolType → KindType → KindType → MapKey × Fit → Bool
entry_fits how pool keys values e = is_one keys (key_view e.0) && e.1.one how pool values

abbrev pub entries_fit : Strictness → PoolType → KindType → List (MapKey × Fit) → Bool
entries_fit how pool kind es = elim (entry_field pool kind 1) [
  | None ↦ false
  | Some keys ↦ elim (entry_field pool kind 2)
      [ None ↦ false | Some values ↦ list_all (entry_fits how pool keys.kind values.kind) es ]
]

abbrev pub map_fit : List (MapKey × Fit) → Fit
map_fit es = record {
  one = λ how pool kind. false;
  whole = λ how pool f. holds_map pool f && entries_fit how pool f.kind es;
}

-- what stands under a number, where this is its field, if it has one
abbrev pub under_fits : Strictness → PoolType → Option FieldType → Fit → Bool
under_fits how pool None w = false
under_fits how pool (Some f) w = w.whole how pool f

abbrev pub field_fits : Strictness → PoolType → ℕ → ℕ × Fit → Bool
field_fits how pool i e = under_fits how pool (known_field pool i e.0) e.1

abbrev pub extension_fits : Strictness → PoolType → ℕ → ℕ × Fit → Bool
extension_fits how pool i e = under_fits how pool (known_extension pool i e.0) e.1

-- one level of a value, of a message, of what it holds and of its parts

abbrev pub value_step : ValueOf-F MessageDescriptor (Strictness → PoolType → ℕ → Bool) Fit
    (Strictness → PoolType → KindType → Bool) (Strictness → PoolType → ℕ → Bool) → Fit
value_step (ValueOf-F.Bool b) = single_fit (truth b)
value_step (ValueOf-F.I32 z) = single_fit (int32 z)
value_step (ValueOf-F.I64 z) = single_fit (int64 z)
value_step (ValueOf-F.U32 n) = single_fit (uint32 n)
value_step (ValueOf-F.U64 n) = single_fit (uint64 n)
value_step (ValueOf-F.String t) = single_fit (text (string_bytes t))
value_step (ValueOf-F.Bytes b) = single_fit (blob b.items)
value_step (ValueOf-F.EnumNumber z) = single_fit (enumerated z)
value_step (ValueOf-F.Message m) = message_fit m
value_step (ValueOf-F.List vs) = list_fit vs.items
value_step (ValueOf-F.Map es) = map_fit es.entries

abbrev pub message_step : MessageOf-F MessageDescriptor (Strictness → PoolType → ℕ → Bool) Fit
    (Strictness → PoolType → KindType → Bool) (Strictness → PoolType → ℕ → Bool)
    → Strictness → PoolType → KindType → Bool
message_step m = λ how pool kind. message_fits how pool kind m.descriptor m.held

abbrev pub held_step : HeldOf-F MessageDescriptor (Strictness → PoolType → ℕ → Bool) Fit
    (Strictness → PoolType → KindType → Bool) (Strictness → PoolType → ℕ → Bool)
    → Strictness → PoolType → ℕ → Bool
held_step HeldOf-F.Nothing = λ how pool i. true
held_step (HeldOf-F.Block b) = b.value

abbrev pub parts_step : PartsOf-F MessageDescriptor (Strictness → PoolType → ℕ → Bool) Fit
    (Strictness → PoolType → KindType → Bool) (Strictness → PoolType → ℕ → Bool)
    → Strictness → PoolType → ℕ → Bool
parts_step p = λ how pool i. list_all (field_fits how pool i) p.fields
    && list_all (extension_fits how pool i) p.extensions

-- which fields a value suits
abbrev pub fit_of : Value → Fit
fit_of = fold-ValueOf MessageDescriptor (Strictness → PoolType → ℕ → Bool) Fit
    (Strictness → PoolType → KindType → Bool) (Strictness → PoolType → ℕ → Bool) held_step
    value_step message_step parts_step

abbrev pub fits_of : List (ℕ × Value) → List (ℕ × Fit)
fits_of es = map (on_value fit_of) es

-- what a message holds suits its type
abbrev pub suits_type : Strictness → DynamicMessage → Bool
suits_type how m = fold-HeldOf MessageDescriptor (Strictness → PoolType → ℕ → Bool) Fit
    (Strictness → PoolType → KindType → Bool) (Strictness → PoolType → ℕ → Bool) held_step
    value_step message_step parts_step m.held how m.descriptor.pool.now m.descriptor.index

-- the value suits the field, which messages hold: then it is set
abbrev pub IsValidFor : PoolType → FieldType → Value → Type 0
IsValidFor pool f v = (HoldsFloats pool f → ⊥) × ((fit_of v).whole Surface pool f ≡ true)
