-- What kinds of fields are: of single values, of messages, or of floating-point numbers.
use Rattle.std.proofs.Common.{◌≡◌, Bool, true, false, ◌&&◌, ◌||◌, List, [], ◌∷◌, Option, None, Some, refl, sym, ap, ◌∙◌}
use Rattle.std.specs.Option.{option_and_then, option_or}
use Rattle.reflect_tables.specs.Types.{PoolType, FieldType, KindType}
use Rattle.reflect_tables.specs.Types as types
use Rattle.reflect_pool.specs.Shapes.{holds_map}
use Rattle.reflect_wire.specs.Records.{Payload}
use Rattle.reflect_scalar.specs.Defaults.{declared_in, default_in, kind_default}
use Rattle.reflect_scalar.specs.Singles.{Single}
use Rattle.reflect_message.specs.KindTypes.{IsMessageType, IsScalarType}
use Rattle.reflect_message.specs.Known.{entry_field, has_floats, holds_floats, is_float}
use Rattle.reflect_decode.specs.Maps.{LeavesSingle}

pub data Sort (t : KindType) : Type 0 where
  plain : IsScalarType t → Sort t
  floating : is_float t ≡ true → Sort t
  message_type : IsMessageType t → Sort t

pub sort_of : (t : KindType) → Sort t
sort_of types.double = floating refl
sort_of types.float = floating refl
sort_of (types.message i) = message_type tt
sort_of types.int32 = plain tt
sort_of types.int64 = plain tt
sort_of types.uint32 = plain tt
sort_of types.uint64 = plain tt
sort_of types.sint32 = plain tt
sort_of types.sint64 = plain tt
sort_of types.fixed32 = plain tt
sort_of types.fixed64 = plain tt
sort_of types.sfixed32 = plain tt
sort_of types.sfixed64 = plain tt
sort_of types.bool = plain tt
sort_of types.string = plain tt
sort_of types.bytes = plain tt
sort_of (types.enumeration i) = plain tt

-- ---- floating-point numbers

first_false : (a b : Bool) → (a || b) ≡ false → a ≡ false
first_false true b e = absurd (cc e)
first_false false b e = refl

second_false : (a b : Bool) → (a || b) ≡ false → b ≡ false
second_false true b e = absurd (cc e)
second_false false b e = e

-- a field that is held has none
pub not_float : (pool : PoolType) (f : FieldType) → holds_floats pool f ≡ false
    → is_float f.kind ≡ false
not_float pool f whole =
    first_false (is_float f.kind) (holds_map pool f && has_floats pool f.kind) whole

-- nor have the values of its map
pub no_float_values : (pool : PoolType) (f values : FieldType) → holds_floats pool f ≡ false
    → holds_map pool f ≡ true → entry_field pool f.kind 2 ≡ Some values
    → is_float values.kind ≡ false
no_float_values pool f values unfloated map there =
    let floats : has_floats pool f.kind ≡ is_float values.kind =
    ap (λ o. elim o [ None ↦ false | Some v ↦ is_float v.kind ]) there in
    let whole : (is_float f.kind || (holds_map pool f && has_floats pool f.kind)) ≡ false =
    unfloated in
    second_false (is_float f.kind) (is_float values.kind)
    (sym (ap (λ b. is_float f.kind || (b && has_floats pool f.kind)) map
    ∙ ap (λ b. is_float f.kind || b) floats)
    ∙ whole)

-- ---- defaults

-- a kind that is no message has a default
kind_some : (pool : PoolType) (t : KindType) → IsScalarType t
    → (d : Single) × (kind_default pool t ≡ Some d)
kind_some pool types.int32 h = (_, refl)
kind_some pool types.int64 h = (_, refl)
kind_some pool types.uint32 h = (_, refl)
kind_some pool types.uint64 h = (_, refl)
kind_some pool types.sint32 h = (_, refl)
kind_some pool types.sint64 h = (_, refl)
kind_some pool types.fixed32 h = (_, refl)
kind_some pool types.fixed64 h = (_, refl)
kind_some pool types.sfixed32 h = (_, refl)
kind_some pool types.sfixed64 h = (_, refl)
kind_some pool types.bool h = (_, refl)
kind_some pool types.string h = (_, refl)
kind_some pool types.bytes h = (_, refl)
kind_some pool (types.enumeration i) h = (_, refl)
kind_some pool t h = absurd h

pub some_default : (pool : PoolType) (f : FieldType) → IsScalarType f.kind
    → (d : Single) × (default_in pool f ≡ Some d)
some_default pool f h = by (option_and_then (declared_in pool f.kind) f.default) where
  by : (o : Option Single) → (d : Single) × (option_or o (kind_default pool f.kind) ≡ Some d)
  by (Some d) = (d, refl)
  by None = kind_some pool f.kind h

-- so records leave a single value, also where there are none
pub left_single : (pool : PoolType) (f : FieldType) (v : Option Single) (ps : List Payload)
    → IsScalarType f.kind → LeavesSingle pool f v ps → (w : Single) × (v ≡ Some w)
left_single pool f v [] type h = let d = some_default pool f type in (d.0, h ∙ d.1)
left_single pool f v (p ∷ ps) type h = (h.0, h.1)
