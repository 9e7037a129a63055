-- The key and the value of the entries of a map.
use Rattle.std.proofs.Common.{◌≡◌, ℕ, ◌==◌, ◌&&◌, ◌||◌, true, false, cond, Some, None, refl, sym, ap, ◌∙◌, is_some}
use Rattle.std.specs.Option.{option_and_then}
use Rattle.reflect_tables.specs.Types.{PoolType, FieldType, KindType, type_at, type_of_field, no_field}
use Rattle.reflect_tables.specs.Types as types
use Rattle.reflect_tables.specs.declared.stored.StoredEntry.{StoredEntry}
use Rattle.reflect_pool.specs.Shapes.{is_entry, holds_map}
use Rattle.reflect_pool.specs.declared.message.MessageDescriptor.{MessageDescriptor}
use Rattle.reflect_decode.specs.Refused.{IsKeyKind}
use Rattle.reflect_message.specs.KindTypes.{IsScalarType}
use Rattle.reflect_message.specs.Known.{is_float, numbered_field, has_floats, if_held, known_field}
use Rattle.message_view.proofs.Entries.{key_scalar}
use Rattle.message_view.specs.Sound.{AreApart, IsPartAt, IsSound}
use Rattle.text_view.proofs.Apart.{only_one}
use Rattle.reflect_message.proofs.Known.{numbered}
use Rattle.text_view.proofs.Rivals.{no_many}

pub scalar_whole : (t : KindType) → IsScalarType t → is_float t ≡ false
scalar_whole types.double h = absurd h
scalar_whole types.float h = absurd h
scalar_whole t h = refl

-- a field of one value that is no floating-point number is held
pub whole_field : (pool : PoolType) (f : FieldType) → is_float f.kind ≡ false → holds_map pool f ≡ false → if_held pool f ≡ Some f
whole_field pool f whole no_map =
    ap (λ b. cond (b || (holds_map pool f && has_floats pool f.kind)) None (Some f)) whole
    ∙ ap (λ b. cond (b && has_floats pool f.kind) None (Some f)) no_map

-- what stands at the place of a part is found by its number
pub part_found : (pool : PoolType) → AreApart pool → (i n place : ℕ) → IsPartAt pool i n place → numbered_field pool i n ≡ Some (type_of_field pool i place)
part_found pool apart i n place part =
    only_one (λ (g : FieldType). g.number ≡ n) (λ g. g.number == n) (numbered n) (type_at pool i).fields no_field place part.there part.number
    (λ j lt h. apart.fields i j place lt part.there (h ∙ sym part.number))

module _ (d : MessageDescriptor) (sound : IsSound d.pool.now) (e : StoredEntry) (is : (type_at d.pool.now d.index).entry ≡ Some e) where
  abbrev pool : PoolType
  pool = d.pool.now

  abbrev pub keys : FieldType
  keys = type_of_field d.pool.now d.index e.key

  abbrev pub values : FieldType
  values = type_of_field d.pool.now d.index e.value

  pub key_part : IsPartAt d.pool.now d.index 1 e.key
  key_part = (sound.parts d.index e is).0

  pub value_part : IsPartAt d.pool.now d.index 2 e.value
  value_part = (sound.parts d.index e is).1

  pub entry_is : is_entry pool (types.message d.index) ≡ true
  entry_is = ap is_some is

  pub key_numbered : numbered_field pool d.index 1 ≡ Some keys
  key_numbered = part_found pool sound.apart d.index 1 e.key key_part

  pub value_numbered : numbered_field pool d.index 2 ≡ Some values
  value_numbered = part_found pool sound.apart d.index 2 e.value value_part

  pub key_kind : IsKeyKind keys.kind
  key_kind = (sound.keys (types.message d.index) keys entry_is key_numbered).0

  pub key_type : IsScalarType keys.kind
  key_type = key_scalar keys.kind key_kind

  pub key_known : known_field pool d.index 1 ≡ Some keys
  key_known = ap (option_and_then (if_held pool)) key_numbered ∙ whole_field pool keys (scalar_whole keys.kind key_type) (no_many pool keys key_part.one).0

  -- of a map whose values are no floating-point numbers
  pub value_known : is_float values.kind ≡ false → known_field pool d.index 2 ≡ Some values
  value_known whole = ap (option_and_then (if_held pool)) value_numbered ∙ whole_field pool values whole (no_many pool values value_part.one).0
