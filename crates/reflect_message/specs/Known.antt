-- Which fields and extensions messages of a type hold.
use Rattle.std.specs.Prelude.{ℕ, ◌==◌, Bool, true, false, cond, ◌&&◌, ◌||◌, Option, None, Some}
use Rattle.std.specs.List.{find}
use Rattle.std.specs.Option.{option_and_then}
use Rattle.reflect_tables.specs.Types.{PoolType, FieldType, KindType, type_at}
use Rattle.reflect_tables.specs.Types as types
use Rattle.reflect_pool.specs.Shapes.{holds_map}

abbrev pub is_float : KindType → Bool
is_float types.double = true
is_float types.float = true
is_float _ = false

-- the first field of a number, of the type at a place
abbrev pub numbered_field : PoolType → ℕ → ℕ → Option FieldType
numbered_field pool i n = find (λ f. f.number == n) (type_at pool i).fields

-- the field of a number, of a kind that is a message: a map's entries have the key under 1 and the
-- value under 2
abbrev pub entry_field : PoolType → KindType → ℕ → Option FieldType
entry_field pool (types.message i) n = numbered_field pool i n
entry_field pool _ n = None

-- the values of a map's entries are floating-point numbers
abbrev pub has_floats : PoolType → KindType → Bool
has_floats pool kind = elim (entry_field pool kind 2) [ None ↦ false | Some v ↦ is_float v.kind ]

-- the field's values, or those of its map, are floating-point numbers
abbrev pub holds_floats : PoolType → FieldType → Bool
holds_floats pool f = is_float f.kind || (holds_map pool f && has_floats pool f.kind)

-- a field, if messages hold it
abbrev pub if_held : PoolType → FieldType → Option FieldType
if_held pool f = cond (holds_floats pool f) None (Some f)

-- the field of a number that messages of the type hold, and the extension
abbrev pub known_field : PoolType → ℕ → ℕ → Option FieldType
known_field pool i n = option_and_then (if_held pool) (numbered_field pool i n)

abbrev pub known_extension : PoolType → ℕ → ℕ → Option FieldType
known_extension pool i n = option_and_then (λ x. if_held pool x.field)
    (find (λ x. (x.extendee == i) && (x.field.number == n)) pool.extensions)
