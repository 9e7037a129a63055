-- Which fields hold floating-point numbers.
use Rattle.std.specs.Prelude.{◌≡◌, ◌⊎◌, ℕ, Bool, true, false, Some}
use Rattle.reflect_tables.specs.Finding.{IsFirst}
use Rattle.reflect_tables.specs.Types.{PoolType, FieldType, KindType, double, float, message, type_at, type_of_field}
use Rattle.reflect_pool.specs.Shapes.{holds_map}
use Rattle.reflect_pool.specs.declared.kind.Kind.{Kind}
use Rattle.reflect_pool.specs.declared.kind.Kind.TheVariants as kinds

abbrev pub is_float_kind : Kind → Bool
is_float_kind kinds.Double = true
is_float_kind kinds.Float = true
is_float_kind _ = false

abbrev pub IsFloat : KindType → Type 0
IsFloat double = Unit {0}
IsFloat float = Unit {0}
IsFloat _ = ⊥

-- the values of a map's entries, under their number 2, are such numbers
abbrev pub HasFloats : PoolType → KindType → Type 0
HasFloats pool (message i) = (k : ℕ) × IsFirst (λ f. f.number ≡ 2) (type_at pool i).fields (Some k)
    × IsFloat (type_of_field pool i k).kind
HasFloats pool _ = ⊥

-- the field's values, or those of its map, are floating-point numbers
abbrev pub HoldsFloats : PoolType → FieldType → Type 0
HoldsFloats pool f = IsFloat f.kind ⊎ ((holds_map pool f ≡ true) × HasFloats pool f.kind)
