-- The defaults that descriptors lend.
use Rattle.std.specs.Prelude.{◌≡◌, ℕ, ℤ, List, Option, None, Some, slice_index_or}
use Rattle.reflect_tables.specs.Finding.{IsFirst}
use Rattle.reflect_tables.specs.Types.{PoolType, FieldType, KindType, enumeration, DefaultType, signed, unsigned, truth, text, octets, named, fraction, enum_at}
use Rattle.reflect_pool.specs.Parts.{no_value}
use Rattle.reflect_pool.specs.declared.kind.DefaultValue.{DefaultValue}
use Rattle.reflect_pool.specs.declared.kind.DefaultValue.TheVariants as defaults

-- the number of the first value of a name, of a kind that is an enum; none where it has no such
-- value
abbrev pub HasNumber : PoolType → KindType → List ℕ → Option ℤ → Type 0
HasNumber pool (enumeration i) name None = IsFirst (λ v. v.name ≡ name) (enum_at pool i).values None
HasNumber pool (enumeration i) name (Some n) = (k : ℕ)
    × IsFirst (λ v. v.name ≡ name) (enum_at pool i).values (Some k)
    × ((slice_index_or (enum_at pool i).values k no_value).number ≡ n)
HasNumber pool _ name r = r ≡ None

-- the declaration gives no default, or the name of a value that is not there
abbrev pub HasNone : PoolType → KindType → Option DefaultType → Type 0
HasNone pool kind None = Unit {0}
HasNone pool kind (Some (named name)) = HasNumber pool kind name None
HasNone pool kind _ = ⊥

-- the default is the one of the declaration, with a number in place of the name of an enum's value
abbrev pub IsDefault : PoolType → FieldType → Option DefaultValue → Type 0
IsDefault pool f None = HasNone pool f.kind f.default
IsDefault pool f (Some (defaults.I64 n)) = f.default ≡ Some (signed n)
IsDefault pool f (Some (defaults.U64 n)) = f.default ≡ Some (unsigned n)
IsDefault pool f (Some (defaults.Bool b)) = f.default ≡ Some (truth b)
IsDefault pool f (Some (defaults.Text s)) = f.default ≡ Some (text s.now)
IsDefault pool f (Some (defaults.Bytes b)) = f.default ≡ Some (octets b.now)
IsDefault pool f (Some (defaults.Enum n)) = (name : List ℕ) × (f.default ≡ Some (named name))
    × HasNumber pool f.kind name (Some n)
IsDefault pool f (Some (defaults.Float s)) = f.default ≡ Some (fraction s.now)
