-- What stands for one value of a field where none is set (protobuf.dev, "Language Guide", Default
-- Field Values).
use Rattle.std.specs.Prelude.{ℕ, ℤ, pos, negsuc, ◌^◌, nat_lt, nat_eq, bytes_eq, Bool, false, cond, List, [], Option, Some, None, option_map}
use Rattle.std.specs.Bool.{beq}
use Rattle.std.specs.List.{find}
use Rattle.std.specs.Option.{option_and_then, option_or}
use Rattle.std.specs.Ordering.{int_eq}
use Rattle.reflect_tables.specs.Types.{PoolType, FieldType, KindType, DefaultType, enum_at}
use Rattle.reflect_tables.specs.Types as types
use Rattle.reflect_pool.specs.Parts.{type_of_value}
use Rattle.reflect_pool.specs.declared.kind.DefaultValue.{DefaultValue}
use Rattle.reflect_pool.specs.declared.kind.DefaultValue.TheVariants as defaults
use Rattle.reflect_scalar.specs.Singles.{Single, truth, int32, int64, uint32, uint64, text, blob, enumerated}

abbrev pub same_single : Single → Single → Bool
same_single (truth a) (truth b) = beq a b
same_single (int32 a) (int32 b) = int_eq a b
same_single (int64 a) (int64 b) = int_eq a b
same_single (uint32 a) (uint32 b) = nat_eq a b
same_single (uint64 a) (uint64 b) = nat_eq a b
same_single (text a) (text b) = bytes_eq a b
same_single (blob a) (blob b) = bytes_eq a b
same_single (enumerated a) (enumerated b) = int_eq a b
same_single _ _ = false

-- a number of 32 bits with a sign, and one without
abbrev pub narrow : ℤ → Option Single
narrow (pos n) = cond (nat_lt n (2 ^ 31)) (Some (int32 (pos n))) None
narrow (negsuc n) = cond (nat_lt n (2 ^ 31)) (Some (int32 (negsuc n))) None

abbrev pub narrow_unsigned : ℕ → Option Single
narrow_unsigned n = cond (nat_lt n (2 ^ 32)) (Some (uint32 n)) None

-- a declared number, as a value of the kind
abbrev pub signed_in : KindType → ℤ → Option Single
signed_in types.int32 z = narrow z
signed_in types.sint32 z = narrow z
signed_in types.sfixed32 z = narrow z
signed_in _ z = Some (int64 z)

abbrev pub unsigned_in : KindType → ℕ → Option Single
unsigned_in types.uint32 n = narrow_unsigned n
unsigned_in types.fixed32 n = narrow_unsigned n
unsigned_in _ n = Some (uint64 n)

-- a default that is lent, as a value of the kind; the text of a floating-point number is not read
abbrev pub lent_in : KindType → DefaultValue → Option Single
lent_in kind (defaults.I64 z) = signed_in kind z
lent_in kind (defaults.U64 n) = unsigned_in kind n
lent_in kind (defaults.Bool b) = Some (truth b)
lent_in kind (defaults.Text t) = Some (text t.now)
lent_in kind (defaults.Bytes b) = Some (blob b.now)
lent_in kind (defaults.Enum z) = Some (enumerated z)
lent_in kind (defaults.Float t) = None

-- the number of the first value of a name, of a kind that is an enum
abbrev pub named_in : PoolType → KindType → List ℕ → Option ℤ
named_in pool (types.enumeration i) name =
    option_map (λ v. v.number) (find (λ v. bytes_eq v.name name) (enum_at pool i).values)
named_in pool _ name = None

-- a declared default, as a value of the kind
abbrev pub declared_in : PoolType → KindType → DefaultType → Option Single
declared_in pool kind (types.signed z) = signed_in kind z
declared_in pool kind (types.unsigned n) = unsigned_in kind n
declared_in pool kind (types.truth b) = Some (truth b)
declared_in pool kind (types.text t) = Some (text t)
declared_in pool kind (types.octets b) = Some (blob b)
declared_in pool kind (types.named name) = option_map enumerated (named_in pool kind name)
declared_in pool kind (types.fraction t) = None

-- zero, false or empty; of an enum its first value, of a message nothing
abbrev pub kind_default : PoolType → KindType → Option Single
kind_default pool types.double = Some (uint64 0)
kind_default pool types.float = Some (uint32 0)
kind_default pool types.int32 = Some (int32 (pos 0))
kind_default pool types.int64 = Some (int64 (pos 0))
kind_default pool types.uint32 = Some (uint32 0)
kind_default pool types.uint64 = Some (uint64 0)
kind_default pool types.sint32 = Some (int32 (pos 0))
kind_default pool types.sint64 = Some (int64 (pos 0))
kind_default pool types.fixed32 = Some (uint32 0)
kind_default pool types.fixed64 = Some (uint64 0)
kind_default pool types.sfixed32 = Some (int32 (pos 0))
kind_default pool types.sfixed64 = Some (int64 (pos 0))
kind_default pool types.bool = Some (truth false)
kind_default pool types.string = Some (text [])
kind_default pool types.bytes = Some (blob [])
kind_default pool (types.message i) = None
kind_default pool (types.enumeration i) = Some (enumerated (type_of_value pool i 0).number)

-- the declared default of a field, else that of its kind
abbrev pub default_in : PoolType → FieldType → Option Single
default_in pool f = option_or (option_and_then (declared_in pool f.kind) f.default)
    (kind_default pool f.kind)
