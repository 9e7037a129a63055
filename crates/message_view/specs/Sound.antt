-- What pools have that files were linked into, as far as messages of their types depend on it.
use Rattle.std.specs.Prelude.{◌≡◌, ◌⊎◌, ◌<◌, ◌^◌, ℕ, pos, length, true, false, None, Some, FitsSigned}
use Rattle.std.specs.Int.{w32}
use Rattle.std.specs.List.{AllByRecursion}
use Rattle.reflect_tables.specs.Ranges.{IsRangeOf}
use Rattle.reflect_tables.specs.Types.{PoolType, FieldType, KindType, EnumType, ValueType, ArePooled, type_at, type_of_field, extension_at}
use Rattle.reflect_tables.specs.declared.stored.StoredEntry.{StoredEntry}
use Rattle.reflect_pool.specs.Shapes.{is_entry, is_repeated}
use Rattle.reflect_message.specs.KindTypes.{IsScalarType}
use Rattle.reflect_message.specs.Known.{entry_field, known_field, known_extension}
use Rattle.message_laws.specs.MapKeys.{HaveMapKeys}
use Rattle.protobuf_model.specs.Bytes.{is_packable}
use Rattle.protobuf_model.specs.Scalars.{Suits}
use Rattle.message_view.specs.Singles.{scalar_of}
use Rattle.message_view.specs.Types.{name_at, kind_in, default_of}

-- no two message types have one full name
abbrev pub HaveNames : PoolType → Type 0
HaveNames pool =
    (i k : ℕ) → i < length pool.messages → k < length pool.messages
    → name_at pool i ≡ name_at pool k → i ≡ k

-- the entries of each map have a key under 1 and a value under 2
abbrev pub HaveEntryFields : PoolType → Type 0
HaveEntryFields pool =
    (t : KindType) → is_entry pool t ≡ true
    → (keys values : FieldType)
    × (entry_field pool t 1 ≡ Some keys) × (entry_field pool t 2 ≡ Some values)

-- at a place among the fields of the type at another stands one that has the number and holds one
-- value
pub record IsPartAt (pool : PoolType) (i n place : ℕ) : Type 0 where
  pub there : place < length (type_at pool i).fields
  pub number : (type_of_field pool i place).number ≡ n
  pub one : is_repeated (type_of_field pool i place).cardinality ≡ false

-- a type of entries tells where its key and its value stand
abbrev pub HaveEntryParts : PoolType → Type 0
HaveEntryParts pool =
    (i : ℕ) (e : StoredEntry) → (type_at pool i).entry ≡ Some e
    → IsPartAt pool i 1 e.key × IsPartAt pool i 2 e.value

-- the default of a part of a map's entries, which stands where an entry has none, is a value of the
-- part's kind
abbrev pub HaveEntryDefaults : PoolType → Type 0
HaveEntryDefaults pool =
    (t : KindType) (n : ℕ) (f : FieldType) → is_entry pool t ≡ true → entry_field pool t n ≡ Some f
    → IsScalarType f.kind → Suits (scalar_of f.kind) (default_of pool f)

-- a field of the type at a place has the number, or an extension of it
abbrev pub HasField : PoolType → ℕ → ℕ → FieldType → Type 0
HasField pool i n f = (known_field pool i n ≡ Some f) ⊎ (known_extension pool i n ≡ Some f)

-- fields that repeat have no presence, and are packed only where values of their kind can be
pub record HaveLists (pool : PoolType) : Type 0 where
  pub unset : (i n : ℕ) (f : FieldType) → HasField pool i n f → is_repeated f.cardinality ≡ true
      → f.presence ≡ false
  pub packed : (i n : ℕ) (f : FieldType) → HasField pool i n f → is_repeated f.cardinality ≡ true
      → f.packed ≡ true → is_packable (kind_in pool f.group f.kind) ≡ true

-- the numbers of an enum's values are numbers of 32 bits
abbrev pub HasNumbers : EnumType → Type 0
HasNumbers e = AllByRecursion (λ (v : ValueType). FitsSigned w32 v.number) e.values

abbrev pub HaveNumbers : PoolType → Type 0
HaveNumbers pool = AllByRecursion HasNumbers pool.enums

-- fields have numbers from 1 to 536,870,911
abbrev pub IsFieldNumber : ℕ → Type 0
IsFieldNumber n = (0 < n) × (n < 2 ^ 29)

pub record HaveFieldNumbers (pool : PoolType) : Type 0 where
  pub fields : (i j : ℕ) → j < length (type_at pool i).fields
      → IsFieldNumber (type_of_field pool i j).number
  pub extensions : (k : ℕ) → k < length pool.extensions
      → IsFieldNumber (extension_at pool k).field.number

-- no range that the type at a place keeps for extensions has the number
abbrev pub IsNotKept : PoolType → ℕ → ℕ → Type 0
IsNotKept pool i n = IsRangeOf (type_at pool i).extension_ranges (pos n) None

-- no two fields of a type have one number, nor two extensions of it; extensions have numbers that
-- it keeps for them, and its fields have others
pub record AreApart (pool : PoolType) : Type 0 where
  pub fields : (i j k : ℕ) → j < length (type_at pool i).fields
      → k < length (type_at pool i).fields
      → (type_of_field pool i j).number ≡ (type_of_field pool i k).number → j ≡ k
  pub extensions : (j k : ℕ) → j < length pool.extensions → k < length pool.extensions
      → (extension_at pool j).extendee ≡ (extension_at pool k).extendee
      → (extension_at pool j).field.number ≡ (extension_at pool k).field.number → j ≡ k
  pub kept : (k : ℕ) → k < length pool.extensions
      → IsNotKept pool (extension_at pool k).extendee (extension_at pool k).field.number → ⊥
  pub free : (i j : ℕ) → j < length (type_at pool i).fields
      → IsNotKept pool i (type_of_field pool i j).number

-- what messages depend on of the pool of their types, as the rules of files have it
pub record IsSound (pool : PoolType) : Type 0 where
  pub pooled : ArePooled pool
  pub names : HaveNames pool
  pub keys : HaveMapKeys pool
  pub entries : HaveEntryFields pool
  pub parts : HaveEntryParts pool
  pub defaults : HaveEntryDefaults pool
  pub lists : HaveLists pool
  pub values : HaveNumbers pool
  pub numbers : HaveFieldNumbers pool
  pub apart : AreApart pool
