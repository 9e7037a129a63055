-- What a kind names in its pool: a message or an enum type.
use Rattle.std.specs.Prelude.{◌≡◌, ℕ, ℤ, List, cond, Option, None, Some}
use Rattle.std.specs.Borrow.{Bor}
use Rattle.std.specs.Fmt.{signed_decimal}
use Rattle.reflect_tables.specs.Finding.{IsFirst}
use Rattle.reflect_tables.specs.Types.{PoolType, FieldType, KindType, message, enumeration, type_at, enum_at, type_of_field}
use Rattle.reflect_pool.specs.Parts.{type_of_value}
use Rattle.reflect_pool.specs.declared.kind.Kind.{Kind}
use Rattle.reflect_pool.specs.declared.kind.Kind.TheVariants as kinds

-- a type in its pool, if the kind names one
abbrev pub Named : Type 0
Named = Option (PoolType × KindType)

abbrev pub named : PoolType → KindType → Named
named pool (message i) = Some (pool, message i)
named pool (enumeration i) = Some (pool, enumeration i)
named pool _ = None

abbrev pub kind_view : Kind → Named
kind_view (kinds.Message d) = Some (d.pool.now, message d.index)
kind_view (kinds.Enum d) = Some (d.pool.now, enumeration d.index)
kind_view _ = None

-- a kind that is given, or none
abbrev pub kind_given : Option (Bor Kind) → Named
kind_given None = None
kind_given (Some k) = kind_view k.now

abbrev pub kind_held : Option Kind → Named
kind_held None = None
kind_held (Some k) = kind_view k

-- what a map's values are, by the type of its entries
abbrev pub entry_value_kind : PoolType → KindType → Named
entry_value_kind pool (message i) =
    elim (type_at pool i).entry [
      | None ↦ None
      | Some e ↦ named pool (type_of_field pool i e.value).kind
    ]
entry_value_kind pool _ = None

abbrev pub value_kind : Named → Named
value_kind None = None
value_kind (Some k) = entry_value_kind k.0 k.1

-- the name of an enum's value that is found, else its number
abbrev pub value_name : PoolType → ℕ → ℤ → Option ℕ → List ℕ
value_name pool i z None = signed_decimal z
value_name pool i z (Some k) = (type_of_value pool i k).name

-- the name of the first value that has the number, or the number where none has it
abbrev pub IsNameIn : PoolType → KindType → ℤ → List ℕ → Type 0
IsNameIn pool (enumeration i) z text =
    (found : Option ℕ) × IsFirst (λ v. v.number ≡ z) (enum_at pool i).values found
    × (text ≡ value_name pool i z found)
IsNameIn pool _ z text = text ≡ signed_decimal z

-- an enum's value; without the enum its number
abbrev pub IsEnumText : Named → ℤ → List ℕ → Type 0
IsEnumText None z text = text ≡ signed_decimal z
IsEnumText (Some k) z text = IsNameIn k.0 k.1 z text

-- the name of a message type; what is no message has the other name
abbrev pub type_name : PoolType → KindType → List ℕ → List ℕ
type_name pool (message i) other = (type_at pool i).name
type_name pool _ other = other

-- the name of a field: a group bears its type's
abbrev pub label_of : PoolType → FieldType → List ℕ
label_of pool f = cond f.group (type_name pool f.kind f.name) f.name
