-- What the values of a field mean, by the kind of the field.
--
-- Source: "Encoding" at protobuf.dev: a field that came several times has the last value, lists are
-- joined, records are merged.
use Rattle.std.specs.Prelude.{◌≡◌, ◌⊎◌, ℕ, ℤ, ◌<◌, ◌-◌, ◌%◌, ◌^◌, ◌==◌, Bool, not, List, [], ◌∷◌, ◌++◌, map, filter, flat_map, Option, Some, None, Result, Ok, Err, String, string_bytes}
use Rattle.std.specs.Int.{w32, w64, cast_signed}
use Rattle.std.specs.List.{AllZip}
use Rattle.std.specs.Str.{IsUtf8}
use Rattle.std.specs.declared.alloc.Global.{Global}
use Rattle.std.specs.declared.vec.Vec.{Vec}
use Rattle.descriptor_records.specs.declared.options.DoubleValue.{DoubleValue}
use Rattle.descriptor_records.specs.declared.options.DoubleValue.TheVariants.{Bits}
use Rattle.reflect_wire.specs.Records.{Payload, varint, fixed64, delimited, group, fixed32, Records, no_records, more_records, SpellsRecords}
use Rattle.reflect_wire.specs.Varint.{IsVarint}
use Rattle.reflect_wire.specs.declared.wire_error.WireError.{WireError}
use Rattle.reflect_wire.specs.declared.wire_error.WireError.TheVariants as errors

-- what a field holds: no field of a descriptor record holds a group or four bytes
pub data Value : Type 0 where
  number : ℕ → Value
  eight_bytes : ℕ → Value
  payload : List ℕ → Value
  other : Value

abbrev pub value_of : Payload → Value
value_of (varint n) = number n
value_of (fixed64 n) = eight_bytes n
value_of (delimited p) = payload p
value_of (group rs) = other
value_of (fixed32 n) = other

abbrev pub Field : Type 0
Field = ℕ × Value

abbrev pub fields_in : Records → List Field
fields_in no_records = []
fields_in (more_records n p rs) = (n, value_of p) ∷ fields_in rs

-- the bytes are records of at most so many levels, with these fields
abbrev pub SpellsFields : ℕ → List ℕ → List Field → Type 0
SpellsFields levels bytes fs = (rs : Records) × SpellsRecords levels bytes rs × (fs ≡ fields_in rs)

-- the values of a number, in order
abbrev pub values_at : ℕ → List Field → List Value
values_at n fs = map (λ f. f.1) (filter (λ f. f.0 == n) fs)

-- what a refusal says: nothing is meant, and it tells what is so, unless memory ran out
pub record Rejects {A X : Type 0} (R : A → X → Type 0) (Fault : A → WireError → Type 0) (a : A)
    (e : WireError) : Type 0 where
  pub none : (e ≡ errors.Memory → ⊥) → (x : X) → R a x → ⊥
  pub told : (e ≡ errors.Memory) ⊎ Fault a e

-- something is read exactly where something is meant, and that is read; a refusal tells a fault
abbrev pub ReadsMeant : {A X : Type 0} → (A → X → Type 0) → (A → WireError → Type 0) → A
    → Result X WireError → Type 0
ReadsMeant R Fault a (Ok x) = R a x
ReadsMeant R Fault a (Err e) = Rejects R Fault a e

-- the same, where the relation speaks of what view sees
abbrev pub ReadsMeantBy : {A X Y : Type 0} → (X → Y) → (A → Y → Type 0)
    → (A → WireError → Type 0) → A → Result X WireError → Type 0
ReadsMeantBy view R Fault a (Ok x) = R a (view x)
ReadsMeantBy view R Fault a (Err e) = Rejects R Fault a e

abbrev pub IsText : Value → List ℕ → Type 0
IsText (payload p) t = IsUtf8 p × (t ≡ p)
IsText _ t = ⊥

abbrev pub IsPayload : Value → List ℕ → Type 0
IsPayload (payload p) bytes = bytes ≡ p
IsPayload _ bytes = ⊥

-- the payload of a record that stands below so many levels
abbrev pub HasPayload : ℕ → Value → List ℕ → Type 0
HasPayload levels v bytes = (0 < levels) × IsPayload v bytes

abbrev pub ArePayloads : List Value → List ℕ → Type 0
ArePayloads vs bytes = (parts : List (List ℕ)) × AllZip IsPayload vs parts
    × (bytes ≡ flat_map (λ p. p) parts)

abbrev pub IsNumber : Value → ℕ → Type 0
IsNumber (number n) m = m ≡ n
IsNumber _ m = ⊥

-- the low 32 bits
abbrev pub int32_of : ℕ → ℤ
int32_of n = cast_signed w32 (n % 2 ^ 32)

abbrev pub IsInt32 : Value → ℤ → Type 0
IsInt32 v z = (n : ℕ) × IsNumber v n × (z ≡ int32_of n)

abbrev pub IsInt64 : Value → ℤ → Type 0
IsInt64 v z = (n : ℕ) × IsNumber v n × (z ≡ cast_signed w64 n)

-- any number but 0 is true
abbrev pub IsBool : Value → Bool → Type 0
IsBool v b = (n : ℕ) × IsNumber v n × (b ≡ not (n == 0))

abbrev pub IsDouble : Value → DoubleValue → Type 0
IsDouble (eight_bytes n) d = d ≡ Bits n
IsDouble _ d = ⊥

-- numbers one after another
abbrev pub SpellsNumbers : List ℕ → List ℤ → Type 0
SpellsNumbers bytes [] = bytes ≡ []
SpellsNumbers bytes (z ∷ zs) = (front rest : List ℕ) × (n : ℕ) × IsVarint front n × (z ≡ int32_of n)
    × SpellsNumbers rest zs × (bytes ≡ front ++ rest)

-- one number, or a packed list
abbrev pub IsNumbers : Value → List ℤ → Type 0
IsNumbers (number n) zs = zs ≡ int32_of n ∷ []
IsNumbers (payload p) zs = SpellsNumbers p zs
IsNumbers _ zs = ⊥

-- a record that stands below so many levels, read from its fields
abbrev pub IsPartBelow : ℕ → ℕ → Value → List Field → Type 0
IsPartBelow outside inside v fs = (bytes : List ℕ) × HasPayload outside v bytes
    × SpellsFields inside bytes fs

abbrev pub IsRecord : {R : Type 0} → (ℕ → List Field → R → Type 0) → ℕ → Value → R → Type 0
IsRecord means levels v r = (fs : List Field) × IsPartBelow levels (levels - 1) v fs
    × means (levels - 1) fs r

abbrev pub last : {X : Type 0} → List X → Option X
last [] = None
last (x ∷ xs) = elim (last xs) [ None ↦ Some x | Some y ↦ Some y ]

-- each value means something, and the last of that counts
abbrev pub IsLast : {X : Type 0} → (Value → X → Type 0) → List Value → Option X → Type 0
IsLast {X} R vs o = (xs : List X) × AllZip R vs xs × (o ≡ last xs)

abbrev pub IsLastIf : {X : Type 0} → Bool → (Value → X → Type 0) → List Value → Option X → Type 0
IsLastIf Bool.true R vs o = IsLast R vs o
IsLastIf Bool.false R vs o = o ≡ None

-- lists, one after another
abbrev pub joins : {X : Type 0} → List (List X) → List X
joins = flat_map (λ xs. xs)

abbrev pub AreNumbers : List Value → List ℤ → Type 0
AreNumbers vs zs = (parts : List (List ℤ)) × AllZip IsNumbers vs parts × (zs ≡ joins parts)

-- the fields of several records are joined
abbrev pub joined : List (List Field) → Option (List Field)
joined [] = None
joined (fs ∷ rest) = Some (fs ++ joins rest)

abbrev pub AreJoined : ℕ → ℕ → List Value → Option (List Field) → Type 0
AreJoined outside inside vs o = (parts : List (List Field))
    × AllZip (IsPartBelow outside inside) vs parts × (o ≡ joined parts)

abbrev pub AlongOption : {A X : Type 0} → (A → X → Type 0) → Option A → Option X → Type 0
AlongOption R None None = Unit {0}
AlongOption R (Some a) (Some x) = R a x
AlongOption R _ _ = ⊥

abbrev pub IsMerged : {R : Type 0} → (ℕ → List Field → R → Type 0) → ℕ → List Value → Option R
    → Type 0
IsMerged means levels vs o = (fs : Option (List Field)) × AreJoined levels (levels - 1) vs fs
    × AlongOption (means (levels - 1)) fs o

-- the fields of a number, by their kinds

abbrev pub TextAt : ℕ → List Field → Option (String Global) → Type 0
TextAt n fs o = IsLast (λ v t. IsText v (string_bytes t)) (values_at n fs) o

abbrev pub TextsAt : ℕ → List Field → Vec (String Global) Global → Type 0
TextsAt n fs ts = AllZip (λ v t. IsText v (string_bytes t)) (values_at n fs) ts.items

abbrev pub BytesAt : ℕ → List Field → Option (Vec ℕ Global) → Type 0
BytesAt n fs o = IsLast (λ v b. IsPayload v b.items) (values_at n fs) o

abbrev pub NumberAt : ℕ → List Field → Option ℕ → Type 0
NumberAt n fs o = IsLast IsNumber (values_at n fs) o

abbrev pub Int32At : ℕ → List Field → Option ℤ → Type 0
Int32At n fs o = IsLast IsInt32 (values_at n fs) o

abbrev pub Int64At : ℕ → List Field → Option ℤ → Type 0
Int64At n fs o = IsLast IsInt64 (values_at n fs) o

abbrev pub BoolAt : ℕ → List Field → Option Bool → Type 0
BoolAt n fs o = IsLast IsBool (values_at n fs) o

abbrev pub DoubleAt : ℕ → List Field → Option DoubleValue → Type 0
DoubleAt n fs o = IsLast IsDouble (values_at n fs) o

abbrev pub Int32sAt : ℕ → List Field → Vec ℤ Global → Type 0
Int32sAt n fs zs = AreNumbers (values_at n fs) zs.items

abbrev pub RecordsAt : {R : Type 0} → (ℕ → List Field → R → Type 0) → ℕ → ℕ → List Field
    → Vec R Global → Type 0
RecordsAt means levels n fs rs = AllZip (IsRecord means levels) (values_at n fs) rs.items

abbrev pub MergedAt : {R : Type 0} → (ℕ → List Field → R → Type 0) → ℕ → ℕ → List Field → Option R
    → Type 0
MergedAt means levels n fs o = IsMerged means levels (values_at n fs) o
