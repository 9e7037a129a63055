-- The default of a field of one value is a value of its kind.
use Rattle.std.proofs.Common.{◌≡◌, ◌<◌, ◌^◌, ℕ, zero, suc, ℤ, pos, negsuc, Bool, true, false, cond, ◌==◌, List, [], ◌∷◌, Option, None, Some, option_map, nat_lt, IsUtf8, FitsSigned, String, string_bytes, refl, sym, ap, ◌∙◌, subst, arith, slice_index_or, w32}
use Rattle.std.specs.declared.alloc.Global.{Global}
use Rattle.std.specs.Str.Parse.{digits_value, signed_digits_value}
use Rattle.std.specs.List.{AllByRecursion, find}
use Rattle.std.specs.Option.{option_and_then, option_or}
use Rattle.std.specs.Str.{bytes_eq}
use Rattle.std.proofs.lemmas.Str.{IsUtf8-nil, IsUtf8-string_bytes}
use Rattle.descriptor_records.specs.declared.field.FieldDescriptorProto.{FieldDescriptorProto}
use Rattle.descriptor_records.specs.declared.field.FieldType.{FieldType as TypeNumber}
use Rattle.descriptor_records.specs.declared.field.FieldType.TheVariants as numbers
use Rattle.descriptor_records.specs.FieldNumbers.{type_number}
use Rattle.reflect_scope.specs.declared.definition.DefinitionKind.{DefinitionKind}
use Rattle.reflect_scope.specs.declared.definition.DefinitionKind.TheVariants as meant
use Rattle.reflect_defaults.specs.Defaults.{Says}
use Rattle.reflect_defaults.specs.declared.default.DefaultText.{DefaultText}
use Rattle.reflect_defaults.specs.declared.default.DefaultText.TheVariants as says
use Rattle.reflect_fields.specs.FieldDefaults.{default_type, IsScalarDefault, IsDefaultOf, IsNumbered, IsWritten, IsDefault}
use Rattle.reflect_fields.specs.Fields.{scalar_type}
use Rattle.reflect_index.specs.Entries.{IsMeant, IsTyped, HasKind}
use Rattle.reflect_tables.specs.Types.{PoolType, ValueType, KindType, DefaultType, no_enum, enum_at}
use Rattle.reflect_tables.specs.Types as types
use Rattle.reflect_pool.specs.Parts.{no_value, type_of_value}
use Rattle.reflect_scalar.specs.Defaults.{narrow, narrow_unsigned, named_in, declared_in, kind_default}
use Rattle.reflect_scalar.specs.Singles.{Single, truth, int32, int64, uint32, uint64, text, blob, enumerated}
use Rattle.protobuf_model.specs.Scalars.{Suits}
use Rattle.message_view.specs.Sound.{HasNumbers, HaveNumbers}
use Rattle.reflect_message.specs.KindTypes.{IsScalarType}
use Rattle.message_view.specs.Singles.{scalar_of, single_view}
use Rattle.reflect_index.proofs.Among.{of_all, of_find}

-- the value is one of the kind
abbrev pub IsOfKind : KindType → Single → Type 0
IsOfKind k v = Suits (scalar_of k) (single_view v)

-- so it is of a value, if there is one
abbrev pub SuitsIf : KindType → Option Single → Type 0
SuitsIf k None = Unit {0}
SuitsIf k (Some v) = IsOfKind k v

-- there is one
abbrev pub HasOne : KindType → Option Single → Type 0
HasOne k o = (v : Single) × (o ≡ Some v) × IsOfKind k v

either_has : (k : KindType) (o p : Option Single) → SuitsIf k o → HasOne k p
    → HasOne k (option_or o p)
either_has k None p h g = g
either_has k (Some v) p h g = (v, refl, h)

pub at_or : {X : Type 0} (P : X → Type 0) (xs : List X) (i : ℕ) (d : X) → AllByRecursion P xs → P d
    → P (slice_index_or xs i d)
at_or P [] i d h p = p
at_or P (x ∷ xs) zero d h p = h.0
at_or P (x ∷ xs) (suc i) d h p = at_or P xs i d h.1 p

zero_fits : FitsSigned w32 (pos 0)
zero_fits = record { sfits = omega arith }

-- the values of an enum at a place
numbers_at : (pool : PoolType) (i : ℕ) → HaveNumbers pool → HasNumbers (enum_at pool i)
numbers_at pool i h = at_or HasNumbers pool.enums i no_enum h tt

kind_has : (pool : PoolType) (k : KindType) → HaveNumbers pool → IsScalarType k
    → HasOne k (kind_default pool k)
kind_has pool types.double h p = absurd p
kind_has pool types.float h p = absurd p
kind_has pool types.int32 h p = (int32 (pos 0), refl, zero_fits)
kind_has pool types.int64 h p = (int64 (pos 0), refl, record { sfits = omega arith })
kind_has pool types.uint32 h p = (uint32 0, refl, omega arith)
kind_has pool types.uint64 h p = (uint64 0, refl, omega arith)
kind_has pool types.sint32 h p = (int32 (pos 0), refl, zero_fits)
kind_has pool types.sint64 h p = (int64 (pos 0), refl, record { sfits = omega arith })
kind_has pool types.fixed32 h p = (uint32 0, refl, omega arith)
kind_has pool types.fixed64 h p = (uint64 0, refl, omega arith)
kind_has pool types.sfixed32 h p = (int32 (pos 0), refl, zero_fits)
kind_has pool types.sfixed64 h p = (int64 (pos 0), refl, record { sfits = omega arith })
kind_has pool types.bool h p = (truth false, refl, tt)
kind_has pool types.string h p = (text [], refl, IsUtf8-nil)
kind_has pool types.bytes h p = (blob [], refl, tt)
kind_has pool (types.message i) h p = absurd p
kind_has pool (types.enumeration i) h p = (
  enumerated (type_of_value pool i 0).number,
  refl,
  at_or
      (λ (v : ValueType). FitsSigned w32 v.number) (enum_at pool i).values 0 no_value
      (numbers_at pool i h) zero_fits,
)

-- a number of 32 bits, or none
narrow_is : (Q : Option Single → Type 0) (z : ℤ) → Q None → (FitsSigned w32 z → Q (Some (int32 z)))
    → Q (narrow z)
narrow_is Q (pos n) none some = by (nat_lt n (2 ^ 31)) refl where
  by : (b : Bool) → nat_lt n (2 ^ 31) ≡ b → Q (cond b (Some (int32 (pos n))) None)
  by true is = let lt : n < 2 ^ 31 = grind (arith, is) in
      some (record { sfits = omega (arith, lt) })
  by false is = none
narrow_is Q (negsuc n) none some = by (nat_lt n (2 ^ 31)) refl where
  by : (b : Bool) → nat_lt n (2 ^ 31) ≡ b → Q (cond b (Some (int32 (negsuc n))) None)
  by true is = let lt : n < 2 ^ 31 = grind (arith, is) in
      some (record { sfits = omega (arith, lt) })
  by false is = none

narrow_unsigned_is : (Q : Option Single → Type 0) (n : ℕ) → Q None
    → (n < 2 ^ 32 → Q (Some (uint32 n))) → Q (narrow_unsigned n)
narrow_unsigned_is Q n none some = by (nat_lt n (2 ^ 32)) refl where
  by : (b : Bool) → nat_lt n (2 ^ 32) ≡ b → Q (cond b (Some (uint32 n)) None)
  by true is = some (grind (arith, is))
  by false is = none

-- what a text says as the default of a type is a value of what the type holds, or none
module _ (pool : PoolType) (k : KindType) (s : List ℕ) (x : DefaultText) where
  abbrev Fits : KindType → DefaultText → Type 0
  Fits j y = SuitsIf j (declared_in pool j (default_type s y))

  moved : (j : KindType) (y : DefaultText) → Some j ≡ Some k → x ≡ y → Fits j y → Fits k x
  moved j y e same h = let kind : j ≡ k = cc e in
      subst (λ q. Fits q x) kind (subst (Fits j) (sym same) h)

  other : (j : KindType) → Some j ≡ Some k → (IsScalarType j → ⊥) → IsScalarType k → Fits k x
  other j e none p = let kind : k ≡ j = cc e in absurd (none (subst IsScalarType kind p))

said : (pool : PoolType) (t : TypeNumber) (k : KindType) (s : List ℕ) (x : DefaultText) → IsUtf8 s
    → scalar_type t ≡ Some k → IsScalarType k → Says t s x → Fits pool k s x k x
said pool numbers.Int32 k s x u e p h =
    moved pool k s x types.int32 _ e h.1
    (narrow_is (SuitsIf types.int32) (signed_digits_value 10 s) tt (λ f. f))
said pool numbers.Sint32 k s x u e p h =
    moved pool k s x types.sint32 _ e h.1
    (narrow_is (SuitsIf types.sint32) (signed_digits_value 10 s) tt (λ f. f))
said pool numbers.Sfixed32 k s x u e p h =
    moved pool k s x types.sfixed32 _ e h.1
    (narrow_is (SuitsIf types.sfixed32) (signed_digits_value 10 s) tt (λ f. f))
said pool numbers.Int64 k s x u e p h = moved pool k s x types.int64 _ e h.1 h.0.1
said pool numbers.Sint64 k s x u e p h = moved pool k s x types.sint64 _ e h.1 h.0.1
said pool numbers.Sfixed64 k s x u e p h = moved pool k s x types.sfixed64 _ e h.1 h.0.1
said pool numbers.Uint32 k s x u e p h =
    moved pool k s x types.uint32 _ e h.1
    (narrow_unsigned_is (SuitsIf types.uint32) (digits_value 10 s) tt (λ f. f))
said pool numbers.Fixed32 k s x u e p h =
    moved pool k s x types.fixed32 _ e h.1
    (narrow_unsigned_is (SuitsIf types.fixed32) (digits_value 10 s) tt (λ f. f))
said pool numbers.Uint64 k s x u e p h = moved pool k s x types.uint64 _ e h.1 h.0.1
said pool numbers.Fixed64 k s x u e p h = moved pool k s x types.fixed64 _ e h.1 h.0.1
said pool numbers.Bool k s (says.Bool b) u e p h =
    moved pool k s (says.Bool b) types.bool (says.Bool b) e refl tt
said pool numbers.Bool k s x u e p h = absurd h
said pool numbers.String k s x u e p h = moved pool k s x types.string says.Text e h u
said pool numbers.Bytes k s x u e p h = moved pool k s x types.bytes says.Bytes e h.1 tt
said pool numbers.Float k s x u e p h = other pool k s x types.float e (λ q. q) p
said pool numbers.Double k s x u e p h = other pool k s x types.double e (λ q. q) p
said pool numbers.Group k s x u e p h = absurd (cc e)
said pool numbers.Message k s x u e p h = absurd (cc e)
said pool numbers.Enum k s x u e p h = absurd (cc e)

-- the type of a number
abbrev size_of : ℤ → ℕ
size_of (pos n) = n
size_of (negsuc n) = 0

abbrev type_at : ℕ → TypeNumber
type_at n =
    cond (n == 1) numbers.Double
    (cond (n == 2) numbers.Float
    (cond (n == 3) numbers.Int64 (cond (n == 4) numbers.Uint64 (cond (n == 5) numbers.Int32
    (cond (n == 6) numbers.Fixed64
    (cond (n == 7) numbers.Fixed32
    (cond (n == 8) numbers.Bool (cond (n == 9) numbers.String (cond (n == 10) numbers.Group
    (cond (n == 11) numbers.Message
    (cond (n == 12) numbers.Bytes
    (cond (n == 13) numbers.Uint32 (cond (n == 14) numbers.Enum (cond (n == 15) numbers.Sfixed32
    (cond (n == 16) numbers.Sfixed64 (cond (n == 17) numbers.Sint32 numbers.Sint64))))))))))))))))

back : (t : TypeNumber) → type_at (size_of (type_number t)) ≡ t
back numbers.Double = refl
back t = refl

-- no two types have one number
one_type : (t u : TypeNumber) → type_number t ≡ type_number u → t ≡ u
one_type t u e = sym (back t) ∙ ap (λ n. type_at (size_of n)) e ∙ back u

-- neither a message nor an enum
abbrev pub IsPlain : KindType → Type 0
IsPlain (types.message i) = ⊥
IsPlain (types.enumeration i) = ⊥
IsPlain _ = Unit {0}

-- the type whose number stands in a record holds this
abbrev pub HasType : Option ℤ → KindType → Type 0
HasType number k = (t : TypeNumber) × (number ≡ Some (type_number t)) × (scalar_type t ≡ Some k)

pub typed : (number : Option ℤ) (k : KindType) → IsTyped number k → HasType number k
typed None k h = absurd h
typed (Some n) k h = (h.0, ap Some (sym h.1), h.2)

meant_plain : (m : Option DefinitionKind) (k : KindType) → IsPlain k → IsMeant m k → ⊥
meant_plain (Some (meant.Message i)) k p h = subst IsPlain h p
meant_plain (Some (meant.Enum i)) k p h = subst IsPlain h p
meant_plain m k p h = h

-- what a field holds, by the name of its type or else its number
abbrev pub IsHeld : Option (String Global) → Option ℤ → Option DefinitionKind → KindType → Type 0
IsHeld name number m k = elim name [ None ↦ IsTyped number k | Some s ↦ IsMeant m k ]

pub plain_type : (name : Option (String Global)) (number : Option ℤ) (m : Option DefinitionKind)
    (k : KindType) → IsPlain k → IsHeld name number m k → HasType number k
plain_type None number m k p h = typed number k h
plain_type (Some s) number m k p h = absurd (meant_plain m k p h)

read_suits : (pool : PoolType) (t : TypeNumber) (k : KindType) (s : List ℕ) (d : Option DefaultType)
    → IsUtf8 s → scalar_type t ≡ Some k → IsScalarType k → IsScalarDefault t s d
    → SuitsIf k (option_and_then (declared_in pool k) d)
read_suits pool t k s d u e p (None, read, is) =
    subst (λ o. SuitsIf k (option_and_then (declared_in pool k) o)) (sym is) tt
read_suits pool t k s d u e p (Some x, read, is) =
    subst (λ o. SuitsIf k (option_and_then (declared_in pool k) o)) (sym is)
    (said pool t k s x u e p read)

plain_suits : (pool : PoolType) (k : KindType) (number : Option ℤ) (s : List ℕ)
    (d : Option DefaultType) → IsUtf8 s → IsScalarType k → HasType number k
    → (t : Option TypeNumber) × IsNumbered number t × IsDefaultOf t s d
    → SuitsIf k (option_and_then (declared_in pool k) d)
plain_suits pool k number s d u p type (None, numbered, is) =
    subst (λ o. SuitsIf k (option_and_then (declared_in pool k) o)) (sym is) tt
plain_suits pool k number s d u p type (Some t, numbered, is) =
    let same : t ≡ type.0 =
    one_type t type.0 (subst (λ o. IsNumbered o (Some t)) type.1 numbered) in
    read_suits pool t k s d u (ap scalar_type same ∙ type.2) p is

-- the name of a value is its number
named_suits : (pool : PoolType) (i : ℕ) (s : List ℕ) → HaveNumbers pool
    → SuitsIf (types.enumeration i) (option_map enumerated (named_in pool (types.enumeration i) s))
named_suits pool i s h = by (find (λ v. bytes_eq v.name s) (enum_at pool i).values) refl where
  by : (o : Option ValueType) → find (λ v. bytes_eq v.name s) (enum_at pool i).values ≡ o
      → SuitsIf (types.enumeration i)
      (option_map enumerated (option_map (λ (v : ValueType). v.number) o))
  by None is = tt
  by (Some v) is = of_all (λ (v : ValueType). FitsSigned w32 v.number) v (enum_at pool i).values
      (numbers_at pool i h) (of_find (λ v. bytes_eq v.name s) v (enum_at pool i).values is).0

-- the text of a default
written_suits : (pool : PoolType) (k : KindType) (name : Option (String Global)) (number : Option ℤ)
    (m : Option DefinitionKind) (s : List ℕ) (d : Option DefaultType) → HaveNumbers pool → IsUtf8 s
    → IsScalarType k
    → IsHeld name number m k → IsWritten k number s d
    → SuitsIf k (option_and_then (declared_in pool k) d)
written_suits pool (types.enumeration i) name number m s d h u p kind is =
    subst (λ o. SuitsIf (types.enumeration i)
    (option_and_then (declared_in pool (types.enumeration i)) o)) (sym is) (named_suits pool i s h)
written_suits pool (types.message i) name number m s d h u p kind is = absurd p
written_suits pool k name number m s d h u p kind is =
    plain_suits pool k number s d u p (plain_type name number m k tt kind) is

-- the default that a text gives, if there is a text
abbrev pub IsGiven : Option (String Global) → KindType → Option ℤ → Option DefaultType → Type 0
IsGiven written k number d =
    elim written [ None ↦ d ≡ None | Some s ↦ IsWritten k number (string_bytes s) d ]

declared_suits : (pool : PoolType) (k : KindType) (r : FieldDescriptorProto)
    (m : Option DefinitionKind) (o : Option (String Global)) (d : Option DefaultType)
    → HaveNumbers pool → IsScalarType k → HasKind r m k
    → IsGiven o k r.field_type d → SuitsIf k (option_and_then (declared_in pool k) d)
declared_suits pool k r m None d h p kind is =
    subst (λ o. SuitsIf k (option_and_then (declared_in pool k) o)) (sym is) tt
declared_suits pool k r m (Some s) d h p kind is =
    written_suits pool k r.type_name r.field_type m (string_bytes s) d h (IsUtf8-string_bytes s) p
    kind is

-- what stands for a field where no value does, by its record
pub default_has : (pool : PoolType) (k : KindType) (r : FieldDescriptorProto)
    (m : Option DefinitionKind) (d : Option DefaultType) → HaveNumbers pool → IsScalarType k
    → HasKind r m k → IsDefault k r d
    → HasOne k (option_or (option_and_then (declared_in pool k) d) (kind_default pool k))
default_has pool k r m d h p kind is =
    either_has k (option_and_then (declared_in pool k) d) (kind_default pool k)
    (declared_suits pool k r m r.default_value d h p kind is) (kind_has pool k h p)
