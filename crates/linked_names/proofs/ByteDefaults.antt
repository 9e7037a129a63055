-- What stands for one value of a field holds bytes where it holds any.
use Rattle.std.proofs.Common.{◌^◌, ◌++◌, ℕ, ℤ, pos, negsuc, Bool, true, false, cond, [], Option, None, Some, option_map, nat_lt, String, Global, string_bytes, refl, sym, subst, append-nil}
use Rattle.std.specs.Option.{option_and_then, option_or}
use Rattle.std.proofs.lemmas.Str.{IsUtf8-string_bytes}
use Rattle.descriptor_records.specs.declared.field.FieldType.{FieldType as TypeNumber}
use Rattle.protox_lex.specs.Class.{Text}
use Rattle.protox_lex.specs.Lex.{unescaped}
use Rattle.reflect_defaults.specs.declared.default.DefaultText.{DefaultText}
use Rattle.reflect_defaults.specs.declared.default.DefaultText.TheVariants as says
use Rattle.reflect_fields.specs.FieldDefaults.{default_type, IsDefaultOf, IsNumbered, IsScalarDefault, IsWritten}
use Rattle.reflect_tables.specs.Types.{PoolType, FieldType, KindType, DefaultType}
use Rattle.reflect_tables.specs.Types as types
use Rattle.reflect_scalar.specs.Defaults.{declared_in, default_in, kind_default, named_in, narrow, signed_in, unsigned_in}
use Rattle.reflect_scalar.specs.Singles.{Single, int32, uint32, enumerated}
use Rattle.protobuf_model.specs.Types as kinds
use Rattle.protobuf_model.specs.Values as model
use Rattle.text_model.proofs.Utf8.{utf8_small}
use Rattle.text_model.specs.Plain.{AreBytes}
use Rattle.text_model.specs.Tree.{strings}
use Rattle.text_laws.proofs.ScalarsSuit.{scalar_right}
use Rattle.text_laws.proofs.Small.{AreSmall}
use Rattle.message_view.specs.Singles.{single_view}
use Rattle.message_view.specs.Types.{default_of}
use Rattle.linked_view.proofs.DefaultValues.{IsGiven}

-- ---- what a record says

-- what the contents of a string mean are bytes, as where a text gives them to a field of bytes
unescaped_small : (s : Text) → AreSmall s → AreSmall (unescaped s)
unescaped_small s h =
    subst AreSmall (append-nil (unescaped s))
    ((scalar_right (Unit {0}) (λ w. None) (λ w z e. absurd (cc e)) kinds.bytes (strings s [])
    (model.blob (unescaped s ++ [])) ((λ p. h), tt) refl).1 tt)

-- a default of bytes holds nothing else
abbrev pub HoldsBytes : Option DefaultType → Type 0
HoldsBytes (Some (types.octets b)) = AreSmall b
HoldsBytes d = Unit {0}

read_bytes : (s : Text) (x : DefaultText) → AreSmall s → HoldsBytes (Some (default_type s x))
read_bytes s says.Bytes h = unescaped_small s h
read_bytes s x h = tt

scalar_bytes : (t : TypeNumber) (s : Text) (d : Option DefaultType) → AreSmall s
    → IsScalarDefault t s d → HoldsBytes d
scalar_bytes t s d h (None, read, is) = subst HoldsBytes (sym is) tt
scalar_bytes t s d h (Some x, read, is) = subst HoldsBytes (sym is) (read_bytes s x h)

said_bytes : (number : Option ℤ) (s : Text) (d : Option DefaultType) → AreSmall s
    → (t : Option TypeNumber) × IsNumbered number t × IsDefaultOf t s d → HoldsBytes d
said_bytes number s d h (None, numbered, is) = subst HoldsBytes (sym is) tt
said_bytes number s d h (Some t, numbered, is) = scalar_bytes t s d h is

written_bytes : (k : KindType) (number : Option ℤ) (s : Text) (d : Option DefaultType)
    → AreSmall s → IsWritten k number s d → HoldsBytes d
written_bytes (types.enumeration i) number s d h is = subst HoldsBytes (sym is) tt
written_bytes k number s d h is = said_bytes number s d h is

pub given_bytes : (k : KindType) (o : Option (String Global)) (number : Option ℤ)
    (d : Option DefaultType) → IsGiven o k number d → HoldsBytes d
given_bytes k None number d is = subst HoldsBytes (sym is) tt
given_bytes k (Some s) number d is =
    written_bytes k number (string_bytes s) d
    (utf8_small (string_bytes s) (IsUtf8-string_bytes s)) is

-- ---- what stands for one value

abbrev HasBytes : Option Single → Type 0
HasBytes None = Unit {0}
HasBytes (Some v) = AreBytes (single_view v)

either_bytes : (o p : Option Single) → HasBytes o → HasBytes p → HasBytes (option_or o p)
either_bytes None p h k = k
either_bytes (Some v) p h k = h

if_bytes : (b : Bool) (v : Single) → AreBytes (single_view v) → HasBytes (cond b (Some v) None)
if_bytes true v h = h
if_bytes false v h = tt

narrow_bytes : (z : ℤ) → HasBytes (narrow z)
narrow_bytes (pos n) = if_bytes (nat_lt n (2 ^ 31)) (int32 (pos n)) tt
narrow_bytes (negsuc n) = if_bytes (nat_lt n (2 ^ 31)) (int32 (negsuc n)) tt

signed_bytes : (k : KindType) (z : ℤ) → HasBytes (signed_in k z)
signed_bytes types.int32 z = narrow_bytes z
signed_bytes types.sint32 z = narrow_bytes z
signed_bytes types.sfixed32 z = narrow_bytes z
signed_bytes k z = tt

unsigned_bytes : (k : KindType) (n : ℕ) → HasBytes (unsigned_in k n)
unsigned_bytes types.uint32 n = if_bytes (nat_lt n (2 ^ 32)) (uint32 n) tt
unsigned_bytes types.fixed32 n = if_bytes (nat_lt n (2 ^ 32)) (uint32 n) tt
unsigned_bytes k n = tt

number_bytes : (o : Option ℤ) → HasBytes (option_map enumerated o)
number_bytes None = tt
number_bytes (Some z) = tt

declared_bytes : (pool : PoolType) (k : KindType) (d : Option DefaultType) → HoldsBytes d
    → HasBytes (option_and_then (declared_in pool k) d)
declared_bytes pool k None h = tt
declared_bytes pool k (Some (types.signed z)) h = signed_bytes k z
declared_bytes pool k (Some (types.unsigned n)) h = unsigned_bytes k n
declared_bytes pool k (Some (types.octets b)) h = h
declared_bytes pool k (Some (types.named name)) h = number_bytes (named_in pool k name)
declared_bytes pool k (Some x) h = tt

kind_bytes : (pool : PoolType) (k : KindType) → HasBytes (kind_default pool k)
kind_bytes pool types.bytes = tt
kind_bytes pool k = tt

pub default_bytes : (pool : PoolType) (f : FieldType) → HoldsBytes f.default
    → AreBytes (default_of pool f)
default_bytes pool f h =
    by (default_in pool f)
    (either_bytes (option_and_then (declared_in pool f.kind) f.default) (kind_default pool f.kind)
    (declared_bytes pool f.kind f.default h) (kind_bytes pool f.kind)) where
      by : (o : Option Single) → HasBytes o
          → AreBytes (elim o [ None ↦ model.text [] | Some v ↦ single_view v ])
      by None h = tt
      by (Some v) h = h
