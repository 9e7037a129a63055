-- A text is a default of a scalar type for the pass over numbers exactly where it is one.
use Rattle.std.proofs.Common.{◌≡◌, ◌∙◌, inl, inr, ℕ, ℤ, Bool, true, false, cond, ◌==◌, List, [], ◌∷◌, Option, Some, None, String, Global, string_bytes, ap, sym, subst, refl, arith}
use Rattle.std.specs.Int.{Width}
use Rattle.std.proofs.lemmas.Str.{IsUtf8-string_bytes}
use Rattle.descriptor_records.specs.FieldNumbers.{IsTypeOf, type_number}
use Rattle.descriptor_records.specs.declared.field.FieldType.{FieldType}
use Rattle.descriptor_records.specs.declared.field.FieldType.TheVariants as types
use Rattle.reflect_defaults.specs.Defaults.{IsTruth, Says, HasDefault, IsScalarSuited}
use Rattle.reflect_defaults.specs.Defaults as pass
use Rattle.reflect_defaults.specs.declared.default.DefaultText.{DefaultText}
use Rattle.reflect_defaults.specs.declared.default.DefaultText.TheVariants as says
use Rattle.schema_view.specs.Scalars.{IsDefault, IsScalarDefault}
use Rattle.schema_view.specs.Scalars as view

decimal_same : (text : List ℕ) → pass.is_decimal text ≡ view.is_decimal text
decimal_same [] = refl
decimal_same (c ∷ cs) = refl

integer_same : (text : List ℕ) → pass.is_integer text ≡ view.is_integer text
integer_same [] = refl
integer_same (c ∷ cs) = ap (λ b. cond (c == 45) b (view.is_decimal (c ∷ cs))) (decimal_same cs)

unsigned_to : (bits : ℕ) (text : List ℕ) → pass.IsUnsigned bits text → view.IsUnsigned bits text
unsigned_to bits text h = (sym (decimal_same text) ∙ h.0, h.1)

unsigned_from : (bits : ℕ) (text : List ℕ) → view.IsUnsigned bits text → pass.IsUnsigned bits text
unsigned_from bits text h = (decimal_same text ∙ h.0, h.1)

signed_to : (w : Width) (text : List ℕ) → pass.IsSigned w text → view.IsSigned w text
signed_to w text h = (sym (integer_same text) ∙ h.0, h.1)

signed_from : (w : Width) (text : List ℕ) → view.IsSigned w text → pass.IsSigned w text
signed_from w text h = (integer_same text ∙ h.0, h.1)

truth_to : (text : List ℕ) (d : DefaultText) → IsTruth text d → IsDefault types.Bool text
truth_to text (says.Bool true) h = inl h
truth_to text (says.Bool false) h = inr h
truth_to text _ h = absurd h

says_to : (t : FieldType) (s : String Global) (d : DefaultText) → Says t (string_bytes s) d
    → IsDefault t (string_bytes s)
says_to types.Uint32 s d h = unsigned_to 32 (string_bytes s) h.0
says_to types.Fixed32 s d h = unsigned_to 32 (string_bytes s) h.0
says_to types.Uint64 s d h = unsigned_to 64 (string_bytes s) h.0
says_to types.Fixed64 s d h = unsigned_to 64 (string_bytes s) h.0
says_to types.Bool s d h = truth_to (string_bytes s) d h
says_to types.String s d h = IsUtf8-string_bytes s
says_to types.Bytes s d h = h.0
says_to types.Float s d h = tt
says_to types.Double s d h = tt
says_to types.Group s d h = absurd h
says_to types.Message s d h = absurd h
says_to types.Enum s d h = absurd h
says_to t s d h = signed_to _ (string_bytes s) h.0

pub says_from : (t : FieldType) (text : List ℕ) → IsDefault t text → (d : DefaultText) × Says t text d
says_from types.Uint32 text h = (_, (unsigned_from 32 text h, refl))
says_from types.Fixed32 text h = (_, (unsigned_from 32 text h, refl))
says_from types.Uint64 text h = (_, (unsigned_from 64 text h, refl))
says_from types.Fixed64 text h = (_, (unsigned_from 64 text h, refl))
says_from types.Bool text (inl e) = (says.Bool true, e)
says_from types.Bool text (inr e) = (says.Bool false, e)
says_from types.String text h = (says.Text, refl)
says_from types.Bytes text h = (says.Bytes, (h, refl))
says_from types.Float text h = (says.Float, refl)
says_from types.Double text h = (says.Float, refl)
says_from types.Group text h = absurd h
says_from types.Message text h = absurd h
says_from types.Enum text h = absurd h
says_from t text h = (_, (signed_from _ text h, refl))

pub suited_to : (z : ℤ) (s : String Global) → IsScalarSuited (Some z) (string_bytes s) true
    → IsScalarDefault z (string_bytes s)
suited_to z s (None, e, decides) = absurd (decides.0 refl)
suited_to z s (Some t, e, decides) = let d = decides.0 refl in (t, e, says_to t s d.0 d.1)

pub suited_from : (z : ℤ) (text : List ℕ) → IsScalarDefault z text
    → IsScalarSuited (Some z) text true
suited_from z text (t, e, h) = (Some t, e, ((λ is. says_from t text h), λ x. refl))

-- no two types have one number
pub one_type : (t u : FieldType) → type_number t ≡ type_number u → t ≡ u
one_type t u e = grind (arith, e)

pub type_only : (n : ℤ) (t u : Option FieldType) → IsTypeOf n t → IsTypeOf n u → t ≡ u
type_only n None None e f = refl
type_only n None (Some b) e f = absurd (e b f)
type_only n (Some a) None e f = absurd (f a e)
type_only n (Some a) (Some b) e f = ap Some (one_type a b (e ∙ sym f))

-- whether a text is a default has one answer
pub scalar_only : (number : Option ℤ) (text : List ℕ) (suits : Bool)
    → IsScalarSuited number text true → IsScalarSuited number text suits → suits ≡ true
scalar_only None text suits h k = absurd (cc h)
scalar_only (Some n) text suits (t, e, own) (u, f, other) =
    other.1 (subst (λ o. HasDefault o text) (type_only n t u e f) (own.0 refl))
