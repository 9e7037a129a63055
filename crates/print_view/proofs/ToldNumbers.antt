-- A record under its number tells a record.
use Rattle.std.proofs.Common.{◌≡◌, ◌⊎◌, inl, inr, ◌||◌, ℕ, zero, suc, ◌^◌, ◌<◌, Bool, true, false, List, [], ◌∷◌, ◌++◌, decimal, refl, sym, ap, ◌∙◌, subst, append_assoc, append-nil}
use Rattle.protox_lex.specs.Class.{Text}
use Rattle.reflect_wire.specs.Records.{Payload, varint, fixed64, delimited, group, fixed32}
use Rattle.text_lex.specs.declared.token.Radix.TheVariants as radix
use Rattle.text_lex.specs.Token.{Token, int, sign}
use Rattle.text_lines.specs.Pieces.{quoted, hexadecimal, padding, last_line}
use Rattle.text_lines.specs.UnknownTexts.{are_any, IsValueText, IsRecordText, IsPayloadText}
use Rattle.text_model.proofs.Leaves.{Lexed, ends_number}
use Rattle.text_model.proofs.Signs.{brace_sign, colon_sign, sign_before}
use Rattle.text_model.proofs.Written.{AreWritten, run_lexed}
use Rattle.print_view.proofs.TreeTokens.{opens, tells}
use Rattle.print_view.proofs.ToldTokens.{Any, anything, blank_before, TellsRecord}

-- what stands behind the number begins with a colon, or with a brace, before which may be a space
abbrev BeginsAs : Bool → Text → Type 0
BeginsAs p value = (rest : Text) × ((value ≡ 58 ∷ rest) ⊎ (value ≡ padding p ++ 123 ∷ rest))

payload_begins : (payloads : ℕ) (p : Bool) (i : ℕ) (bytes value : Text) → IsPayloadText payloads p i bytes value → BeginsAs p value
payload_begins zero p i bytes value is = (padding p ++ quoted bytes, inl is)
payload_begins (suc k) p i bytes value (inl (rs, spelled, text)) = (text.0 ++ (last_line p (are_any rs) i ++ 125 ∷ []), inr text.2)
payload_begins (suc k) p i bytes value (inr (none, is)) = (padding p ++ quoted bytes, inl is)

value_begins : (payloads : ℕ) (p : Bool) (i : ℕ) (payload : Payload) (value : Text) → IsValueText p (IsPayloadText payloads p) i payload value → BeginsAs p value
value_begins payloads p i (varint n) value is = (padding p ++ decimal n, inl is)
value_begins payloads p i (fixed64 n) value is = (padding p ++ hexadecimal 16 n, inl is)
value_begins payloads p i (delimited bytes) value is = payload_begins payloads p i bytes value is
value_begins payloads p i (group rs) value (items, row, is) = (items ++ (last_line p (are_any rs) i ++ 125 ∷ []), inr is)
value_begins payloads p i (fixed32 n) value is = (padding p ++ hexadecimal 8 n, inl is)

-- a number before a text that does not lengthen it
number_before : (n : ℕ) → n < 2 ^ 64 → (z : Text) (us : List Token) → ends_number z ≡ true → Lexed Any z us → Lexed Any (decimal n ++ z) (int radix.Decimal (decimal n) ∷ us)
number_before n small z us ends h =
    let written : AreWritten (int radix.Decimal (decimal n) ∷ []) = ((n, small, refl), (refl, refl), tt) in
    subst (λ d. Lexed Any (d ++ z) (int radix.Decimal (decimal n) ∷ us)) (append-nil (decimal n)) (run_lexed (int radix.Decimal (decimal n) ∷ []) written z us ends h)

-- and before one that is cut into a colon or a brace
number_told : (n : ℕ) → n < 2 ^ 64 → (b : ℕ) → opens (sign b) ≡ true → (value : Text) → ((w : Text) → (ends_number (value ++ w) ≡ true) × Lexed Any (value ++ w) (sign b ∷ [])) → TellsRecord (decimal n ++ value)
number_told n small b is value behind = record {
  tokens = int radix.Decimal (decimal n) ∷ sign b ∷ [];
  told = ap (λ c. c || tells (sign b ∷ [])) is;
  cut = λ w.
      let first = behind w in
      subst (λ z. Lexed Any z (int radix.Decimal (decimal n) ∷ sign b ∷ [])) (sym (append_assoc (decimal n) value w)) (number_before n small (value ++ w) (sign b ∷ []) first.0 first.1);
}

before_colon : (n : ℕ) → n < 2 ^ 64 → (rest : Text) → TellsRecord (decimal n ++ 58 ∷ rest)
before_colon n small rest = number_told n small 58 refl (58 ∷ rest) (λ w. (refl, sign_before 58 colon_sign refl (rest ++ w) [] (anything (rest ++ w))))

before_brace : (p : Bool) (n : ℕ) → n < 2 ^ 64 → (rest : Text) → TellsRecord (decimal n ++ (padding p ++ 123 ∷ rest))
before_brace true n small rest = number_told n small 123 refl (32 ∷ 123 ∷ rest) (λ w. (refl, blank_before 32 (123 ∷ (rest ++ w)) (sign 123 ∷ []) refl (sign_before 123 brace_sign refl (rest ++ w) [] (anything (rest ++ w)))))
before_brace false n small rest = number_told n small 123 refl (123 ∷ rest) (λ w. (refl, sign_before 123 brace_sign refl (rest ++ w) [] (anything (rest ++ w))))

pub record_told : (payloads : ℕ) (p : Bool) (i : ℕ) (r : ℕ × Payload) (z : Text) → r.0 < 2 ^ 64 → IsRecordText p (IsPayloadText payloads p) i r z → TellsRecord z
record_told payloads p i r z small (value, text, is) = by (value_begins payloads p i r.1 value text) where
  by : BeginsAs p value → TellsRecord z
  by (rest, inl begins) = subst TellsRecord (sym (is ∙ ap (λ v. decimal r.0 ++ v) begins)) (before_colon r.0 small rest)
  by (rest, inr begins) = subst TellsRecord (sym (is ∙ ap (λ v. decimal r.0 ++ v) begins)) (before_brace p r.0 small rest)
