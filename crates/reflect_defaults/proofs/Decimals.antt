-- Texts of decimal digits, and what `parse` reads from them.
use Rattle.std.proofs.Common.{◌≡◌, ℕ, ℤ, ◌<◌, Bool, true, false, List, [], ◌∷◌, length, ◌==◌, refl, rules, arith, Result, Ok, Err}
use Rattle.std.specs.Int.{Width}
use Rattle.std.specs.Char.{is_ascii_digit}
use Rattle.std.specs.List.{list_all}
use Rattle.std.specs.Result.{OkIff}
use Rattle.std.specs.Str.Parse.{IsNumeral, digits_value, signed_digits_value, without_leading_plus, without_leading_sign, ParsesUnsigned, ParsesSigned}
use Rattle.std.proofs.lemmas.Str.Parse.{IsNumeralModel, numerals_by_value, not_in_digits, without_leading_plus_none, parse_digits}
use Rattle.reflect_defaults.specs.Defaults.{is_decimal, is_integer, IsUnsigned, IsSigned}

own : IsNumeralModel (λ ds. list_all is_ascii_digit ds ≡ true) (digits_value 10)
own = numerals_by_value (λ ds. list_all is_ascii_digit ds ≡ true) (search rules)

some_digits : (text : List ℕ) → is_decimal text ≡ true → (list_all is_ascii_digit text ≡ true) × (0 < length text)
some_digits [] e = cc
some_digits (c ∷ cs) e = (e, omega arith)

pub unsigned_read : {E : Type 0} (bits : ℕ) (text : List ℕ) (r : Result ℕ E) → is_decimal text ≡ true → ParsesUnsigned bits 10 text r → OkIff r (IsUnsigned bits text) (digits_value 10 text)
unsigned_read {E} bits text (Ok n) d h = let p = parse_digits own {E = E} bits text (Ok n) h (some_digits text d).0 in ((d, p.0.1), p.1)
unsigned_read {E} bits text (Err e) d h = let p = parse_digits own {E = E} bits text (Err e) h (some_digits text d).0 in λ x. p ((some_digits text d).1, x.1)

decimal_numeral : (text : List ℕ) → is_decimal text ≡ true → IsNumeral 10 text
decimal_numeral text d = let s = some_digits text d in (s.1, own.to text s.0)

numeral : (text : List ℕ) → is_integer text ≡ true → IsNumeral 10 (without_leading_sign text)
numeral [] d = cc
numeral (c ∷ cs) d = by (c == 45) refl where
  by : (minus : Bool) → (c == 45) ≡ minus → IsNumeral 10 (without_leading_sign (c ∷ cs))
  by true e = rw e (decimal_numeral cs (rw e at d))
  by false e =
      let is : is_decimal (c ∷ cs) ≡ true = rw e at d in
      let plain : without_leading_plus (c ∷ cs) ≡ c ∷ cs = without_leading_plus_none (c ∷ cs) (not_in_digits own (c ∷ cs) 43 is (λ h. omega arith) 0 (omega arith)) in
      rw (e, plain) (decimal_numeral (c ∷ cs) is)

pub signed_read : {E : Type 0} (w : Width) (text : List ℕ) (r : Result ℤ E) → is_integer text ≡ true → ParsesSigned w 10 text r → OkIff r (IsSigned w text) (signed_digits_value 10 text)
signed_read w text (Ok n) d h = ((d, h.0.1), h.1)
signed_read w text (Err e) d h = λ x. h (numeral text d, x.1)
