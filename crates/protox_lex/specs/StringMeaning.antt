-- What stands between the quotes of a string, and the bytes that it means.
--
-- Source: "String literals" of the protobuf language specification, on protobuf.dev.
use Rattle.std.specs.Prelude.{◌≢◌, ℕ, [], ◌∷◌, ◌++◌, drop}
use Rattle.protox_lex.specs.declared.escape.Meaning.{Meaning}
use Rattle.protox_lex.specs.Class.{Text}
use Rattle.protox_lex.specs.Lex.{bytes_of}
use Rattle.protox_lex.specs.Spelled.{IsEscape, NoEscape}

-- What the contents of a string mean: an escape its byte, or its character in UTF-8, and each other
-- byte itself. A backslash that begins no escape stands for itself; no token has one.
pub data Means : Text → Text → Type 0 where
  no_bytes : Means [] []
  same_byte : (b : ℕ) (y s : Text) → b ≢ 92 → Means y s → Means (b ∷ y) (b ∷ s)
  escape_means : (y : Text) (n : ℕ) (m : Meaning) (s : Text) → IsEscape y n m → Means (drop n y) s
      → Means (92 ∷ y) (bytes_of m ++ s)
  slash_means : (y : Text) (n : ℕ) (s : Text) → NoEscape y n → Means y s → Means (92 ∷ y) (92 ∷ s)
