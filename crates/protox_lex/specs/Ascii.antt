-- Bytes below 128.
use Rattle.std.specs.Prelude.{ℕ, ◌<◌, Bool, true, false, slice_index}
use Rattle.protox_lex.specs.declared.class.Class.{Class}
use Rattle.protox_lex.specs.declared.class.Class.TheVariants as class
use Rattle.protox_lex.specs.Class.{Text}

-- the first n bytes are below 128
pub record IsAsciiTo (z : Text) (n : ℕ) : Type 0 where
  pub each : (k : ℕ) → k < n → slice_index z k < 128

-- all bytes of the class are below 128
abbrev pub is_ascii_class : Class → Bool
is_ascii_class class.Blank = true
is_ascii_class class.Line = false
is_ascii_class class.Alphabetic = true
is_ascii_class class.Letter = true
is_ascii_class class.Word = true
is_ascii_class class.Digit = true
is_ascii_class class.Octal = true
is_ascii_class class.Hex = true
