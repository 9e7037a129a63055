-- Classes of bytes, and runs of them.
use Rattle.std.specs.Prelude.{ℕ, ◌+◌, Bool, not, ◌&&◌, ◌||◌, ◌==◌, nat_le, List, drop}
use Rattle.std.specs.Char.{is_ascii_digit, is_ascii_hexdigit, is_ascii_alphanumeric, is_ascii_alphabetic}
use Rattle.std.specs.List.{prefix_len}
use Rattle.protox_lex.specs.declared.class.Class.{Class}
use Rattle.protox_lex.specs.declared.class.Class.TheVariants as class

abbrev pub Text : Type 0
Text = List ℕ

abbrev pub is_in : Class → ℕ → Bool
is_in class.Blank b = b == 32 || (nat_le 9 b && nat_le b 13)
is_in class.Line b = not (b == 10)
is_in class.Alphabetic b = is_ascii_alphabetic b
is_in class.Letter b = is_ascii_alphabetic b || b == 95
is_in class.Word b = is_ascii_alphanumeric b || b == 95
is_in class.Digit b = is_ascii_digit b
is_in class.Octal b = nat_le 48 b && nat_le b 55
is_in class.Hex b = is_ascii_hexdigit b

-- the first place from `at` on whose byte is not of the class
abbrev pub past : Class → Text → ℕ → ℕ
past c z at = at + prefix_len (is_in c) (drop at z)
