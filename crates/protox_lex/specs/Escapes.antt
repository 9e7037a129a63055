-- Bytes as they stand between the quotes of a string.
use Rattle.std.specs.Prelude.{ℕ, ◌-◌, ◌^◌, false, ◌&&◌, ◌||◌, if◌then◌else◌, ◌==◌, nat_le, List, [], ◌∷◌}
use Rattle.std.specs.Fmt.{digits, padded_integral, format_spec}
use Rattle.std.specs.List.{flat_map}

-- a byte in three octal digits behind a backslash
abbrev pub octal_escape : ℕ → List ℕ
octal_escape b = 92 ∷ padded_integral (format_spec 32 0 4 3 (2 ^ 64 - 1)) false []
    (digits 8 false b)

-- `\t`, `\r`, `\n`, `\'`, `\"`, `\\`; other printable ASCII as itself, and other bytes in octal
-- digits
abbrev pub escaped_byte : ℕ → List ℕ
escaped_byte b =
    if b == 9 then 92 ∷ 116 ∷ []
    else if b == 13 then 92 ∷ 114 ∷ []
    else if b == 10 then 92 ∷ 110 ∷ []
    else if b == 39 || b == 34 || b == 92 then 92 ∷ b ∷ []
    else if nat_le 32 b && nat_le b 126 then b ∷ []
    else octal_escape b

-- all of them
abbrev pub escaped : List ℕ → List ℕ
escaped bs = flat_map escaped_byte bs
