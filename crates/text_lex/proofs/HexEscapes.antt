-- A byte in hexadecimal digits, as it is written.
use Rattle.std.proofs.Common.{◌≡◌, ℕ, ◌<◌, ◌-◌, ◌^◌, false, [], ◌∷◌, refl}
use Rattle.std.specs.Fmt.{digits, padded_integral, format_spec}
use Rattle.std.proofs.lemmas.Fmt.{hex_byte}
use Rattle.text_lex.specs.Printed.{escaped_byte, is_readable}

pub in_hex : (b : ℕ) → b < 256 → is_readable b ≡ false
    → escaped_byte b ≡ 92 ∷ 120 ∷ padded_integral (format_spec 32 0 4 2 (2 ^ 64 - 1)) false [] (digits 16 false b)
in_hex b small other = rw (other, hex_byte false b small) refl
