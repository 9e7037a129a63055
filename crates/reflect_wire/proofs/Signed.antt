-- Numbers with a sign as the numbers without one that they are written as.
use Rattle.std.proofs.Common.{◌≡◌, ℤ, pos, negsuc, ◌<◌, ◌%◌, ◌^◌, ap, ◌∙◌, arith, FitsSigned}
use Rattle.std.specs.Int.{w32, w64, cast_signed, cast_unsigned}
use Rattle.std.proofs.lemmas.Int.{to_z-of_z}

pub fits64 : (z : ℤ) → FitsSigned w64 z → cast_unsigned w64 z < 2 ^ 64
fits64 (pos n) f = let s = f.sfits in omega arith
fits64 (negsuc n) f = let s = f.sfits in omega arith

pub fits32 : (z : ℤ) → FitsSigned w32 z → cast_unsigned w32 z < 2 ^ 32
fits32 (pos n) f = let s = f.sfits in omega arith
fits32 (negsuc n) f = let s = f.sfits in omega arith

-- ---- numbers of 32 bits, written in the 64 bits that they are extended to

pub extended_fits : (z : ℤ) → FitsSigned w32 z → cast_unsigned w64 z < 2 ^ 64
extended_fits (pos n) f = let s = f.sfits in omega arith
extended_fits (negsuc n) f = let s = f.sfits in omega arith

low_extended : (z : ℤ) → FitsSigned w32 z → cast_unsigned w64 z % 2 ^ 32 ≡ cast_unsigned w32 z
low_extended (pos n) f = let s = f.sfits in omega arith
low_extended (negsuc n) f = let s = f.sfits in omega arith

pub extended_back : (z : ℤ) → FitsSigned w32 z → cast_signed w32 (cast_unsigned w64 z % 2 ^ 32) ≡ z
extended_back z f = ap (cast_signed w32) (low_extended z f) ∙ to_z-of_z w32 z f
