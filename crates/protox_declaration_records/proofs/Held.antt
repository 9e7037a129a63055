-- A number that is there exactly where a width holds it is the one that a range holds.
use Rattle.std.proofs.Common.{◌≡◌, ◌^◌, ℤ, pos, negsuc, Bool, true, false, Option, Some, None, if◌then◌else◌, refl, ap, w32, w64}
use Rattle.std.proofs.lemmas.Bool.{ltb-true, lt-ltb}
use Rattle.std.specs.Option.{SomeIff}
use Rattle.std.specs.Prelude.{FitsSigned}
use Rattle.protox_lex.specs.Signed.{signed}
use Rattle.protox_lex.specs.declared.literal.Int.{Int}
use Rattle.protox_declaration_records.specs.Numbers.{is_within, i32_of, i64_of}

-- a value that is there where a fact holds, by a test of the fact
by_test : {P : Type 0} (z : ℤ) (o : Option ℤ) (b : Bool) → (b ≡ true → P) → (P → b ≡ true) → SomeIff o P z → o ≡ (if b then Some z else None)
by_test z (Some x) true sound complete h = ap Some h.1
by_test z (Some x) false sound complete h = let e = complete h.0 in cc
by_test z None true sound complete h = absurd (h (sound refl))
by_test z None false sound complete h = refl

fits_32 : (z : ℤ) → is_within (2 ^ 31) z ≡ true → FitsSigned w32 z
fits_32 (pos n) e = record { sfits = ltb-true n (2 ^ 31) e }
fits_32 (negsuc n) e = record { sfits = ltb-true n (2 ^ 31) e }

within_32 : (z : ℤ) → FitsSigned w32 z → is_within (2 ^ 31) z ≡ true
within_32 (pos n) f = lt-ltb n (2 ^ 31) f.sfits
within_32 (negsuc n) f = lt-ltb n (2 ^ 31) f.sfits

fits_64 : (z : ℤ) → is_within (2 ^ 63) z ≡ true → FitsSigned w64 z
fits_64 (pos n) e = record { sfits = ltb-true n (2 ^ 63) e }
fits_64 (negsuc n) e = record { sfits = ltb-true n (2 ^ 63) e }

within_64 : (z : ℤ) → FitsSigned w64 z → is_within (2 ^ 63) z ≡ true
within_64 (pos n) f = lt-ltb n (2 ^ 63) f.sfits
within_64 (negsuc n) f = lt-ltb n (2 ^ 63) f.sfits

pub is_i32 : (n : Int) (o : Option ℤ) → SomeIff o (FitsSigned w32 (signed n)) (signed n) → o ≡ i32_of n
is_i32 n o = by_test (signed n) o (is_within (2 ^ 31) (signed n)) (fits_32 (signed n)) (within_32 (signed n))

pub is_i64 : (n : Int) (o : Option ℤ) → SomeIff o (FitsSigned w64 (signed n)) (signed n) → o ≡ i64_of n
is_i64 n o = by_test (signed n) o (is_within (2 ^ 63) (signed n)) (fits_64 (signed n)) (within_64 (signed n))
