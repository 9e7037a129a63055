-- The number that a literal writes, and the bounds of the kinds that hold integers.
use Rattle.std.specs.Prelude.{ℕ, ℤ, Option, Some, None, codes}
use Rattle.protox_lex.specs.Class.{Text}
use Rattle.protox_lex.specs.declared.literal.Int.{Int}
use Rattle.text_model.specs.Tree.{integer, ScalarValue, signed}
use Rattle.text_scalars.specs.declared.number.IntegerRange.{IntegerRange}
use Rattle.text_scalars.specs.declared.number.Literal.{Literal}

-- the number of this magnitude, with the literal's sign and place
abbrev pub valued : Literal → Option ℕ → Option Int
valued l None = None
valued l (Some n) = Some (record { negative = l.is_negative; value = n; span = l.span })

-- the literal as a scalar value
abbrev pub scalar_of : Literal → ScalarValue
scalar_of l = signed l.is_negative (integer l.int.radix l.int.digits.now)

-- where no enum has names
abbrev pub nameless : Text → Option ℤ
nameless w = None

-- the words for integers of a kind, and for the least and the greatest of them
pub record Bounds : Type 0 where
  pub words : Text
  pub least : Text
  pub most : Text

abbrev pub bounds_of : IntegerRange → Bounds
bounds_of r = record { words = r.expected.now; least = r.min.now; most = r.max.now }

abbrev pub signed_32_bounds : Bounds
signed_32_bounds =
    record {
      words = codes "a signed 32-bit integer";
      least = codes "-2147483648";
      most = codes "2147483647";
    }

abbrev pub signed_64_bounds : Bounds
signed_64_bounds =
    record {
      words = codes "a signed 64-bit integer";
      least = codes "-9223372036854775808";
      most = codes "9223372036854775807";
    }

abbrev pub unsigned_32_bounds : Bounds
unsigned_32_bounds =
    record {
      words = codes "an unsigned 32-bit integer";
      least = codes "0";
      most = codes "4294967295";
    }

abbrev pub unsigned_64_bounds : Bounds
unsigned_64_bounds =
    record {
      words = codes "an unsigned 64-bit integer";
      least = codes "0";
      most = codes "18446744073709551615";
    }
