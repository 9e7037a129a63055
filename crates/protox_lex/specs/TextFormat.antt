-- Tokens that only text format has.
use Rattle.std.specs.Prelude.{◌-◌, if◌then◌else◌, length, slice_index, Option, Some, None}
use Rattle.protox_lex.specs.declared.error.LexErrorKind.{LexErrorKind}
use Rattle.protox_lex.specs.declared.error.LexErrorKind.TheVariants as kinds
use Rattle.protox_lex.specs.Lex.{is_suffix}
use Rattle.protox_lex.specs.Token.{Token, ident, int, float, str, sign, comment}

-- the fault of such a token where no text format stands
abbrev pub format_fault : Token → Option LexErrorKind
format_fault comment = Some kinds.HashCommentOutsideTextFormat
format_fault (float s) = if is_suffix (slice_index s (length s - 1))
    then Some kinds.FloatSuffixOutsideTextFormat else None
format_fault (ident s) = None
format_fault (int n) = None
format_fault (str s) = None
format_fault (sign s) = None
