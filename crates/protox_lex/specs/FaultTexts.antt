-- What is said of a fault in the tokens of a source.
use Rattle.std.specs.Prelude.{codes}
use Rattle.protox_lex.specs.Class.{Text}
use Rattle.protox_lex.specs.declared.error.LexErrorKind.{LexErrorKind}
use Rattle.protox_lex.specs.declared.error.LexErrorKind.TheVariants as kinds

abbrev pub fault_text : LexErrorKind → Text
fault_text kinds.InvalidToken = codes "invalid token"
fault_text kinds.IntegerOutOfRange = codes "integer is out of range"
fault_text kinds.InvalidStringCharacters = codes "invalid string character"
fault_text kinds.InvalidStringEscape = codes "invalid string escape"
fault_text kinds.UnterminatedString = codes "string has no closing quote"
fault_text kinds.NestedBlockComment = codes "block comments cannot be nested"
fault_text kinds.UnterminatedComment = codes "comment has no end"
fault_text kinds.NoSpaceBetweenIntAndIdent =
    codes "whitespace is required between an integer literal and an identifier"
fault_text kinds.HashCommentOutsideTextFormat =
    codes "hash comments are only allowed in text format"
fault_text kinds.FloatSuffixOutsideTextFormat =
    codes "float suffixes are only allowed in text format"
