-- How the faults of the lexer are told.
use Rattle.protox_lex.specs.declared.error.LexError.{LexError}
use Rattle.protox_lex.specs.declared.error.LexErrorKind.{LexErrorKind}
use Rattle.protox_lex.specs.declared.error.LexErrorKind.TheVariants as lexer
use Rattle.protox_lex.specs.declared.span.Span.{Span}
use Rattle.protox_tree.specs.declared.error.ParseErrorKind.{ParseErrorKind}
use Rattle.protox_tree.specs.declared.error.ParseErrorKind.TheVariants as kinds

abbrev pub kind_at : LexErrorKind → Span → ParseErrorKind
kind_at lexer.InvalidToken span = kinds.InvalidToken span
kind_at lexer.IntegerOutOfRange span = kinds.IntegerOutOfRange span
kind_at lexer.InvalidStringCharacters span = kinds.InvalidStringCharacters span
kind_at lexer.InvalidStringEscape span = kinds.InvalidStringEscape span
kind_at lexer.UnterminatedString span = kinds.UnterminatedString span
kind_at lexer.NestedBlockComment span = kinds.NestedBlockComment span
kind_at lexer.UnterminatedComment span = kinds.UnterminatedComment span
kind_at lexer.NoSpaceBetweenIntAndIdent span = kinds.NoSpaceBetweenIntAndIdent span
kind_at lexer.HashCommentOutsideTextFormat span = kinds.HashCommentOutsideTextFormat span
kind_at lexer.FloatSuffixOutsideTextFormat span = kinds.FloatSuffixOutsideTextFormat span

-- the same fault, at the same bytes
abbrev pub lexical_kind : LexError → ParseErrorKind
lexical_kind e = kind_at e.kind e.span
