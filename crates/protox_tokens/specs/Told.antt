-- How a fault is told to users.
use Rattle.protox_lex.specs.Printed.{token_text}
use Rattle.protox_tokens.specs.Refusal.{Fault, unexpected, eof, lexical, unknown_syntax, too_deep, expected_view}
use Rattle.protox_tree.specs.LexicalKinds.{lexical_kind}
use Rattle.protox_tree.specs.declared.error.ParseErrorKind.{ParseErrorKind}
use Rattle.protox_tree.specs.declared.error.ParseErrorKind.TheVariants as kinds
use Rattle.std.specs.Prelude.{◌≡◌, string_bytes}

-- The fault itself: a token that is not expected as it is printed, with its place and what is
-- expected there, the end with what is expected, the lexer's faults as they are.
abbrev pub IsToldAs : Fault → ParseErrorKind → Type 0
IsToldAs (unexpected expected found span) (kinds.UnexpectedToken x text at) =
    (expected_view x ≡ expected) × (string_bytes text ≡ token_text found) × (at ≡ span)
IsToldAs (eof expected) (kinds.UnexpectedEof x) = expected_view x ≡ expected
IsToldAs (lexical e) kind = kind ≡ lexical_kind e
IsToldAs (unknown_syntax span) kind = kind ≡ kinds.UnknownSyntax span
IsToldAs (too_deep span) kind = kind ≡ kinds.NestingTooDeep span
IsToldAs _ _ = ⊥
