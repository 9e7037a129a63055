-- Which fault is told where what is wanted does not stand at the front of lexemes.
use Rattle.std.specs.Prelude.{◌≡◌, Bool, true, false, List, [], ◌∷◌, codes, string_bytes}
use Rattle.protox_lex.specs.Class.{Text}
use Rattle.protox_lex.specs.declared.span.Span.{Span}
use Rattle.text_lex.specs.declared.lexer.LexError.{LexError}
use Rattle.text_lex.specs.declared.lexer.LexError.TheVariants as lexical
use Rattle.text_lex.specs.Printed.{printed}
use Rattle.text_lex.specs.Token.{Token, Lexeme, token_at, fault}
use Rattle.text_error.specs.declared.error.ParseErrorKind.{ParseErrorKind}
use Rattle.text_error.specs.declared.error.ParseErrorKind.TheVariants as kinds
use Rattle.text_scalars.specs.Front.{from_to}

-- It is a fault of the text alone, or want of memory, and tells of no type.
abbrev pub is_of_text : ParseErrorKind → Bool
is_of_text (kinds.InvalidToken span) = true
is_of_text (kinds.InvalidStringCharacters span) = true
is_of_text (kinds.InvalidStringEscape span) = true
is_of_text (kinds.InvalidUtf8String span) = true
is_of_text (kinds.NoSpaceBetweenIntAndIdent span) = true
is_of_text (kinds.UnexpectedToken expected found span) = true
is_of_text (kinds.UnexpectedEof expected) = true
is_of_text (kinds.IntegerValueOutOfRange expected actual min max span) = true
is_of_text kinds.Memory = true
is_of_text _ = false

-- the text ends where these words say what is expected
abbrev pub IsEnd : Text → ParseErrorKind → Type 0
IsEnd words (kinds.UnexpectedEof expected) = expected.now ≡ words
IsEnd words _ = ⊥

-- the fault of the text that this one is: of a string that is not closed its end
abbrev pub IsLexical : LexError → ParseErrorKind → Type 0
IsLexical (lexical.InvalidToken s) kind = kind ≡ kinds.InvalidToken s
IsLexical (lexical.InvalidStringCharacters s) kind = kind ≡ kinds.InvalidStringCharacters s
IsLexical (lexical.InvalidStringEscape s) kind = kind ≡ kinds.InvalidStringEscape s
IsLexical (lexical.NoSpaceBetweenIntAndIdent s) kind = kind ≡ kinds.NoSpaceBetweenIntAndIdent s
IsLexical lexical.UnterminatedString kind = IsEnd (codes "string terminator") kind

-- a token of these bytes, told as it prints, stands where these words say what is expected, or
-- memory ran out
abbrev pub IsToken : Text → Token → Span → ParseErrorKind → Type 0
IsToken words t bytes (kinds.UnexpectedToken expected found span) =
    (expected.now ≡ words) × (string_bytes found ≡ printed t) × (span ≡ bytes)
IsToken words t bytes kinds.Memory = Unit {0}
IsToken words t bytes _ = ⊥

-- the lexeme at the front is refused, where these words say what is expected
abbrev pub IsUnexpected : Text → List Lexeme → ParseErrorKind → Type 0
IsUnexpected words [] kind = IsEnd words kind
IsUnexpected words (token_at start end t ∷ ls) kind = IsToken words t (from_to start end) kind
IsUnexpected words (fault e ∷ ls) kind = IsLexical e kind

-- the fault at the front is told
abbrev pub IsFaultAt : List Lexeme → ParseErrorKind → Type 0
IsFaultAt (fault e ∷ ls) kind = IsLexical e kind
IsFaultAt _ kind = ⊥
