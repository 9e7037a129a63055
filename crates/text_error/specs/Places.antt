-- Where the faults of a text stand, and what is written there.
use Rattle.std.specs.Prelude.{ℕ, ◌+◌, ◌^◌, ◌&&◌, if◌then◌else◌, nat_lt, length, List, [], Option, None, Some, codes}
use Rattle.std.specs.Option.{option_and_then}
use Rattle.std.specs.declared.ops.Range.{Range}
use Rattle.protox_lex.specs.Class.{Text}
use Rattle.protox_lex.specs.Lines.{column_at, feeds_of, line_at}
use Rattle.protox_lex.specs.declared.span.Span.{Span}
use Rattle.text_error.specs.declared.error.ParseErrorKind.{ParseErrorKind}
use Rattle.text_error.specs.declared.error.ParseErrorKind.TheVariants as kinds

-- the bytes at fault: none where the text ends too early, where a key suits no map, and where
-- memory runs out
abbrev pub place_of : ParseErrorKind → Option Span
place_of (kinds.InvalidToken span) = Some span
place_of (kinds.InvalidStringCharacters span) = Some span
place_of (kinds.InvalidStringEscape span) = Some span
place_of (kinds.InvalidUtf8String span) = Some span
place_of (kinds.NoSpaceBetweenIntAndIdent span) = Some span
place_of (kinds.UnexpectedToken expected found span) = Some span
place_of (kinds.UnexpectedEof expected) = None
place_of (kinds.IntegerValueOutOfRange expected actual min max span) = Some span
place_of (kinds.FieldNotFound field message span) = Some span
place_of (kinds.FieldAlreadySet field span) = Some span
place_of (kinds.OneofAlreadySet oneof span) = Some span
place_of (kinds.ExtensionNotFound extension message span) = Some span
place_of (kinds.MessageNotFound message span) = Some span
place_of (kinds.EnumValueNotFound value enumeration span) = Some span
place_of (kinds.InvalidTypeForAny span) = Some span
place_of kinds.InvalidMapKey = None
place_of (kinds.FloatField field message span) = Some span
place_of (kinds.NestingTooDeep span) = Some span
place_of (kinds.TooLong span) = Some span
place_of kinds.Memory = None

-- from the first byte of a span up to the one behind its last
abbrev pub bytes_of : Span → Range ℕ
bytes_of s = record { start = s.start; end = s.end }

-- the line feeds before an offset of a text, and the bytes behind the last of them, where the text
-- has so many bytes
abbrev pub line_and_column_at : Text → ℕ → Option (ℕ × ℕ)
line_and_column_at text offset =
    if nat_lt (length text) offset then None
    else Some (line_at (feeds_of text) offset, column_at (feeds_of text) offset)

-- both counted from 1, as far as a machine word counts
abbrev pub from_one : ℕ × ℕ → Option (ℕ × ℕ)
from_one at = if nat_lt (at.0 + 1) (2 ^ 64) && nat_lt (at.1 + 1) (2 ^ 64)
    then Some (at.0 + 1, at.1 + 1) else None

-- where a span begins in the text
abbrev pub begins_in : Text → Span → Option (ℕ × ℕ)
begins_in text s = option_and_then from_one (line_and_column_at text s.start)

-- the words at the place: what is found there, defined, set or used
abbrev pub label_of : ParseErrorKind → List ℕ
label_of (kinds.InvalidToken span) = codes "found here"
label_of (kinds.InvalidStringCharacters span) = codes "invalid characters"
label_of (kinds.InvalidStringEscape span) = codes "defined here"
label_of (kinds.InvalidUtf8String span) = codes "defined here"
label_of (kinds.NoSpaceBetweenIntAndIdent span) = codes "found here"
label_of (kinds.UnexpectedToken expected found span) = codes "found here"
label_of (kinds.UnexpectedEof expected) = []
label_of (kinds.IntegerValueOutOfRange expected actual min max span) = codes "defined here"
label_of (kinds.FieldNotFound field message span) = codes "set here"
label_of (kinds.FieldAlreadySet field span) = codes "set here"
label_of (kinds.OneofAlreadySet oneof span) = codes "set here"
label_of (kinds.ExtensionNotFound extension message span) = codes "set here"
label_of (kinds.MessageNotFound message span) = codes "used here"
label_of (kinds.EnumValueNotFound value enumeration span) = codes "used here"
label_of (kinds.InvalidTypeForAny span) = codes "used here"
label_of kinds.InvalidMapKey = []
label_of (kinds.FloatField field message span) = codes "set here"
label_of (kinds.NestingTooDeep span) = codes "found here"
label_of (kinds.TooLong span) = codes "used here"
label_of kinds.Memory = []
