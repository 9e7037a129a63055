-- What is said of the faults of a text.
use Rattle.std.specs.Prelude.{ℕ, List, [], ◌++◌, Option, None, Some, codes, string_bytes}
use Rattle.text_error.specs.declared.error.ParseErrorKind.{ParseErrorKind}
use Rattle.text_error.specs.declared.error.ParseErrorKind.TheVariants as kinds

-- the words for what takes no name and no number; none for the others
abbrev pub plain_words : ParseErrorKind → List ℕ
plain_words (kinds.InvalidToken span) = codes "invalid token"
plain_words (kinds.InvalidStringCharacters span) = codes "invalid string character"
plain_words (kinds.InvalidStringEscape span) = codes "invalid string escape"
plain_words (kinds.InvalidUtf8String span) = codes "string is not valid utf-8"
plain_words (kinds.NoSpaceBetweenIntAndIdent span) =
    codes "whitespace is required between an integer literal and an identifier"
plain_words (kinds.InvalidTypeForAny span) =
    codes "the field type must be 'google.protobuf.Any' to use Any expansion syntax"
plain_words kinds.InvalidMapKey = codes "invalid value type for map key"
plain_words (kinds.NestingTooDeep span) = codes "more than 100 open braces"
plain_words (kinds.TooLong span) = codes "encoded length too large"
plain_words kinds.Memory = codes "out of memory"
plain_words _ = []

-- a line of words, with the names and numbers of the fault among them
abbrev pub said : ParseErrorKind → List ℕ
said (kinds.UnexpectedToken expected found span) = codes "expected "
    ++ (expected.now ++ (codes ", but found '" ++ (string_bytes found ++ codes "'")))
said (kinds.UnexpectedEof expected) = codes "expected "
    ++ (expected.now ++ codes ", but reached end of input")
said (kinds.IntegerValueOutOfRange expected actual min max span) =
    codes "expected value to be " ++ (expected.now
    ++ (codes ", but the value " ++ (string_bytes actual ++ codes " is out of range")))
said (kinds.FieldNotFound field message span) = codes "field '"
    ++ (string_bytes field ++ (codes "' not found for message '"
    ++ (string_bytes message ++ codes "'")))
said (kinds.FieldAlreadySet field span) = codes "'"
    ++ (string_bytes field ++ codes "' is already set")
said (kinds.OneofAlreadySet oneof span) = codes "a value is already set for oneof '"
    ++ (string_bytes oneof ++ codes "'")
said (kinds.ExtensionNotFound extension message span) =
    codes "extension '" ++ (string_bytes extension
    ++ (codes "' not found for message '" ++ (string_bytes message ++ codes "'")))
said (kinds.MessageNotFound message span) = codes "message type '"
    ++ (string_bytes message ++ codes "' not found")
said (kinds.EnumValueNotFound value enumeration span) =
    codes "value '" ++ (string_bytes value
    ++ (codes "' was not found for enum '" ++ (string_bytes enumeration ++ codes "'")))
said (kinds.FloatField field message span) =
    codes "field '" ++ (string_bytes field
    ++ (codes "' of message '" ++ (string_bytes message
    ++ codes "' has a floating-point type")))
said kind = plain_words kind

-- how the fault is mended: an integer lies between the bounds of its field
abbrev pub help_of : ParseErrorKind → Option (List ℕ)
help_of (kinds.IntegerValueOutOfRange expected actual min max span) =
    Some (codes "the value must be between "
    ++ (min.now ++ (codes " and " ++ (max.now ++ codes " inclusive"))))
help_of _ = None
