-- What is said of the faults of a source.
use Rattle.std.specs.Prelude.{ℕ, List, [], ◌++◌, Option, None, Some, codes, string_bytes}
use Rattle.protox_lex.specs.FaultTexts.{fault_text}
use Rattle.protox_lex.specs.Printed.{token_text}
use Rattle.protox_lex.specs.Shown.{token_of}
use Rattle.protox_lex.specs.declared.error.LexErrorKind.TheVariants as lexical
use Rattle.protox_tree.specs.declared.error.ExpectedToken.{ExpectedToken}
use Rattle.protox_tree.specs.declared.error.ExpectedToken.TheVariants as expected
use Rattle.protox_tree.specs.declared.error.ParseErrorKind.{ParseErrorKind}
use Rattle.protox_tree.specs.declared.error.ParseErrorKind.TheVariants as kinds

-- the words for one token, or for a kind of tokens
abbrev pub expected_words : ExpectedToken → List ℕ
expected_words (expected.Token token) = codes "a token"
expected_words expected.Ident = codes "an identifier"
expected_words expected.Int = codes "an integer"
expected_words expected.String = codes "a string literal"
expected_words expected.TypeName = codes "a type name"
expected_words expected.OptionValue = codes "an option value"
expected_words expected.FileItem = codes "a top-level statement"
expected_words expected.ServiceItem = codes "'rpc' or 'option'"
expected_words expected.Number = codes "a number"
expected_words expected.FieldName = codes "a field name"
expected_words expected.FieldValue = codes "a field value"
expected_words expected.MessageValue = codes "':' or a message value"

-- what could stand where another token stands: one token, as it is written, or a kind of them
abbrev pub expected_text : ExpectedToken → List ℕ
expected_text (expected.Token token) = codes "'" ++ (token_text (token_of token) ++ codes "'")
expected_text kind = expected_words kind

-- what is wrong, in a few words
abbrev pub plain_words : ParseErrorKind → List ℕ
plain_words (kinds.UnexpectedToken expected found span) = codes "unexpected token"
plain_words (kinds.UnexpectedEof expected) = codes "unexpected end of file"
plain_words (kinds.InvalidToken span) = fault_text lexical.InvalidToken
plain_words (kinds.IntegerOutOfRange span) = fault_text lexical.IntegerOutOfRange
plain_words (kinds.InvalidStringCharacters span) = fault_text lexical.InvalidStringCharacters
plain_words (kinds.InvalidStringEscape span) = fault_text lexical.InvalidStringEscape
plain_words (kinds.UnterminatedString span) = fault_text lexical.UnterminatedString
plain_words (kinds.NestedBlockComment span) = fault_text lexical.NestedBlockComment
plain_words (kinds.UnterminatedComment span) = fault_text lexical.UnterminatedComment
plain_words (kinds.NoSpaceBetweenIntAndIdent span) = fault_text lexical.NoSpaceBetweenIntAndIdent
plain_words (kinds.HashCommentOutsideTextFormat span) =
    fault_text lexical.HashCommentOutsideTextFormat
plain_words (kinds.FloatSuffixOutsideTextFormat span) =
    fault_text lexical.FloatSuffixOutsideTextFormat
plain_words kinds.FileTooLarge = codes "file is too large"
plain_words (kinds.UnknownSyntax span) = codes "unknown syntax"
plain_words (kinds.NestingTooDeep span) = codes "nesting is too deep"
plain_words (kinds.InvalidMessageNumber span) = codes "message numbers must be in range"
plain_words (kinds.ReservedMessageNumber span) = codes "message number is reserved"
plain_words (kinds.InvalidEnumNumber span) = codes "enum numbers must be 32-bit integers"
plain_words (kinds.InvalidRange span) = codes "invalid range"
plain_words (kinds.DuplicatePackage first second) = codes "multiple package definitions"
plain_words (kinds.InvalidGroupName span) = codes "group names must start with a capital letter"
plain_words (kinds.EmptyOneof span) = codes "oneof must have at least one field"
plain_words (kinds.MissingLabel span) = codes "proto2 fields must have a label"
plain_words (kinds.RequiredInProto3 span) = codes "required fields are not allowed in proto3"
plain_words (kinds.GroupInProto3 span) = codes "groups are not allowed in proto3"
plain_words (kinds.OneofFieldWithLabel span) = codes "oneof fields cannot have labels"
plain_words (kinds.MapFieldWithLabel span) = codes "map fields cannot have labels"
plain_words (kinds.MapFieldInOneof span) = codes "oneof fields cannot be maps"
plain_words (kinds.MapFieldInExtend span) = codes "extension fields cannot be maps"
plain_words (kinds.InvalidMapKeyType span) = codes "invalid type for map key"
plain_words (kinds.RequiredExtension span) = codes "extension fields may not be required"
plain_words (kinds.DefaultInProto3 span) = codes "default values are not allowed in proto3"
plain_words (kinds.InvalidDefault span) = codes "default value does not suit the field"
plain_words (kinds.InvalidJsonName span) = codes "json_name must be a string"
plain_words (kinds.DuplicateFieldOption first second) = codes "option is already set"
plain_words (kinds.InvalidUtf8String span) = codes "string is not valid utf-8"
plain_words (kinds.ExtensionRangeInProto3 span) = codes "extension ranges are not allowed in proto3"

-- a line of words: of a token what was expected and what stands there, and else what is wrong
abbrev pub said : ParseErrorKind → List ℕ
said (kinds.UnexpectedToken expected found span) =
    codes "expected " ++ (expected_text expected
    ++ (codes ", but found '" ++ (string_bytes found ++ codes "'")))
said (kinds.UnexpectedEof expected) = codes "expected "
    ++ (expected_text expected ++ codes ", but reached end of file")
said kind = plain_words kind

-- the words at the place of a fault, none where it has none
abbrev pub label_of : ParseErrorKind → List ℕ
label_of kinds.FileTooLarge = []
label_of (kinds.UnexpectedEof expected) = []
label_of (kinds.InvalidMessageNumber span) = codes "number used here"
label_of (kinds.ReservedMessageNumber span) = codes "number used here"
label_of (kinds.InvalidEnumNumber span) = codes "number used here"
label_of (kinds.InvalidRange span) = codes "range defined here"
label_of (kinds.DuplicatePackage first second) = codes "defined again here"
label_of (kinds.EmptyOneof span) = codes "defined here"
label_of (kinds.MissingLabel span) = codes "defined here"
label_of (kinds.MapFieldInOneof span) = codes "defined here"
label_of (kinds.MapFieldInExtend span) = codes "defined here"
label_of (kinds.DuplicateFieldOption first second) = codes "defined again here"
label_of _ = codes "found here"

-- what the author can do, where there is more to say than what is wrong
abbrev pub help_of : ParseErrorKind → Option (List ℕ)
help_of (kinds.NoSpaceBetweenIntAndIdent span) =
    Some (codes "write a space between the number and the name")
help_of (kinds.UnknownSyntax span) = Some (codes "the syntaxes 'proto2' and 'proto3' are supported")
help_of (kinds.InvalidMessageNumber span) =
    Some (codes "the number must be between 1 and 536870911, inclusive")
help_of (kinds.ReservedMessageNumber span) =
    Some (codes "the numbers 19000 to 19999 belong to the implementation of protobuf")
help_of (kinds.MissingLabel span) =
    Some (codes "write 'optional', 'repeated' or 'required' before the field's type")
help_of _ = None
