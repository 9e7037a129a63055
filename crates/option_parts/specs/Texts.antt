-- What is said of refused options.
use Rattle.std.specs.Prelude.{ℕ, List, [], ◌++◌, None, Some, codes, string_bytes}
use Rattle.reflect_wire.specs.Texts as wire
use Rattle.text_error.specs.Texts as text
use Rattle.option_parts.specs.declared.option_error.OptionErrorKind.{OptionErrorKind}
use Rattle.option_parts.specs.declared.option_error.OptionErrorKind.TheVariants as kinds

-- the words for what takes no name and no error; none for the others
abbrev pub plain_words : OptionErrorKind → List ℕ
plain_words kinds.OptionTooDeep = codes "options nest more than 100 levels deep"
plain_words kinds.NoDescriptorProto =
    codes "there is no type for the options: 'google/protobuf/descriptor.proto' has not been added"
plain_words (kinds.UndecodableOptions None) =
    codes "the stored options contradict the record about map entries"
plain_words kinds.Memory = codes "out of memory"
plain_words _ = []

-- a line of words, with the option's name, or the fault of a text or of stored bytes, among them
abbrev pub said : OptionErrorKind → List ℕ
said (kinds.OptionNotFound name) = codes "option '" ++ (string_bytes name ++ codes "' not found")
said (kinds.InvalidOptionType name) = codes "option '"
    ++ (string_bytes name ++ codes "' has another type")
said (kinds.InvalidOptionExtendee name) = codes "option '"
    ++ (string_bytes name ++ codes "' extends another message")
said (kinds.InvalidMessageOption name error) = codes "invalid value for option '"
    ++ (string_bytes name ++ (codes "': " ++ text.said error.kind))
said (kinds.DuplicateOption name) = codes "option '"
    ++ (string_bytes name ++ codes "' is already set")
said (kinds.FloatOption name) = codes "option '"
    ++ (string_bytes name ++ codes "' has a floating-point type")
said (kinds.ForbiddenOption name) = codes "option '"
    ++ (string_bytes name ++ codes "' may not be set in a source")
said (kinds.BadDescriptorProto name) = codes "'"
    ++ (string_bytes name ++ codes "' is not the type of options that it is named after")
said (kinds.UndecodableOptions (Some error)) =
    codes "the stored options cannot be read: " ++ wire.said error
said kind = plain_words kind
