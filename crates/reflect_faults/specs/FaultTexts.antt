-- What is said of faults of files that do not fit together.
use Rattle.std.specs.Prelude.{ℕ, List, ◌++◌, codes, string_bytes}
use Rattle.std.specs.Fmt.{signed_decimal}
use Rattle.reflect_faults.specs.declared.error.DescriptorErrorKind.{DescriptorErrorKind}
use Rattle.reflect_faults.specs.declared.error.DescriptorErrorKind.TheVariants as kind

-- a line of words, with the names and numbers of the fault among them
abbrev pub said : DescriptorErrorKind → List ℕ
said (kind.DuplicateFileName name found) =
    codes "a different file named '" ++ (string_bytes name ++ codes "' has already been added")
said (kind.FileNotFound name found) =
    codes "imported file '" ++ (string_bytes name ++ codes "' has not been added")
said (kind.DuplicateName name found) =
    codes "name '" ++ (string_bytes name ++ codes "' is defined twice")
said (kind.NameNotFound name found) =
    codes "name '" ++ (string_bytes name ++ codes "' is not defined")
said (kind.NameShadowed name shadowed found) =
    codes "'" ++ (string_bytes name ++ (codes "' resolves to '" ++ (string_bytes shadowed
    ++ codes "', which is not defined")))
said (kind.InvalidType name expected found) =
    codes "'" ++ (string_bytes name ++ (codes "' is not " ++ expected.now))
said (kind.UnknownSyntax syntax found) =
    codes "unknown syntax '" ++ (string_bytes syntax ++ codes "'")
said (kind.MissingRequiredField field found) =
    codes "missing required field '" ++ (field.now ++ codes "'")
said (kind.InvalidImportIndex index found) =
    codes "invalid import index '" ++ (signed_decimal index ++ codes "'")
said (kind.InvalidFieldNumber number found) =
    codes "invalid field number '" ++ (signed_decimal number ++ codes "'")
said (kind.DuplicateFieldNumber number found) =
    codes "field number '" ++ (signed_decimal number ++ codes "' has already been used")
said (kind.NumberInReservedRange number start end found) =
    codes "number '" ++ (signed_decimal number
    ++ (codes "' conflicts with a reserved range from '" ++ (signed_decimal start
    ++ (codes "' to below '" ++ (signed_decimal end ++ codes "'")))))
said (kind.NumberInExtensionRange number start end found) =
    codes "number '" ++ (signed_decimal number
    ++ (codes "' conflicts with an extension range from '" ++ (signed_decimal start
    ++ (codes "' to below '" ++ (signed_decimal end ++ codes "'")))))
said (kind.ExtensionNumberOutOfRange number message found) =
    codes "message '" ++ (string_bytes message ++ (codes "' does not define '"
    ++ (signed_decimal number ++ codes "' as an extension number")))
said (kind.EmptyEnum found) = codes "enums must have at least one value"
said (kind.DuplicateEnumNumber number found) =
    codes "enum number '" ++ (signed_decimal number ++ codes "' has already been used")
said (kind.InvalidProto3EnumDefault found) = codes "the first value for proto3 enums must be 0"
said (kind.InvalidFieldDefault value found) =
    codes "invalid default value '" ++ (string_bytes value ++ codes "'")
said (kind.InvalidOneofIndex index found) =
    codes "invalid oneof index '" ++ (signed_decimal index ++ codes "'")
said (kind.BadMapEntry name found) =
    codes "map entry '" ++ (string_bytes name ++ codes "' is invalid")
said (kind.DuplicateExtensionNumber number message found) =
    codes "extension number '" ++ (signed_decimal number ++ (codes "' of message '"
    ++ (string_bytes message ++ codes "' has already been used")))
said kind.TooMany = codes "too many declarations"
said kind.Memory = codes "out of memory"
