-- The places of faults in the bytes of their sources.
use Rattle.std.specs.Prelude.{ℕ, cond, List, Option, None, Some, string_bytes}
use Rattle.std.specs.Option.{option_and_then}
use Rattle.std.specs.Str.{bytes_eq}
use Rattle.reflect_faults.specs.SourceBytes.{bytes_at}
use Rattle.reflect_faults.specs.declared.label.Label.{Label}
use Rattle.reflect_faults.specs.declared.error.DescriptorErrorKind.{DescriptorErrorKind}
use Rattle.reflect_faults.specs.declared.error.DescriptorErrorKind.TheVariants as kind

-- a place whose bytes were looked for in a source
abbrev pub located : List ℕ → Label → Label
located source l = record l { bytes = option_and_then (bytes_at source) l.span }

-- if that is the source of its file; else it stays
abbrev pub located_of : List ℕ → List ℕ → Label → Label
located_of file source l = cond (bytes_eq (string_bytes l.file) file) (located source l) l

-- the source is that of a file, where one is named, and else of whichever file the place is in
abbrev pub locating : Option (List ℕ) → List ℕ → Label → Label
locating None source l = located source l
locating (Some file) source l = located_of file source l

-- a fault at another place
abbrev pub moved : (Label → Label) → DescriptorErrorKind → DescriptorErrorKind
moved f (kind.DuplicateFileName name found) = kind.DuplicateFileName name (f found)
moved f (kind.FileNotFound name found) = kind.FileNotFound name (f found)
moved f (kind.DuplicateName name found) = kind.DuplicateName name (f found)
moved f (kind.NameNotFound name found) = kind.NameNotFound name (f found)
moved f (kind.NameShadowed name shadowed found) = kind.NameShadowed name shadowed (f found)
moved f (kind.InvalidType name expected found) = kind.InvalidType name expected (f found)
moved f (kind.UnknownSyntax syntax found) = kind.UnknownSyntax syntax (f found)
moved f (kind.MissingRequiredField field found) = kind.MissingRequiredField field (f found)
moved f (kind.InvalidImportIndex index found) = kind.InvalidImportIndex index (f found)
moved f (kind.InvalidFieldNumber number found) = kind.InvalidFieldNumber number (f found)
moved f (kind.DuplicateFieldNumber number found) = kind.DuplicateFieldNumber number (f found)
moved f (kind.NumberInReservedRange number start end found) =
    kind.NumberInReservedRange number start end (f found)
moved f (kind.NumberInExtensionRange number start end found) =
    kind.NumberInExtensionRange number start end (f found)
moved f (kind.ExtensionNumberOutOfRange number message found) =
    kind.ExtensionNumberOutOfRange number message (f found)
moved f (kind.EmptyEnum found) = kind.EmptyEnum (f found)
moved f (kind.DuplicateEnumNumber number found) = kind.DuplicateEnumNumber number (f found)
moved f (kind.InvalidProto3EnumDefault found) = kind.InvalidProto3EnumDefault (f found)
moved f (kind.InvalidFieldDefault value found) = kind.InvalidFieldDefault value (f found)
moved f (kind.InvalidOneofIndex index found) = kind.InvalidOneofIndex index (f found)
moved f (kind.BadMapEntry name found) = kind.BadMapEntry name (f found)
moved f (kind.DuplicateExtensionNumber number message found) =
    kind.DuplicateExtensionNumber number message (f found)
moved f k = k

-- the place of a fault, if it is one of a file
abbrev pub label_of : DescriptorErrorKind → Option Label
label_of (kind.DuplicateFileName name found) = Some found
label_of (kind.FileNotFound name found) = Some found
label_of (kind.DuplicateName name found) = Some found
label_of (kind.NameNotFound name found) = Some found
label_of (kind.NameShadowed name shadowed found) = Some found
label_of (kind.InvalidType name expected found) = Some found
label_of (kind.UnknownSyntax syntax found) = Some found
label_of (kind.MissingRequiredField field found) = Some found
label_of (kind.InvalidImportIndex index found) = Some found
label_of (kind.InvalidFieldNumber number found) = Some found
label_of (kind.DuplicateFieldNumber number found) = Some found
label_of (kind.NumberInReservedRange number start end found) = Some found
label_of (kind.NumberInExtensionRange number start end found) = Some found
label_of (kind.ExtensionNumberOutOfRange number message found) = Some found
label_of (kind.EmptyEnum found) = Some found
label_of (kind.DuplicateEnumNumber number found) = Some found
label_of (kind.InvalidProto3EnumDefault found) = Some found
label_of (kind.InvalidFieldDefault value found) = Some found
label_of (kind.InvalidOneofIndex index found) = Some found
label_of (kind.BadMapEntry name found) = Some found
label_of (kind.DuplicateExtensionNumber number message found) = Some found
label_of k = None
