-- The options that linking reads itself, as sources write them: `packed` of fields and
-- `allow_alias` of enums.
use Rattle.std.specs.Prelude.{◌≡◌, ◌&&◌, List, [], ◌∷◌, map, Bool, true, false, cond, not, Option, None, Some, option_map, codes}
use Rattle.std.specs.Str.{bytes_eq}
use Rattle.descriptor_records.specs.declared.file.FileDescriptorProto.{FileDescriptorProto}
use Rattle.descriptor_records.specs.Content.{Text, NameContent, OptionContent, OptionsContent, FieldContent, EnumContent, MessageContent, message, MessageContents, no_messages, more_messages, FileContent, file_view}

-- the name is this plain one
abbrev pub is_plain : Text → List NameContent → Bool
is_plain name (part ∷ []) = not part.is_extension && bytes_eq part.name_part name
is_plain name _ = false

abbrev pub is_named : Text → OptionContent → Bool
is_named name o = is_plain name o.name

-- the truth value that a word writes
abbrev pub truth_of : Option Text → Option Bool
truth_of None = None
truth_of (Some word) = cond (bytes_eq word (codes "true")) (Some true)
    (cond (bytes_eq word (codes "false")) (Some false) None)

-- what the first option of the name says, where its value is true or false
abbrev pub written_truth : Text → List OptionContent → Option Bool
written_truth name [] = None
written_truth name (o ∷ os) = cond (is_named name o) (truth_of o.identifier_value)
    (written_truth name os)

-- what is written, else what was there
abbrev pub written_or : Option Bool → Option Bool → Option Bool
written_or None old = old
written_or (Some new) old = Some new

abbrev pub typed_packed : OptionsContent → OptionsContent
typed_packed o = record o {
  packed =
      written_or (written_truth (codes "packed") o.uninterpreted_option) o.packed;
}

abbrev pub typed_alias : OptionsContent → OptionsContent
typed_alias o = record o {
  allow_alias =
      written_or (written_truth (codes "allow_alias") o.uninterpreted_option) o.allow_alias;
}

abbrev pub typed_field : FieldContent → FieldContent
typed_field f = record f { options = option_map typed_packed f.options }

abbrev pub typed_enum : EnumContent → EnumContent
typed_enum e = record e { options = option_map typed_alias e.options }

abbrev mutual
  pub typed_message : MessageContent → MessageContent
  typed_message (message name fields extensions nested enums ranges oneofs options reserved names) =
      message name (map typed_field fields) (map typed_field extensions) (typed_messages nested)
      (map typed_enum enums) ranges oneofs options reserved names

  pub typed_messages : MessageContents → MessageContents
  typed_messages no_messages = no_messages
  typed_messages (more_messages m ms) = more_messages (typed_message m) (typed_messages ms)

abbrev pub typed_file : FileContent → FileContent
typed_file f = record f {
  message_type = map typed_message f.message_type;
  enum_type =
      map typed_enum f.enum_type;
  extension = map typed_field f.extension;
}

-- the second files are the first with these options where linking reads them
abbrev pub TypedFiles : List FileDescriptorProto → List FileDescriptorProto → Type 0
TypedFiles files typed = map file_view typed ≡ map typed_file (map file_view files)
