-- What two refusals of options tell alike: of what sort the fault is, and the name of the option. Of
-- several faults of the same bytes, or of the same text in braces, it is left open which is told.
use Rattle.std.specs.Prelude.{◌≡◌, None, Some, string_bytes}
use Rattle.option_parts.specs.declared.option_error.OptionErrorKind.{OptionErrorKind}
use Rattle.option_parts.specs.declared.option_error.OptionErrorKind.TheVariants as kinds
use Rattle.option_setter.specs.WrittenNames.{name_told}
use Rattle.protox_lex.specs.Class.{Text}

-- of an option: there is none of the name, or one of another message; it does not take the value,
-- or the text in its braces is no message; it holds floating-point numbers, or is set already; no
-- source may set it. Of what is read or written: it nests too deep, or the bytes are at fault in
-- another way; it contradicts the record. Of the type: there is none, or it is no such type
pub data Sort : Type 0 where
  not_found : Sort
  extends_another : Sort
  unsuited : Sort
  no_message : Sort
  floating : Sort
  set_already : Sort
  forbidden : Sort
  unread : Sort
  contradicting : Sort
  no_type : Sort
  bad_type : (name : Text) → Sort
  want_of_memory : Sort

abbrev pub sort_of : OptionErrorKind → Sort
sort_of (kinds.OptionNotFound name) = not_found
sort_of (kinds.InvalidOptionType name) = unsuited
sort_of (kinds.InvalidOptionExtendee name) = extends_another
sort_of (kinds.InvalidMessageOption name e) = no_message
sort_of (kinds.DuplicateOption name) = set_already
sort_of (kinds.FloatOption name) = floating
sort_of kinds.OptionTooDeep = unread
sort_of (kinds.ForbiddenOption name) = forbidden
sort_of kinds.NoDescriptorProto = no_type
sort_of (kinds.BadDescriptorProto name) = bad_type (string_bytes name)
sort_of (kinds.UndecodableOptions (Some e)) = unread
sort_of (kinds.UndecodableOptions None) = contradicting
sort_of kinds.Memory = want_of_memory

pub record TellAlike (e f : OptionErrorKind) : Type 0 where
  pub sort : sort_of e ≡ sort_of f
  pub option : name_told e ≡ name_told f
