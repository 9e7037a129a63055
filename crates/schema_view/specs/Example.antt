-- A file that is lawful by itself: `syntax = "proto3"; package p; message M { .p.M f = 1; }`, with
-- the type of the field filled in.
use Rattle.std.specs.Prelude.{[], ◌∷◌, pos, Some, None, codes}
use Rattle.descriptor_records.specs.Content.{FieldContent, MessageContent, message, no_messages, FileContent}

abbrev pub field_f : FieldContent
field_f = record {
  name = Some (codes "f");
  number = Some (pos 1);
  label = Some (pos 1);
  field_type = Some (pos 11);
  type_name = Some (codes ".p.M");
  extendee = None;
  default_value = None;
  oneof_index = None;
  json_name = None;
  options = None;
  proto3_optional = None;
}

abbrev pub message_m : MessageContent
message_m = message (Some (codes "M")) (field_f ∷ []) [] no_messages [] [] [] None [] []

abbrev pub file_p : FileContent
file_p = record {
  name = Some (codes "p.proto");
  package_name = Some (codes "p");
  dependency = [];
  public_dependency = [];
  weak_dependency = [];
  message_type = message_m ∷ [];
  enum_type = [];
  service = [];
  extension = [];
  options = None;
  source_code_info = None;
  syntax_name = Some (codes "proto3");
}
