-- The types of map entries.
--
-- Source: "Maps" of the language guides on protobuf.dev.
use Rattle.std.specs.Prelude.{ℤ, pos, true, List, [], ◌∷◌, Some, None, codes}
use Rattle.descriptor_records.specs.Content.{FieldContent, MessageContent, message, no_messages, OptionsContent}
use Rattle.descriptor_records.specs.FieldNumbers.{label_number}
use Rattle.descriptor_records.specs.declared.field.Label.TheVariants as labels
use Rattle.protox_field_records.specs.FieldRecords.{entry_name_of, scalar_number}
use Rattle.protox_lex.specs.Class.{Text}
use Rattle.protox_tree.specs.Scalar.{written_name}
use Rattle.protox_tree.specs.View.{ty_view}
use Rattle.protox_tree.specs.declared.message.Map.{Map}
use Rattle.protox_tree.specs.declared.types.Ty.{Ty}

-- the key or the value of a map's entries
abbrev pub entry_field : Text → ℤ → Ty → FieldContent
entry_field name number ty = record {
  name = Some name;
  number = Some number;
  label = Some (label_number labels.Optional);
  field_type = scalar_number (ty_view ty);
  type_name = written_name (ty_view ty);
  extendee = None;
  default_value = None;
  oneof_index = None;
  json_name = None;
  options = None;
  proto3_optional = None;
}

abbrev pub entry_fields : Map → List FieldContent
entry_fields m = entry_field (codes "key") (pos 1) m.key
    ∷ (entry_field (codes "value") (pos 2) m.value ∷ [])

-- the option `map_entry = true`, as itself and in its encoded form
abbrev pub entry_options : OptionsContent
entry_options = record {
  encoded = 56 ∷ 1 ∷ [];
  packed = None;
  allow_alias = None;
  map_entry = Some true;
  uninterpreted_option = [];
}

-- the type of the entries of a map of this name: a key and a value
abbrev pub entry_of : Text → Map → MessageContent
entry_of name m =
    message (Some (entry_name_of name)) (entry_fields m) [] no_messages [] [] []
    (Some entry_options) [] []
