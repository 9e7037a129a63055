-- The faults of the options `default` and `json_name` of a field.
--
-- Source: "Default Field Values" of the proto2 language guide and "ProtoJSON Format" on
-- protobuf.dev.
use Rattle.std.specs.Prelude.{◌++◌, ◌&&◌, ◌||◌, Bool, true, false, not, if◌then◌else◌, List, [], ◌∷◌, Option, None, Some, is_some, codes}
use Rattle.std.specs.Str.{bytes_eq}
use Rattle.descriptor_records.specs.declared.field.FieldType.{FieldType}
use Rattle.descriptor_records.specs.declared.field.FieldType.TheVariants as types
use Rattle.descriptor_records.specs.declared.field.Label.{Label}
use Rattle.descriptor_records.specs.declared.field.Label.TheVariants as labels
use Rattle.protox_check.specs.Texts.{text_faults}
use Rattle.protox_check.specs.Words.{told_if, first_in, each_behind, is_proto3}
use Rattle.protox_lex.specs.Class.{Text}
use Rattle.protox_lex.specs.declared.span.Span.{Span}
use Rattle.protox_tree.specs.Nest.{Kind, normal, group, map_kind}
use Rattle.protox_tree.specs.Places.{body_span, value_span}
use Rattle.protox_tree.specs.Scalar.{scalar_type}
use Rattle.protox_tree.specs.Tree.{Body, OptionList, Value, word_value, minus_word, int_value, float_value, strings_value, braces_value, bool_of, has_name}
use Rattle.protox_tree.specs.declared.error.ParseErrorKind.{ParseErrorKind}
use Rattle.protox_tree.specs.declared.error.ParseErrorKind.TheVariants as kinds
use Rattle.protox_tree.specs.declared.types.Syntax.{Syntax}

-- ---- which defaults suit

abbrev pub is_word : Value → Bool
is_word (word_value w) = true
is_word _ = false

abbrev pub is_integer : Value → Bool
is_integer (int_value n) = true
is_integer _ = false

abbrev pub is_string : Value → Bool
is_string (strings_value ws) = true
is_string _ = false

-- an integer or a float, `inf` or `nan`, with or without a minus
abbrev pub is_number : Value → Bool
is_number (word_value w) = bytes_eq w.text (codes "inf") || bytes_eq w.text (codes "nan")
is_number (minus_word w) = true
is_number (int_value n) = true
is_number (float_value negative w) = true
is_number (strings_value ws) = false
is_number (braces_value text span) = false

-- A value of a named type is a word, that of strings and bytes a string, that of bools `true` or
-- `false`, that of floats a number, and that of all other types an integer.
abbrev pub suits_type : Option FieldType → Value → Bool
suits_type None v = is_word v
suits_type (Some types.String) v = is_string v
suits_type (Some types.Bytes) v = is_string v
suits_type (Some types.Bool) v = is_some (bool_of v)
suits_type (Some types.Double) v = is_number v
suits_type (Some types.Float) v = is_number v
suits_type (Some _) v = is_integer v

abbrev pub is_repeated_label : Label → Bool
is_repeated_label labels.Optional = false
is_repeated_label labels.Required = false
is_repeated_label labels.Repeated = true

abbrev pub is_repeated : Option (Label × Span) → Bool
is_repeated None = false
is_repeated (Some l) = is_repeated_label l.0

-- groups and maps have no defaults
abbrev pub suits_kind : Kind → Value → Bool
suits_kind (normal ty) v = suits_type (scalar_type ty) v
suits_kind (group g) v = false
suits_kind (map_kind m) v = false

-- nor have repeated fields
abbrev pub suits : Option (Label × Span) → Kind → Value → Bool
suits label kind v = not (is_repeated label) && suits_kind kind v

-- ---- the two options

-- where the options of this name stand
abbrev pub named : Text → Body → List Span
named name b = if has_name name b.name then body_span b ∷ [] else []

-- a second option is told with the first of its name
abbrev pub second_after : Option Span → Span → List ParseErrorKind
second_after None second = []
second_after (Some first) second = kinds.DuplicateFieldOption first second ∷ []

-- texts are UTF-8
abbrev pub value_text_faults : Value → List ParseErrorKind
value_text_faults (strings_value ws) = text_faults ws
value_text_faults _ = []

abbrev pub is_string_type : Option FieldType → Bool
is_string_type (Some types.String) = true
is_string_type _ = false

abbrev pub is_string_kind : Kind → Bool
is_string_kind (normal ty) = is_string_type (scalar_type ty)
is_string_kind (group g) = false
is_string_kind (map_kind m) = false

-- the default of a string field is text, if it suits
abbrev pub default_text_faults : Bool → Kind → Value → List ParseErrorKind
default_text_faults suits kind v = if suits && is_string_kind kind then value_text_faults v else []

-- A default stands in proto2 alone, it suits the field, and there is one.
abbrev pub default_faults : Syntax → Option (Label × Span) → Kind → Option Span → Body
    → List ParseErrorKind
default_faults s label kind first b =
    told_if (is_proto3 s) (kinds.DefaultInProto3 (body_span b))
    ++ (told_if (not (suits label kind b.value)) (kinds.InvalidDefault (body_span b))
    ++ (second_after first (body_span b)
    ++ default_text_faults (suits label kind b.value) kind b.value))

-- a JSON name is a string
abbrev pub json_value_faults : Value → List ParseErrorKind
json_value_faults (strings_value ws) = text_faults ws
json_value_faults v = kinds.InvalidJsonName (value_span v) ∷ []

-- there is one
abbrev pub json_name_faults : Option Span → Body → List ParseErrorKind
json_name_faults first b = second_after first (body_span b) ++ json_value_faults b.value

-- An option of a field, where the first `default` and the first `json_name` before it stand so.
abbrev pub option_faults_after : Syntax → Option (Label × Span) → Kind → Option Span → Option Span
    → Body → List ParseErrorKind
option_faults_after s label kind default json_name b =
    if has_name (codes "default") b.name then default_faults s label kind default b
    else if has_name (codes "json_name") b.name then json_name_faults json_name b
    else []

-- an option of a field, behind these
abbrev pub option_faults : Syntax → Option (Label × Span) → Kind → List Body → Body
    → List ParseErrorKind
option_faults s label kind before b =
    option_faults_after s label kind (first_in (named (codes "default")) before)
    (first_in (named (codes "json_name")) before) b

abbrev pub options_faults : Syntax → Option (Label × Span) → Kind → Option OptionList
    → List ParseErrorKind
options_faults s label kind None = []
options_faults s label kind (Some list) = each_behind (option_faults s label kind) [] list.options
