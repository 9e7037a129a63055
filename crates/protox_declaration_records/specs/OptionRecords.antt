-- The records of options, which no type has read yet.
--
-- Source: "Options" of the language guide on protobuf.dev, and `UninterpretedOption` of
-- descriptor.proto.
use Rattle.std.specs.Prelude.{if◌then◌else◌, true, false, List, [], ◌∷◌, map, Option, Some, None, string_bytes}
use Rattle.descriptor_records.specs.Content.{NameContent, written, OptionContent, OptionsContent}
use Rattle.protox_lex.specs.declared.literal.Int.{Int}
use Rattle.protox_declaration_records.specs.Numbers.{i64_of}
use Rattle.protox_declaration_records.specs.Texts.{signed_text}
use Rattle.protox_tree.specs.Tree.{joined, type_text}
use Rattle.protox_tree.specs.View.{strings_view, type_name_view}
use Rattle.protox_tree.specs.declared.option.OptionBody.{OptionBody}
use Rattle.protox_tree.specs.declared.option.OptionList.{OptionList}
use Rattle.protox_tree.specs.declared.option.OptionNamePart.{OptionNamePart}
use Rattle.protox_tree.specs.declared.option.OptionNamePart.TheVariants as parts
use Rattle.protox_tree.specs.declared.option.OptionValue.{OptionValue}
use Rattle.protox_tree.specs.declared.option.OptionValue.TheVariants as values

-- A part of an option's name: a word, or in parentheses the name of an extension.
abbrev pub name_part_of : OptionNamePart → NameContent
name_part_of (parts.Ident i) = record { name_part = string_bytes i.value; is_extension = false }
name_part_of (parts.Extension name span) =
    record { name_part = type_text (type_name_view name); is_extension = true }

-- an option of this name, and of no value
abbrev pub without_value : List OptionNamePart → OptionContent
without_value ps = record {
  name = map name_part_of ps;
  identifier_value = None;
  positive_int_value = None;
  negative_int_value = None;
  double_value = None;
  string_value = None;
  aggregate_value = None;
}

-- an integer, in the field for its sign
abbrev pub with_int : Int → OptionContent → OptionContent
with_int n o =
    if n.negative then record o { negative_int_value = i64_of n }
    else record o { positive_int_value = Some n.value }

-- A value, in the field for values of its kind. Of braces this is the text between them.
abbrev pub with_value : OptionValue → OptionContent → OptionContent
with_value (values.Ident i) o = record o { identifier_value = Some (string_bytes i.value) }
with_value (values.NegativeWord i) o =
    record o { double_value = Some (written (signed_text true (string_bytes i.value))) }
with_value (values.Int n) o = with_int n o
with_value (values.Float negative f) o =
    record o { double_value = Some (written (signed_text negative (string_bytes f.text))) }
with_value (values.String s) o = record o { string_value = Some (joined (strings_view s)) }
with_value (values.Aggregate a) o = record o { aggregate_value = Some (string_bytes a.text) }

abbrev pub option_of : OptionBody → OptionContent
option_of b = with_value b.value (without_value b.name.items)

-- The options of a declaration: none, where it was written with none.
abbrev pub options_of : List OptionContent → Option OptionsContent
options_of [] = None
options_of (o ∷ os) = Some (record {
  encoded = [];
  packed = None;
  allow_alias = None;
  map_entry = None;
  uninterpreted_option = o ∷ os;
})

-- those in brackets, if there are brackets
abbrev pub listed : Option OptionList → List OptionBody
listed None = []
listed (Some list) = list.options.items

abbrev pub list_options_of : Option OptionList → Option OptionsContent
list_options_of list = options_of (map option_of (listed list))
