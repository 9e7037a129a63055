-- Parts of records of sources at work: what is written, and what the record has of it.
use Rattle.descriptor_records.specs.Content.{MethodContent, OptionContent}
use Rattle.descriptor_records.specs.FieldNumbers.{label_number}
use Rattle.descriptor_records.specs.declared.enums.EnumReservedRange.{EnumReservedRange}
use Rattle.descriptor_records.specs.declared.field.FieldType.{FieldType}
use Rattle.descriptor_records.specs.declared.field.FieldType.TheVariants as types
use Rattle.descriptor_records.specs.declared.field.Label.{Label}
use Rattle.descriptor_records.specs.declared.field.Label.TheVariants as labels
use Rattle.descriptor_records.specs.declared.message.ReservedRange.{ReservedRange}
use Rattle.protox_field_records.specs.FieldRecords.{label_of, type_name_of, type_of}
use Rattle.protox_laws.specs.WorkedSources.{at, number_at}
use Rattle.protox_lex.specs.Class.{Text}
use Rattle.protox_lex.specs.declared.literal.Int.{Int}
use Rattle.protox_lex.specs.declared.span.Span.{Span}
use Rattle.protox_tree.specs.Nest.{Group, Kind, MapType, group, map_kind, normal}
use Rattle.protox_tree.specs.Tree.{Word, named, scalar, type_text}
use Rattle.protox_tree.specs.View.{type_name_view}
use Rattle.protox_tree.specs.declared.file.Import.{Import}
use Rattle.protox_tree.specs.declared.file.ImportKind.{ImportKind}
use Rattle.protox_tree.specs.declared.file.ImportKind.TheVariants as kinds
use Rattle.protox_tree.specs.declared.ident.Ident.{Ident}
use Rattle.protox_tree.specs.declared.ident.TypeName.{TypeName}
use Rattle.protox_tree.specs.declared.range.RangeEnd.{RangeEnd}
use Rattle.protox_tree.specs.declared.range.RangeEnd.TheVariants as ends
use Rattle.protox_tree.specs.declared.range.ReservedRange as ranges
use Rattle.protox_tree.specs.declared.service.Method.{Method}
use Rattle.protox_tree.specs.declared.text.Strings.{Strings}
use Rattle.protox_tree.specs.declared.types.Syntax.{Syntax}
use Rattle.protox_tree.specs.declared.types.Syntax.TheVariants as syntaxes
use Rattle.std.specs.Prelude.{◌≡◌, ◌^◌, ℕ, ℤ, pos, negsuc, Bool, true, false, List, [], ◌∷◌, Option, None, Some, codes, string_bytes}

-- an integer, wherever it stands
abbrev pub number : Bool → ℕ → Int
number negative n = number_at 0 0 negative n

-- maps, and the types of their entries
abbrev pub entry_names : List (Text × Text)
entry_names =
    (codes "m", codes "MEntry")
    ∷ (codes "foo_bar", codes "FooBarEntry")
    ∷ (codes "fooBar", codes "FooBarEntry")
    ∷ (codes "_x1_y", codes "X1YEntry")
    ∷ (codes "a__b_", codes "ABEntry")
    ∷ []

abbrev pub range : ℕ → RangeEnd → ranges.ReservedRange
range start end = record { start = number false start; end = end }

-- ranges of a message end behind their last number
abbrev pub message_ranges : List (ranges.ReservedRange × ReservedRange)
message_ranges =
    (range 5 ends.None, record { start = Some (pos 5); end = Some (pos 6) })
    ∷ (
      range 5 (ends.Int (number false 7)),
      record { start = Some (pos 5); end = Some (pos 8) },
    )
    ∷ (range 5 (ends.Max (at 0 3)), record { start = Some (pos 5); end = Some (pos 536870912) })
    ∷ []

-- those of an enum at it
abbrev pub enum_ranges : List (ranges.ReservedRange × EnumReservedRange)
enum_ranges =
    (range 5 ends.None, record { start = Some (pos 5); end = Some (pos 5) })
    ∷ (
      record { start = number true 5; end = ends.Int (number true 2) },
      record { start = Some (negsuc 4); end = Some (negsuc 1) },
    )
    ∷ (range 5 (ends.Max (at 0 3)), record { start = Some (pos 5); end = Some (pos 2147483647) })
    ∷ []

abbrev pub of_type : FieldType → Kind
of_type t = normal (scalar t (at 0 1))

-- integers as defaults
abbrev pub int_defaults : List (Kind × Int × Text)
int_defaults =
    (of_type types.Int32, number true 5, codes "-5")
    ∷ (of_type types.Uint64, number false 16, codes "16")
    ∷ (of_type types.Sint64, number true 0, codes "-0")
    ∷ (of_type types.Double, number false 8, codes "8")
    ∷ []

-- the literals of a default of bytes: control characters, quotes and what is no text
abbrev pub odd_bytes : List Word
odd_bytes =
    record { text = 1 ∷ 97 ∷ 39 ∷ []; span = at 0 8 }
    ∷ (record { text = 92 ∷ 10 ∷ 255 ∷ []; span = at 9 20 } ∷ [])

-- and its text
abbrev pub odd_text : Text
odd_text = codes "\\001a\\'\\\\\\n\\377"

abbrev pub bare : OptionContent
bare = record {
  name = [];
  identifier_value = None;
  positive_int_value = None;
  negative_int_value = None;
  double_value = None;
  string_value = None;
  aggregate_value = None;
}

-- integers as options
abbrev pub int_options : List (Int × OptionContent)
int_options =
    (number false 5, record bare { positive_int_value = Some 5 })
    ∷ (number true 5, record bare { negative_int_value = Some (negsuc 4) })
    ∷ (number true 0, record bare { negative_int_value = Some (pos 0) })
    ∷ (
      number true (2 ^ 63),
      record bare { negative_int_value = Some (negsuc 9223372036854775807) },
    )
    ∷ []

-- places in lists
abbrev pub list_places : List (ℕ × ℤ)
list_places =
    (0, pos 0) ∷ ((2147483647, pos 2147483647) ∷ ((2147483648, pos 2147483647) ∷ []))

-- words of the scalar types, and what stands for them in records
abbrev pub scalar_numbers : List (Text × ℤ)
scalar_numbers =
    (codes "double", pos 1)
    ∷ (codes "float", pos 2)
    ∷ (codes "int64", pos 3)
    ∷ (codes "uint64", pos 4)
    ∷ (codes "int32", pos 5)
    ∷ (codes "fixed64", pos 6)
    ∷ (codes "fixed32", pos 7)
    ∷ (codes "bool", pos 8)
    ∷ (codes "string", pos 9)
    ∷ (codes "bytes", pos 12)
    ∷ (codes "uint32", pos 13)
    ∷ (codes "sfixed32", pos 15)
    ∷ (codes "sfixed64", pos 16)
    ∷ (codes "sint32", pos 17)
    ∷ (codes "sint64", pos 18)
    ∷ []

abbrev pub Typed : Type 0
Typed = Option (Label × Span) × Kind × ℤ × Option ℤ × Option Text

-- A field called Foo with this label, of this type, has these in its record.
abbrev pub IsTyped : Typed → Type 0
IsTyped e =
    (label_number (label_of e.0 e.1) ≡ e.2) × (type_of e.1 ≡ e.3)
    × (type_name_of (codes "Foo") e.1 ≡ e.4)

abbrev pub field_types : Group → MapType → List Typed
field_types g m =
    (None, of_type types.Sint32, pos 1, Some (pos 17), None)
    ∷ (
      Some (labels.Required, at 0 8),
      normal (named (record {
        leading_dot = Some (at 9 10);
        parts =
            record { text = codes "a"; span = at 10 11 }
            ∷ record { text = codes "B"; span = at 12 13 } ∷ [];
      })),
      pos 2,
      None,
      Some (codes ".a.B"),
    )
    ∷ (Some (labels.Repeated, at 0 8), group g, pos 3, Some (pos 10), Some (codes "Foo"))
    ∷ (None, map_kind m, pos 3, Some (pos 11), Some (codes "FooEntry"))
    ∷ []

-- labels of fields in no oneof: whether each gets one of its own
abbrev pub presences : List (Syntax × Option (Label × Span) × Bool)
presences =
    (syntaxes.Proto3, Some (labels.Optional, at 0 8), true)
    ∷ (syntaxes.Proto3, None, false)
    ∷ (syntaxes.Proto3, Some (labels.Repeated, at 0 8), false)
    ∷ (syntaxes.Proto2, Some (labels.Optional, at 0 8), false)
    ∷ []

abbrev pub import_as : Option (ImportKind × Span) → Strings → Import
import_as kind value = record { kind = kind; value = value; span = at 0 30 }

-- four imports: plain, public, weak, and public again
abbrev pub four_imports : Strings → Strings → Strings → Strings → List Import
four_imports a b c d =
    import_as None a
    ∷ import_as (Some (kinds.Public, at 7 13)) b
    ∷ import_as (Some (kinds.Weak, at 7 11)) c
    ∷ import_as (Some (kinds.Public, at 7 13)) d
    ∷ []

-- a method that takes a stream and gives one message
abbrev pub taking_stream : Ident → TypeName → TypeName → Method
taking_stream name input output = record {
  name = name;
  input = record { stream = Some (at 10 16); name = input };
  output = record { stream = None; name = output };
  body = None;
  span = at 0 40;
}

abbrev pub told_of_stream : Ident → TypeName → TypeName → MethodContent
told_of_stream name input output = record {
  name = Some (string_bytes name.value);
  input_type = Some (type_text (type_name_view input));
  output_type = Some (type_text (type_name_view output));
  options = None;
  client_streaming = Some true;
  server_streaming = None;
}
