-- The records of enums.
--
-- Source: "Enumerations" and "Reserved Values" of the language guide on protobuf.dev.
use Rattle.std.specs.Prelude.{List, [], ◌∷◌, map, pos, Some, string_bytes}
use Rattle.std.specs.List.{flat_map}
use Rattle.descriptor_records.specs.Content.{EnumContent, EnumValueContent, OptionContent}
use Rattle.descriptor_records.specs.declared.enums.EnumReservedRange.{EnumReservedRange}
use Rattle.protox_lex.specs.Class.{Text}
use Rattle.protox_declaration_records.specs.Numbers.{i32_of, last_of}
use Rattle.protox_declaration_records.specs.OptionRecords.{option_of, options_of, list_options_of}
use Rattle.protox_declaration_records.specs.Texts.{text_of}
use Rattle.protox_tree.specs.declared.enumeration.Enum.{Enum}
use Rattle.protox_tree.specs.declared.enumeration.EnumItem.{EnumItem}
use Rattle.protox_tree.specs.declared.enumeration.EnumItem.TheVariants as items
use Rattle.protox_tree.specs.declared.enumeration.EnumValue.{EnumValue}
use Rattle.protox_tree.specs.declared.range.ReservedItems.{ReservedItems}
use Rattle.protox_tree.specs.declared.range.ReservedItems.TheVariants as reserves
use Rattle.protox_tree.specs.declared.range.ReservedRange.{ReservedRange}

abbrev pub value_of : EnumValue → EnumValueContent
value_of v = record {
  name = Some (string_bytes v.name.value);
  number = i32_of v.number;
  options = list_options_of v.options;
}

-- Numbers that no value takes, from the first to the last. `max` stands for the greatest of an
-- `int32`.
abbrev pub enum_range_of : ReservedRange → EnumReservedRange
enum_range_of range = record { start = i32_of range.start; end = last_of range (pos 2147483647) }

-- what a statement reserves

abbrev pub ranges_in : ReservedItems → List ReservedRange
ranges_in (reserves.Ranges ranges) = ranges.items
ranges_in (reserves.Names names) = []

abbrev pub names_in : ReservedItems → List Text
names_in (reserves.Ranges ranges) = []
names_in (reserves.Names names) = map text_of names.items

-- what stands between the braces, one by one

abbrev pub value_at : EnumItem → List EnumValueContent
value_at (items.Value v) = value_of v ∷ []
value_at _ = []

abbrev pub option_at : EnumItem → List OptionContent
option_at (items.Option o) = option_of o.body ∷ []
option_at _ = []

abbrev pub ranges_at : EnumItem → List EnumReservedRange
ranges_at (items.Reserved r) = map enum_range_of (ranges_in r.items)
ranges_at _ = []

abbrev pub names_at : EnumItem → List Text
names_at (items.Reserved r) = names_in r.items
names_at _ = []

-- Of each kind all that stands there, in order.
abbrev pub enum_of : Enum → EnumContent
enum_of e = record {
  name = Some (string_bytes e.name.value);
  value = flat_map value_at e.items.items;
  options = options_of (flat_map option_at e.items.items);
  reserved_range = flat_map ranges_at e.items.items;
  reserved_name = flat_map names_at e.items.items;
}
