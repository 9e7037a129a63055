-- The tree that the values of `src/` stand for.
use Rattle.std.specs.Prelude.{List, map, option_map, string_bytes}
use Rattle.protox_lex.specs.declared.literal.Float.{Float}
use Rattle.protox_lex.specs.declared.literal.String as literals
use Rattle.protox_tree.specs.Tree as tree
use Rattle.protox_tree.specs.declared.ident.Ident.{Ident}
use Rattle.protox_tree.specs.declared.ident.FullIdent.{FullIdent}
use Rattle.protox_tree.specs.declared.ident.TypeName.{TypeName}
use Rattle.protox_tree.specs.declared.types.Ty.{Ty}
use Rattle.protox_tree.specs.declared.types.Ty.TheVariants as tys
use Rattle.protox_tree.specs.declared.text.Strings.{Strings}
use Rattle.protox_tree.specs.declared.option.OptionNamePart.{OptionNamePart}
use Rattle.protox_tree.specs.declared.option.OptionNamePart.TheVariants as parts
use Rattle.protox_tree.specs.declared.option.OptionValue.{OptionValue}
use Rattle.protox_tree.specs.declared.option.OptionValue.TheVariants as values
use Rattle.protox_tree.specs.declared.option.OptionBody.{OptionBody}
use Rattle.protox_tree.specs.declared.option.OptionStatement.{OptionStatement}
use Rattle.protox_tree.specs.declared.option.OptionList.{OptionList}
use Rattle.protox_tree.specs.declared.range.ReservedItems.{ReservedItems}
use Rattle.protox_tree.specs.declared.range.ReservedItems.TheVariants as reserves
use Rattle.protox_tree.specs.declared.range.Reserved.{Reserved}
use Rattle.protox_tree.specs.declared.enumeration.EnumValue.{EnumValue}
use Rattle.protox_tree.specs.declared.enumeration.EnumItem.{EnumItem}
use Rattle.protox_tree.specs.declared.enumeration.EnumItem.TheVariants as enum_items
use Rattle.protox_tree.specs.declared.enumeration.Enum.{Enum}
use Rattle.protox_tree.specs.declared.service.MethodType.{MethodType}
use Rattle.protox_tree.specs.declared.service.MethodItem.{MethodItem}
use Rattle.protox_tree.specs.declared.service.MethodItem.TheVariants as method_items
use Rattle.protox_tree.specs.declared.service.MethodBody.{MethodBody}
use Rattle.protox_tree.specs.declared.service.Method.{Method}
use Rattle.protox_tree.specs.declared.service.ServiceItem.{ServiceItem}
use Rattle.protox_tree.specs.declared.service.ServiceItem.TheVariants as service_items
use Rattle.protox_tree.specs.declared.service.Service.{Service}

abbrev pub ident_view : Ident → tree.Word
ident_view i = record { text = string_bytes i.value; span = i.span }

abbrev pub literal_view : literals.String → tree.Word
literal_view l = record { text = l.value.items; span = l.span }

abbrev pub float_view : Float → tree.Word
float_view f = record { text = string_bytes f.text; span = f.span }

abbrev pub idents_view : List Ident → List tree.Word
idents_view is = map ident_view is

abbrev pub full_view : FullIdent → List tree.Word
full_view f = idents_view f.parts.items

abbrev pub type_name_view : TypeName → tree.TypeName
type_name_view t = record { leading_dot = t.leading_dot; parts = full_view t.name }

abbrev pub ty_view : Ty → tree.Ty
ty_view (tys.Scalar t span) = tree.scalar t span
ty_view (tys.Named t) = tree.named (type_name_view t)

abbrev pub literals_view : List literals.String → List tree.Word
literals_view ls = map literal_view ls

abbrev pub strings_view : Strings → List tree.Word
strings_view s = literals_view s.literals.items

-- ---- options

abbrev pub name_part_view : OptionNamePart → tree.NamePart
name_part_view (parts.Ident i) = tree.plain (ident_view i)
name_part_view (parts.Extension t span) = tree.extension (type_name_view t) span

abbrev pub name_view : List OptionNamePart → List tree.NamePart
name_view ps = map name_part_view ps

abbrev pub value_view : OptionValue → tree.Value
value_view (values.Ident i) = tree.word_value (ident_view i)
value_view (values.NegativeWord i) = tree.minus_word (ident_view i)
value_view (values.Int i) = tree.int_value i
value_view (values.Float negative f) = tree.float_value negative (float_view f)
value_view (values.String s) = tree.strings_value (strings_view s)
value_view (values.Aggregate a) = tree.braces_value (string_bytes a.text) a.span

abbrev pub body_view : OptionBody → tree.Body
body_view b = record { name = name_view b.name.items; value = value_view b.value }

abbrev pub bodies_view : List OptionBody → List tree.Body
bodies_view bs = map body_view bs

abbrev pub option_view : OptionStatement → tree.OptionStatement
option_view o = record { body = body_view o.body; span = o.span }

abbrev pub option_list_view : OptionList → tree.OptionList
option_list_view o = record { options = bodies_view o.options.items; span = o.span }

-- ---- ranges

abbrev pub names_view : List Strings → List (List tree.Word)
names_view ns = map strings_view ns

abbrev pub reserved_items_view : ReservedItems → tree.ReservedItems
reserved_items_view (reserves.Ranges rs) = tree.reserved_ranges rs.items
reserved_items_view (reserves.Names ns) = tree.reserved_names (names_view ns.items)

abbrev pub reserved_view : Reserved → tree.Reserved
reserved_view r = record { items = reserved_items_view r.items; span = r.span }

-- ---- enums

abbrev pub enum_value_view : EnumValue → tree.EnumValue
enum_value_view v = record {
  name = ident_view v.name;
  number = v.number;
  options =
      option_map option_list_view v.options;
  span = v.span;
}

abbrev pub enum_item_view : EnumItem → tree.EnumItem
enum_item_view (enum_items.Value v) = tree.enum_value (enum_value_view v)
enum_item_view (enum_items.Option o) = tree.enum_option (option_view o)
enum_item_view (enum_items.Reserved r) = tree.enum_reserved (reserved_view r)
enum_item_view (enum_items.Empty span) = tree.enum_empty span

abbrev pub enum_items_view : List EnumItem → List tree.EnumItem
enum_items_view is = map enum_item_view is

abbrev pub enum_view : Enum → tree.Enum
enum_view e = record {
  name = ident_view e.name;
  braces = e.braces;
  items =
      enum_items_view e.items.items;
  span = e.span;
}

-- ---- services

abbrev pub method_type_view : MethodType → tree.MethodType
method_type_view m = record { stream = m.stream; name = type_name_view m.name }

abbrev pub method_item_view : MethodItem → tree.MethodItem
method_item_view (method_items.Option o) = tree.method_option (option_view o)
method_item_view (method_items.Empty span) = tree.method_empty span

abbrev pub method_items_view : List MethodItem → List tree.MethodItem
method_items_view is = map method_item_view is

abbrev pub method_body_view : MethodBody → tree.MethodBody
method_body_view b = record { braces = b.braces; items = method_items_view b.items.items }

abbrev pub method_view : Method → tree.Method
method_view m = record {
  name = ident_view m.name;
  input = method_type_view m.input;
  output =
      method_type_view m.output;
  body = option_map method_body_view m.body;
  span = m.span;
}

abbrev pub service_item_view : ServiceItem → tree.ServiceItem
service_item_view (service_items.Method m) = tree.service_method (method_view m)
service_item_view (service_items.Option o) = tree.service_option (option_view o)
service_item_view (service_items.Empty span) = tree.service_empty span

abbrev pub service_items_view : List ServiceItem → List tree.ServiceItem
service_items_view is = map service_item_view is

abbrev pub service_view : Service → tree.Service
service_view s = record {
  name = ident_view s.name;
  braces = s.braces;
  items =
      service_items_view s.items.items;
  span = s.span;
}
