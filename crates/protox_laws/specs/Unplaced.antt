-- Trees without their places: what the tokens of a source say, wherever they stand.
use Rattle.descriptor_records.specs.declared.field.Label.{Label}
use Rattle.protox_lex.specs.declared.literal.Int.{Int}
use Rattle.protox_lex.specs.declared.span.Span.{Span}
use Rattle.protox_tree.specs.FileTree as files
use Rattle.protox_tree.specs.FileTree.{File, FileItem, file_import, file_package, file_option, file_message, file_enum, file_service, file_extend, file_empty}
use Rattle.protox_tree.specs.Nest as nest
use Rattle.protox_tree.specs.Nest.{message, no_items, more_items, item_field, item_oneof, item_message, item_enum, item_extend, item_extensions, item_reserved, item_option, item_empty, field, normal, group, map_kind, a_group, oneof, no_members, more_members, member_field, member_option, member_empty, extend, none_added, more_added, added_field, added_empty}
use Rattle.protox_tree.specs.Tree as tree
use Rattle.protox_tree.specs.Tree.{Word, plain, extension, scalar, named, word_value, minus_word, int_value, float_value, strings_value, braces_value, reserved_ranges, reserved_names, enum_value, enum_option, enum_reserved, enum_empty, method_option, method_empty, service_method, service_option, service_empty}
use Rattle.protox_tree.specs.declared.range.RangeEnd.{RangeEnd}
use Rattle.protox_tree.specs.declared.range.RangeEnd.TheVariants as ends
use Rattle.protox_tree.specs.declared.range.ReservedRange.{ReservedRange}
use Rattle.std.specs.Prelude.{List, Option, map, option_map}

-- the one place that all get
abbrev pub nowhere : Span
nowhere = record { start = 0; end = 0 }

abbrev pub unmarked : {A : Type 0} → A × Span → A × Span
unmarked x = (x.0, nowhere)

-- ---- names, numbers and types

abbrev pub a_word : Word → Word
a_word w = record { text = w.text; span = nowhere }

abbrev pub words : List Word → List Word
words ws = map a_word ws

abbrev pub an_int : Int → Int
an_int n = record { negative = n.negative; value = n.value; span = nowhere }

abbrev pub dot : Option Span → Option Span
dot at = option_map (λ x. nowhere) at

abbrev pub a_name : tree.TypeName → tree.TypeName
a_name t = record { leading_dot = dot t.leading_dot; parts = words t.parts }

abbrev pub a_type : tree.Ty → tree.Ty
a_type (scalar t at) = scalar t nowhere
a_type (named t) = named (a_name t)

-- ---- options

abbrev pub a_part : tree.NamePart → tree.NamePart
a_part (plain w) = plain (a_word w)
a_part (extension t at) = extension (a_name t) nowhere

abbrev pub a_value : tree.Value → tree.Value
a_value (word_value w) = word_value (a_word w)
a_value (minus_word w) = minus_word (a_word w)
a_value (int_value n) = int_value (an_int n)
a_value (float_value minus w) = float_value minus (a_word w)
a_value (strings_value ws) = strings_value (words ws)
a_value (braces_value x at) = braces_value x nowhere

abbrev pub a_body : tree.Body → tree.Body
a_body b = record { name = map a_part b.name; value = a_value b.value }

abbrev pub an_option : tree.OptionStatement → tree.OptionStatement
an_option o = record { body = a_body o.body; span = nowhere }

abbrev pub a_list : tree.OptionList → tree.OptionList
a_list o = record { options = map a_body o.options; span = nowhere }

abbrev pub a_list_if : Option tree.OptionList → Option tree.OptionList
a_list_if o = option_map a_list o

-- ---- ranges

abbrev pub an_end : RangeEnd → RangeEnd
an_end ends.None = ends.None
an_end (ends.Int n) = ends.Int (an_int n)
an_end (ends.Max at) = ends.Max nowhere

abbrev pub a_range : ReservedRange → ReservedRange
a_range r = record { start = an_int r.start; end = an_end r.end }

abbrev pub items_reserved : tree.ReservedItems → tree.ReservedItems
items_reserved (reserved_ranges rs) = reserved_ranges (map a_range rs)
items_reserved (reserved_names ns) = reserved_names (map words ns)

abbrev pub a_reserved : tree.Reserved → tree.Reserved
a_reserved r = record { items = items_reserved r.items; span = nowhere }

-- ---- enums

abbrev pub an_enum_value : tree.EnumValue → tree.EnumValue
an_enum_value v = record {
  name = a_word v.name;
  number = an_int v.number;
  options = a_list_if v.options;
  span = nowhere;
}

abbrev pub an_enum_item : tree.EnumItem → tree.EnumItem
an_enum_item (enum_value v) = enum_value (an_enum_value v)
an_enum_item (enum_option o) = enum_option (an_option o)
an_enum_item (enum_reserved r) = enum_reserved (a_reserved r)
an_enum_item (enum_empty at) = enum_empty nowhere

abbrev pub an_enum : tree.Enum → tree.Enum
an_enum e = record {
  name = a_word e.name;
  braces = nowhere;
  items = map an_enum_item e.items;
  span = nowhere;
}

-- ---- services

abbrev pub a_method_type : tree.MethodType → tree.MethodType
a_method_type t = record { stream = dot t.stream; name = a_name t.name }

abbrev pub a_method_item : tree.MethodItem → tree.MethodItem
a_method_item (method_option o) = method_option (an_option o)
a_method_item (method_empty at) = method_empty nowhere

abbrev pub a_method_body : tree.MethodBody → tree.MethodBody
a_method_body b = record { braces = nowhere; items = map a_method_item b.items }

abbrev pub a_method : tree.Method → tree.Method
a_method m = record {
  name = a_word m.name;
  input = a_method_type m.input;
  output = a_method_type m.output;
  body = option_map a_method_body m.body;
  span = nowhere;
}

abbrev pub a_service_item : tree.ServiceItem → tree.ServiceItem
a_service_item (service_method m) = service_method (a_method m)
a_service_item (service_option o) = service_option (an_option o)
a_service_item (service_empty at) = service_empty nowhere

abbrev pub a_service : tree.Service → tree.Service
a_service s = record {
  name = a_word s.name;
  braces = nowhere;
  items = map a_service_item s.items;
  span = nowhere;
}

-- ---- messages, and what nests in them

abbrev pub a_map : nest.MapType → nest.MapType
a_map m = record { key = a_type m.key; value = a_type m.value; span = nowhere }

abbrev pub an_extensions : nest.Extensions → nest.Extensions
an_extensions x = record {
  ranges = map a_range x.ranges;
  options = a_list_if x.options;
  span = nowhere;
}

abbrev pub a_label : Option (Label × Span) → Option (Label × Span)
a_label l = option_map unmarked l

abbrev mutual
  pub a_message : nest.Message → nest.Message
  a_message (message name braces items at) = message (a_word name) nowhere (items_in items) nowhere

  pub items_in : nest.Items → nest.Items
  items_in no_items = no_items
  items_in (more_items i is) = more_items (an_item i) (items_in is)

  pub an_item : nest.Item → nest.Item
  an_item (item_field f) = item_field (a_field f)
  an_item (item_oneof o) = item_oneof (a_oneof o)
  an_item (item_message m) = item_message (a_message m)
  an_item (item_enum e) = item_enum (an_enum e)
  an_item (item_extend e) = item_extend (an_extend e)
  an_item (item_extensions x) = item_extensions (an_extensions x)
  an_item (item_reserved r) = item_reserved (a_reserved r)
  an_item (item_option o) = item_option (an_option o)
  an_item (item_empty at) = item_empty nowhere

  pub a_field : nest.Field → nest.Field
  a_field (field l k name n os at) =
      field (a_label l) (a_kind k) (a_word name) (an_int n) (a_list_if os) nowhere

  pub a_kind : nest.Kind → nest.Kind
  a_kind (normal t) = normal (a_type t)
  a_kind (group g) = group (group_in g)
  a_kind (map_kind m) = map_kind (a_map m)

  pub group_in : nest.Group → nest.Group
  group_in (a_group at braces items) = a_group nowhere nowhere (items_in items)

  pub a_oneof : nest.Oneof → nest.Oneof
  a_oneof (oneof name braces members at) =
      oneof (a_word name) nowhere (members_in members) nowhere

  pub members_in : nest.Members → nest.Members
  members_in no_members = no_members
  members_in (more_members m ms) = more_members (a_member m) (members_in ms)

  pub a_member : nest.Member → nest.Member
  a_member (member_field f) = member_field (a_field f)
  a_member (member_option o) = member_option (an_option o)
  a_member (member_empty at) = member_empty nowhere

  pub an_extend : nest.Extend → nest.Extend
  an_extend (extend extendee braces added at) =
      extend (a_name extendee) nowhere (added_in added) nowhere

  pub added_in : nest.Added → nest.Added
  added_in none_added = none_added
  added_in (more_added i is) = more_added (an_added i) (added_in is)

  pub an_added : nest.AddedItem → nest.AddedItem
  an_added (added_field f) = added_field (a_field f)
  an_added (added_empty at) = added_empty nowhere

-- ---- files

abbrev pub a_syntax : files.SyntaxStatement → files.SyntaxStatement
a_syntax s = record { syntax = s.syntax; value = words s.value; span = nowhere }

abbrev pub an_import : files.Import → files.Import
an_import i = record { kind = option_map unmarked i.kind; value = words i.value; span = nowhere }

abbrev pub a_package : files.Package → files.Package
a_package p = record { name = words p.name; span = nowhere }

abbrev pub a_file_item : FileItem → FileItem
a_file_item (file_import i) = file_import (an_import i)
a_file_item (file_package p) = file_package (a_package p)
a_file_item (file_option o) = file_option (an_option o)
a_file_item (file_message m) = file_message (a_message m)
a_file_item (file_enum e) = file_enum (an_enum e)
a_file_item (file_service s) = file_service (a_service s)
a_file_item (file_extend e) = file_extend (an_extend e)
a_file_item (file_empty at) = file_empty nowhere

abbrev pub unplaced : File → File
unplaced f = record {
  syntax = option_map a_syntax f.syntax;
  items = map a_file_item f.items;
  span = nowhere;
}
