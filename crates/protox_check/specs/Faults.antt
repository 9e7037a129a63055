-- The faults of a file, in the order in which they stand in the source.
--
-- Source: the "Language Specification" of proto2 and of proto3 and the language guides on
-- protobuf.dev. What needs other files, as whether a type exists, is no fault of a tree.
use Rattle.std.specs.Prelude.{◌++◌, ◌||◌, Bool, true, false, not, List, [], ◌∷◌, Option, None, Some}
use Rattle.protox_check.specs.FieldOptions.{options_faults}
use Rattle.protox_check.specs.Fields.{head_faults}
use Rattle.protox_check.specs.Ranges.{enum_faults, extensions_faults, reserved_faults}
use Rattle.protox_check.specs.Texts.{text_faults}
use Rattle.protox_check.specs.Words.{told_if, first_in, each_behind}
use Rattle.protox_check.specs.declared.field.Holder.{Holder}
use Rattle.protox_check.specs.declared.field.Holder.TheVariants as holders
use Rattle.protox_check.specs.declared.range.Numbers.TheVariants as numbers
use Rattle.protox_lex.specs.declared.span.Span.{Span}
use Rattle.protox_tree.specs.FileTree.{File, FileItem, file_import, file_package, file_option, file_message, file_enum, file_service, file_extend, file_empty, syntax_of}
use Rattle.protox_tree.specs.Nest.{Message, message, Items, no_items, more_items, Item, item_field, item_oneof, item_message, item_enum, item_extend, item_extensions, item_reserved, item_option, item_empty, Field, field, Kind, normal, group, map_kind, Group, a_group, Oneof, oneof, Members, no_members, more_members, Member, member_field, member_option, member_empty, Extend, extend, Added, none_added, more_added, AddedItem, added_field, added_empty}
use Rattle.protox_tree.specs.declared.error.ParseErrorKind.{ParseErrorKind}
use Rattle.protox_tree.specs.declared.error.ParseErrorKind.TheVariants as kinds
use Rattle.protox_tree.specs.declared.types.Syntax.{Syntax}

abbrev pub is_field : Member → Bool
is_field (member_field f) = true
is_field (member_option o) = false
is_field (member_empty span) = false

abbrev pub has_field : Members → Bool
has_field no_members = false
has_field (more_members m ms) = is_field m || has_field ms

abbrev mutual
  pub message_faults : Syntax → Message → List ParseErrorKind
  message_faults s (message name braces items span) = items_faults s items

  pub items_faults : Syntax → Items → List ParseErrorKind
  items_faults s no_items = []
  items_faults s (more_items i is) = item_faults s i ++ items_faults s is

  pub item_faults : Syntax → Item → List ParseErrorKind
  item_faults s (item_field f) = field_faults s holders.Message f
  item_faults s (item_oneof o) = oneof_faults s o
  item_faults s (item_message m) = message_faults s m
  item_faults s (item_enum e) = enum_faults e
  item_faults s (item_extend e) = extend_faults s e
  item_faults s (item_extensions e) = extensions_faults s e
  item_faults s (item_reserved r) = reserved_faults numbers.Fields r.items
  item_faults s (item_option o) = []
  item_faults s (item_empty span) = []

  -- What stands before the options, these, and what is in a group.
  pub field_faults : Syntax → Holder → Field → List ParseErrorKind
  field_faults s h (field label kind name number options span) =
      head_faults s h (record {
        label = label;
        kind = kind;
        name = name;
        number = number;
        span = span;
      })
      ++ (options_faults s label kind options ++ kind_faults s kind)

  pub kind_faults : Syntax → Kind → List ParseErrorKind
  kind_faults s (normal ty) = []
  kind_faults s (group g) = group_faults s g
  kind_faults s (map_kind m) = []

  pub group_faults : Syntax → Group → List ParseErrorKind
  group_faults s (a_group word braces items) = items_faults s items

  -- A oneof has a field.
  pub oneof_faults : Syntax → Oneof → List ParseErrorKind
  oneof_faults s (oneof name braces members span) =
      told_if (not (has_field members)) (kinds.EmptyOneof span) ++ members_faults s members

  pub members_faults : Syntax → Members → List ParseErrorKind
  members_faults s no_members = []
  members_faults s (more_members i is) = member_faults s i ++ members_faults s is

  pub member_faults : Syntax → Member → List ParseErrorKind
  member_faults s (member_field f) = field_faults s holders.Oneof f
  member_faults s (member_option o) = []
  member_faults s (member_empty span) = []

  pub extend_faults : Syntax → Extend → List ParseErrorKind
  extend_faults s (extend extendee braces items span) = added_faults s items

  pub added_faults : Syntax → Added → List ParseErrorKind
  added_faults s none_added = []
  added_faults s (more_added i is) = added_item_faults s i ++ added_faults s is

  pub added_item_faults : Syntax → AddedItem → List ParseErrorKind
  added_item_faults s (added_field f) = field_faults s holders.Extend f
  added_item_faults s (added_empty span) = []

-- ---- files

-- where an item names the package
abbrev pub package_at : FileItem → List Span
package_at (file_package p) = p.span ∷ []
package_at _ = []

-- a second package is told with the first
abbrev pub second_package : Option Span → Span → List ParseErrorKind
second_package None second = []
second_package (Some first) second = kinds.DuplicatePackage first second ∷ []

-- An item, where the first package before it stands so. The name of an import is text.
abbrev pub file_item_faults : Syntax → Option Span → FileItem → List ParseErrorKind
file_item_faults s first (file_import i) = text_faults i.value
file_item_faults s first (file_package p) = second_package first p.span
file_item_faults s first (file_option o) = []
file_item_faults s first (file_message m) = message_faults s m
file_item_faults s first (file_enum e) = enum_faults e
file_item_faults s first (file_service v) = []
file_item_faults s first (file_extend e) = extend_faults s e
file_item_faults s first (file_empty span) = []

-- an item behind these
abbrev pub item_faults_behind : Syntax → List FileItem → FileItem → List ParseErrorKind
item_faults_behind s before i = file_item_faults s (first_in package_at before) i

abbrev pub faults_of : File → List ParseErrorKind
faults_of f = each_behind (item_faults_behind (syntax_of f.syntax)) [] f.items
