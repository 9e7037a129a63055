-- What stands in messages, seen as the tree.
use Rattle.protox_lex.specs.declared.span.Span.{Span}
use Rattle.protox_tree.specs.Nest.{message, items_of, item_field, item_oneof, item_message, item_enum, item_extend, item_empty, oneof, members_of, member_field, member_option, member_empty, extend, added_of, added_field, added_empty}
use Rattle.protox_tree.specs.NestView.{message_view, item_view, items_view, field_view, oneof_view, member_view, members_view, extend_view, added_view, added_items_view}
use Rattle.protox_tree.specs.View.{ident_view, type_name_view, option_view, enum_view}
use Rattle.protox_tree.specs.declared.enumeration.Enum.{Enum}
use Rattle.protox_tree.specs.declared.message.Extend.{Extend, the_lemmas}
use Rattle.protox_tree.specs.declared.message.ExtendItem.TheVariants as added
use Rattle.protox_tree.specs.declared.message.Field.{Field}
use Rattle.protox_tree.specs.declared.message.Message.{Message}
use Rattle.protox_tree.specs.declared.message.MessageItem.TheVariants as items
use Rattle.protox_tree.specs.declared.message.Oneof.{Oneof}
use Rattle.protox_tree.specs.declared.message.OneofItem.TheVariants as members
use Rattle.protox_tree.specs.declared.option.OptionStatement.{OptionStatement}
use Rattle.std.proofs.Common.{◌≡◌, rules}

pub message_parts : (m : Message) → message_view m ≡ message (ident_view m.name) m.braces (items_of (items_view m.items.items)) m.span
message_parts m = search (rules, the_lemmas)

pub oneof_parts : (o : Oneof) → oneof_view o ≡ oneof (ident_view o.name) o.braces (members_of (members_view o.items.items)) o.span
oneof_parts o = search (rules, the_lemmas)

pub extend_parts : (e : Extend) → extend_view e ≡ extend (type_name_view e.extendee) e.braces (added_of (added_items_view e.items.items)) e.span
extend_parts e = search (rules, the_lemmas)

pub item_message_is : (x : Message) → item_view (items.Message x) ≡ item_message (message_view x)
item_message_is x = search (rules, the_lemmas)

pub item_enum_is : (x : Enum) → item_view (items.Enum x) ≡ item_enum (enum_view x)
item_enum_is x = search (rules, the_lemmas)

pub item_extend_is : (x : Extend) → item_view (items.Extend x) ≡ item_extend (extend_view x)
item_extend_is x = search (rules, the_lemmas)

pub item_oneof_is : (x : Oneof) → item_view (items.Oneof x) ≡ item_oneof (oneof_view x)
item_oneof_is x = search (rules, the_lemmas)

pub item_field_is : (x : Field) → item_view (items.Field x) ≡ item_field (field_view x)
item_field_is x = search (rules, the_lemmas)

pub item_empty_is : (x : Span) → item_view (items.Empty x) ≡ item_empty x
item_empty_is x = search (rules, the_lemmas)

pub member_field_is : (x : Field) → member_view (members.Field x) ≡ member_field (field_view x)
member_field_is x = search (rules, the_lemmas)

pub member_option_is : (x : OptionStatement) → member_view (members.Option x) ≡ member_option (option_view x)
member_option_is x = search (rules, the_lemmas)

pub member_empty_is : (x : Span) → member_view (members.Empty x) ≡ member_empty x
member_empty_is x = search (rules, the_lemmas)

pub added_field_is : (x : Field) → added_view (added.Field x) ≡ added_field (field_view x)
added_field_is x = search (rules, the_lemmas)

pub added_empty_is : (x : Span) → added_view (added.Empty x) ≡ added_empty x
added_empty_is x = search (rules, the_lemmas)
