-- What stands in messages, seen as the tree.
use Rattle.std.proofs.Common.{◌≡◌, ◌++◌, List, [], ◌∷◌, refl, rules, ap}
use Rattle.std.specs.List.{flat_map}
use Rattle.protox_check.specs.Faults.{items_faults, item_faults, members_faults, member_faults, added_faults, added_item_faults}
use Rattle.protox_tree.specs.Nest.{extend, oneof, items_of, members_of, added_of}
use Rattle.protox_tree.specs.NestView.{extend_view, oneof_view, item_view, items_view, member_view, members_view, added_view, added_items_view}
use Rattle.protox_tree.specs.View.{ident_view, type_name_view}
use Rattle.protox_tree.specs.declared.message.Extend.{Extend}
use Rattle.protox_tree.specs.declared.message.Extend as extends
use Rattle.protox_tree.specs.declared.message.ExtendItem.{ExtendItem}
use Rattle.protox_tree.specs.declared.message.Field.{the_lemmas}
use Rattle.protox_tree.specs.declared.message.MessageItem.{MessageItem}
use Rattle.protox_tree.specs.declared.message.Oneof.{Oneof}
use Rattle.protox_tree.specs.declared.message.Oneof as oneofs
use Rattle.protox_tree.specs.declared.message.OneofItem.{OneofItem}
use Rattle.protox_tree.specs.declared.types.Syntax.{Syntax}

pub oneof_parts : (o : Oneof) → oneof_view o ≡ oneof (ident_view o.name) o.braces (members_of (members_view o.items.items)) o.span
oneof_parts o = search (rules, oneofs.the_lemmas)

pub extend_parts : (e : Extend) → extend_view e ≡ extend (type_name_view e.extendee) e.braces (added_of (added_items_view e.items.items)) e.span
extend_parts e = search (rules, extends.the_lemmas)

pub items_listed : (s : Syntax) (is : List MessageItem) → items_faults s (items_of (items_view is)) ≡ flat_map (λ i. item_faults s (item_view i)) is
items_listed s [] = refl
items_listed s (i ∷ is) = ap (λ ks. item_faults s (item_view i) ++ ks) (items_listed s is)

pub members_listed : (s : Syntax) (is : List OneofItem) → members_faults s (members_of (members_view is)) ≡ flat_map (λ i. member_faults s (member_view i)) is
members_listed s [] = refl
members_listed s (i ∷ is) = ap (λ ks. member_faults s (member_view i) ++ ks) (members_listed s is)

pub added_listed : (s : Syntax) (is : List ExtendItem) → added_faults s (added_of (added_items_view is)) ≡ flat_map (λ i. added_item_faults s (added_view i)) is
added_listed s [] = refl
added_listed s (i ∷ is) = ap (λ ks. added_item_faults s (added_view i) ++ ks) (added_listed s is)
