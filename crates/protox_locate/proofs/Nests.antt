-- What stands in messages, seen as the tree.
use Rattle.std.proofs.Common.{◌≡◌, ◌∙◌, List, [], ◌∷◌, ◌++◌, Option, map, ap, subst, sym, refl, rules}
use Rattle.std.specs.Option.{option_map}
use Rattle.protox_lex.specs.declared.span.Span.{Span}
use Rattle.protox_locate.specs.Declarations.{entry, more}
use Rattle.protox_locate.specs.Located.{Event, Path, part, statement}
use Rattle.protox_locate.specs.Messages.{after_field, field_events, field_parts_events, group_events}
use Rattle.protox_locate.specs.declared.slot.FieldCounts.{FieldCounts}
use Rattle.protox_locate.specs.declared.slot.FieldTags.{FieldTags}
use Rattle.protox_tree.specs.Nest as tree
use Rattle.protox_tree.specs.Nest.{a_group, added_of, extend, field, group, items_of, map_kind, members_of, message, normal, oneof}
use Rattle.protox_tree.specs.NestView.{added_view, extend_view, field_view, group_view, item_view, kind_view, map_view, member_view, message_view, oneof_view}
use Rattle.protox_tree.specs.View.{ident_view, option_list_view, ty_view, type_name_view}
use Rattle.protox_tree.specs.declared.message.Extend.{Extend}
use Rattle.protox_tree.specs.declared.message.Extend as extends
use Rattle.protox_tree.specs.declared.message.Field.{Field}
use Rattle.protox_tree.specs.declared.message.Field as fields
use Rattle.protox_tree.specs.declared.message.FieldKind.{FieldKind}
use Rattle.protox_tree.specs.declared.message.FieldKind as kinds
use Rattle.protox_tree.specs.declared.message.Group.{Group}
use Rattle.protox_tree.specs.declared.message.Group as groups
use Rattle.protox_tree.specs.declared.message.Map.{Map}
use Rattle.protox_tree.specs.declared.message.Message.{Message}
use Rattle.protox_tree.specs.declared.message.Message as messages
use Rattle.protox_tree.specs.declared.message.Oneof.{Oneof}
use Rattle.protox_tree.specs.declared.message.Oneof as oneofs
use Rattle.protox_tree.specs.declared.types.Ty.{Ty}

pub message_is : (m : Message) → message_view m ≡ message (ident_view m.name) m.braces (items_of (map item_view m.items.items)) m.span
message_is m = search (rules, messages.the_lemmas)

pub group_is : (g : Group) → group_view g ≡ a_group g.word g.braces (items_of (map item_view g.items.items))
group_is g = search (rules, groups.the_lemmas)

pub oneof_is : (o : Oneof) → oneof_view o ≡ oneof (ident_view o.name) o.braces (members_of (map member_view o.items.items)) o.span
oneof_is o = search (rules, oneofs.the_lemmas)

pub extend_is : (e : Extend) → extend_view e ≡ extend (type_name_view e.extendee) e.braces (added_of (map added_view e.items.items)) e.span
extend_is e = search (rules, extends.the_lemmas)

-- a field of this kind
abbrev of_kind : Field → tree.Kind → tree.Field
of_kind f k = field f.label k (ident_view f.name) f.number (option_map option_list_view f.options) f.span

pub field_is : (f : Field) → field_view f ≡ of_kind f (kind_view f.kind)
field_is f = search (rules, fields.the_lemmas)

pub normal_is : (k : FieldKind) (t : Ty) → k ≡ kinds.Normal t → kind_view k ≡ normal (ty_view t)
normal_is k t is = ap kind_view is ∙ one t where
  one : (t : Ty) → kind_view (kinds.Normal t) ≡ normal (ty_view t)
  one t = search (rules, kinds.the_lemmas)

pub of_normal : (f : Field) (t : Ty) → f.kind ≡ kinds.Normal t → field_view f ≡ of_kind f (normal (ty_view t))
of_normal f t is = field_is f ∙ ap (of_kind f) (normal_is f.kind t is)

group_kind : (g : Group) → kind_view (kinds.Group g) ≡ group (group_view g)
group_kind g = search (rules, kinds.the_lemmas)

pub of_group : (f : Field) (g : Group) → f.kind ≡ kinds.Group g → field_view f ≡ of_kind f (group (group_view g))
of_group f g is = field_is f ∙ ap (λ k. of_kind f (kind_view k)) is ∙ ap (of_kind f) (group_kind g)

map_is : (m : Map) → kind_view (kinds.Map m) ≡ map_kind (map_view m)
map_is m = search (rules, kinds.the_lemmas)

pub of_map : (f : Field) (m : Map) → f.kind ≡ kinds.Map m → field_view f ≡ of_kind f (map_kind (map_view m))
of_map f m is = field_is f ∙ ap (λ k. of_kind f (kind_view k)) is ∙ ap (of_kind f) (map_is m)

-- what is met in a field of each kind, and what is counted
module _ (path : Path) (tags : FieldTags) (c : FieldCounts) (extendee : Option Span) (f : Field) where
  abbrev at : Path
  at = entry path tags.field c.fields

  abbrev begun : tree.Field → List Event
  begun v = statement at [] f.span f.span.end ∷ field_parts_events at extendee v

  abbrev begun_group : tree.Field → List Event
  begun_group v = part at [] f.span ∷ field_parts_events at extendee v

  pub normal_met : (t : Ty) → f.kind ≡ kinds.Normal t → field_events path tags c extendee (field_view f) ≡ begun (field_view f)
  normal_met t is = subst (λ v. field_events path tags c extendee v ≡ begun v) (sym (of_normal f t is)) refl

  pub map_met : (m : Map) → f.kind ≡ kinds.Map m → field_events path tags c extendee (field_view f) ≡ begun (field_view f)
  map_met m is = subst (λ v. field_events path tags c extendee v ≡ begun v) (sym (of_map f m is)) refl

  pub group_met : (g : Group) → f.kind ≡ kinds.Group g
      → field_events path tags c extendee (field_view f) ≡ begun_group (field_view f) ++ group_events (entry path tags.nested_type c.types) f.span f.name.span (group_view g)
  group_met g is =
      subst (λ v. field_events path tags c extendee v ≡ begun_group v ++ group_events (entry path tags.nested_type c.types) f.span f.name.span (group_view g)) (sym (of_group f g is)) refl

  pub normal_counted : (t : Ty) → f.kind ≡ kinds.Normal t → after_field c (field_view f) ≡ record { fields = more c.fields; types = c.types }
  normal_counted t is = ap (after_field c) (of_normal f t is)

  pub map_counted : (m : Map) → f.kind ≡ kinds.Map m → after_field c (field_view f) ≡ record { fields = more c.fields; types = more c.types }
  map_counted m is = ap (after_field c) (of_map f m is)

  pub group_counted : (g : Group) → f.kind ≡ kinds.Group g → after_field c (field_view f) ≡ record { fields = more c.fields; types = more c.types }
  group_counted g is = ap (after_field c) (of_group f g is)
