-- What holds of a field in whose tree no fault is told, one level at a time.
use Rattle.std.proofs.Common.{◌≡◌, ◌++◌, not, List, [], ◌∷◌, map, refl, subst}
use Rattle.std.specs.Option.{option_map}
use Rattle.protox_check.specs.FieldOptions.{options_faults}
use Rattle.protox_check.specs.Faults.{added_faults, added_item_faults, extend_faults, field_faults, group_faults, item_faults, items_faults, kind_faults, member_faults, members_faults, message_faults, oneof_faults, has_field}
use Rattle.protox_check.specs.Fields.{head_faults, head_view, holder_faults, label_faults, presence_faults}
use Rattle.protox_check.specs.Fields as fields
use Rattle.protox_check.specs.Words.{told_if}
use Rattle.protox_check.specs.declared.field.Holder.{Holder}
use Rattle.protox_laws.proofs.Layers.{added_is, added_seen, item_is, item_seen, kind_is, kind_seen, member_is, member_seen}
use Rattle.protox_locate.proofs.Nests.{extend_is, field_is, group_is, message_is, oneof_is}
use Rattle.protox_tokens.specs.Marks.{Each}
use Rattle.protox_tree.specs.Nest.{added_of, items_of, members_of}
use Rattle.protox_tree.specs.NestView.{added_view, extend_view, field_view, group_view, item_view, kind_view, member_view, message_view, oneof_view}
use Rattle.protox_tree.specs.View.{option_list_view}
use Rattle.protox_tree.specs.declared.error.ParseErrorKind.TheVariants as kinds
use Rattle.protox_tree.specs.declared.message.Extend.{Extend}
use Rattle.protox_tree.specs.declared.message.ExtendItem.{ExtendItem}
use Rattle.protox_tree.specs.declared.message.ExtendItem.TheViews.{out-ExtendItem, out-FieldKind, out-MessageItem, out-OneofItem}
use Rattle.protox_tree.specs.declared.message.Field.{Field}
use Rattle.protox_tree.specs.declared.message.Group.{Group}
use Rattle.protox_tree.specs.declared.message.Message.{Message}
use Rattle.protox_tree.specs.declared.message.MessageItem.{MessageItem}
use Rattle.protox_tree.specs.declared.message.Oneof.{Oneof}
use Rattle.protox_tree.specs.declared.message.OneofItem.{OneofItem}
use Rattle.protox_tree.specs.declared.types.Syntax.{Syntax}

-- where nothing is told of two, nothing is of either
pub none_both : {A : Type 0} (xs ys : List A) → xs ++ ys ≡ [] → (xs ≡ []) × (ys ≡ [])
none_both [] ys e = (refl, e)
none_both (x ∷ xs) ys e = absurd (cc e)

module _ (s : Syntax) where
  -- ---- chains are lists

  abbrev pub IsFaultlessItem : MessageItem → Type 0
  IsFaultlessItem i = item_faults s (item_seen (out-MessageItem i)) ≡ []

  abbrev pub IsFaultlessMember : OneofItem → Type 0
  IsFaultlessMember i = member_faults s (member_seen (out-OneofItem i)) ≡ []

  abbrev pub IsFaultlessAdded : ExtendItem → Type 0
  IsFaultlessAdded i = added_item_faults s (added_seen (out-ExtendItem i)) ≡ []

  each_item : (is : List MessageItem) → items_faults s (items_of (map item_view is)) ≡ []
      → Each IsFaultlessItem is
  each_item [] e = tt
  each_item (i ∷ is) e =
      let both = none_both (item_faults s (item_view i)) (items_faults s (items_of (map item_view is)))
      e in
      (subst (λ x. item_faults s x ≡ []) (item_is i) both.0, each_item is both.1)

  each_member : (is : List OneofItem) → members_faults s (members_of (map member_view is)) ≡ []
      → Each IsFaultlessMember is
  each_member [] e = tt
  each_member (i ∷ is) e =
      let both = none_both (member_faults s (member_view i))
      (members_faults s (members_of (map member_view is))) e in
      (subst (λ x. member_faults s x ≡ []) (member_is i) both.0, each_member is both.1)

  each_added : (is : List ExtendItem) → added_faults s (added_of (map added_view is)) ≡ []
      → Each IsFaultlessAdded is
  each_added [] e = tt
  each_added (i ∷ is) e =
      let both = none_both (added_item_faults s (added_view i))
      (added_faults s (added_of (map added_view is))) e in
      (subst (λ x. added_item_faults s x ≡ []) (added_is i) both.0, each_added is both.1)

  -- ---- one level

  pub group_faultless : (g : Group) → group_faults s (group_view g) ≡ []
      → Each IsFaultlessItem g.items.items
  group_faultless g e =
      each_item g.items.items (subst (λ x. group_faults s x ≡ []) (group_is g) e)

  pub message_faultless : (m : Message) → message_faults s (message_view m) ≡ []
      → Each IsFaultlessItem m.items.items
  message_faultless m e =
      each_item m.items.items (subst (λ x. message_faults s x ≡ []) (message_is m) e)

  pub extend_faultless : (x : Extend) → extend_faults s (extend_view x) ≡ []
      → Each IsFaultlessAdded x.items.items
  extend_faultless x e =
      each_added x.items.items (subst (λ x. extend_faults s x ≡ []) (extend_is x) e)

  pub oneof_faultless : (o : Oneof) → oneof_faults s (oneof_view o) ≡ []
      → Each IsFaultlessMember o.items.items
  oneof_faultless o e =
      let members = members_of (map member_view o.items.items) in
      let whole : told_if (not (has_field members)) (kinds.EmptyOneof o.span)
      ++ members_faults s members ≡ [] =
      subst (λ x. oneof_faults s x ≡ []) (oneof_is o) e in
      each_member o.items.items
      (none_both (told_if (not (has_field members)) (kinds.EmptyOneof o.span))
      (members_faults s members) whole).1

  -- of a field neither its label, nor where it stands, nor its kind is told
  pub record IsFaultlessField (h : Holder) (f : Field) : Type 0 where
    pub label : label_faults h (kind_view f.kind) f.label ≡ []
    pub holder : holder_faults h (kind_view f.kind) f.span ≡ []
    pub kind : kind_faults s (kind_seen (out-FieldKind f.kind)) ≡ []

  pub field_faultless : (h : Holder) (f : Field) → field_faults s h (field_view f) ≡ []
      → IsFaultlessField h f
  field_faultless h f e =
      let k = kind_view f.kind in
      let options = options_faults s f.label k (option_map option_list_view f.options) in
      let all : head_faults s h (head_view f) ++ (options ++ kind_faults s k) ≡ [] =
      subst (λ x. field_faults s h x ≡ []) (field_is f) e in
      let whole = none_both (head_faults s h (head_view f)) (options ++ kind_faults s k) all in
      let presence = none_both (presence_faults s h k f.span f.label) _ whole.0 in
      let group = none_both (fields.group_faults s k f.span) _ presence.1 in
      let label = none_both (label_faults h k f.label) _ group.1 in
      let holder = none_both (holder_faults h k f.span) _ label.1 in
      record {
        label = label.0;
        holder = holder.0;
        kind = subst (λ x. kind_faults s x ≡ []) (kind_is f.kind)
            (none_both options (kind_faults s k) whole.1).1;
      }
