-- What stands in messages, one level at a time, seen as the tree.
use Rattle.std.proofs.Common.{◌≡◌, ◌∙◌, List, [], ◌∷◌, map, refl, ap, sym}
use Rattle.protox_field_records.specs.Layers.{AddedLayer, ItemLayer, KindLayer, MemberLayer}
use Rattle.protox_laws.specs.Unplaced.{a_kind, a_member, added_in, an_added, an_item, items_in, members_in}
use Rattle.protox_tree.specs.Nest as tree
use Rattle.protox_tree.specs.Nest.{added_of, items_of, members_of}
use Rattle.protox_tree.specs.NestView.{added_step, added_view, extend_step, extend_view, field_step, field_view, group_step, group_view, item_step, item_view, kind_step, kind_view, member_step, member_view, message_step, message_view, oneof_step, oneof_view}
use Rattle.protox_tree.specs.declared.message.Extend.{Extend}
use Rattle.protox_tree.specs.declared.message.ExtendItem.{ExtendItem}
use Rattle.protox_tree.specs.declared.message.ExtendItem.TheFolds.{fold_out-ExtendItem, fold_out-FieldKind, fold_out-MessageItem, fold_out-OneofItem, map-ExtendItem, map-FieldKind, map-MessageItem, map-OneofItem}
use Rattle.protox_tree.specs.declared.message.ExtendItem.TheViews.{out-ExtendItem, out-FieldKind, out-MessageItem, out-OneofItem}
use Rattle.protox_tree.specs.declared.message.Field.{Field}
use Rattle.protox_tree.specs.declared.message.FieldKind.{FieldKind}
use Rattle.protox_tree.specs.declared.message.Group.{Group}
use Rattle.protox_tree.specs.declared.message.Message.{Message}
use Rattle.protox_tree.specs.declared.message.MessageItem.{MessageItem}
use Rattle.protox_tree.specs.declared.message.Oneof.{Oneof}
use Rattle.protox_tree.specs.declared.message.OneofItem.{OneofItem}

-- ---- one level

abbrev pub added_seen : AddedLayer → tree.AddedItem
added_seen o = added_step (map-ExtendItem ExtendItem FieldKind MessageItem OneofItem Extend Field Group Message Oneof
    tree.AddedItem tree.Kind tree.Item tree.Member tree.Extend tree.Field tree.Group tree.Message tree.Oneof
    added_view kind_view item_view member_view extend_view field_view group_view message_view oneof_view o)

abbrev pub kind_seen : KindLayer → tree.Kind
kind_seen o = kind_step (map-FieldKind ExtendItem FieldKind MessageItem OneofItem Extend Field Group Message Oneof
    tree.AddedItem tree.Kind tree.Item tree.Member tree.Extend tree.Field tree.Group tree.Message tree.Oneof
    added_view kind_view item_view member_view extend_view field_view group_view message_view oneof_view o)

abbrev pub item_seen : ItemLayer → tree.Item
item_seen o = item_step (map-MessageItem ExtendItem FieldKind MessageItem OneofItem Extend Field Group Message Oneof
    tree.AddedItem tree.Kind tree.Item tree.Member tree.Extend tree.Field tree.Group tree.Message tree.Oneof
    added_view kind_view item_view member_view extend_view field_view group_view message_view oneof_view o)

abbrev pub member_seen : MemberLayer → tree.Member
member_seen o = member_step (map-OneofItem ExtendItem FieldKind MessageItem OneofItem Extend Field Group Message Oneof
    tree.AddedItem tree.Kind tree.Item tree.Member tree.Extend tree.Field tree.Group tree.Message tree.Oneof
    added_view kind_view item_view member_view extend_view field_view group_view message_view oneof_view o)

pub added_is : (i : ExtendItem) → added_view i ≡ added_seen (out-ExtendItem i)
added_is i = fold_out-ExtendItem tree.AddedItem tree.Kind tree.Item tree.Member tree.Extend tree.Field tree.Group tree.Message tree.Oneof
    added_step kind_step item_step member_step extend_step field_step group_step message_step oneof_step i

pub kind_is : (k : FieldKind) → kind_view k ≡ kind_seen (out-FieldKind k)
kind_is k = fold_out-FieldKind tree.AddedItem tree.Kind tree.Item tree.Member tree.Extend tree.Field tree.Group tree.Message tree.Oneof
    added_step kind_step item_step member_step extend_step field_step group_step message_step oneof_step k

pub item_is : (i : MessageItem) → item_view i ≡ item_seen (out-MessageItem i)
item_is i = fold_out-MessageItem tree.AddedItem tree.Kind tree.Item tree.Member tree.Extend tree.Field tree.Group tree.Message tree.Oneof
    added_step kind_step item_step member_step extend_step field_step group_step message_step oneof_step i

pub member_is : (i : OneofItem) → member_view i ≡ member_seen (out-OneofItem i)
member_is i = fold_out-OneofItem tree.AddedItem tree.Kind tree.Item tree.Member tree.Extend tree.Field tree.Group tree.Message tree.Oneof
    added_step kind_step item_step member_step extend_step field_step group_step message_step oneof_step i

-- What is seen as one but for its places has one level, but for places.

pub one_added : (x y : ExtendItem) → an_added (added_view x) ≡ an_added (added_view y) → an_added (added_seen (out-ExtendItem x)) ≡ an_added (added_seen (out-ExtendItem y))
one_added x y e = sym (ap an_added (added_is x)) ∙ e ∙ ap an_added (added_is y)

pub one_kind : (x y : FieldKind) → a_kind (kind_view x) ≡ a_kind (kind_view y) → a_kind (kind_seen (out-FieldKind x)) ≡ a_kind (kind_seen (out-FieldKind y))
one_kind x y e = sym (ap a_kind (kind_is x)) ∙ e ∙ ap a_kind (kind_is y)

pub one_item : (x y : MessageItem) → an_item (item_view x) ≡ an_item (item_view y) → an_item (item_seen (out-MessageItem x)) ≡ an_item (item_seen (out-MessageItem y))
one_item x y e = sym (ap an_item (item_is x)) ∙ e ∙ ap an_item (item_is y)

pub one_member : (x y : OneofItem) → a_member (member_view x) ≡ a_member (member_view y) → a_member (member_seen (out-OneofItem x)) ≡ a_member (member_seen (out-OneofItem y))
one_member x y e = sym (ap a_member (member_is x)) ∙ e ∙ ap a_member (member_is y)

-- ---- chains

-- a chain is made of one list, but for what its parts are made bare of
module _ {A V C : Type 0} (bare : A → V) (chain : List A → C) (apart : (x : A) (xs : List A) → chain [] ≡ chain (x ∷ xs) → ⊥)
    (parted : (x y : A) (xs ys : List A) → chain (x ∷ xs) ≡ chain (y ∷ ys) → (bare x ≡ bare y) × (chain xs ≡ chain ys)) where
  one_list : (xs ys : List A) → chain xs ≡ chain ys → map bare xs ≡ map bare ys
  one_list [] [] e = refl
  one_list [] (y ∷ ys) e = absurd (apart y ys e)
  one_list (x ∷ xs) [] e = absurd (apart x xs (sym e))
  one_list (x ∷ xs) (y ∷ ys) e =
      let parts = parted x y xs ys e in
      let others = one_list xs ys parts.1 in
      λ i. parts.0 i ∷ others i

pub same_items : (xs ys : List tree.Item) → items_in (items_of xs) ≡ items_in (items_of ys) → map an_item xs ≡ map an_item ys
same_items = one_list an_item (λ xs. items_in (items_of xs)) (λ x xs e. absurd (cc e)) (λ x y xs ys e. (cc e, cc e))

pub same_members : (xs ys : List tree.Member) → members_in (members_of xs) ≡ members_in (members_of ys) → map a_member xs ≡ map a_member ys
same_members = one_list a_member (λ xs. members_in (members_of xs)) (λ x xs e. absurd (cc e)) (λ x y xs ys e. (cc e, cc e))

pub same_added : (xs ys : List tree.AddedItem) → added_in (added_of xs) ≡ added_in (added_of ys) → map an_added xs ≡ map an_added ys
same_added = one_list an_added (λ xs. added_in (added_of xs)) (λ x xs e. absurd (cc e)) (λ x y xs ys e. (cc e, cc e))
