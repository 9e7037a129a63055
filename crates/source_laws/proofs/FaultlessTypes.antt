-- The types that sources declare are without faults where the sources are.
use Rattle.std.proofs.Common.{◌≡◌, ◌++◌, List, [], ◌∷◌, map, Option, flat_map, string_bytes}
use Rattle.std.specs.List.{AllByRecursion}
use Rattle.protox_check.specs.Faults.{added_item_faults, file_item_faults, item_faults, item_faults_behind, kind_faults, member_faults, package_at}
use Rattle.protox_check.specs.Words.{each_behind, first_in}
use Rattle.protox_check.specs.declared.field.Holder.TheVariants as holders
use Rattle.protox_field_records.specs.Layers.{AddedLayer, ItemLayer, KindLayer, MemberLayer}
use Rattle.protox_laws.proofs.Layers.{added_seen, item_seen, kind_seen, member_seen}
use Rattle.protox_lex.specs.Class.{Text}
use Rattle.protox_lex.specs.declared.span.Span.{Span}
use Rattle.protox_message_records.specs.MessageRecords.{Declared, of_items, of_map, types_at, types_in, types_of_added, types_of_added_item, types_of_extend, types_of_field, types_of_kind, types_of_member, types_of_member_item}
use Rattle.protox_record.specs.FileRecords as files
use Rattle.protox_tokens.specs.Marks.{Each}
use Rattle.protox_tree.specs.FileTree as tree
use Rattle.protox_tree.specs.FileView.{file_item_view}
use Rattle.protox_tree.specs.declared.file.FileItem.{FileItem}
use Rattle.protox_tree.specs.declared.file.FileItem.TheVariants as items
use Rattle.protox_tree.specs.declared.message.Extend.{Extend}
use Rattle.protox_tree.specs.declared.message.ExtendItem.TheOpen.{ExtendItem-F, FieldKind-F, MessageItem-F, OneofItem-F}
use Rattle.protox_tree.specs.declared.message.ExtendItem.TheViews.{out-ExtendItem, out-FieldKind, out-MessageItem, out-OneofItem}
use Rattle.protox_tree.specs.declared.message.Field.{Field}
use Rattle.protox_tree.specs.declared.message.MessageItem.{MessageItem}
use Rattle.protox_tree.specs.declared.types.Syntax.{Syntax}
use Rattle.source_laws.proofs.Lists.{all_made}
use Rattle.source_laws.proofs.Faultless.{IsFaultlessAdded, IsFaultlessItem, IsFaultlessMember, extend_faultless, field_faultless, group_faultless, message_faultless, none_both, oneof_faultless}

module _ (s : Syntax) where
  -- what is told of a type is told of its items
  abbrev pub IsFaultless : Declared → Type 0
  IsFaultless (of_items name items) = Each (IsFaultlessItem s) items
  IsFaultless (of_map name m) = Unit {0}

  abbrev pub AreFaultless : List Declared → Type 0
  AreFaultless ts = AllByRecursion IsFaultless ts

  -- ---- what is declared in messages

  kind_types : (name : Text) (k : KindLayer) → kind_faults s (kind_seen k) ≡ []
      → AreFaultless (types_of_kind name k)
  kind_types name (FieldKind-F.Normal t) e = tt
  kind_types name (FieldKind-F.Group g) e = (group_faultless s g e, tt)
  kind_types name (FieldKind-F.Map m) e = (tt, tt)

  field_types : (f : Field) → kind_faults s (kind_seen (out-FieldKind f.kind)) ≡ []
      → AreFaultless (types_of_field f)
  field_types f e = kind_types (string_bytes f.name.value) (out-FieldKind f.kind) e

  member_types : (o : MemberLayer) → member_faults s (member_seen o) ≡ []
      → AreFaultless (types_of_member o)
  member_types (OneofItem-F.«OneofItem::Field» f) e =
      field_types f (field_faultless s holders.Oneof f e).kind
  member_types o e = tt

  added_types : (o : AddedLayer) → added_item_faults s (added_seen o) ≡ []
      → AreFaultless (types_of_added o)
  added_types (ExtendItem-F.«ExtendItem::Field» f) e =
      field_types f (field_faultless s holders.Extend f e).kind
  added_types o e = tt

  extend_types : (x : Extend) → Each (IsFaultlessAdded s) x.items.items
      → AreFaultless (types_of_extend x)
  extend_types x h =
      all_made (IsFaultlessAdded s) IsFaultless types_of_added_item
      (λ i. added_types (out-ExtendItem i)) x.items.items h

  item_types : (o : ItemLayer) → item_faults s (item_seen o) ≡ [] → AreFaultless (types_in o)
  item_types (MessageItem-F.«MessageItem::Field» f) e =
      field_types f (field_faultless s holders.Message f e).kind
  item_types (MessageItem-F.Oneof o) e =
      all_made (IsFaultlessMember s) IsFaultless types_of_member_item
      (λ i. member_types (out-OneofItem i)) o.items.items (oneof_faultless s o e)
  item_types (MessageItem-F.Message m) e = (message_faultless s m e, tt)
  item_types (MessageItem-F.Extend x) e = extend_types x (extend_faultless s x e)
  item_types o e = tt

  pub items_types : (is : List MessageItem) → Each (IsFaultlessItem s) is
      → AreFaultless (flat_map types_at is)
  items_types is h =
      all_made (IsFaultlessItem s) IsFaultless types_at (λ i. item_types (out-MessageItem i)) is h

  -- ---- statements

  -- nothing is told of a statement, wherever a package stands before it
  abbrev pub IsFaultlessStatement : FileItem → Type 0
  IsFaultlessStatement i =
      (first : Option Span) × (file_item_faults s first (file_item_view i) ≡ [])

  pub each_statement : (before : List tree.FileItem) (is : List FileItem)
      → each_behind (item_faults_behind s) before (map file_item_view is) ≡ []
      → Each IsFaultlessStatement is
  each_statement before [] e = tt
  each_statement before (i ∷ is) e =
      let later = before ++ file_item_view i ∷ [] in
      let both = none_both (item_faults_behind s before (file_item_view i))
      (each_behind (item_faults_behind s) later (map file_item_view is)) e in
      ((first_in package_at before, both.0), each_statement later is both.1)

  pub statement_types : (i : FileItem) → IsFaultlessStatement i → AreFaultless (files.types_at i)
  statement_types (items.Message m) h = (message_faultless s m h.1, tt)
  statement_types (items.Extend x) h = extend_types x (extend_faultless s x h.1)
  statement_types i h = tt
