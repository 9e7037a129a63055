-- In the record of a source no list is a member of a oneof: neither labels nor maps stand in one.
use Rattle.std.proofs.Common.{◌≡◌, ◌+◌, ℕ, ℤ, List, [], ◌∷◌, length, Option, Some, None, Ok, flat_map, refl, subst, sym}
use Rattle.std.specs.Prelude.{if◌then◌else◌}
use Rattle.std.specs.List.{AllByRecursion}
use Rattle.descriptor_records.specs.Content as records
use Rattle.descriptor_records.specs.Content.{FileContent, MessageContent, message, MessageContents, no_messages, more_messages, messages_of}
use Rattle.descriptor_records.specs.FieldNumbers.{label_number}
use Rattle.descriptor_records.specs.declared.field.Label.{Label}
use Rattle.descriptor_records.specs.declared.field.Label.TheVariants as labels
use Rattle.descriptor_records.specs.declared.file.FileDescriptorProto.{FileDescriptorProto}
use Rattle.protox_check.specs.Faults.{faults_of, item_faults, member_faults}
use Rattle.protox_check.specs.Fields.{holder_faults, label_faults}
use Rattle.protox_check.specs.declared.field.Holder.TheVariants as holders
use Rattle.protox_field_records.specs.FieldRecords.{label_of}
use Rattle.protox_field_records.specs.Layers.{ItemLayer, MemberLayer}
use Rattle.protox_field_records.specs.Places.{place_of}
use Rattle.protox_laws.proofs.Layers.{item_seen, member_seen}
use Rattle.protox_lex.specs.Class.{Text}
use Rattle.protox_lex.specs.declared.span.Span.{Span}
use Rattle.protox_message_records.specs.MessageRecords.{AreTypes, Declared, IsType, alone_at, fields_at, fields_from, fields_in, is_optional, member_at, member_in, of_items, of_map, oneof_at, tells_presence, types_at}
use Rattle.protox_parse.specs.Answers.{IsAnswered}
use Rattle.protox_record.specs.FileRecords.{IsFile}
use Rattle.protox_record.specs.FileRecords as files
use Rattle.protox_tokens.specs.Marks.{Each}
use Rattle.protox_tree.specs.FileTree.{syntax_of}
use Rattle.protox_tree.specs.FileView.{file_view}
use Rattle.protox_tree.specs.Nest.{Kind, group, map_kind, normal}
use Rattle.protox_tree.specs.NestView.{kind_view}
use Rattle.protox_tree.specs.declared.file.File.{File}
use Rattle.protox_tree.specs.declared.message.ExtendItem.TheOpen.{MessageItem-F, OneofItem-F}
use Rattle.protox_tree.specs.declared.message.ExtendItem.TheViews.{out-MessageItem, out-OneofItem}
use Rattle.protox_tree.specs.declared.message.MessageItem.{MessageItem}
use Rattle.protox_tree.specs.declared.types.Syntax.{Syntax}
use Rattle.protox_tree.specs.declared.types.Syntax.TheVariants as syntaxes
use Rattle.source_laws.proofs.Lists.{all_append, all_made}
use Rattle.source_laws.proofs.Faultless.{IsFaultlessItem, IsFaultlessMember, field_faultless, oneof_faultless}
use Rattle.source_laws.proofs.FaultlessTypes.{AreFaultless, IsFaultless, IsFaultlessStatement, each_statement, items_types, statement_types}
use Rattle.source_records.specs.LoneLists.{GivesLoneLists, HasLoneLists, HaveLoneLists, IsLoneList}

-- ---- one field

-- the number of its label is that of lists
abbrev IsList : Option (Label × Span) → Kind → Type 0
IsList l k = Some (label_number (label_of l k)) ≡ Some (label_number labels.Repeated)

repeated_alone : (place : ℤ) (l : Label)
    → Some (label_number l) ≡ Some (label_number labels.Repeated)
    → (if is_optional l then Some place else None) ≡ None
repeated_alone place labels.Optional e = absurd (cc e)
repeated_alone place labels.Required e = absurd (cc e)
repeated_alone place labels.Repeated e = refl

-- a list of a message does not tell of presence
own_alone : (s : Syntax) (place : ℤ) (l : Option (Label × Span)) (k : Kind)
    → label_faults holders.Message k l ≡ [] → IsList l k
    → (if tells_presence s l then Some place else None) ≡ None
own_alone s place None k none e = refl
own_alone syntaxes.Proto2 place (Some l) k none e = refl
own_alone syntaxes.Proto3 place (Some l) (normal ty) none e = repeated_alone place l.0 e
own_alone syntaxes.Proto3 place (Some l) (group g) none e = repeated_alone place l.0 e
own_alone syntaxes.Proto3 place (Some l) (map_kind m) none e = absurd (cc none)

-- a member of a oneof is no list
member_alone : (l : Option (Label × Span)) (k : Kind) (at : Span)
    → label_faults holders.Oneof k l ≡ [] → holder_faults holders.Oneof k at ≡ [] → IsList l k → ⊥
member_alone (Some l) k at none held e = cc none
member_alone None (normal ty) at none held e = cc e
member_alone None (group g) at none held e = cc e
member_alone None (map_kind m) at none held e = cc held

module _ (s : Syntax) where
  -- ---- the fields of a message

  member_lone : (place : ℤ) (o : MemberLayer) → member_faults s (member_seen o) ≡ []
      → AllByRecursion IsLoneList (member_in s place o)
  member_lone place (OneofItem-F.«OneofItem::Field» f) e =
      let h = field_faultless s holders.Oneof f e in
      ((λ list. absurd (member_alone f.label (kind_view f.kind) f.span h.label h.holder list)), tt)
  member_lone place o e = tt

  item_lone : (next behind : ℕ) (o : ItemLayer) → item_faults s (item_seen o) ≡ []
      → AllByRecursion IsLoneList (fields_in s next behind o)
  item_lone next behind (MessageItem-F.«MessageItem::Field» f) e =
      let h = field_faultless s holders.Message f e in
      (own_alone s (place_of behind) f.label (kind_view f.kind) h.label, tt)
  item_lone next behind (MessageItem-F.Oneof o) e =
      all_made (IsFaultlessMember s) IsLoneList (member_at s (place_of next))
      (λ i. member_lone (place_of next) (out-OneofItem i)) o.items.items (oneof_faultless s o e)
  item_lone next behind o e = tt

  items_lone : (next behind : ℕ) (is : List MessageItem) → Each (IsFaultlessItem s) is
      → AllByRecursion IsLoneList (fields_from s next behind is)
  items_lone next behind [] h = tt
  items_lone next behind (i ∷ is) h =
      all_append IsLoneList (fields_at s next behind i)
      (fields_from s (next + length (oneof_at i)) (behind + length (alone_at s i)) is)
      (item_lone next behind (out-MessageItem i) h.0)
      (items_lone (next + length (oneof_at i)) (behind + length (alone_at s i)) is h.1)

  -- ---- the records of types

  mutual
    type_lone : (t : Declared) (m : MessageContent) → IsFaultless s t → IsType s t m
        → HasLoneLists m
    type_lone (of_items name items)
        (message given fields extensions nested enums ranges oneofs options reserved names) h is = (
          subst (AllByRecursion IsLoneList) (sym is.0.fields_are)
              (items_lone 0 (length (flat_map oneof_at items)) items h),
          types_lone (flat_map types_at items) nested (items_types s items h) is.1,
        )
    type_lone (of_map name m)
        (message given fields extensions nested enums ranges oneofs options reserved names) h is =
        subst HasLoneLists (sym is) (((λ list. refl), ((λ list. refl), tt)), tt)

    types_lone : (ts : List Declared) (ms : MessageContents) → AreFaultless s ts
        → AreTypes s ts ms → HaveLoneLists ms
    types_lone [] no_messages h are = tt
    types_lone [] (more_messages m ms) h are = absurd are
    types_lone (t ∷ ts) no_messages h are = absurd are
    types_lone (t ∷ ts) (more_messages m ms) h are =
        (type_lone t m h.0 are.0, types_lone ts ms h.1 are.1)

-- ---- files

file_lone : (name : Text) (f : File) (made : FileContent) → faults_of (file_view f) ≡ []
    → IsFile name f made → GivesLoneLists made
file_lone name f made none is =
    let s = syntax_of (file_view f).syntax in
    let all = f.items.items in
    types_lone s (flat_map files.types_at all) (messages_of made.message_type)
    (all_made (IsFaultlessStatement s) (IsFaultless s) files.types_at (statement_types s) all
    (each_statement s [] all none)) is.types_are

pub source_lone : (name z : Text) (made : FileDescriptorProto) → IsAnswered name z (Ok made)
    → GivesLoneLists (records.file_view made)
source_lone name z made h =
    subst GivesLoneLists (sym h.3.is) (file_lone name h.0 h.3.bare h.2 h.3.bare_is)
