-- Messages and groups of a tree that a text spells nest no deeper than their braces may be open.
use Rattle.std.proofs.Common.{ℕ, zero, suc, pred, ◌<◌, codes, List, [], ◌∷◌, Option, Some, None, arith}
use Rattle.protox_declarations.proofs.EnumLaws.{Local-enumeration}
use Rattle.protox_declarations.proofs.ServiceLaws.{Local-service}
use Rattle.protox_fields.proofs.FieldLaws.{Local-extensions, Local-here, Local-label}
use Rattle.protox_fields.specs.FieldGrammar.{Labelled, field_type, map_by, map_or_name, plain_field}
use Rattle.protox_file.proofs.FileLaws.{Local-import_kind, Local-syntax}
use Rattle.protox_file.specs.FileGrammar.{a_package, an_import, file, file_item, file_item_unless, file_items}
use Rattle.protox_file.specs.Sources.{Spells}
use Rattle.protox_lex.specs.Class.{Text}
use Rattle.protox_lex.specs.Token.{ident, sign}
use Rattle.protox_lex.specs.declared.span.Span.{Span}
use Rattle.protox_lex.specs.declared.token.Sign.TheVariants as s
use Rattle.protox_messages.specs.MessageGrammar.{Block, added_unless, added_with, all_added_with, block, extend_with, field_with, group_if, group_with, inside_with, item_unless, item_with, items_with, member_unless, member_with, members_with, message_with, oneof_with}
use Rattle.protox_options.proofs.NameLaws.{Local-full, Local-int, Local-parts, Local-strings, Local-type_name}
use Rattle.protox_options.proofs.OptionLaws.{Local-option, Local-options}
use Rattle.protox_options.proofs.RangeLaws.{Local-reserved}
use Rattle.protox_tokens.proofs.Local.{Local-eat, Local-expect, Local-word}
use Rattle.protox_tokens.specs.Marks.{Each, IsAny}
use Rattle.protox_tokens.specs.Parser.{Parser}
use Rattle.protox_tokens.specs.Refusal.{a_file_item, refusal, too_deep}
use Rattle.protox_tokens.specs.Stream.{source}
use Rattle.protox_tree.specs.FileTree.{File, FileItem, file_extend, file_message}
use Rattle.protox_tree.specs.Nest.{Added, AddedItem, Extend, Field, Group, Item, Items, Kind, Member, Members, Message, Oneof, a_group, added_field, added_of, extend, field, group, item_extend, item_field, item_message, item_oneof, items_of, map_kind, member_field, members_of, message, more_added, more_items, more_members, no_items, no_members, none_added, normal, oneof}
use Rattle.protox_tree.specs.Tree.{Word}
use Rattle.source_laws.proofs.Giving.{Gives, gives-after, gives-any, gives-bind, gives-choose, gives-loop, gives-map, gives-none, gives-pure, gives-until, gives-when}
use Rattle.source_laws.proofs.NameRules.{gives-map_type, gives-ty}
use Rattle.source_laws.proofs.Words.{read_clean}

-- ---- trees in which at most so many messages and groups stand in each other

abbrev mutual
  pub IsMessageWithin : ℕ → Message → Type 0
  IsMessageWithin n (message name braces items span) = (0 < n) × AreItemsWithin (pred n) items

  pub AreItemsWithin : ℕ → Items → Type 0
  AreItemsWithin n no_items = Unit {0}
  AreItemsWithin n (more_items i is) = IsItemWithin n i × AreItemsWithin n is

  pub IsItemWithin : ℕ → Item → Type 0
  IsItemWithin n (item_field f) = IsFieldWithin n f
  IsItemWithin n (item_oneof o) = IsOneofWithin n o
  IsItemWithin n (item_message m) = IsMessageWithin n m
  IsItemWithin n (item_extend e) = IsExtendWithin n e
  IsItemWithin n _ = Unit {0}

  pub IsFieldWithin : ℕ → Field → Type 0
  IsFieldWithin n (field label kind name number options span) = IsKindWithin n kind

  pub IsKindWithin : ℕ → Kind → Type 0
  IsKindWithin n (normal ty) = Unit {0}
  IsKindWithin n (group g) = IsGroupWithin n g
  IsKindWithin n (map_kind m) = Unit {0}

  pub IsGroupWithin : ℕ → Group → Type 0
  IsGroupWithin n (a_group w braces items) = (0 < n) × AreItemsWithin (pred n) items

  pub IsOneofWithin : ℕ → Oneof → Type 0
  IsOneofWithin n (oneof name braces members span) = AreMembersWithin n members

  pub AreMembersWithin : ℕ → Members → Type 0
  AreMembersWithin n no_members = Unit {0}
  AreMembersWithin n (more_members m ms) = IsMemberWithin n m × AreMembersWithin n ms

  pub IsMemberWithin : ℕ → Member → Type 0
  IsMemberWithin n (member_field f) = IsFieldWithin n f
  IsMemberWithin n _ = Unit {0}

  pub IsExtendWithin : ℕ → Extend → Type 0
  IsExtendWithin n (extend extendee braces fields span) = AreAddedWithin n fields

  pub AreAddedWithin : ℕ → Added → Type 0
  AreAddedWithin n none_added = Unit {0}
  AreAddedWithin n (more_added f fs) = IsAddedWithin n f × AreAddedWithin n fs

  pub IsAddedWithin : ℕ → AddedItem → Type 0
  IsAddedWithin n (added_field f) = IsFieldWithin n f
  IsAddedWithin n _ = Unit {0}

-- of the braces of messages and groups 31 may be open at once
abbrev pub IsStatementWithin : FileItem → Type 0
IsStatementWithin (file_message m) = IsMessageWithin 31 m
IsStatementWithin (file_extend e) = IsExtendWithin 31 e
IsStatementWithin _ = Unit {0}

-- ---- chains

items_within : (n : ℕ) (is : List Item) → Each (IsItemWithin n) is
    → AreItemsWithin n (items_of is)
items_within n [] h = tt
items_within n (i ∷ is) h = (h.0, items_within n is h.1)

members_within : (n : ℕ) (ms : List Member) → Each (IsMemberWithin n) ms
    → AreMembersWithin n (members_of ms)
members_within n [] h = tt
members_within n (m ∷ ms) h = (h.0, members_within n ms h.1)

added_within : (n : ℕ) (fs : List AddedItem) → Each (IsAddedWithin n) fs
    → AreAddedWithin n (added_of fs)
added_within n [] h = tt
added_within n (f ∷ fs) h = (h.0, added_within n fs h.1)

-- ---- rules of messages

-- items in braces, which are one level of so many
abbrev IsBlockWithin : ℕ → Block → Type 0
IsBlockWithin n b = (0 < n) × Each (IsItemWithin (pred n)) b.0

module _ (n : ℕ) where
  map_by_within : (w : Word) (o : Option Span) → Gives (IsKindWithin n) (map_by w o)
  map_by_within w (Some bracket) = gives-map _ (gives-map_type w.span) (λ m h. tt)
  map_by_within w None = gives-map _ (gives-any (Local-parts w)) (λ parts any. tt)

  map_or_name_within : Gives (IsKindWithin n) map_or_name
  unfolding map_or_name
  map_or_name_within =
      gives-after Local-word (λ w. gives-after (Local-eat _) (λ o. map_by_within w o))

  type_within : Gives (IsKindWithin n) field_type
  unfolding field_type
  type_within = gives-choose _ map_or_name_within (gives-map _ gives-ty (λ t h. tt))

  plain_within : (p : Span) (l : Labelled) → Gives (IsFieldWithin n) (plain_field p l)
  unfolding plain_field
  plain_within p l = gives-bind type_within (λ k h. gives-after Local-word (λ w.
      gives-after (Local-expect _) (λ e. gives-after Local-int (λ i.
      gives-after Local-options (λ os. gives-after (Local-expect _) (λ q. gives-pure _ h))))))

  module _ (inner : Parser Block) (inside : Gives (IsBlockWithin n) inner) where
    group_within : (p : Span) (l : Labelled) (w : Span)
        → Gives (IsFieldWithin n) (group_with inner p l w)
    unfolding group_with
    group_within p l w = gives-after Local-word (λ name. gives-after (Local-expect _) (λ e.
        gives-after Local-int (λ i. gives-after Local-options (λ os.
        gives-bind inside (λ b hs. gives-pure _ (hs.0, items_within (pred n) b.0 hs.1))))))

    group_if_within : (p : Span) (l : Labelled) (o : Option Span)
        → Gives (IsFieldWithin n) (group_if inner p l o)
    group_if_within p l (Some w) = group_within p l w
    group_if_within p l None = plain_within p l

    field_within : Gives (IsFieldWithin n) (field_with inner)
    unfolding field_with
    field_within = gives-after Local-here (λ p. gives-after Local-label (λ l.
        gives-after (Local-eat (ident (codes "group"))) (λ o. group_if_within p l o)))

    message_within : Gives (IsMessageWithin n) (message_with inner)
    unfolding message_with
    message_within = gives-after (Local-expect _) (λ p. gives-after Local-word (λ w.
        gives-bind inside (λ b hs. gives-pure _ (hs.0, items_within (pred n) b.0 hs.1))))

    member_unless_within : (o : Option Span) → Gives (IsMemberWithin n) (member_unless inner o)
    member_unless_within (Some p) = gives-pure _ tt
    member_unless_within None =
        gives-choose _ (gives-map _ (gives-any Local-option) (λ x any. tt))
        (gives-map _ field_within (λ f h. h))

    member_within : Gives (IsMemberWithin n) (member_with inner)
    unfolding member_with
    member_within = gives-after (Local-eat _) member_unless_within

    all_members_within : Gives (Each (IsMemberWithin n)) (members_with inner)
    unfolding members_with
    all_members_within = gives-until (sign s.RightBrace) member_within

    oneof_within : Gives (IsOneofWithin n) (oneof_with inner)
    unfolding oneof_with
    oneof_within = gives-after (Local-expect _) (λ p. gives-after Local-word (λ w.
        gives-after (Local-expect _) (λ b. gives-bind all_members_within (λ ms hs.
        gives-after (Local-expect _) (λ q. gives-pure _ (members_within n ms hs))))))

    added_unless_within : (o : Option Span) → Gives (IsAddedWithin n) (added_unless inner o)
    added_unless_within (Some p) = gives-pure _ tt
    added_unless_within None = gives-map _ field_within (λ f h. h)

    added_item_within : Gives (IsAddedWithin n) (added_with inner)
    unfolding added_with
    added_item_within = gives-after (Local-eat _) added_unless_within

    all_added_within : Gives (Each (IsAddedWithin n)) (all_added_with inner)
    unfolding all_added_with
    all_added_within = gives-until (sign s.RightBrace) added_item_within

    extend_within : Gives (IsExtendWithin n) (extend_with inner)
    unfolding extend_with
    extend_within = gives-after (Local-expect _) (λ p. gives-after Local-type_name (λ t.
        gives-after (Local-expect _) (λ e. gives-bind all_added_within (λ fs hs.
        gives-after (Local-expect _) (λ q. gives-pure _ (added_within n fs hs))))))

    item_unless_within : (o : Option Span) → Gives (IsItemWithin n) (item_unless inner o)
    item_unless_within (Some p) = gives-pure _ tt
    item_unless_within None =
        gives-choose _ (gives-map _ message_within (λ x h. h))
        (gives-choose _ (gives-map _ (gives-any Local-enumeration) (λ x any. tt))
        (gives-choose _ (gives-map _ extend_within (λ x h. h))
        (gives-choose _ (gives-map _ (gives-any Local-extensions) (λ x any. tt))
        (gives-choose _ (gives-map _ (gives-any Local-reserved) (λ x any. tt))
        (gives-choose _ (gives-map _ (gives-any Local-option) (λ x any. tt))
        (gives-choose _ (gives-map _ oneof_within (λ x h. h))
        (gives-map _ field_within (λ x h. h))))))))

    item_within : Gives (IsItemWithin n) (item_with inner)
    unfolding item_with
    item_within = gives-after (Local-eat _) item_unless_within

    all_items_within : Gives (Each (IsItemWithin n)) (items_with inner)
    unfolding items_with
    all_items_within = gives-until (sign s.RightBrace) item_within

    inside_within : Gives (λ (b : Block). Each (IsItemWithin n) b.0) (inside_with inner)
    unfolding inside_with
    inside_within =
        gives-bind all_items_within (λ is hs. gives-after (Local-expect _) (λ q. gives-pure _ hs))

block_within : (levels : ℕ) → Gives (IsBlockWithin levels) (block levels)
unfolding block
block_within zero = gives-after (Local-expect _) (λ brace. gives-none (λ ts. too_deep brace))
block_within (suc levels) =
    let some : 0 < suc levels = omega arith in
    gives-after (Local-expect _) (λ brace.
    gives-bind (inside_within levels (block levels) (block_within levels))
    (λ x hs. gives-pure _ (some, hs)))

-- ---- files

any_import : Gives IsAny an_import
unfolding an_import
any_import = gives-after (Local-expect _) (λ p. gives-after Local-import_kind (λ k.
    gives-after Local-strings (λ v. gives-after (Local-expect _) (λ q. gives-pure _ tt))))

any_package : Gives IsAny a_package
unfolding a_package
any_package = gives-after (Local-expect _) (λ p. gives-after Local-full (λ n.
    gives-after (Local-expect _) (λ q. gives-pure _ tt)))

statement_unless_within : (o : Option Span) → Gives IsStatementWithin (file_item_unless o)
statement_unless_within (Some p) = gives-pure _ tt
statement_unless_within None =
    gives-choose _ (gives-map _ any_import (λ x any. tt))
    (gives-choose _ (gives-map _ any_package (λ x any. tt))
    (gives-choose _ (gives-map _ (message_within 31 (block 31) (block_within 31)) (λ x h. h))
    (gives-choose _ (gives-map _ (gives-any Local-enumeration) (λ x any. tt))
    (gives-choose _ (gives-map _ (gives-any Local-service) (λ x any. tt))
    (gives-choose _ (gives-map _ (extend_within 31 (block 31) (block_within 31)) (λ x h. h))
    (gives-choose _ (gives-map _ (gives-any Local-option) (λ x any. tt))
    (gives-none (refusal source a_file_item))))))))

statement_within : Gives IsStatementWithin file_item
unfolding file_item
statement_within = gives-after (Local-eat _) statement_unless_within

statements_within : Gives (Each IsStatementWithin) file_items
unfolding file_items
statements_within = gives-loop _ (gives-when _ statement_within)

-- each statement is so
abbrev pub IsFileWithin : File → Type 0
IsFileWithin f = Each IsStatementWithin f.items

file_within : Gives IsFileWithin file
unfolding file
file_within = gives-after Local-syntax (λ x. gives-bind statements_within (λ is hs. gives-pure _ hs))

pub spelled_within : (z : Text) (tree : File) → Spells z tree → IsFileWithin tree
spelled_within z tree h = (file_within.at h.0 [] tree (read_clean z h.0 h.1) h.2).0
