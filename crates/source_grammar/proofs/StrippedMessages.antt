-- Fields, and messages with what nests in them, as tokens alone: these spell the tree without its places.
use Rattle.std.proofs.Common.{[], ℕ, zero, suc, ◌∷◌, Option, Some, None, refl}
use Rattle.std.specs.Prelude.{codes}
use Rattle.protox_laws.specs.Unplaced as unplaced
use Rattle.protox_laws.specs.Unplaced.{nowhere}
use Rattle.protox_lex.specs.Class.{Text}
use Rattle.protox_lex.specs.Token.{ident, sign}
use Rattle.protox_lex.specs.declared.literal.Int.{Int}
use Rattle.protox_lex.specs.declared.span.Span.{Span}
use Rattle.protox_lex.specs.declared.token.Sign.TheVariants as s
use Rattle.protox_tokens.specs.Marks.{spot}
use Rattle.protox_tree.specs.Nest.{MapType, Extensions, Message, message, Items, no_items, more_items, Item, item_field, item_oneof, item_message, item_enum, item_extend, item_extensions, item_reserved, item_option, item_empty, Field, field, Kind, normal, group, map_kind, a_group, Oneof, oneof, Members, no_members, more_members, Member, member_field, member_option, member_empty, Extend, extend, Added, none_added, more_added, AddedItem, added_field, added_empty}
use Rattle.protox_tree.specs.Tree.{Word, Ty, scalar, named, OptionList}
use Rattle.source_grammar.proofs.Shown.{Shows, shows_one, shows_token, shows_never, shows_then, shows_behind, shows_unless, shows_starts, strips_unless}
use Rattle.source_grammar.proofs.Stripped.{Strips, strips_spot, strips_token, strips_the, strips_nothing, strips_never, strips_then, strips_given, strips_some_by, strips_starts}
use Rattle.source_grammar.proofs.StrippedDeclarations.{strips_enum}
use Rattle.source_grammar.proofs.StrippedOptions.{strips_word, strips_type_name, shows_type_name, strips_integer, strips_option, strips_options, strips_range, strips_reserved}
use Rattle.source_grammar.specs.Fields.{scalar_word, scalar_words, a_word_if, a_type, a_map, a_kind, label_word, label_words, a_numbered, a_plain_field, an_extensions}
use Rattle.source_grammar.specs.Languages.{Language, each}
use Rattle.source_grammar.specs.Messages.{items_in, members_in, added_in, item_words, a_declared, a_field, a_message, a_member, a_oneof, an_added, an_extend, an_item, block}
use Rattle.source_grammar.specs.Ranges.{a_range}

-- ---- types

strips_type : (t : Ty) → Strips (a_type t) (a_type (unplaced.a_type t))
strips_type (scalar t at) = by (scalar_word t) where
  by : (o : Option Text) → Strips (a_word_if o at) (a_word_if o nowhere)
  by None = strips_never
  by (Some x) = strips_spot (ident x) at
strips_type (named n) = strips_unless scalar_words (shows_type_name n) (strips_type_name n)

shows_type : (t : Ty) → Shows (a_type t)
shows_type (scalar t at) = by (scalar_word t) where
  by : (o : Option Text) → Shows (a_word_if o at)
  by None = shows_never
  by (Some x) = shows_one (spot at (ident x))
shows_type (named n) = shows_unless scalar_words (shows_type_name n)

strips_map : (m : MapType) → Strips (a_map m) (a_map (unplaced.a_map m))
strips_map m = strips_then (strips_token (ident (codes "map")) refl) (strips_then (strips_the (sign s.LeftAngleBracket)) (strips_then (strips_type m.key)
    (strips_then (strips_the (sign s.Comma)) (strips_then (strips_type m.value) (strips_token (sign s.RightAngleBracket) refl)))))

strips_kind : (k : Kind) → Strips (a_kind k) (a_kind (unplaced.a_kind k))
strips_kind (normal t) = strips_type t
strips_kind (map_kind m) = strips_map m
strips_kind (group g) = strips_never

shows_kind : (k : Kind) → Shows (a_kind k)
shows_kind (normal t) = shows_type t
shows_kind (map_kind m) = shows_then (shows_token (ident (codes "map")))
shows_kind (group g) = shows_never

-- ---- fields in which nothing nests

strips_numbered : (w : Word) (n : Int) (os : Option OptionList) {L M : Language} → Strips L M → Strips (a_numbered w n os L) (a_numbered (unplaced.a_word w) (unplaced.an_int n) (unplaced.a_list_if os) M)
strips_numbered w n os rest = strips_then (strips_word w) (strips_then (strips_the (sign s.Equals)) (strips_then (strips_integer n) (strips_then (strips_options os) rest)))

strips_plain : (k : Kind) (w : Word) (n : Int) (os : Option OptionList) (at : Span) → Strips (a_plain_field k w n os at) (a_plain_field (unplaced.a_kind k) (unplaced.a_word w) (unplaced.an_int n) (unplaced.a_list_if os) nowhere)
strips_plain k w n os at = strips_unless (codes "group" ∷ []) (shows_then (shows_kind k)) (strips_then (strips_kind k) (strips_numbered w n os (strips_token (sign s.Semicolon) refl)))

shows_plain : (k : Kind) (w : Word) (n : Int) (os : Option OptionList) (at : Span) → Shows (a_plain_field k w n os at)
shows_plain k w n os at = shows_unless (codes "group" ∷ []) (shows_then (shows_kind k))

strips_extensions : (x : Extensions) → Strips (an_extensions x) (an_extensions (unplaced.an_extensions x))
strips_extensions x = strips_then (strips_token (ident (codes "extensions")) refl) (strips_then (strips_some_by (sign s.Comma) a_range unplaced.a_range strips_range x.ranges)
    (strips_then (strips_options x.options) (strips_token (sign s.Semicolon) refl)))

-- ---- what may stand in braces, where this is known of the braces of messages and groups

module _ (B : Items → Span → Language) (inner : (items : Items) (at : Span) → Strips (B items at) (B (unplaced.items_in items) nowhere)) where
  strips_declared : (k : Kind) (w : Word) (n : Int) (os : Option OptionList) (at : Span) → Strips (a_declared B k w n os at) (a_declared B (unplaced.a_kind k) (unplaced.a_word w) (unplaced.an_int n) (unplaced.a_list_if os) nowhere)
  strips_declared (group (a_group p braces items)) w n os at = strips_then (strips_spot (ident (codes "group")) p) (strips_numbered w n os (strips_given (λ h. refl) (inner items braces)))
  strips_declared (normal t) w n os at = strips_plain (normal t) w n os at
  strips_declared (map_kind m) w n os at = strips_plain (map_kind m) w n os at

  shows_declared : (k : Kind) (w : Word) (n : Int) (os : Option OptionList) (at : Span) → Shows (a_declared B k w n os at)
  shows_declared (group (a_group p braces items)) w n os at = shows_then (shows_one (spot p (ident (codes "group"))))
  shows_declared (normal t) w n os at = shows_plain (normal t) w n os at
  shows_declared (map_kind m) w n os at = shows_plain (map_kind m) w n os at

  strips_field : (f : Field) → Strips (a_field B f) (a_field B (unplaced.a_field f))
  strips_field (field None k w n os at) = strips_starts at (strips_then strips_nothing (strips_unless (label_words None) (shows_declared k w n os at) (strips_declared k w n os at)))
  strips_field (field (Some x) k w n os at) = strips_starts at (strips_then (strips_spot (ident (label_word x.0)) x.1) (strips_unless [] (shows_declared k w n os at) (strips_declared k w n os at)))

  shows_field : (f : Field) → Shows (a_field B f)
  shows_field (field None k w n os at) = shows_starts at (shows_behind (shows_unless (label_words None) (shows_declared k w n os at)))
  shows_field (field (Some x) k w n os at) = shows_starts at (shows_then (shows_one (spot x.1 (ident (label_word x.0)))))

  pub strips_message : (m : Message) → Strips (a_message B m) (a_message B (unplaced.a_message m))
  strips_message (message w braces items at) = strips_then (strips_token (ident (codes "message")) refl) (strips_then (strips_word w) (strips_given (λ h. refl) (inner items braces)))

  strips_member : (m : Member) → Strips (a_member B m) (a_member B (unplaced.a_member m))
  strips_member (member_field f) = strips_unless (codes "option" ∷ []) (shows_field f) (strips_field f)
  strips_member (member_option o) = strips_option o
  strips_member (member_empty at) = strips_spot (sign s.Semicolon) at

  strips_members : (ms : Members) → Strips (each (a_member B) (members_in ms)) (each (a_member B) (members_in (unplaced.members_in ms)))
  strips_members no_members = strips_nothing
  strips_members (more_members m ms) = strips_then (strips_member m) (strips_members ms)

  strips_oneof : (o : Oneof) → Strips (a_oneof B o) (a_oneof B (unplaced.a_oneof o))
  strips_oneof (oneof w braces ms at) = strips_then (strips_token (ident (codes "oneof")) refl) (strips_then (strips_word w) (strips_then (strips_token (sign s.LeftBrace) refl)
      (strips_then (strips_members ms) (strips_token (sign s.RightBrace) (refl, refl)))))

  strips_added : (i : AddedItem) → Strips (an_added B i) (an_added B (unplaced.an_added i))
  strips_added (added_field f) = strips_field f
  strips_added (added_empty at) = strips_spot (sign s.Semicolon) at

  strips_all_added : (is : Added) → Strips (each (an_added B) (added_in is)) (each (an_added B) (added_in (unplaced.added_in is)))
  strips_all_added none_added = strips_nothing
  strips_all_added (more_added i is) = strips_then (strips_added i) (strips_all_added is)

  pub strips_extend : (e : Extend) → Strips (an_extend B e) (an_extend B (unplaced.an_extend e))
  strips_extend (extend t braces is at) = strips_then (strips_token (ident (codes "extend")) refl) (strips_then (strips_type_name t) (strips_then (strips_token (sign s.LeftBrace) refl)
      (strips_then (strips_all_added is) (strips_token (sign s.RightBrace) (refl, refl)))))

  strips_item : (i : Item) → Strips (an_item B i) (an_item B (unplaced.an_item i))
  strips_item (item_field f) = strips_unless item_words (shows_field f) (strips_field f)
  strips_item (item_oneof o) = strips_oneof o
  strips_item (item_message m) = strips_message m
  strips_item (item_enum e) = strips_enum e
  strips_item (item_extend e) = strips_extend e
  strips_item (item_extensions x) = strips_extensions x
  strips_item (item_reserved x) = strips_reserved x
  strips_item (item_option o) = strips_option o
  strips_item (item_empty at) = strips_spot (sign s.Semicolon) at

  strips_items : (is : Items) → Strips (each (an_item B) (items_in is)) (each (an_item B) (items_in (unplaced.items_in is)))
  strips_items no_items = strips_nothing
  strips_items (more_items i is) = strips_then (strips_item i) (strips_items is)

pub strips_block : (n : ℕ) (items : Items) (at : Span) → Strips (block n items at) (block n (unplaced.items_in items) nowhere)
strips_block zero items at = strips_never
strips_block (suc n) items at = strips_then (strips_token (sign s.LeftBrace) refl) (strips_then (strips_items (block n) (strips_block n) items) (strips_token (sign s.RightBrace) refl))
