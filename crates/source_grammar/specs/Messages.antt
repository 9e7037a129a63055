-- The tokens of messages, by the language specification's sections "Message definition", "Group
-- field", "Oneof and oneof field" and "Extend".
use Rattle.protox_lex.specs.Token.{ident, sign}
use Rattle.protox_lex.specs.Class.{Text}
use Rattle.protox_lex.specs.declared.literal.Int.{Int}
use Rattle.protox_lex.specs.declared.span.Span.{Span}
use Rattle.protox_tokens.specs.Marks.{spot}
use Rattle.protox_tree.specs.Nest.{Message, message, Items, no_items, more_items, Item, item_field, item_oneof, item_message, item_enum, item_extend, item_extensions, item_reserved, item_option, item_empty, Field, field, Kind, normal, group, map_kind, a_group, Oneof, oneof, Members, no_members, more_members, Member, member_field, member_option, member_empty, Extend, extend, Added, none_added, more_added, AddedItem, added_field, added_empty}
use Rattle.protox_tree.specs.Tree.{Word, OptionList}
use Rattle.source_grammar.specs.Enums.{an_enum}
use Rattle.source_grammar.specs.Fields.{a_label, label_words, a_numbered, a_plain_field, an_extensions}
use Rattle.source_grammar.specs.Languages.{Language, never, one, token_at, begins, ends, ◌▸◌, each, given, unless, starts}
use Rattle.source_grammar.specs.Names.{a_word, a_type_name}
use Rattle.source_grammar.specs.Options.{an_option}
use Rattle.source_grammar.specs.Ranges.{a_reserved}
use Rattle.std.specs.Prelude.{[], ℕ, zero, suc, List, ◌∷◌, Option, codes}
use Rattle.protox_lex.specs.declared.token.Sign.TheVariants as s

-- ---- what nests, as lists

abbrev pub items_in : Items → List Item
items_in no_items = []
items_in (more_items i is) = i ∷ items_in is

abbrev pub members_in : Members → List Member
members_in no_members = []
members_in (more_members m ms) = m ∷ members_in ms

abbrev pub added_in : Added → List AddedItem
added_in none_added = []
added_in (more_added i is) = i ∷ added_in is

-- The words that begin the statements of messages other than fields.
abbrev pub item_words : List Text
item_words =
    codes "oneof" ∷ codes "option" ∷ codes "reserved" ∷ codes "extensions" ∷ codes "extend"
    ∷ codes "enum" ∷ codes "message" ∷ []

-- ---- what may stand in braces, where the braces of messages and groups are of this language

module _ (block : Items → Span → Language) where
  -- group = "group" groupName "=" fieldNumber messageBody, or another field
  abbrev pub a_declared : Kind → Word → Int → Option OptionList → Span → Language
  a_declared (group (a_group w braces items)) name n os whole =
      one (spot w (ident (codes "group")))
      ▸ a_numbered name n os (given (ends whole braces) (block items braces))
  a_declared (normal t) name n os whole = a_plain_field (normal t) name n os whole
  a_declared (map_kind m) name n os whole = a_plain_field (map_kind m) name n os whole

  -- field = [ label ] type fieldName "=" fieldNumber [ "[" fieldOptions "]" ] ";"
  abbrev pub a_field : Field → Language
  a_field (field l k name n os whole) =
      starts whole (a_label l ▸ unless (label_words l) (a_declared k name n os whole))

  -- message = "message" messageName messageBody
  abbrev pub a_message : Message → Language
  a_message (message name braces items whole) =
      token_at (ident (codes "message")) (begins whole)
      ▸ a_word name ▸ given (ends whole braces) (block items braces)

  -- option | oneofField | emptyStatement
  abbrev pub a_member : Member → Language
  a_member (member_field f) = unless (codes "option" ∷ []) (a_field f)
  a_member (member_option o) = an_option o
  a_member (member_empty at) = one (spot at (sign s.Semicolon))

  -- oneof = "oneof" oneofName "{" { option | oneofField | emptyStatement } "}"
  abbrev pub a_oneof : Oneof → Language
  a_oneof (oneof name braces members whole) =
      token_at (ident (codes "oneof")) (begins whole)
      ▸ a_word name ▸ token_at (sign s.LeftBrace) (begins braces)
      ▸ each a_member (members_in members)
      ▸ token_at (sign s.RightBrace) (λ at. ends braces at × ends whole at)

  -- field | group | emptyStatement
  abbrev pub an_added : AddedItem → Language
  an_added (added_field f) = a_field f
  an_added (added_empty at) = one (spot at (sign s.Semicolon))

  -- extend = "extend" messageType "{" { field | group | emptyStatement } "}"
  abbrev pub an_extend : Extend → Language
  an_extend (extend extendee braces added whole) =
      token_at (ident (codes "extend")) (begins whole)
      ▸ a_type_name extendee ▸ token_at (sign s.LeftBrace) (begins braces)
      ▸ each an_added (added_in added)
      ▸ token_at (sign s.RightBrace) (λ at. ends braces at × ends whole at)

  -- field | enum | message | extend | extensions | group | option | oneof | mapField | reserved
  -- | emptyStatement
  abbrev pub an_item : Item → Language
  an_item (item_field f) = unless item_words (a_field f)
  an_item (item_oneof o) = a_oneof o
  an_item (item_message m) = a_message m
  an_item (item_enum e) = an_enum e
  an_item (item_extend e) = an_extend e
  an_item (item_extensions x) = an_extensions x
  an_item (item_reserved x) = a_reserved x
  an_item (item_option o) = an_option o
  an_item (item_empty at) = one (spot at (sign s.Semicolon))

-- messageBody = "{" { .. } "}", of which so many may be open at once
abbrev pub block : ℕ → Items → Span → Language
block zero items braces = never
block (suc n) items braces =
    token_at (sign s.LeftBrace) (begins braces)
    ▸ each (an_item (block n)) (items_in items) ▸ token_at (sign s.RightBrace) (ends braces)
