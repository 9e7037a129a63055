-- How messages are read, and what may stand in them.
use Rattle.protox_declarations.specs.EnumGrammar.{enumeration}
use Rattle.protox_fields.specs.FieldGrammar.{Labelled, extensions, label, plain_field}
use Rattle.protox_lex.specs.Token.{ident, sign}
use Rattle.protox_lex.specs.declared.span.Span.{Span}
use Rattle.protox_options.specs.NameGrammar.{type_name, an_int}
use Rattle.protox_options.specs.OptionGrammar.{option, options}
use Rattle.protox_options.specs.RangeGrammar.{reserved}
use Rattle.protox_tokens.specs.Parser.{Parser, ◌>>=◌, ◌>>◌, ◌<$>◌, pure, sees, eat, expect, word, loop, until, choose, here}
use Rattle.protox_tokens.specs.Refusal.{too_deep}
use Rattle.protox_tokens.specs.Span.{across}
use Rattle.protox_tree.specs.Nest.{Message, message, items_of, Item, item_field, item_oneof, item_message, item_enum, item_extend, item_extensions, item_reserved, item_option, item_empty, Field, field, group, a_group, Oneof, oneof, members_of, Member, member_field, member_option, member_empty, Extend, extend, added_of, AddedItem, added_field, added_empty}
use Rattle.std.specs.Prelude.{ℕ, zero, suc, List, Option, Some, None, Err, codes}
use Rattle.protox_lex.specs.declared.token.Sign.TheVariants as s

-- What stands in the braces of a message or a group, and these.
abbrev pub Block : Type 0
Block = List Item × Span

-- the rules that hold with these blocks inside
module _ (inner : Parser Block) where
  -- A group behind its word.
  unfoldable pub group_with : Span → Labelled → Span → Parser Field
  group_with start l w = do
    name ← word
    expect (sign s.Equals)
    number ← an_int
    os ← options
    b ← inner
    pure (field l (group (a_group w b.1 (items_of b.0))) name number os (across start b.1))

  abbrev pub group_if : Span → Labelled → Option Span → Parser Field
  group_if start l (Some w) = group_with start l w
  group_if start l None = plain_field start l

  -- A field, a group or a map.
  unfoldable pub field_with : Parser Field
  field_with = do
    start ← here
    l ← label
    w ← eat (ident (codes "group"))
    group_if start l w

  -- A message from its keyword on.
  unfoldable pub message_with : Parser Message
  message_with = do
    first ← expect (ident (codes "message"))
    name ← word
    b ← inner
    pure (message name b.1 (items_of b.0) (across first b.1))

  abbrev pub member_unless : Option Span → Parser Member
  member_unless (Some at) = pure (member_empty at)
  member_unless None =
      choose (sees (ident (codes "option"))) (member_option <$> option)
      (member_field <$> field_with)

  -- What may stand in a oneof.
  unfoldable pub member_with : Parser Member
  member_with = eat (sign s.Semicolon) >>= member_unless

  unfoldable pub members_with : Parser (List Member)
  members_with = loop (until (sign s.RightBrace) member_with)

  -- A oneof from its keyword on.
  unfoldable pub oneof_with : Parser Oneof
  oneof_with = do
    first ← expect (ident (codes "oneof"))
    name ← word
    brace ← expect (sign s.LeftBrace)
    ms ← members_with
    close ← expect (sign s.RightBrace)
    pure (oneof name (across brace close) (members_of ms) (across first close))

  abbrev pub added_unless : Option Span → Parser AddedItem
  added_unless (Some at) = pure (added_empty at)
  added_unless None = added_field <$> field_with

  -- What may stand in an `extend` statement.
  unfoldable pub added_with : Parser AddedItem
  added_with = eat (sign s.Semicolon) >>= added_unless

  unfoldable pub all_added_with : Parser (List AddedItem)
  all_added_with = loop (until (sign s.RightBrace) added_with)

  -- An `extend` statement from its keyword on.
  unfoldable pub extend_with : Parser Extend
  extend_with = do
    first ← expect (ident (codes "extend"))
    extendee ← type_name
    brace ← expect (sign s.LeftBrace)
    fs ← all_added_with
    close ← expect (sign s.RightBrace)
    pure (extend extendee (across brace close) (added_of fs) (across first close))

  -- A word that begins another statement of messages begins it wherever it comes first.
  abbrev pub item_unless : Option Span → Parser Item
  item_unless (Some at) = pure (item_empty at)
  item_unless None =
      choose (sees (ident (codes "message"))) (item_message <$> message_with)
      (choose (sees (ident (codes "enum"))) (item_enum <$> enumeration)
      (choose (sees (ident (codes "extend"))) (item_extend <$> extend_with)
      (choose (sees (ident (codes "extensions"))) (item_extensions <$> extensions)
      (choose (sees (ident (codes "reserved"))) (item_reserved <$> reserved)
      (choose (sees (ident (codes "option"))) (item_option <$> option)
      (choose (sees (ident (codes "oneof"))) (item_oneof <$> oneof_with)
      (item_field <$> field_with)))))))

  unfoldable pub item_with : Parser Item
  item_with = eat (sign s.Semicolon) >>= item_unless

  unfoldable pub items_with : Parser (List Item)
  items_with = loop (until (sign s.RightBrace) item_with)

  -- What stands behind an opening brace, and the closing one.
  unfoldable pub inside_with : Parser Block
  inside_with = do
    is ← items_with
    close ← expect (sign s.RightBrace)
    pure (is, close)

-- The block of a message or a group, of which so many may be open at most.
unfoldable pub block : ℕ → Parser Block
block zero = expect (sign s.LeftBrace) >>= (λ brace. (λ ts. Err (too_deep brace)))
block (suc levels) = do
  brace ← expect (sign s.LeftBrace)
  x ← inside_with (block levels)
  pure (x.0, across brace x.1)
