-- How enums are read.
use Rattle.protox_lex.specs.Token.{ident, sign}
use Rattle.protox_lex.specs.declared.span.Span.{Span}
use Rattle.protox_options.specs.NameGrammar.{an_int}
use Rattle.protox_options.specs.OptionGrammar.{option, options}
use Rattle.protox_options.specs.RangeGrammar.{reserved}
use Rattle.protox_tokens.specs.Parser.{Parser, ◌>>=◌, ◌>>◌, ◌<$>◌, pure, sees, eat, expect, word, loop, until, choose}
use Rattle.protox_tokens.specs.Span.{across}
use Rattle.protox_tree.specs.Tree.{EnumValue, EnumItem, enum_value, enum_option, enum_reserved, enum_empty, Enum}
use Rattle.std.specs.Prelude.{List, Option, Some, None, codes}
use Rattle.protox_lex.specs.declared.token.Sign.TheVariants as s

-- A value is a name, its number, and options if there are any.
unfoldable pub an_enum_value : Parser EnumValue
an_enum_value = do
  name ← word
  expect (sign s.Equals)
  number ← an_int
  os ← options
  last ← expect (sign s.Semicolon)
  pure (record { name = name; number = number; options = os; span = across name.span last })

-- A word that begins another statement of enums begins it wherever it comes first.
abbrev pub enum_item_unless : Option Span → Parser EnumItem
enum_item_unless (Some at) = pure (enum_empty at)
enum_item_unless None =
    choose (sees (ident (codes "option"))) (enum_option <$> option)
    (choose (sees (ident (codes "reserved"))) (enum_reserved <$> reserved)
    (enum_value <$> an_enum_value))

unfoldable pub enum_item : Parser EnumItem
enum_item = eat (sign s.Semicolon) >>= enum_item_unless

unfoldable pub enum_items : Parser (List EnumItem)
enum_items = loop (until (sign s.RightBrace) enum_item)

-- An enum from its keyword on.
unfoldable pub enumeration : Parser Enum
enumeration = do
  first ← expect (ident (codes "enum"))
  name ← word
  brace ← expect (sign s.LeftBrace)
  items ← enum_items
  close ← expect (sign s.RightBrace)
  pure (record {
    name = name;
    braces = across brace close;
    items = items;
    span =
        across first close;
  })
