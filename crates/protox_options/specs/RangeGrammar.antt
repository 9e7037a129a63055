-- How ranges of numbers are read, and the statements that list them.
use Rattle.protox_lex.specs.Token.{ident, sign}
use Rattle.protox_lex.specs.declared.span.Span.{Span}
use Rattle.protox_options.specs.NameGrammar.{an_int, strings}
use Rattle.protox_tokens.specs.Parser.{Parser, ◌>>=◌, ◌<$>◌, pure, eat, expect, some_by, choose, is_string}
use Rattle.protox_tokens.specs.Span.{across}
use Rattle.protox_tree.specs.Tree.{Word, ReservedItems, reserved_ranges, reserved_names, Reserved}
use Rattle.protox_tree.specs.declared.range.RangeEnd.{RangeEnd}
use Rattle.protox_tree.specs.declared.range.ReservedRange.{ReservedRange}
use Rattle.std.specs.Prelude.{List, Option, Some, None, codes}
use Rattle.protox_lex.specs.declared.token.Sign.TheVariants as s
use Rattle.protox_tree.specs.declared.range.RangeEnd.TheVariants as ends

-- A range ends with the word `max`, or else with an integer.
abbrev pub max_or_int : Option Span → Parser RangeEnd
max_or_int (Some at) = pure (ends.Max at)
max_or_int None = (λ n. ends.Int n) <$> an_int

-- Behind the word `to` a range has an end, and without that word it has none.
abbrev pub end_behind : Option Span → Parser RangeEnd
end_behind None = pure ends.None
end_behind (Some to) = eat (ident (codes "max")) >>= max_or_int

unfoldable pub range_end : Parser RangeEnd
range_end = eat (ident (codes "to")) >>= end_behind

-- A range is an integer, and an end if one follows.
unfoldable pub range : Parser ReservedRange
range = do
  start ← an_int
  end ← range_end
  pure (record { start = start; end = end })

-- Ranges have commas between them.
unfoldable pub ranges : Parser (List ReservedRange)
ranges = some_by (sign s.Comma) range

-- So have reserved names, each of which is a string.
unfoldable pub names : Parser (List (List Word))
names = some_by (sign s.Comma) strings

-- What is reserved is names where a literal comes first, and ranges elsewhere.
unfoldable pub reserved_items : Parser ReservedItems
reserved_items = choose is_string (reserved_names <$> names) (reserved_ranges <$> ranges)

-- The statement `reserved .. ;`.
unfoldable pub reserved : Parser Reserved
reserved = do
  first ← expect (ident (codes "reserved"))
  items ← reserved_items
  last ← expect (sign s.Semicolon)
  pure (record { items = items; span = across first last })
