-- Sources by the older grammar, in which options stand behind extension ranges only where the last
-- range has an end.
use Rattle.protox_file.specs.FileGrammar.{file_item, syntax}
use Rattle.protox_lex.specs.Class.{Text}
use Rattle.protox_lex.specs.Token.{ident, sign}
use Rattle.protox_messages.specs.MessageGrammar.{Block, item_with, message_with, extend_with}
use Rattle.protox_options.specs.OptionGrammar.{options}
use Rattle.protox_options.specs.RangeGrammar.{ranges}
use Rattle.protox_tokens.specs.Parser.{Parser, ◌>>=◌, ◌<$>◌, pure, sees, expect, loop, when, until, choose}
use Rattle.protox_tokens.specs.Refusal.{too_deep}
use Rattle.protox_tokens.specs.Span.{across}
use Rattle.protox_tokens.specs.Stream.{Stream, IsRead, is_over}
use Rattle.protox_tree.specs.FileTree.{FileItem, file_message, file_extend, File, file_span}
use Rattle.protox_tree.specs.Nest.{Extensions, Item, item_extensions}
use Rattle.protox_tree.specs.Tree.{OptionList}
use Rattle.protox_tree.specs.declared.range.RangeEnd.{RangeEnd}
use Rattle.protox_tree.specs.declared.range.ReservedRange.{ReservedRange}
use Rattle.std.specs.Prelude.{◌≡◌, ℕ, zero, suc, Bool, true, false, not, if◌then◌else◌, List, [], ◌∷◌, Option, None, Ok, Err, codes}
use Rattle.protox_lex.specs.declared.token.Sign.TheVariants as s
use Rattle.protox_tree.specs.declared.range.RangeEnd.TheVariants as ends

abbrev pub has_end : RangeEnd → Bool
has_end ends.None = false
has_end (ends.Int n) = true
has_end (ends.Max at) = true

-- the last of the ranges is written with `to`
abbrev pub last_has_end : List ReservedRange → Bool
last_has_end [] = false
last_has_end (r ∷ []) = has_end r.end
last_has_end (r ∷ (next ∷ more)) = last_has_end (next ∷ more)

abbrev pub options_behind : List ReservedRange → Parser (Option OptionList)
options_behind rs = if last_has_end rs then options else pure None

-- The statement `extensions .. ;`.
unfoldable pub older_extensions : Parser Extensions
older_extensions = do
  first ← expect (ident (codes "extensions"))
  rs ← ranges
  os ← options_behind rs
  close ← expect (sign s.Semicolon)
  pure (record { ranges = rs; options = os; span = across first close })

-- What may stand in a message: the statements of extension ranges as they were, and all others as
-- they are.
abbrev pub older_item : Parser Block → Parser Item
older_item inner =
    choose (sees (ident (codes "extensions"))) (item_extensions <$> older_extensions)
    (item_with inner)

unfoldable pub older_items : Parser Block → Parser (List Item)
older_items inner = loop (until (sign s.RightBrace) (older_item inner))

unfoldable pub older_inside : Parser Block → Parser Block
older_inside inner = do
  is ← older_items inner
  close ← expect (sign s.RightBrace)
  pure (is, close)

-- The block of a message or a group, of which so many may be open at most.
unfoldable pub older_block : ℕ → Parser Block
older_block zero = expect (sign s.LeftBrace) >>= (λ brace. (λ ts. Err (too_deep brace)))
older_block (suc levels) = do
  brace ← expect (sign s.LeftBrace)
  x ← older_inside (older_block levels)
  pure (x.0, across brace x.1)

-- The statements of a file: messages and `extend` with such blocks, and all others as they are.
abbrev pub older_file_item : Parser FileItem
older_file_item =
    choose (sees (ident (codes "message"))) (file_message <$> message_with (older_block 31))
    (choose (sees (ident (codes "extend")))
    (file_extend <$> extend_with (older_block 31)) file_item)

unfoldable pub older_file_items : Parser (List FileItem)
older_file_items = loop (when (λ ts. not (is_over ts)) older_file_item)

unfoldable pub older_file : Parser File
older_file = do
  statement ← syntax
  items ← older_file_items
  pure (record { syntax = statement; items = items; span = file_span statement items })

-- The tokens of the text, by the longest match and with nothing left, are read as this tree by the
-- older grammar.
abbrev pub SpellsOlder : Text → File → Type 0
SpellsOlder z tree = (ts : Stream) × IsRead z ts × (older_file ts ≡ Ok (tree, []))
