-- How statements of messages are read that nothing nests in, and what others begin with.
use Rattle.protox_fields.specs.FieldGrammar.{extensions}
use Rattle.protox_lex.specs.Token.{Token, ident, sign}
use Rattle.protox_lex.specs.declared.span.Span.{Span}
use Rattle.protox_options.specs.NameGrammar.{type_name}
use Rattle.protox_options.specs.OptionGrammar.{option}
use Rattle.protox_options.specs.RangeGrammar.{reserved}
use Rattle.protox_tokens.specs.Parser.{Parser, ◌>>=◌, ◌<$>◌, pure, sees, expect, word, choose}
use Rattle.protox_tree.specs.Nest.{Item, item_extensions, item_reserved, item_option}
use Rattle.protox_tree.specs.Tree.{Word, TypeName}
use Rattle.std.specs.Prelude.{Option, Some, None, codes}
use Rattle.protox_lex.specs.declared.token.Sign.TheVariants as s

-- A statement that nothing nests in, if one begins here.
unfoldable pub flat_item : Parser (Option Item)
flat_item =
    choose (sees (ident (codes "extensions"))) ((λ x. Some (item_extensions x)) <$> extensions)
    (choose (sees (ident (codes "reserved"))) ((λ x. Some (item_reserved x)) <$> reserved)
    (choose (sees (ident (codes "option"))) ((λ x. Some (item_option x)) <$> option)
    (pure None)))

-- A keyword, what it is followed by, and an opening brace.
abbrev pub head : {A : Type 0} → Token → Parser A → Parser (Span × A × Span)
head keyword p = do
  first ← expect keyword
  a ← p
  brace ← expect (sign s.LeftBrace)
  pure (first, a, brace)

-- What a oneof begins with.
unfoldable pub oneof_head : Parser (Span × Word × Span)
oneof_head = head (ident (codes "oneof")) word

-- What an `extend` statement begins with.
unfoldable pub extend_head : Parser (Span × TypeName × Span)
extend_head = head (ident (codes "extend")) type_name
