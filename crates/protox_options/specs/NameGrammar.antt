-- How names, numbers and strings are read.
use Rattle.protox_lex.specs.Token.{sign}
use Rattle.protox_lex.specs.declared.literal.Int.{Int}
use Rattle.protox_lex.specs.declared.span.Span.{Span}
use Rattle.protox_tokens.specs.Parser.{Parser, ◌>>=◌, pure, eat, word, digits, literal, loop, behind, when, is_string}
use Rattle.protox_tokens.specs.Span.{across}
use Rattle.protox_tree.specs.Tree.{Word, TypeName}
use Rattle.std.specs.Prelude.{List, ◌∷◌, Option, Some, None, is_some}
use Rattle.protox_lex.specs.declared.token.Sign.TheVariants as s

-- The parts of a name whose first part is this one.
unfoldable pub parts_after : Word → Parser (List Word)
parts_after first = do
  rest ← loop (behind (sign s.Dot) word)
  pure (first ∷ rest)

-- A name is one word or more, with dots between them.
unfoldable pub full_ident : Parser (List Word)
full_ident = do
  first ← word
  parts_after first

-- A type's name may begin with a dot.
unfoldable pub type_name : Parser TypeName
type_name = do
  dot ← eat (sign s.Dot)
  parts ← full_ident
  pure (record { leading_dot = dot; parts = parts })

-- Where a number stands: from its sign on, if it has one.
abbrev pub from_sign : Option Span → Span → Span
from_sign None digits = digits
from_sign (Some minus) digits = across minus digits

-- An integer may have a minus before it.
unfoldable pub an_int : Parser Int
an_int = do
  minus ← eat (sign s.Minus)
  found ← digits
  pure (record { negative = is_some minus; value = found.0; span = from_sign minus found.1 })

-- A string is one literal or more.
unfoldable pub strings : Parser (List Word)
strings = do
  first ← literal
  rest ← loop (when is_string literal)
  pure (first ∷ rest)
