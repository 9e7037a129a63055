-- How options are read.
use Rattle.protox_lex.specs.Token.{Token, ident, int, float, sign}
use Rattle.protox_lex.specs.declared.span.Span.{Span}
use Rattle.protox_aggregates.specs.AggregateGrammar.{aggregate}
use Rattle.protox_options.specs.NameGrammar.{type_name, strings}
use Rattle.protox_tokens.specs.Parser.{Parser, ◌>>=◌, ◌>>◌, ◌<$>◌, pure, sees, eat, expect, one, word, some_by, choose, is_string}
use Rattle.protox_tokens.specs.Refusal.{an_option_value, a_number, lex_fault}
use Rattle.protox_tokens.specs.Span.{across}
use Rattle.protox_tokens.specs.Stream.{source}
use Rattle.protox_tree.specs.Tree.{TypeName, NamePart, plain, extension, Value, word_value, minus_word, int_value, float_value, strings_value, braces_value, Body, OptionStatement, OptionList}
use Rattle.std.specs.Prelude.{◌^◌, nat_le, true, false, ◌||◌, if◌then◌else◌, List, Option, Some, None, Err, codes}
use Rattle.std.specs.Str.{bytes_eq}
use Rattle.protox_lex.specs.declared.error.LexErrorKind.TheVariants as kinds
use Rattle.protox_lex.specs.declared.token.Sign.TheVariants as s

-- ---- names

-- A type's name and its closing parenthesis.
unfoldable pub in_parens : Span → Parser (TypeName × Span)
in_parens first = do
  name ← type_name
  close ← expect (sign s.RightParen)
  pure (name, across first close)

abbrev pub part_after : Option Span → Parser NamePart
part_after (Some first) = (λ x. extension x.0 x.1) <$> in_parens first
part_after None = plain <$> word

-- A part of an option's name is a word, or the name of an extension in parentheses.
unfoldable pub name_part : Parser NamePart
name_part = eat (sign s.LeftParen) >>= part_after

-- An option's name has dots between its parts.
unfoldable pub name : Parser (List NamePart)
name = some_by (sign s.Dot) name_part

-- ---- values

-- What a word or a number without a sign is as a value.
abbrev pub plain_of : Token → Span → Option Value
plain_of (ident t) at = Some (word_value (record { text = t; span = at }))
plain_of (int n) at = Some (int_value (record { negative = false; value = n; span = at }))
plain_of (float t) at = Some (float_value false (record { text = t; span = at }))
plain_of _ at = None

-- What a token behind a minus is as a value, of which that is the place: a number, `inf` or `nan`.
abbrev pub negative_of : Token → Span → Option Value
negative_of (int n) at = Some (int_value (record { negative = true; value = n; span = at }))
negative_of (float t) at = Some (float_value true (record { text = t; span = at }))
negative_of (ident t) at =
    if bytes_eq t (codes "inf") || bytes_eq t (codes "nan")
    then Some (minus_word (record { text = t; span = at }))
    else None
negative_of _ at = None

-- An integer behind a minus is at least -2^63.
abbrev pub in_range : Value → Parser Value
in_range (int_value n) =
    if nat_le n.value (2 ^ 63)
    then pure (int_value n)
    else (λ ts. Err (lex_fault kinds.IntegerOutOfRange n.span))
in_range v = pure v

unfoldable pub negative : Span → Parser Value
negative minus = one source a_number (λ t at. negative_of t (across minus at)) >>= in_range

unfoldable pub plain_value : Parser Value
plain_value = one source an_option_value plain_of

abbrev pub signed_or_plain : Option Span → Parser Value
signed_or_plain (Some minus) = negative minus
signed_or_plain None = choose (sees (sign s.LeftBrace))
    ((λ a. braces_value a.0 a.1) <$> aggregate) plain_value

-- An option's value: a string, or what stands behind a minus, or braces, or a word or a number.
unfoldable pub value : Parser Value
value = choose is_string (strings_value <$> strings) (eat (sign s.Minus) >>= signed_or_plain)

-- ---- options

-- A name, `=` and a value.
unfoldable pub body : Parser Body
body = do
  n ← name
  expect (sign s.Equals)
  v ← value
  pure (record { name = n; value = v })

-- The statement `option .. ;`.
unfoldable pub option : Parser OptionStatement
option = do
  first ← expect (ident (codes "option"))
  b ← body
  last ← expect (sign s.Semicolon)
  pure (record { body = b; span = across first last })

unfoldable pub bodies : Parser (List Body)
bodies = some_by (sign s.Comma) body

unfoldable pub in_brackets : Span → Parser OptionList
in_brackets first = do
  bs ← bodies
  close ← expect (sign s.RightBracket)
  pure (record { options = bs; span = across first close })

abbrev pub options_after : Option Span → Parser (Option OptionList)
options_after None = pure None
options_after (Some first) = Some <$> in_brackets first

-- Options in brackets with commas between them, or none.
unfoldable pub options : Parser (Option OptionList)
options = eat (sign s.LeftBracket) >>= options_after
