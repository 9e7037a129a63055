-- How a value in braces is read, in which text format stands: which tokens are its, what their text
-- is, and where it stands.
use Rattle.protox_lex.specs.Class.{Text}
use Rattle.protox_lex.specs.Token.{Token, ident, int, float, str, sign}
use Rattle.protox_lex.specs.declared.span.Span.{Span}
use Rattle.protox_lex.specs.declared.token.Sign.{Sign}
use Rattle.protox_aggregates.specs.BraceTexts.{text_by}
use Rattle.protox_tokens.specs.Parser.{Parser, ◌>>=◌, ◌>>◌, ◌<$>◌, pure, one, sees_in, pass_in, expect_in, expect, behind_in, when, until_in, many, done, choose, is_string_in}
use Rattle.protox_tokens.specs.Refusal.{Expected, an_ident, a_string, a_field_name, a_field_value, a_message_value, too_deep, refusal}
use Rattle.protox_tokens.specs.Span.{across}
use Rattle.protox_tokens.specs.Stream.{Stream, text}
use Rattle.std.specs.Prelude.{ℕ, zero, suc, Bool, if◌then◌else◌, Option, Some, None, Err, is_some}
use Rattle.protox_lex.specs.declared.token.Sign.TheVariants as s

-- What the rules of a value in braces give is that it stands there; its text is that of the tokens
-- which they take.
abbrev pub Passes : Type 0
Passes = Parser (Unit {0})

-- ---- tokens

abbrev pub is_ident : Token → Span → Option (Unit {0})
is_ident (ident t) at = Some tt
is_ident _ at = None

abbrev pub is_literal : Token → Span → Option (Unit {0})
is_literal (str raw) at = Some tt
is_literal _ at = None

-- an identifier, or a number without a sign
abbrev pub is_plain : Token → Span → Option (Unit {0})
is_plain (ident t) at = Some tt
is_plain (int n) at = Some tt
is_plain (float t) at = Some tt
is_plain _ at = None

abbrev pub passes : Sign → Parser Bool
passes k = pass_in text (sign k)

abbrev pub must : Sign → Passes
must k = expect_in text (sign k) >> done

-- ---- names and scalars

-- One word, and how it is called where it is missing.
unfoldable pub an_ident_as : Expected → Passes
an_ident_as expected = one text expected is_ident

-- Words with dots between them.
unfoldable pub dotted : Passes
dotted = an_ident_as an_ident >> many (behind_in text (sign s.Dot) (an_ident_as an_ident))

abbrev pub dotted_if : Bool → Passes
dotted_if slash = if slash then dotted else done

-- A slash and a name, or nothing.
unfoldable pub behind_slash : Passes
behind_slash = passes s.ForwardSlash >>= dotted_if

abbrev pub bracketed_if : Bool → Passes
bracketed_if bracket = if bracket then dotted >> behind_slash >> must s.RightBracket
    else an_ident_as a_field_name

-- A field's name is a word, or the name of an extension or of a type in brackets.
unfoldable pub field_name : Passes
field_name = passes s.LeftBracket >>= bracketed_if

unfoldable pub a_literal : Passes
a_literal = one text a_string is_literal

-- One literal or more.
unfoldable pub literals : Passes
literals = a_literal >> many (when (is_string_in text) a_literal)

unfoldable pub a_plain : Passes
a_plain = one text a_field_value is_plain

-- A scalar is a string, or a word or a number, before which a minus may stand.
unfoldable pub scalar : Passes
scalar = choose (is_string_in text) literals (passes s.Minus >> a_plain)

-- ---- braces

-- The brace that opens here, and the one that closes it.
abbrev pub braces_at : Stream → Option (Sign × Sign)
braces_at ts =
    if sees_in text (sign s.LeftBrace) ts then Some (s.LeftBrace, s.RightBrace)
    else if sees_in text (sign s.LeftAngleBracket) ts
    then Some (s.LeftAngleBracket, s.RightAngleBracket)
    else None

abbrev pub opens : Stream → Bool
opens ts = is_some (braces_at ts)

-- A comma or a semicolon may follow a field.
abbrev pub semicolon_unless : Bool → Passes
semicolon_unless comma = if comma then done else passes s.Semicolon >> done

unfoldable pub separator : Passes
separator = passes s.Comma >>= semicolon_unless

-- the rules that hold with these braces inside
module _ (inner : Passes) where
  unfoldable pub value_with : Passes
  value_with = choose opens inner scalar

  abbrev pub elements_unless : Bool → Passes
  elements_unless empty =
      if empty then done
      else value_with >> many (behind_in text (sign s.Comma) value_with) >> must s.RightBracket

  -- A list behind its opening bracket.
  unfoldable pub list_with : Passes
  list_with = passes s.RightBracket >>= elements_unless

  abbrev pub list_or_value : Bool → Passes
  list_or_value bracket = if bracket then list_with else value_with

  abbrev pub behind_colon : Bool → Passes
  behind_colon colon = if colon then passes s.LeftBracket >>= list_or_value else inner

  -- Without a colon only braces may stand behind a field's name.
  unfoldable pub field_value_with : Passes
  field_value_with = passes s.Colon >>= behind_colon

  unfoldable pub field_with : Passes
  field_with = field_name >> field_value_with >> separator

  -- Fields up to this brace.
  unfoldable pub fields_with : Sign → Passes
  fields_with close = many (until_in text (sign close) field_with)

abbrev pub open_by : Option (Sign × Sign) → Parser (Sign × Span)
open_by None = λ ts. Err (refusal text a_message_value ts)
open_by (Some pair) = (λ at. (pair.1, at)) <$> expect_in text (sign pair.0)

-- An opening brace: the one that closes it, and where it stands.
abbrev pub opening : Parser (Sign × Span)
opening = λ ts. open_by (braces_at ts) ts

-- Fields in braces, of which so many may be open at once.
unfoldable pub braces : ℕ → Passes
braces zero = opening >>= (λ first. (λ ts. Err (too_deep first.1)))
braces (suc levels) = opening >>= (λ first. fields_with (braces levels) first.0 >> must first.0)

-- Of the braces of an option's value, inside which a hundred pairs may be open at once, their place
-- and the text of what stands between them are kept.
unfoldable pub aggregate : Parser (Text × Span)
aggregate = do
  first ← expect (sign s.LeftBrace)
  inside ← text_by (fields_with (braces 100) s.RightBrace)
  close ← expect_in text (sign s.RightBrace)
  pure (inside, across first close)
