-- The tokens of options, by the language specification's sections "Option" and "Constant".
use Rattle.protox_lex.specs.Class.{Text}
use Rattle.protox_lex.specs.Token.{Token, ident, float, sign}
use Rattle.protox_lex.specs.declared.literal.Int.{Int}
use Rattle.protox_lex.specs.declared.span.Span.{Span}
use Rattle.protox_tokens.specs.Marks.{spot}
use Rattle.protox_tokens.specs.Parser.{sees}
use Rattle.protox_tokens.specs.Stream.{Stream}
use Rattle.protox_tree.specs.Tree.{NamePart, plain, extension, Value, word_value, minus_word, int_value, float_value, strings_value, braces_value, Body, OptionStatement, OptionList}
use Rattle.source_grammar.specs.Aggregates.{an_aggregate}
use Rattle.source_grammar.specs.Languages.{Language, nothing, one, the, token_at, begins, ends, ◌▸◌, some_by, given}
use Rattle.source_grammar.specs.Names.{a_word, a_type_name, integer, a_string, NoString}
use Rattle.std.specs.Prelude.{◌≡◌, ◌⊎◌, ◌≤◌, ◌^◌, true, false, List, Option, Some, None, codes}
use Rattle.protox_lex.specs.declared.token.Sign.TheVariants as s

-- ident | "(" [ "." ] fullIdent ")"
abbrev pub a_name_part : NamePart → Language
a_name_part (plain w) = a_word w
a_name_part (extension t whole) =
    token_at (sign s.LeftParen) (begins whole)
    ▸ a_type_name t ▸ token_at (sign s.RightParen) (ends whole)

-- optionName, with dots between its parts
abbrev pub an_option_name : List NamePart → Language
an_option_name ps = some_by (sign s.Dot) a_name_part ps

-- a minus, and this token behind it
abbrev pub minus : Span → Token → Language
minus whole k = token_at (sign s.Minus) (begins whole) ▸ token_at k (ends whole)

-- The numbers without digits.
abbrev pub IsNoDigits : Text → Type 0
IsNoDigits x = (x ≡ codes "inf") ⊎ (x ≡ codes "nan")

-- An integer behind a minus is at least -2^63; one without it is any that the lexer gives.
abbrev pub IsInRange : Int → Type 0
IsInRange n = n.negative ≡ true → n.value ≤ 2 ^ 63

-- constant = fullIdent | ( [ "-" | "+" ] intLit ) | ( [ "-" | "+" ] floatLit ) | strLit | boolLit
-- | messageValue, where of fullIdent one word alone is taken, no `+`, and `-` before `inf` and `nan`
-- too
abbrev pub a_constant : Value → Language
a_constant (word_value w) = a_word w
a_constant (minus_word w) = given (IsNoDigits w.text) (minus w.span (ident w.text))
a_constant (int_value n) = given (IsInRange n) (integer n)
a_constant (float_value false w) = one (spot w.span (float w.text))
a_constant (float_value true w) = minus w.span (float w.text)
a_constant (strings_value ws) = a_string ws
a_constant (braces_value x whole) = an_aggregate x whole

-- optionName "=" constant
abbrev pub a_body : Body → Language
a_body b = an_option_name b.name ▸ the (sign s.Equals) ▸ a_constant b.value

-- option = "option" optionName "=" constant ";"
abbrev pub an_option : OptionStatement → Language
an_option o =
    token_at (ident (codes "option")) (begins o.span)
    ▸ a_body o.body ▸ token_at (sign s.Semicolon) (ends o.span)

-- [ "[" optionName "=" constant { "," optionName "=" constant } "]" ]
abbrev pub options : Option OptionList → Language
options None = nothing
options (Some o) =
    token_at (sign s.LeftBracket) (begins o.span)
    ▸ some_by (sign s.Comma) a_body o.options ▸ token_at (sign s.RightBracket) (ends o.span)

-- ---- what may follow

-- A constant that is a string goes on with a literal.
abbrev pub ConstantEnds : Value → Stream → Type 0
ConstantEnds (strings_value ws) r = NoString ws r
ConstantEnds _ r = Unit {0}

-- Where no options are read, no bracket stands.
abbrev pub NoBracket : Option OptionList → Stream → Type 0
NoBracket None r = sees (sign s.LeftBracket) r ≡ false
NoBracket (Some o) r = Unit {0}
