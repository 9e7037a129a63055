-- The tokens of a value in braces, in which text format stands, by the text format specification's
-- productions of fields and values.
use Rattle.protox_aggregates.specs.BraceTexts.{text_of}
use Rattle.protox_lex.specs.Class.{Text}
use Rattle.protox_lex.specs.Token.{Token, ident, int, float, str, sign}
use Rattle.protox_lex.specs.declared.span.Span.{Span}
use Rattle.protox_lex.specs.declared.token.Sign.{Sign}
use Rattle.protox_tokens.specs.Stream.{Stream, Seen, look, text}
use Rattle.source_grammar.specs.Languages.{Language, never, token_at, begins, ends, ◌▸◌, ◌∪◌, perhaps, many}
use Rattle.std.specs.Prelude.{[], ◌≡◌, ◌-◌, ℕ, zero, suc, ◌∷◌, length, take, Some, None}
use Rattle.protox_lex.specs.declared.token.Sign.TheVariants as s

-- ---- tokens

abbrev pub SeesToken : (Token → Span → Type 0) → Seen → Type 0
SeesToken Is None = ⊥
SeesToken Is (Some x) = Is x.0 x.1

-- one token as text format has it
abbrev pub in_text : (Token → Span → Type 0) → Language
in_text Is [] r = ⊥
in_text Is (p ∷ ts) r = SeesToken Is (look text p) × (ts ≡ r)

abbrev pub a_sign : Sign → Language
a_sign k = in_text (λ t at. t ≡ sign k)

abbrev pub an_ident : Language
an_ident = in_text (λ t at. (x : Text) × (t ≡ ident x))

abbrev pub a_literal : Language
a_literal = in_text (λ t at. (x : Text) × (t ≡ str x))

-- an identifier, or a number without its sign
abbrev pub a_plain : Language
a_plain =
    in_text (λ t at. (x : Text) × (t ≡ ident x))
    ∪ (in_text (λ t at. (n : ℕ) × (t ≡ int n)) ∪ in_text (λ t at. (x : Text) × (t ≡ float x)))

-- ---- names and scalars

-- TypeName = IDENT { "." IDENT }
abbrev pub dotted : Language
dotted = an_ident ▸ many (a_sign s.Dot ▸ an_ident)

-- FieldName = "[" ( Domain "/" TypeName | TypeName ) "]" | IDENT
abbrev pub field_name : Language
field_name =
    (a_sign s.LeftBracket ▸ dotted
    ▸ perhaps (a_sign s.ForwardSlash ▸ dotted) ▸ a_sign s.RightBracket)
    ∪ an_ident

-- ScalarValue = String | [ "-" ] ( IDENT | number )
abbrev pub scalar : Language
scalar = (a_literal ▸ many a_literal) ∪ (perhaps (a_sign s.Minus) ▸ a_plain)

-- [ "," | ";" ]
abbrev pub separator : Language
separator = a_sign s.Comma ∪ perhaps (a_sign s.Semicolon)

-- ---- fields, whose messages are of this language

module _ (message : Language) where
  abbrev pub a_value : Language
  a_value = message ∪ scalar

  -- "[" [ value { "," value } ] "]"
  abbrev pub a_list : Language
  a_list =
      a_sign s.LeftBracket
      ▸ perhaps (a_value ▸ many (a_sign s.Comma ▸ a_value)) ▸ a_sign s.RightBracket

  -- FieldName ":" ( list | value ), or FieldName MessageValue
  abbrev pub a_field : Language
  a_field = field_name ▸ ((a_sign s.Colon ▸ (a_list ∪ a_value)) ∪ message) ▸ separator

-- MessageValue = "{" { Field } "}" | "<" { Field } ">", of so many levels at most
abbrev pub message : ℕ → Language
message zero = never
message (suc n) =
    (a_sign s.LeftBrace ▸ many (a_field (message n)) ▸ a_sign s.RightBrace)
    ∪ (a_sign s.LeftAngleBracket ▸ many (a_field (message n)) ▸ a_sign s.RightAngleBracket)

-- The first tokens, as far as they are not of the second ones.
abbrev pub between : Stream → Stream → Stream
between ts r = take (length ts - length r) ts

-- fields, and the text of their tokens
abbrev pub fields_as : Text → Language
fields_as x ts r = many (a_field (message 100)) ts r × (x ≡ text_of (between ts r))

-- A value in braces, of which the tree keeps its text and its place.
abbrev pub an_aggregate : Text → Span → Language
an_aggregate x whole =
    token_at (sign s.LeftBrace) (begins whole)
    ▸ fields_as x ▸ in_text (λ t at. (t ≡ sign s.RightBrace) × ends whole at)
