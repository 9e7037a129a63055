-- The rules of values in braces look one token ahead, and each turn of their loops takes one.
use Rattle.protox_aggregates.proofs.Written.{Local-text_by}
use Rattle.protox_lex.specs.Token.{sign}
use Rattle.protox_lex.specs.declared.span.Span.{Span}
use Rattle.protox_lex.specs.declared.token.Sign.{Sign}
use Rattle.protox_aggregates.specs.AggregateGrammar.{Passes, is_ident, is_literal, is_plain, must, an_ident_as, dotted, behind_slash, bracketed_if, field_name, a_literal, literals, a_plain, scalar, opens, separator, value_with, elements_unless, list_with, behind_colon, field_value_with, field_with, fields_with, open_by, opening, braces, aggregate}
use Rattle.protox_tokens.proofs.Local.{Local, IsOfHead, same_start, Local-bind, Local-pure, Local-if, Local-choose, Local-when, Local-until_in, Local-one, Local-expect_in, Local-expect, Local-pass_in, Local-behind_in, Local-loop, Local-refused, Local-too_deep, Local-same, of_head-sees_in, of_head-string_in, Keeps-local, Moves, Moves-first, Moves-one, Moves-pass_in, Shortens-when, Shortens-behind_in}
use Rattle.protox_tokens.proofs.Loops.{Shortens}
use Rattle.protox_tokens.specs.Parser.{Parser, behind_in, when, until_in, many, choose, sees_in, is_string_in}
use Rattle.protox_tokens.specs.Refusal.{Expected, an_ident, a_string, a_field_name, a_field_value, a_message_value}
use Rattle.protox_tokens.specs.Stream.{Stream, text}
use Rattle.std.proofs.Common.{◌≡◌, ℕ, zero, suc, Bool, true, false, Option, Some, None, refl}
use Rattle.std.specs.Prelude.{if◌then◌else◌}
use Rattle.protox_lex.specs.declared.token.Sign.TheVariants as s

Local-many : {step : Parser (Option (Unit {0}))} → Local step → Shortens step → Local (many step)
Local-many l short = Local-bind (Local-loop _ l short) (λ xs. Local-pure tt)

Local-must : (k : Sign) → Local (must k)
Local-must k = Local-bind (Local-expect_in text (sign k)) (λ p. Local-pure tt)

-- ---- names and scalars

Local-ident : (e : Expected) → Local (an_ident_as e)
unfolding an_ident_as
Local-ident e = Local-one text e is_ident

Moves-ident : (e : Expected) → Moves (an_ident_as e)
unfolding an_ident_as
Moves-ident e = Moves-one text e is_ident

pub dotted_turns : Shortens (behind_in text (sign s.Dot) (an_ident_as an_ident))
dotted_turns = Shortens-behind_in text (sign s.Dot) (Keeps-local (Local-ident an_ident))

Local-dotted : Local dotted
unfolding dotted
Local-dotted = Local-bind (Local-ident an_ident) (λ x.
    Local-many (Local-behind_in text (sign s.Dot) (Local-ident an_ident)) dotted_turns)

Local-slash : Local behind_slash
unfolding behind_slash
Local-slash = Local-bind (Local-pass_in text _) (λ b. Local-if b Local-dotted (Local-pure tt))

Local-bracketed : (b : Bool) → Local (bracketed_if b)
Local-bracketed b = Local-if b
    (Local-bind (Local-bind Local-dotted (λ x. Local-slash)) (λ x. Local-must s.RightBracket))
    (Local-ident a_field_name)

Local-field_name : Local field_name
unfolding field_name
Local-field_name = Local-bind (Local-pass_in text _) Local-bracketed

Moves-field_name : Moves field_name
unfolding field_name
Moves-field_name =
    Moves-pass_in text (sign s.LeftBracket) bracketed_if (Keeps-local (Local-bracketed true)) (Moves-ident a_field_name)

Local-literal : Local a_literal
unfolding a_literal
Local-literal = Local-one text a_string is_literal

pub literals_turns : Shortens (when (is_string_in text) a_literal)
unfolding a_literal
literals_turns = Shortens-when (is_string_in text) (Moves-one text a_string is_literal)

Local-literals : Local literals
unfolding literals
Local-literals = Local-bind Local-literal (λ x.
    Local-many (Local-when (is_string_in text) (of_head-string_in text) Local-literal) literals_turns)

Local-plain : Local a_plain
unfolding a_plain
Local-plain = Local-one text a_field_value is_plain

Local-scalar : Local scalar
unfolding scalar
Local-scalar = Local-choose (is_string_in text) (of_head-string_in text) _ _
    Local-literals (Local-bind (Local-pass_in text _) (λ b. Local-plain))

-- ---- braces

of_head-opens : IsOfHead opens
of_head-opens = record { at = λ r s h. same_start opens r s (λ x t u. refl) h }

Local-separator : Local separator
unfolding separator
Local-separator = Local-bind (Local-pass_in text _) (λ b.
    Local-if b (Local-pure tt) (Local-bind (Local-pass_in text _) (λ c. Local-pure tt)))

module _ (inner : Passes) (local : Local inner) where
  Local-value : Local (value_with inner)
  unfolding value_with
  Local-value = Local-choose opens of_head-opens _ _ local Local-scalar

  pub list_turns : Shortens (behind_in text (sign s.Comma) (value_with inner))
  list_turns = Shortens-behind_in text (sign s.Comma) (Keeps-local Local-value)

  Local-elements : (b : Bool) → Local (elements_unless inner b)
  Local-elements b = Local-if b (Local-pure tt) (Local-bind
      (Local-bind Local-value (λ x. Local-many (Local-behind_in text (sign s.Comma) Local-value) list_turns))
      (λ x. Local-must s.RightBracket))

  Local-list : Local (list_with inner)
  unfolding list_with
  Local-list = Local-bind (Local-pass_in text _) Local-elements

  Local-behind_colon : (b : Bool) → Local (behind_colon inner b)
  Local-behind_colon b =
      Local-if b (Local-bind (Local-pass_in text _) (λ c. Local-if c Local-list Local-value)) local

  Local-field_value : Local (field_value_with inner)
  unfolding field_value_with
  Local-field_value = Local-bind (Local-pass_in text _) Local-behind_colon

  Local-field : Local (field_with inner)
  unfolding field_with
  Local-field = Local-bind (Local-bind Local-field_name (λ x. Local-field_value)) (λ x. Local-separator)

  Moves-field : Moves (field_with inner)
  unfolding field_with
  Moves-field = Moves-first
      (Moves-first Moves-field_name (λ x. Keeps-local Local-field_value)) (λ x. Keeps-local Local-separator)

  pub fields_turns : (close : Sign) → Shortens (until_in text (sign close) (field_with inner))
  fields_turns close = Shortens-when _ Moves-field

  Local-fields : (close : Sign) → Local (fields_with inner close)
  unfolding fields_with
  Local-fields close = Local-many (Local-until_in text (sign close) Local-field) (fields_turns close)

Local-open_by : (o : Option (Sign × Sign)) → Local (open_by o)
Local-open_by (Some pair) = Local-bind (Local-expect_in text _) (λ p. Local-pure _)
Local-open_by None = Local-refused text a_message_value

-- the same, as a choice by what is ahead
chosen : Parser (Sign × Span)
chosen =
    choose (sees_in text (sign s.LeftBrace)) (open_by (Some (s.LeftBrace, s.RightBrace)))
    (choose (sees_in text (sign s.LeftAngleBracket)) (open_by (Some (s.LeftAngleBracket, s.RightAngleBracket)))
    (open_by None))

opening_is : (ts : Stream) → opening ts ≡ chosen ts
unfolding chosen
opening_is ts = by (sees_in text (sign s.LeftBrace) ts) (sees_in text (sign s.LeftAngleBracket) ts) where
  by : (b c : Bool)
      → open_by (if b then Some (s.LeftBrace, s.RightBrace) else if c then Some (s.LeftAngleBracket, s.RightAngleBracket) else None) ts
      ≡ (if b then open_by (Some (s.LeftBrace, s.RightBrace)) ts else if c then open_by (Some (s.LeftAngleBracket, s.RightAngleBracket)) ts else open_by None ts)
  by true c = refl
  by false true = refl
  by false false = refl

Local-opening : Local opening
unfolding chosen
Local-opening = Local-same opening_is
    (Local-choose (sees_in text (sign s.LeftBrace)) (of_head-sees_in text (sign s.LeftBrace)) _ _
    (Local-open_by (Some (s.LeftBrace, s.RightBrace)))
    (Local-choose (sees_in text (sign s.LeftAngleBracket)) (of_head-sees_in text (sign s.LeftAngleBracket)) _ _
    (Local-open_by (Some (s.LeftAngleBracket, s.RightAngleBracket))) (Local-open_by None)))

pub Local-braces : (levels : ℕ) → Local (braces levels)
unfolding braces
Local-braces zero = Local-bind Local-opening (λ first. Local-too_deep first.1)
Local-braces (suc levels) = Local-bind Local-opening (λ first.
    Local-bind (Local-fields (braces levels) (Local-braces levels) first.0) (λ x. Local-must first.0))

pub Local-aggregate : Local aggregate
unfolding aggregate
Local-aggregate = Local-bind (Local-expect _) (λ p.
    Local-bind (Local-text_by (Local-fields (braces 100) (Local-braces 100) s.RightBrace)) (λ x.
    Local-bind (Local-expect_in text _) (λ q. Local-pure _)))
