-- What a function that reads tokens ensures.
use Rattle.protox_lex.specs.Shown.{token_of}
use Rattle.protox_lex.specs.Token.{Token}
use Rattle.protox_lex.specs.declared.span.Span.{Span}
use Rattle.protox_tokens.specs.Parser.{Outcome}
use Rattle.protox_tokens.specs.Refusal.{Fault, fault_view}
use Rattle.protox_tokens.specs.Stream.{stream}
use Rattle.protox_tokens.specs.declared.fault.Stop.{Stop}
use Rattle.protox_tokens.specs.declared.fault.Stop.TheVariants.{Memory, Refused}
use Rattle.protox_tokens.specs.declared.tokens.Tokens.{Tokens}
use Rattle.std.specs.Prelude.{◌≡◌, Result, Ok, Err}
use Rattle.protox_lex.specs.declared.lexer.Lexeme as code

abbrev pub IsFault : Fault → Stop → Type 0
IsFault f Memory = ⊥
IsFault f (Refused e) = fault_view e ≡ f

abbrev pub Fails : {A : Type 0} → Stop → Outcome A → Type 0
Fails Memory outcome = Unit {0}
Fails (Refused f) outcome = outcome ≡ Err (fault_view f)

-- the parser's outcome, seen by view, unless memory ran out
abbrev pub Reads : {X A : Type 0} → (X → A) → Outcome A → Result X Stop → Tokens → Type 0
Reads view outcome (Ok x) new = outcome ≡ Ok (view x, stream new)
Reads view outcome (Err e) new = Fails e outcome

abbrev pub lexeme_view : code.Lexeme → Token × Span
lexeme_view l = (token_of l.token, l.span)
