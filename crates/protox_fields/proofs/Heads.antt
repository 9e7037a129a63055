-- What a statement begins with, read by one rule or step by step.
use Rattle.protox_fields.specs.StatementGrammar.{head}
use Rattle.protox_lex.specs.Token.{Token, sign}
use Rattle.protox_lex.specs.declared.span.Span.{Span}
use Rattle.protox_options.proofs.Behind.{Answers, behind, refused}
use Rattle.protox_tokens.specs.Parser.{Outcome, Parser, and_then, ◌>>=◌, pure, expect}
use Rattle.protox_tokens.specs.Reads.{Fails}
use Rattle.protox_tokens.specs.Stream.{Stream}
use Rattle.protox_tokens.specs.declared.fault.Stop.{Stop}
use Rattle.std.proofs.Common.{◌≡◌, Ok, Err, refl, subst}
use Rattle.protox_lex.specs.declared.token.Sign.TheVariants as s

module _ {A B : Type 0} (keyword : Token) (p : Parser A) (f : Span → A → Span → Parser B) where
  abbrev pub whole : Span × A × Span → Parser B
  whole x = f x.0 x.1 x.2

  abbrev pub steps : Parser B
  steps = expect keyword >>= (λ first. p >>= (λ a. expect (sign s.LeftBrace) >>= f first a))

  at_brace : (first : Span) (a : A) (o : Outcome Span) → and_then (and_then o (λ brace. pure (first, a, brace))) whole ≡ and_then o (f first a)
  at_brace first a (Ok x) = refl
  at_brace first a (Err e) = refl

  at_name : (first : Span) (o : Outcome A) → and_then (and_then o (λ a. expect (sign s.LeftBrace) >>= (λ brace. pure (first, a, brace)))) whole ≡ and_then o (λ a. expect (sign s.LeftBrace) >>= f first a)
  at_name first (Ok x) = at_brace first x.0 (expect (sign s.LeftBrace) x.1)
  at_name first (Err e) = refl

  at_keyword : (o : Outcome Span) → and_then (and_then o (λ first. p >>= (λ a. expect (sign s.LeftBrace) >>= (λ brace. pure (first, a, brace))))) whole ≡ and_then o (λ first. p >>= (λ a. expect (sign s.LeftBrace) >>= f first a))
  at_keyword (Ok x) = at_name x.0 (p x.1)
  at_keyword (Err e) = refl

  pub head_behind : {P : Outcome B → Type 0} {ts r : Stream} {x : Span × A × Span} → head keyword p ts ≡ Ok (x, r) → Answers P (whole x) r → Answers P steps ts
  head_behind {P = P} {ts = ts} e h = record { so = subst P (at_keyword (expect keyword ts)) (behind (head keyword p) whole e h).so }

  pub head_refused : {ts : Stream} (e : Stop) → Fails e (head keyword p ts) → Answers (Fails e) steps ts
  head_refused {ts = ts} e h = record { so = subst (Fails e) (at_keyword (expect keyword ts)) (refused (head keyword p) whole e h).so }
