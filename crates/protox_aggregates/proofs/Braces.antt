-- How braces are read, step by step.
use Rattle.protox_lex.specs.Token.{sign}
use Rattle.protox_lex.specs.declared.span.Span.{Span}
use Rattle.protox_lex.specs.declared.token.Sign.{Sign}
use Rattle.protox_aggregates.specs.AggregateGrammar.{must, fields_with, braces_at, open_by, opening, braces}
use Rattle.protox_tokens.specs.Parser.{Parser, and_then, ◌>>◌, pure, expect_in}
use Rattle.protox_tokens.specs.Refusal.{Fault, fault_view, too_deep}
use Rattle.protox_tokens.specs.Reads.{Fails}
use Rattle.protox_tokens.specs.Stream.{Stream, text}
use Rattle.protox_tokens.specs.declared.fault.Stop.{Stop}
use Rattle.protox_tokens.specs.declared.fault.Stop.TheVariants.{Memory, Refused}
use Rattle.std.proofs.Common.{◌≡◌, ℕ, zero, suc, ◌-◌, Some, Ok, Err, refl, ap, ◌∙◌, arith}

module _ (first close : Sign) (ts : Stream) (here : braces_at ts ≡ Some (first, close)) where
  unopened : (f : Fault) → expect_in text (sign first) ts ≡ Err f → opening ts ≡ Err f
  unopened f e = ap (λ o. open_by o ts) here ∙ ap (λ o. and_then {A = Span} {B = Sign × Span} o (λ at. pure (close, at))) e

  refuse : Sign × Span → Parser (Unit {0})
  refuse x = λ us. Err (too_deep x.1)

  pub closed_fails : (e : Stop) (levels : ℕ) → Fails e (expect_in text (sign first) ts) → Fails e (braces levels ts)
  unfolding braces refuse
  closed_fails Memory levels g = tt
  closed_fails (Refused f) zero g = ap (λ o. and_then o refuse) (unopened (fault_view f) g)
  closed_fails (Refused f) (suc levels) g =
      ap (λ o. and_then o (λ x. fields_with (braces levels) x.0 >> must x.0)) (unopened (fault_view f) g)

  module _ (at : Span) (r : Stream) (taken : expect_in text (sign first) ts ≡ Ok (at, r)) where
    opened : opening ts ≡ Ok ((close, at), r)
    opened = ap (λ o. open_by o ts) here ∙ ap (λ o. and_then {A = Span} {B = Sign × Span} o (λ at. pure (close, at))) taken

    module _ (levels below : ℕ) (some : levels ≡ suc below) where
      within : braces levels ts ≡ (fields_with (braces below) close >> must close) r
      unfolding braces
      within = ap (λ n. braces n ts) some ∙ ap (λ o. and_then o (λ x. fields_with (braces below) x.0 >> must x.0)) opened

      pub inside_fails : (e : Stop) → Fails e (fields_with (braces below) close r) → Fails e (braces levels ts)
      inside_fails Memory g = tt
      inside_fails (Refused f) g = within ∙ ap (λ o. and_then o (λ x. must close)) g

      pub inside_is : (u : Stream) → fields_with (braces below) close r ≡ Ok (tt, u) → braces levels ts ≡ must close u
      inside_is u g = within ∙ ap (λ o. and_then o (λ x. must close)) g

pub one_less : (n : ℕ) → (n ≡ 0 → ⊥) → n ≡ suc (n - 1)
one_less zero h = absurd (h refl)
one_less (suc n) h = omega arith
