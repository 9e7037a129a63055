-- How the block of a message or a group is read, step by step.
use Rattle.protox_lex.specs.Token.{sign}
use Rattle.protox_lex.specs.declared.span.Span.{Span}
use Rattle.protox_messages.specs.MessageGrammar.{Block, inside_with, block}
use Rattle.protox_options.proofs.Behind.{Answers, behind, refused}
use Rattle.protox_tokens.specs.Parser.{Outcome, Parser, ◌>>=◌, pure, expect}
use Rattle.protox_tokens.specs.Reads.{Fails}
use Rattle.protox_tokens.specs.Refusal.{too_deep}
use Rattle.protox_tokens.specs.Span.{across}
use Rattle.protox_tokens.specs.Stream.{Stream}
use Rattle.protox_tokens.specs.declared.fault.Stop.{Stop}
use Rattle.std.proofs.Common.{◌≡◌, ◌-◌, ℕ, zero, suc, Ok, Err, refl, subst, arith}
use Rattle.protox_lex.specs.declared.token.Sign.TheVariants as s

pub unopened : (levels : ℕ) {ts : Stream} (e : Stop) → Fails e (expect (sign s.LeftBrace) ts) → Answers (Fails e) (block levels) ts
unfolding block
unopened zero e h = refused (expect (sign s.LeftBrace)) _ e h
unopened (suc n) e h = refused (expect (sign s.LeftBrace)) _ e h

pub too_many : (levels : ℕ) {ts r : Stream} {brace : Span} → levels ≡ 0 → expect (sign s.LeftBrace) ts ≡ Ok (brace, r) → Answers (λ o. o ≡ Err (too_deep brace)) (block levels) ts
unfolding block
too_many zero none e = behind (expect (sign s.LeftBrace)) _ e (record { so = refl })
too_many (suc n) none e = absurd (omega arith)

abbrev pub behind_brace : Span → Block → Parser Block
behind_brace brace x = pure (x.0, across brace x.1)

pub in_braces : {P : Outcome Block → Type 0} (levels : ℕ) {ts r : Stream} {brace : Span} → (levels ≡ 0 → ⊥) → expect (sign s.LeftBrace) ts ≡ Ok (brace, r) → Answers P (inside_with (block (levels - 1)) >>= behind_brace brace) r → Answers P (block levels) ts
unfolding block
in_braces zero some e h = absurd (some refl)
in_braces {P = P} (suc n) {r = r} {brace = brace} some e h =
    let less : suc n - 1 ≡ n = omega arith in
    behind (expect (sign s.LeftBrace)) _ e (subst (λ m. Answers P (inside_with (block m) >>= behind_brace brace) r) less h)
