use Rattle.std.proofs.Common.{◌≡◌, ◌∙◌, drop, Ok, Err, subst, arith, refl, length-drop}
use Rattle.std.proofs.lemmas.List.{take_rest}
use Rattle.std.proofs.lemmas.Str.{IsCharBoundary-end}
use Rattle.text_lex.specs.Lex.{front, lexemes_from}
use Rattle.text_lex.specs.Shown.{token_of}
use Rattle.text_lex.specs.Token.{token}
use Rattle.text_lex.proofs.Fronts.{cut_within}
use Rattle.text_lex.proofs.Streams.{token_here, fault_here, invalid_here, end_here}
use Rattle.text_lex.proofs.lexer.Lexer.next.Goals as goal

pub returns-then-at-text-clause-ok : goal.returns-then-at-text-clause-ok
returns-then-at-text-clause-ok c =
    let text = c.args.self.now.text.now in
    let at = c.gap_end-at.result in
    let from = c.args.self.now.at in
    let passed = subst (λ w. lexemes_from from 0 (drop from w) ≡ lexemes_from at 0 (drop at w)) c.as_bytes.ensures.value c.gap_end-at.ensures.passed in
    let none = passed ∙ end_here at text (omega (arith, c.if-at-text.true)) in
    (none, none)

pub returns-in_default-clause-err : goal.returns-in_default-clause-err
returns-in_default-clause-err c =
    let text = c.args.self.now.text.now in
    let at = c.gap_end-at.result in
    let from = c.args.self.now.at in
    let passed = subst (λ w. lexemes_from from 0 (drop from w) ≡ lexemes_from at 0 (drop at w)) c.as_bytes.ensures.value c.gap_end-at.ensures.passed in
    (passed ∙ invalid_here at text (omega (arith, c.if-at-text.false)) (λ b. c.in_default.ensures.cases (omega arith) b (IsCharBoundary-end text)), refl)

pub overflow_add-span : goal.overflow_add-span
overflow_add-span c =
    let text = c.args.self.now.text.now in
    let at = c.gap_end-at.result in
    let from = c.args.self.now.at in
    let passed = subst (λ w. lexemes_from from 0 (drop from w) ≡ lexemes_from at 0 (drop at w)) c.as_bytes.ensures.value c.gap_end-at.ensures.passed in
    let rest : c.in-Some.rest.now ≡ drop at text = c.in-Some.ensures.cases.0 ∙ take_rest text at in
    let cut : front at (drop at text) ≡ Ok (token (token_of c.in-Ok.token), c.in-Ok.len) = subst (λ z. front at z ≡ Ok (token (token_of c.in-Ok.token), c.in-Ok.len)) rest c.in-Ok.ensures in
    let within = cut_within at (drop at text) (token (token_of c.in-Ok.token)) c.in-Ok.len (omega (arith, length-drop at text)) cut in
    omega (arith, within.1, length-drop at text)

pub invariant_of-self : goal.invariant_of-self
invariant_of-self c =
    let text = c.args.self.now.text.now in
    let at = c.gap_end-at.result in
    let from = c.args.self.now.at in
    let passed = subst (λ w. lexemes_from from 0 (drop from w) ≡ lexemes_from at 0 (drop at w)) c.as_bytes.ensures.value c.gap_end-at.ensures.passed in
    let rest : c.in-Some.rest.now ≡ drop at text = c.in-Some.ensures.cases.0 ∙ take_rest text at in
    let cut : front at (drop at text) ≡ Ok (token (token_of c.in-Ok.token), c.in-Ok.len) = subst (λ z. front at z ≡ Ok (token (token_of c.in-Ok.token), c.in-Ok.len)) rest c.in-Ok.ensures in
    let within = cut_within at (drop at text) (token (token_of c.in-Ok.token)) c.in-Ok.len (omega (arith, length-drop at text)) cut in
    record { within = omega (arith, within.1, length-drop at text) }

pub returns-in-Err-clause-err : goal.returns-in-Err-clause-err
returns-in-Err-clause-err c =
    let text = c.args.self.now.text.now in
    let at = c.gap_end-at.result in
    let from = c.args.self.now.at in
    let passed = subst (λ w. lexemes_from from 0 (drop from w) ≡ lexemes_from at 0 (drop at w)) c.as_bytes.ensures.value c.gap_end-at.ensures.passed in
    let rest : c.in-Some.rest.now ≡ drop at text = c.in-Some.ensures.cases.0 ∙ take_rest text at in
    let cut : front at (drop at text) ≡ Err c.in-Err.error = subst (λ z. front at z ≡ Err c.in-Err.error) rest c.in-Err.ensures in
    (passed ∙ fault_here at c.in-Err.error text (omega arith) cut, refl)

pub returns-in-Ok-clause-ok : goal.returns-in-Ok-clause-ok
returns-in-Ok-clause-ok c =
    let text = c.args.self.now.text.now in
    let at = c.gap_end-at.result in
    let from = c.args.self.now.at in
    let passed = subst (λ w. lexemes_from from 0 (drop from w) ≡ lexemes_from at 0 (drop at w)) c.as_bytes.ensures.value c.gap_end-at.ensures.passed in
    let rest : c.in-Some.rest.now ≡ drop at text = c.in-Some.ensures.cases.0 ∙ take_rest text at in
    let cut : front at (drop at text) ≡ Ok (token (token_of c.in-Ok.token), c.in-Ok.len) = subst (λ z. front at z ≡ Ok (token (token_of c.in-Ok.token), c.in-Ok.len)) rest c.in-Ok.ensures in
    let within = cut_within at (drop at text) (token (token_of c.in-Ok.token)) c.in-Ok.len (omega (arith, length-drop at text)) cut in
    passed ∙ token_here at c.in-Ok.len (token_of c.in-Ok.token) text (omega arith) cut within.0 within.1

pub returns-in-Ok-clause-moves : goal.returns-in-Ok-clause-moves
returns-in-Ok-clause-moves c =
    let text = c.args.self.now.text.now in
    let at = c.gap_end-at.result in
    let from = c.args.self.now.at in
    let passed = subst (λ w. lexemes_from from 0 (drop from w) ≡ lexemes_from at 0 (drop at w)) c.as_bytes.ensures.value c.gap_end-at.ensures.passed in
    let rest : c.in-Some.rest.now ≡ drop at text = c.in-Some.ensures.cases.0 ∙ take_rest text at in
    let cut : front at (drop at text) ≡ Ok (token (token_of c.in-Ok.token), c.in-Ok.len) = subst (λ z. front at z ≡ Ok (token (token_of c.in-Ok.token), c.in-Ok.len)) rest c.in-Ok.ensures in
    let within = cut_within at (drop at text) (token (token_of c.in-Ok.token)) c.in-Ok.len (omega (arith, length-drop at text)) cut in
    omega (arith, within.0, within.1, length-drop at text, c.gap_end-at.ensures.within.0)
