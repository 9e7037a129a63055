use Rattle.std.proofs.Common.{◌∙◌, ap, sym, subst, slice_index, IsCharBoundary, arith}
use Rattle.protox_lex.specs.Shown as source
use Rattle.protox_lex.specs.Token as sources
use Rattle.protox_lex.proofs.PieceSpelling.{longest_of}
use Rattle.protox_lex.proofs.Pieces.{IsCut, IsFlaw}
use Rattle.text_lex.specs.Lex as spec
use Rattle.text_lex.specs.Shown.{token_of}
use Rattle.text_lex.specs.Token.{token}
use Rattle.text_lex.proofs.Boundaries.{int_boundary, fault_within}
use Rattle.text_lex.proofs.Sources.{BeginsToken, token_found, fault_found, not_nothing}
use Rattle.text_lex.proofs.lexer.source_token.Goals as goal

pub text_token-requires : goal.text_token-requires
text_token-requires c =
    let z = c.args.rest.now in
    let begins : BeginsToken (slice_index z 0) = record { blank = c.requires.begins.0; hash = c.requires.begins.1; slash = c.requires.slash } in
    let l = c.in-Ok-Some.lexeme in
    let found = token_found z c.requires.some begins c.args.at _ c.new-source.ensures l.span.start l.span.end (source.token_of l.token) _ (rw c.in-Ok-Some.field-0-is at c.in-Ok-Some.ensures.ok) in
    λ n is. int_boundary z n l.span.end c.utf8.rest (longest_of z _ l.span.end (subst (λ t. IsCut z (sources.token t) l.span.end) is found.0))

pub taken-requires : goal.taken-requires
taken-requires c =
    let z = c.args.rest.now in
    let begins : BeginsToken (slice_index z 0) = record { blank = c.requires.begins.0; hash = c.requires.begins.1; slash = c.requires.slash } in
    let l = c.in-Ok-Some.lexeme in
    let found = token_found z c.requires.some begins c.args.at _ c.new-source.ensures l.span.start l.span.end (source.token_of l.token) _ (rw c.in-Ok-Some.field-0-is at c.in-Ok-Some.ensures.ok) in
    omega (arith, c.requires.fits, found.0.within)

pub refused-requires-clause-start : goal.refused-requires-clause-start
refused-requires-clause-start c =
    let z = c.args.rest.now in
    let begins : BeginsToken (slice_index z 0) = record { blank = c.requires.begins.0; hash = c.requires.begins.1; slash = c.requires.slash } in
    let e = c.in-Err.error in
    let found = fault_found z c.requires.some begins c.args.at _ c.new-source.ensures e.kind e.span.start e.span.end c.in-Err.ensures.err.0 in
    omega (arith, c.requires.fits, (fault_within z e.kind e.span.start e.span.end c.requires.slash found.0).first)

pub refused-requires-clause-end : goal.refused-requires-clause-end
refused-requires-clause-end c =
    let z = c.args.rest.now in
    let begins : BeginsToken (slice_index z 0) = record { blank = c.requires.begins.0; hash = c.requires.begins.1; slash = c.requires.slash } in
    let e = c.in-Err.error in
    let found = fault_found z c.requires.some begins c.args.at _ c.new-source.ensures e.kind e.span.start e.span.end c.in-Err.ensures.err.0 in
    omega (arith, c.requires.fits, (fault_within z e.kind e.span.start e.span.end c.requires.slash found.0).last)

pub refused-requires-clause-cut : goal.refused-requires-clause-cut
refused-requires-clause-cut c =
    let z = c.args.rest.now in
    let begins : BeginsToken (slice_index z 0) = record { blank = c.requires.begins.0; hash = c.requires.begins.1; slash = c.requires.slash } in
    let e = c.in-Err.error in
    let found = fault_found z c.requires.some begins c.args.at _ c.new-source.ensures e.kind e.span.start e.span.end c.in-Err.ensures.err.0 in
    λ is. (let h = subst (λ k. IsFlaw z k e.span.start e.span.end) is found.0 in subst (IsCharBoundary z) (sym h.6) (int_boundary z h.0 h.1 c.utf8.rest (longest_of z _ h.1 h.2)))

pub returns-in-Ok-Some : goal.returns-in-Ok-Some
returns-in-Ok-Some c =
    let z = c.args.rest.now in
    let begins : BeginsToken (slice_index z 0) = record { blank = c.requires.begins.0; hash = c.requires.begins.1; slash = c.requires.slash } in
    let l = c.in-Ok-Some.lexeme in
    let found = token_found z c.requires.some begins c.args.at _ c.new-source.ensures l.span.start l.span.end (source.token_of l.token) _ (rw c.in-Ok-Some.field-0-is at c.in-Ok-Some.ensures.ok) in
    let same = ap (λ o. spec.taken c.args.at o l.span.end) c.text_token.ensures ∙ sym found.1 in
    subst (source.Returns (λ p. (token (token_of p.0), p.1)) c.taken.result) same c.taken.ensures

pub returns-in-Ok-None : goal.returns-in-Ok-None
returns-in-Ok-None c =
    let z = c.args.rest.now in
    let begins : BeginsToken (slice_index z 0) = record { blank = c.requires.begins.0; hash = c.requires.begins.1; slash = c.requires.slash } in
    absurd (not_nothing z c.requires.some begins c.args.at _ c.new-source.ensures (rw c.in-Ok-None.field-0-is at c.in-Ok-None.ensures.ok).0)

pub returns-in-Err : goal.returns-in-Err
returns-in-Err c =
    let z = c.args.rest.now in
    let begins : BeginsToken (slice_index z 0) = record { blank = c.requires.begins.0; hash = c.requires.begins.1; slash = c.requires.slash } in
    let e = c.in-Err.error in
    let found = fault_found z c.requires.some begins c.args.at _ c.new-source.ensures e.kind e.span.start e.span.end c.in-Err.ensures.err.0 in
    subst (source.Returns (λ p. (token (token_of p.0), p.1)) c.refused.result) (sym found.1) c.refused.ensures
