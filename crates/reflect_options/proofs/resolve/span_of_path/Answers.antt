use Rattle.std.proofs.Common.{◌∙◌, ap, sym, int_eq}
use Rattle.std.specs.Cmp.Lexicographic.{pointwise}
use Rattle.reflect_faults.specs.Spans.{span_among, span_of}
use Rattle.reflect_options.proofs.Located.{here, further}
use Rattle.reflect_options.proofs.resolve.span_of_path.Goals as goal

pub returns-in-Some-from_location : goal.returns-in-Some-from_location
returns-in-Some-from_location c =
    let path = c.args.path.now in
    let l = c.in-Some.location.now in
    let is = ap (λ p. pointwise int_eq p path) (sym c.as_slice.ensures.value) ∙ sym c.eq.ensures ∙ c.if-eq.true in
    let told = ap span_of (sym c.as_slice-then-eq.ensures.value) ∙ sym c.from_location.ensures ∙ c.in-Some-from_location.is in
    sym (sym c.locations.invariant.left ∙ ap (λ ls. span_among ls path) c.in-Some.ensures.cases.0 ∙ here l c.in-Some.others.now path c.in-Some-from_location.span is told)

pub locations-preserved : goal.locations-preserved
locations-preserved c =
    let path = c.args.path.now in
    let l = c.in-Some.location.now in
    let is = ap (λ p. pointwise int_eq p path) (sym c.as_slice.ensures.value) ∙ sym c.eq.ensures ∙ c.if-eq.false in
    record { left = further l c.in-Some.others.now path is ∙ sym (ap (λ ls. span_among ls path) c.in-Some.ensures.cases.0) ∙ c.locations.invariant.left }
