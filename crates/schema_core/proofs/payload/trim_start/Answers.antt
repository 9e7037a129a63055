use Rattle.std.proofs.Common.{take, sym, subst, slice_index, ◌≡◌, ◌∙◌, true, arith}
use Rattle.std.specs.List.{AllPass}
use Rattle.std.proofs.lemmas.List.{take-append-drop, take_rest, take_more}
use Rattle.std.proofs.lemmas.List.Elements.{All-push}
use Rattle.schema_core.specs.Serving.{is_margin}
use Rattle.schema_core.proofs.payload.trim_start.Goals as goal

pub front-preserved : goal.front-preserved
front-preserved c =
    let text = c.args.text.now in
    let start = c.front.start in
    let pushed = All-push (λ b. is_margin b ≡ true) (take start text) (slice_index text start) c.front.invariant.1 (sym c.is_margin.ensures ∙ c.if-is_margin.true) in
    (omega arith, subst (AllPass is_margin) (sym (take_more text start 0 c.front-test.true)) pushed)

pub returns-clause-cut : goal.returns-clause-cut
returns-clause-cut c =
    let text = c.args.text.now in
    let start = c.front.start in
    (take start text, c.front.invariant.1, rw (← take_rest text start) at (sym (take-append-drop start text)))
