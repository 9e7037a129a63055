use Rattle.std.proofs.Common.{◌≡◌, take, subst, ◌∙◌, arith}
use Rattle.std.proofs.lemmas.List.{take_all}
use Rattle.reflect_scope.proofs.Listed.{cleared_more, all_clear, IsCleared}
use Rattle.reflect_scope.proofs.seen.clear_marks.Goals as goal

pub turns-preserved : goal.turns-preserved
turns-preserved c =
    let fs = c.deref-file-items.result.now in
    rw c.unmark.ensures (cleared_more c.args.marks.now.items c.turns.marks.items fs c.turns.file-index 0 (omega arith) c.turns.invariant)

pub returns-clause-clear : goal.returns-clause-clear
returns-clause-clear c =
    let all : take c.turns.file-index c.deref-file-items.result.now ≡ c.args.order.now.items = take_all c.turns.file-index c.deref-file-items.result.now (omega arith) ∙ c.deref-file-items.ensures.value in
    all_clear c.args.marks.now.items c.turns.marks.items c.args.order.now.items (subst (IsCleared c.args.marks.now.items c.turns.marks.items) all c.turns.invariant)
