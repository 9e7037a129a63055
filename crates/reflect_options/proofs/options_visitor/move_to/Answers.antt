use Rattle.std.proofs.Common.{◌≡◌, ◌∙◌, ◌+◌, ◌++◌, ◌∷◌, [], take, ap, sym}
use Rattle.std.proofs.lemmas.List.{take_more}
use Rattle.reflect_options.proofs.Moving.{moves_more}
use Rattle.reflect_options.proofs.options_visitor.move_to.Goals as goal

pub targets-preserved : goal.targets-preserved
targets-preserved c =
    let ts = c.deref-target-items.result.now in
    let k = c.targets.place in
    let t = c.target-item.result in
    let options = c.args.options.now in
    let more : take (k + 1) ts ≡ take k ts ++ t ∷ [] = take_more ts k t c.targets-test.true ∙ ap (λ x. take k ts ++ x ∷ []) (sym c.target-item.is) in
    moves_more c.args.moved.now c.targets.moved c.insert.new.self options ts k t c.in_ok-at.at c.in_ok-target.target c.targets-test.true more c.targets.invariant c.in_ok-insert.ensures.entries c.in_ok-at.ensures
    (c.in_ok-target.ensures ∙ ap (λ l. options ++ l) c.as_slice.ensures.value)
