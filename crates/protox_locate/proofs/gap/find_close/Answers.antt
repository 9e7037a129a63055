use Rattle.std.proofs.Common.{◌≡◌, ◌+◌, length, drop, ap, ◌∙◌, arith, length-drop}
use Rattle.std.proofs.lemmas.List.{take_rest}
use Rattle.protox_locate.proofs.Finds.{close_in, none_in}
use Rattle.protox_locate.proofs.gap.find_close.Goals as goal

pub returns-in-Some-clause-first : goal.returns-in-Some-clause-first
returns-in-Some-clause-first c = ap (λ n. c.args.at + n) (close_in _ _ c.in-Some.place (take_rest c.args.bytes.now c.args.at) c.in-Some.ensures)

pub returns-in-None-clause-first : goal.returns-in-None-clause-first
returns-in-None-clause-first c =
    let z = c.args.bytes.now in
    let whole : length z ≡ c.args.at + length (drop c.args.at z) = omega (arith, length-drop c.args.at z, c.requires) in
    whole ∙ ap (λ n. c.args.at + n) (none_in _ _ (take_rest z c.args.at) c.in-None.ensures)
