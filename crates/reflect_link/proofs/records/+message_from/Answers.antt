use Rattle.std.proofs.Common.{◌≡◌, ◌∙◌, ◌∷◌, pos, None, rules}
use Rattle.std.specs.Option.{option_copied}
use Rattle.reflect_pool.specs.Records.{entry_of, nested_of}
use Rattle.reflect_link.proofs.Steps.{nowhere_below}
use Rattle.reflect_link.proofs.records.+message_from.Goals as goal

pub returns-in_err-nested : goal.returns-in_err-nested
returns-in_err-nested t c =
    let s = c.in_ok-step.step in
    let none : option_copied c.from_residual-in_err-nested.result ≡ None = search rules in
    let at : c.args.path.now ≡ s.number ∷ s.place ∷ c.in_ok-step.rest.now = search rules in
    let missed : entry_of (pos 3) (nested_of c.args.message.now) s.number s.place ≡ None = search rules in
    none ∙ nowhere_below c.args.message.now c.args.path.now c.in_ok-step.rest.now s.number s.place at missed
