use Rattle.std.proofs.Common.{◌≡◌, ◌∙◌, ◌∷◌, pos, None, rules}
use Rattle.std.specs.Option.{option_copied}
use Rattle.reflect_pool.specs.Records.{entry_of}
use Rattle.reflect_link.proofs.Steps.{nowhere}
use Rattle.reflect_link.proofs.records.message_record.Goals as goal

pub returns-in_err-message : goal.returns-in_err-message
returns-in_err-message c =
    let s = c.in_ok-step.step in
    let none : option_copied c.from_residual-in_err-message.result ≡ None = search rules in
    let at : c.args.path.now ≡ s.number ∷ s.place ∷ c.in_ok-step.rest.now = search rules in
    let missed : entry_of (pos 4) c.args.file.now.message_type.items s.number s.place ≡ None = search rules in
    none ∙ nowhere c.args.file.now c.args.path.now c.in_ok-step.rest.now s.number s.place at missed
