use Rattle.std.proofs.Common.{rules}
use Rattle.std.proofs.lemmas.Result.{err_from_is_err_and}
use Rattle.descriptor_records.specs.Content.{option_view}
use Rattle.option_setter.specs.SetOptions.{MayTake, RefusesLast, RefusesValue}
use Rattle.option_setter.proofs.Parts.{refuses_last_value}
use Rattle.option_setter.proofs.Refusals.{unless_then}
use Rattle.option_setter.proofs.option_setter.OptionSetter.set_last.Goals as goal

pub returns-in_err-value-clause-refused : goal.returns-in_err-value-clause-refused
returns-in_err-value-clause-refused c =
    let t = c.args.target in
    let m = c.args.message.now in
    let o = option_view c.args.self.now.option.now in
    let k = c.kind.result in
    let may : MayTake t m = search rules in
    let r = c.from_residual-in_err-value in
    let p = err_from_is_err_and r.result r.ensures.1 in
    rw (p.1, p.2) (unless_then (RefusesValue k o) (RefusesLast t o m)
    (refuses_last_value t o m may k c.kind.ensures)
    c.in_err-value.field-0.0 c.in_err-value.ensures.refused)
