use Rattle.std.proofs.Common.{IfSome, IsSome, subst}
use Rattle.std.proofs.lemmas.Result.{err_from_is_err_and}
use Rattle.option_setter.specs.OptionNames.{UnlessMemory}
use Rattle.reflect_options.specs.Settled.{IsWhole, RefusesAt, SetsAll, lists_of}
use Rattle.reflect_options.proofs.Setting.{at_one, whole_refused}
use Rattle.reflect_options.proofs.settled_options.settled_by.Goals as goal

pub returns-in_err-targets-clause-refused : goal.returns-in_err-targets-clause-refused
returns-in_err-targets-clause-refused c =
    let r = c.from_residual-in_err-targets in
    let p = err_from_is_err_and r.result r.ensures.1 in
    let f = c.in_err-targets.field-0.0 in
    let stored = c.in_ok-message.message in
    let refused = subst (λ os. UnlessMemory (λ kind. IfSome f.option (λ place. RefusesAt c.args.names os stored place kind) × IsSome f.option) f.kind) c.as_slice.ensures.value c.in_err-targets.ensures.refused in
    rw (p.1, p.2) (at_one c.args.scope c.args.names c.args.descriptor c.args.options.now stored c.in_ok-message.ensures.stored f.option f.kind refused)

pub returns-in_err-options-clause-refused : goal.returns-in_err-options-clause-refused
returns-in_err-options-clause-refused c =
    let r = c.from_residual-in_err-options in
    let p = err_from_is_err_and r.result r.ensures.1 in
    let f = c.in_err-options.field-0.0 in
    let stored = c.in_ok-message.message in
    let set = c.set_all.new.message in
    let whole = c.clear_field_by_number.new.self in
    let paths = lists_of c.in_ok-targets.targets in
    let sets = subst (λ os. SetsAll c.args.names os stored set paths) c.as_slice.ensures.value c.in_ok-targets.ensures.set in
    let is : IsWhole c.args.scope c.args.names c.args.descriptor c.args.options.now whole paths = (stored, set, c.in_ok-message.ensures.stored, sets, c.clear_field_by_number.ensures.unsets) in
    rw (p.1, p.2) (whole_refused c.args.scope c.args.names c.args.descriptor c.args.options.now whole paths is f.option c.in_err-options.ensures.none f.kind c.in_err-options.ensures.refused)

pub returns-clause-settled : goal.returns-clause-settled
returns-clause-settled c =
    let stored = c.in_ok-message.message in
    let set = c.set_all.new.message in
    let whole = c.clear_field_by_number.new.self in
    let paths = lists_of c.in_ok-targets.targets in
    let sets = subst (λ os. SetsAll c.args.names os stored set paths) c.as_slice.ensures.value c.in_ok-targets.ensures.set in
    let is : IsWhole c.args.scope c.args.names c.args.descriptor c.args.options.now whole paths = (stored, set, c.in_ok-message.ensures.stored, sets, c.clear_field_by_number.ensures.unsets) in
    (whole, is, c.in_ok-options.ensures.whole)
