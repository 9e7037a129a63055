use Rattle.std.proofs.Common.{rules, ◌∙◌, false, ap, sym, subst}
use Rattle.std.specs.Option.{option_map, unwrap_or}
use Rattle.std.proofs.lemmas.Result.{err_from_is_err_and}
use Rattle.option_setter.specs.OptionNames.{UnlessMemory}
use Rattle.reflect_decode.specs.Spelled.{IsSpelled, TellsWhy}
use Rattle.reflect_options.specs.Settled.{RefusesStored, truth_said}
use Rattle.reflect_options.proofs.Setting.{contradicts, differ, number_is}
use Rattle.reflect_options.proofs.Unread.{stored_told}
use Rattle.reflect_options.proofs.settled_options.stored_message.Goals as goal

pub returns-in_err-message-clause-refused : goal.returns-in_err-message-clause-refused
returns-in_err-message-clause-refused c =
    let r = c.from_residual in
    let p = err_from_is_err_and r.result r.ensures.1 in
    let e = c.in_err-message.field-0.0 in
    let told = subst (λ b. TellsWhy c.args.descriptor b e) c.as_slice.ensures.value c.in_err-message.ensures.fault in
    rw p.1 (subst (UnlessMemory (RefusesStored c.args.scope c.args.descriptor c.args.options.now)) (sym p.2.0)
    (stored_told c.args.scope c.args.descriptor c.args.options.now e told))

pub returns-then-stored-unwrap_or-clause-refused :
    goal.returns-then-stored-unwrap_or-clause-refused
returns-then-stored-unwrap_or-clause-refused c =
    let m = c.in_ok-message.message in
    let spelled = subst (λ b. IsSpelled c.args.descriptor b m) c.as_slice.ensures.value c.in_ok-message.ensures.read in
    let seven = number_is c.args.scope c.in-Message-Some.is-0 c.in-Message-Some.field-0-0-1.now c.in-Message-Some.number (sym (ap (option_map (λ o. (o.0.now, o.1))) c.in-Message-Some.is-1) ∙ c.typed_option.ensures) in
    let said = c.unwrap_or-stored.ensures ∙ ap (λ t. unwrap_or t false) (c.in_ok-truth_at.ensures ∙ ap (λ n. truth_said n m) seven) in
    contradicts c.args.scope c.args.descriptor c.args.options.now m c.from.result.kind c.in-Message-Some.is-0 c.from.ensures.0 (search rules) spelled
    (λ same. differ c.unwrap_or-stored.result c.unwrap_or.result c.if-stored-unwrap_or.true (said ∙ same ∙ sym c.unwrap_or.ensures))
