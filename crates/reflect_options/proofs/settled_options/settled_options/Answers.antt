use Rattle.std.proofs.Common.{Some, subst}
use Rattle.std.proofs.lemmas.Result.{err_from_is_err_and}
use Rattle.reflect_pool.specs.FindsNames.{FindsMessage}
use Rattle.reflect_options.specs.Settled.{IsType}
use Rattle.reflect_options.proofs.Setting.{typed_refused}
use Rattle.reflect_options.proofs.settled_options.settled_options.Goals as goal

pub returns-in_err-settled_by-clause-refused : goal.returns-in_err-settled_by-clause-refused
returns-in_err-settled_by-clause-refused c =
    let r = c.from_residual-in_err-settled_by in
    let p = err_from_is_err_and r.result r.ensures.1 in
    let f = c.in_err-settled_by.field-0.0 in
    let d = c.in-Some.descriptor in
    let finds : IsType c.args.scope c.args.names d = (c.in-Some.ensures.pool, subst (λ name. FindsMessage c.args.names.pool.now name (Some d)) c.type_name.ensures c.in-Some.ensures.finds) in
    rw (p.1, p.2) (typed_refused c.args.scope c.args.names d c.args.options.now c.in_ok-check_forbidden.ensures.none finds f.option f.kind c.in_err-settled_by.ensures.refused)

pub returns-clause-settled : goal.returns-clause-settled
returns-clause-settled c =
    let d = c.in-Some.descriptor in
    let finds : IsType c.args.scope c.args.names d = (c.in-Some.ensures.pool, subst (λ name. FindsMessage c.args.names.pool.now name (Some d)) c.type_name.ensures c.in-Some.ensures.finds) in
    (c.in_ok-check_forbidden.ensures.none, (d, finds, c.in_ok-settled_by.ensures.settled.0, c.in_ok-settled_by.ensures.settled.1, c.in_ok-settled_by.ensures.settled.2))
