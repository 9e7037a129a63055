use Rattle.std.proofs.Common.{subst}
use Rattle.std.proofs.lemmas.Result.{err_from_is_err_and}
use Rattle.reflect_decode.specs.Spelled.{IsSpelled, TellsWhy}
use Rattle.reflect_dynamic.proofs.read_options.read.Goals as goal

pub returns-in_ok-message-in-Some-clause-read : goal.returns-in_ok-message-in-Some-clause-read
returns-in_ok-message-in-Some-clause-read c =
    let found = c.in-Some in
    let d = found.descriptor in
    let message = c.in_ok-message-in-Some in
    let spelled = subst (λ b. IsSpelled d b message.message) c.stored_bytes.ensures message.ensures.read in
    (d, (found.ensures.pool, found.ensures.finds), message.ensures.same_type, spelled)

pub returns-in_err-message-in-Some-clause-fault : goal.returns-in_err-message-in-Some-clause-fault
returns-in_err-message-in-Some-clause-fault c =
    let r = c.from_residual in
    let p = err_from_is_err_and r.result r.ensures.1 in
    let found = c.in-Some in
    let d = found.descriptor in
    let failed = c.in_err-message-in-Some in
    let told = subst (λ b. TellsWhy d b failed.field-0.0) c.stored_bytes.ensures failed.ensures.fault in
    rw (p.1, p.2) (d, (found.ensures.pool, found.ensures.finds), told)
