use Rattle.std.proofs.Common.{◌≡◌, rules, subst, sym}
use Rattle.schema_core.specs.Payloads.{Recoded}
use Rattle.schema_core.specs.Refusals.{BytesRefused}
use Rattle.schema_slot.proofs.Ended.{ends_done}
use Rattle.schema_slot.specs.Held.{answer, pool}
use Rattle.schema_slot.proofs.session.Session.recode.Goals as goal

pub returns-in-Ok-recode : goal.returns-in-Ok-recode
returns-in-Ok-recode c =
    let old = pool c.args.self.now in
    let name = c.args.type_name.now in
    let given = c.args.bytes.now in
    let named : c.in-Ok.type_name.now ≡ name = search rules in
    let recoded = subst (λ n. Recoded old n given c.in-Ok-recode.bytes.items) named c.in-Ok-recode.ensures.ok in (
      c.done.ensures.kept,
      ends_done _ _ (λ s. Recoded old name given (answer s)) (BytesRefused old name given) _ _ c.done.ensures.code (search rules) c.done.ensures.answered.1
          (subst (λ written. Recoded old name given written) (sym c.done.ensures.answered.0) recoded),
    )
