use Rattle.std.proofs.Common.{◌≡◌, rules, subst, sym}
use Rattle.schema_core.specs.Payloads.{Encoded}
use Rattle.schema_core.specs.Refusals.{TextRefused}
use Rattle.schema_slot.proofs.Ended.{ends_done}
use Rattle.schema_slot.specs.Held.{answer, pool}
use Rattle.schema_slot.proofs.session.Session.encode.Goals as goal

pub returns-in-Ok : goal.returns-in-Ok
returns-in-Ok c =
    let old = pool c.args.self.now in
    let name = c.args.type_name.now in
    let named : c.in-Ok-Ok.type_name.now ≡ name = search rules in
    let z = c.args.text.now in
    let spelled : c.in-Ok-Ok.text.now ≡ z = search rules in
    let encoded = subst (λ z. Encoded old name z c.in-Ok.bytes.items) spelled (subst (λ n. Encoded old n c.in-Ok-Ok.text.now c.in-Ok.bytes.items) named c.in-Ok.ensures.ok) in (
      c.done.ensures.kept,
      ends_done _ _ (λ s. Encoded old name z (answer s)) (TextRefused old name z) _ _ c.done.ensures.code (search rules) c.done.ensures.answered.1
          (subst (λ written. Encoded old name z written) (sym c.done.ensures.answered.0) encoded),
    )
