use Rattle.std.proofs.Common.{◌≡◌, rules, string_bytes, subst, sym}
use Rattle.schema_core.specs.Payloads.{Decoded}
use Rattle.schema_core.specs.Refusals.{BytesRefused}
use Rattle.schema_slot.proofs.Ended.{ends_done}
use Rattle.schema_slot.specs.Held.{answer, pool}
use Rattle.schema_slot.proofs.session.Session.decode.Goals as goal

pub returns-in-Ok-decode : goal.returns-in-Ok-decode
returns-in-Ok-decode c =
    let old = pool c.args.self.now in
    let name = c.args.type_name.now in
    let given = c.args.bytes.now in
    let text = string_bytes c.in-Ok-decode.text in
    let named : c.in-Ok.type_name.now ≡ name = search rules in
    let same : answer c.done.new.self ≡ text = search rules in
    let decoded = subst (λ n. Decoded old n given text) named c.in-Ok-decode.ensures.ok in (
      c.done.ensures.kept,
      ends_done _ _ (λ s. Decoded old name given (answer s)) (BytesRefused old name given) _ _ c.done.ensures.code (search rules) c.done.ensures.answered.1
          (subst (λ written. Decoded old name given written) (sym same) decoded),
    )
