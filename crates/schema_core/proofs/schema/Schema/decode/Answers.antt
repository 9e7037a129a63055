use Rattle.std.proofs.Common.{◌≡◌, rules, string_bytes, subst}
use Rattle.reflect_print.specs.MessageTexts.{IsMessageText}
use Rattle.schema_core.specs.Payloads.{compact_form}
use Rattle.schema_core.proofs.schema.Schema.decode.Goals as goal

pub returns-in-Ok-clause-ok : goal.returns-in-Ok-clause-ok
returns-in-Ok-clause-ok c =
    let m = c.in_ok-message.message in
    let form : c.expand_any-options.result ≡ compact_form = search rules in
    let printed = subst (λ f. IsMessageText f m (string_bytes c.in-Ok.text)) form c.in-Ok.ensures.text in
    (m, c.in_ok-message.ensures.ok, printed)
