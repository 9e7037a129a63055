use Rattle.std.proofs.Common.{◌≡◌, ℕ, true, Ok, Err, rules, ap, ◌∙◌}
use Rattle.reflect_defaults.specs.declared.default.DefaultText.TheVariants as says
use Rattle.reflect_defaults.specs.Defaults.{is_decimal}
use Rattle.reflect_defaults.proofs.Decimals.{unsigned_read}
use Rattle.reflect_defaults.proofs.default.unsigned_32.Goals as goal

pub returns-in-Ok : goal.returns-in-Ok
returns-in-Ok c =
    let text = c.args.text.now in
    let is : is_decimal text ≡ true = search rules in
    let p = unsigned_read {E = ℕ} 32 text (Ok c.in-Ok.number) is c.in-Ok.ensures.value.0 in
    (p.0, ap says.U64 (c.from.ensures ∙ p.1))

pub returns-in-Err : goal.returns-in-Err
returns-in-Err c d said =
    let text = c.args.text.now in
    let is : is_decimal text ≡ true = search rules in
    unsigned_read 32 text (Err c.in-Err.field-0) is c.in-Err.ensures.value.0 said.0
