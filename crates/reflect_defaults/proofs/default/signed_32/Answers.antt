use Rattle.std.proofs.Common.{◌≡◌, ℕ, true, Ok, Err, rules, to_z, of_z, ap, ◌∙◌}
use Rattle.std.specs.Int.{w32, w64}
use Rattle.reflect_defaults.specs.declared.default.DefaultText.TheVariants as says
use Rattle.reflect_defaults.specs.Defaults.{is_integer}
use Rattle.reflect_defaults.proofs.Decimals.{signed_read}
use Rattle.reflect_defaults.proofs.default.signed_32.Goals as goal

pub returns-in-Ok : goal.returns-in-Ok
returns-in-Ok c =
    let text = c.args.text.now in
    let is : is_integer text ≡ true = search rules in
    let p = signed_read {E = ℕ} w32 text (Ok c.in-Ok.number) is c.in-Ok.ensures.value.0 in
    let wide : to_z w64 (of_z w64 c.from.result) ≡ c.from.result = search rules in
    let narrow : to_z w32 (of_z w32 c.in-Ok.number) ≡ c.in-Ok.number = search rules in
    (p.0, ap says.I64 (wide ∙ c.from.ensures ∙ narrow ∙ p.1))

pub returns-in-Err : goal.returns-in-Err
returns-in-Err c d said =
    let text = c.args.text.now in
    let is : is_integer text ≡ true = search rules in
    signed_read w32 text (Err c.in-Err.field-0) is c.in-Err.ensures.value.0 said.0
