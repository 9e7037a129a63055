use Rattle.std.proofs.Common.{Some, ap, sym, ◌∙◌}
use Rattle.std.specs.Option.{option_and_then}
use Rattle.protobuf_model.specs.Types.{string}
use Rattle.protobuf_model.specs.Values.{text}
use Rattle.text_model.specs.Scalars.{string_in}
use Rattle.option_setter.proofs.SaidTexts.{text_said, no_text_said}
use Rattle.option_setter.proofs.option_value.text_value.Goals as goal

-- src/option_value.rt:121:1
pub returns-in_ok-from_str-in-Ok-clause-said : goal.returns-in_ok-from_str-in-Ok-clause-said
returns-in_ok-from_str-in-Ok-clause-said c =
    ap (λ b. Some (text b)) (c.in_ok-from_str-in-Ok.ensures.ok ∙ c.in-Ok.ensures.cases.0)
    ∙ sym (text_said c.in-Some.bytes.now c.in-Ok.ensures.cases.1)
    ∙ ap (option_and_then (string_in string)) c.in-Some.ensures

-- src/option_value.rt:121:1
pub returns-in-Err-clause-said : goal.returns-in-Err-clause-said
returns-in-Err-clause-said c =
    sym (no_text_said c.in-Some.bytes.now c.in-Err.ensures.cases.0)
    ∙ ap (option_and_then (string_in string)) c.in-Some.ensures
