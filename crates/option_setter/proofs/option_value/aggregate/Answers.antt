use Rattle.std.proofs.Common.{◌≡◌, Some, ap, sym, ◌∙◌}
use Rattle.descriptor_records.specs.Content.{text_view}
use Rattle.text_error.specs.declared.error.ParseErrorKind.TheVariants.{Memory}
use Rattle.text_scalars.specs.Remaining.{remaining}
use Rattle.text_syntax.proofs.Exact.{exact_text}
use Rattle.option_setter.proofs.SaidTexts.{there}
use Rattle.option_setter.proofs.option_value.aggregate.Goals as goal

-- src/option_value.rt:161:1
pub returns-in-Ok-clause-made : goal.returns-in-Ok-clause-made
returns-in-Ok-clause-made c =
    let z = c.as_str.result.now in
    let is : text_view c.args.option.now.aggregate_value ≡ Some z = ap text_view c.in-Some.is ∙ ap Some (sym c.as_str.ensures.value) in
    let w = c.in-Ok.ensures.filled in (
      z,
      is,
      (
        w.0,
        (exact_text z (remaining c.new.result.tokens) w.0 c.new.ensures).0 w.1,
        (c.new-message.result, c.new-message.ensures.same_type, c.new-message.ensures.empty, w.2),
      ),
    )

-- src/option_value.rt:154:1
pub returns : goal.returns
returns c =
    let z = c.as_str.result.now in
    let is : text_view c.args.option.now.aggregate_value ≡ Some z = ap text_view c.in-Some.is ∙ ap Some (sym c.as_str.ensures.value) in
    let ls = remaining c.new.result.tokens in
    let kind = c.in-Err.error.kind in
    let other : kind ≡ Memory → ⊥ = λ e. c.in_default-kind.not-Memory (c.kind.ensures ∙ e) in
    let u = there kind other c.in-Err.ensures.cause in
    record {
      made = tt;
      nothing = (
        z,
        is,
        other,
        (
          (λ fs is. (
            c.new-message.result,
            c.new-message.ensures.same_type,
            c.new-message.ensures.empty,
            u fs ((exact_text z ls fs c.new.ensures).1 is),
          )),
          c.new-message.result,
          c.new-message.ensures.same_type,
          c.new-message.ensures.empty,
          ls,
          c.new.ensures,
          there kind other c.in-Err.ensures.told,
        ),
      );
    }
