use Rattle.std.proofs.lemmas.Result.{err_from_is_err_and}
use Rattle.text_scalars.specs.Remaining.{remaining}
use Rattle.text_syntax.proofs.Exact.{exact_text}
use Rattle.reflect_format.proofs.Filling.{cause_of}
use Rattle.text_format.proofs.text_format.DynamicMessageTextFormat.parse_text_format.Goals as goal

pub returns-clause-made : goal.returns-clause-made
returns-clause-made c =
    let w = c.in_ok-parse_message.ensures.filled in
    let ls = remaining c.new.result.tokens in (
      w.0,
      (exact_text c.args.text.now ls w.0 c.new.ensures).0 w.1,
      (c.new-message.result, c.new-message.ensures.same_type, c.new-message.ensures.empty, w.2),
    )

pub returns-in_err-parse_message-clause-cause : goal.returns-in_err-parse_message-clause-cause
returns-in_err-parse_message-clause-cause c =
    let r = c.from_residual in
    let p = err_from_is_err_and r.result r.ensures.1 in
    let ls = remaining c.new.result.tokens in
    rw (p.1, p.2) (cause_of _ _ c.in_err-parse_message.field-0.0.kind
    (λ u fs is. (
      c.new-message.result,
      c.new-message.ensures.same_type,
      c.new-message.ensures.empty,
      u fs ((exact_text c.args.text.now ls fs c.new.ensures).1 is),
    ))
    c.in_err-parse_message.ensures.cause)

pub returns-in_err-parse_message-clause-told : goal.returns-in_err-parse_message-clause-told
returns-in_err-parse_message-clause-told c =
    let r = c.from_residual in
    let p = err_from_is_err_and r.result r.ensures.1 in
    rw (p.1, p.2) (cause_of _ _ c.in_err-parse_message.field-0.0.kind
    (λ fault. (
      c.new-message.result,
      c.new-message.ensures.same_type,
      c.new-message.ensures.empty,
      (remaining c.new.result.tokens, c.new.ensures, fault),
    ))
    c.in_err-parse_message.ensures.told)
