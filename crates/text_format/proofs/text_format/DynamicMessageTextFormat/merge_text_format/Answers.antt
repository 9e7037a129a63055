use Rattle.std.proofs.lemmas.Result.{IfErr-weaker, on_ok_weaker}
use Rattle.text_scalars.specs.Remaining.{remaining}
use Rattle.text_syntax.proofs.Exact.{exact_text}
use Rattle.reflect_format.proofs.Filling.{cause_of}
use Rattle.text_format.proofs.text_format.DynamicMessageTextFormat.merge_text_format.Goals as goal

pub returns-clause-filled : goal.returns-clause-filled
returns-clause-filled c =
    let ls = remaining c.new.result.tokens in
    on_ok_weaker c.parse_message.result
    (λ w. (w.0, (exact_text c.args.text.now ls w.0 c.new.ensures).0 w.1, w.2))
    c.parse_message.ensures.filled

pub returns-clause-cause : goal.returns-clause-cause
returns-clause-cause c =
    let ls = remaining c.new.result.tokens in
    IfErr-weaker c.parse_message.result _ _ (λ e h. cause_of _ _ e.kind
    (λ u fs is. u fs ((exact_text c.args.text.now ls fs c.new.ensures).1 is)) h)
    c.parse_message.ensures.cause

pub returns-clause-stops : goal.returns-clause-stops
returns-clause-stops c =
    IfErr-weaker c.parse_message.result _ _
    (λ e h. (remaining c.new.result.tokens, c.new.ensures, h)) c.parse_message.ensures.stops

pub returns-clause-told : goal.returns-clause-told
returns-clause-told c =
    IfErr-weaker c.parse_message.result _ _ (λ e h. cause_of _ _ e.kind
    (λ fault. (remaining c.new.result.tokens, c.new.ensures, fault)) h)
    c.parse_message.ensures.told
