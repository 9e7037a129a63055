use Rattle.std.proofs.Common.{false}
use Rattle.reflect_print.specs.MessageTexts.{IsItemsText}
use Rattle.reflect_print.proofs.Whole.{whole_text}
use Rattle.reflect_print.proofs.writer.message_text.Goals as goal

pub returns-clause-text : goal.returns-clause-text
returns-clause-text c =
    let any = c.in_ok-items.field-0 in
    (any, whole_text (λ form. IsItemsText form 100 100 0 false c.args.message.now any) _ _ _ _ c.new-lines.ensures.form c.new-lines.ensures.text c.in_ok-items.ensures.text)
