use Rattle.std.proofs.Common.{rules, ◌≡◌, string_bytes, subst}
use Rattle.reflect_print.specs.MessageTexts.{IsMessageText}
use Rattle.reflect_print.proofs.Whole.{output_refused}
use Rattle.reflect_print.proofs.writer.Writer.fmt_message.Goals as goal

pub returns-clause-text : goal.returns-clause-text
returns-clause-text g c =
    let lent : string_bytes c.in_ok-text.text ≡ c.as_str.result.now = search rules in
    (c.as_str.result.now, subst (IsMessageText c.args.self.now.options c.args.message.now) lent c.in_ok-text.ensures.text, search rules)

pub returns-in_err-write_str-clause-memory : goal.returns-in_err-write_str-clause-memory
returns-in_err-write_str-clause-memory g c = output_refused _ _ c.from_residual-in_err-write_str.ensures.1
