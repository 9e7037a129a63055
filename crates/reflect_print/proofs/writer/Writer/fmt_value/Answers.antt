use Rattle.std.proofs.Common.{rules, ◌≡◌, ℕ, List, string_bytes, subst}
use Rattle.text_lines.specs.declared.options.FormatOptions.{FormatOptions}
use Rattle.reflect_print.specs.MessageTexts.{IsValueText}
use Rattle.reflect_print.specs.Named.{kind_given}
use Rattle.reflect_print.proofs.Whole.{output_refused, whole_text}
use Rattle.reflect_print.proofs.writer.Writer.fmt_value.Goals as goal

pub returns-clause-text : goal.returns-clause-text
returns-clause-text g c =
    let Is : FormatOptions → List ℕ → Type 0 = λ form. IsValueText form 100 100 0 (kind_given c.args.kind) c.args.value.now in
    let lent : string_bytes c.value_text.new.lines.output ≡ c.as_str.result.now = search rules in (
      c.as_str.result.now,
      subst (Is c.args.self.now.options) lent (whole_text Is _ _ _ _ c.new-lines.ensures.form c.new-lines.ensures.text c.in_ok-value_text.ensures.text),
      search rules,
    )

pub returns-in_err-write_str-clause-memory : goal.returns-in_err-write_str-clause-memory
returns-in_err-write_str-clause-memory g c = output_refused _ _ c.from_residual-in_err-write_str.ensures.1
