use Rattle.std.proofs.Common.{rules, ◌≡◌, ℕ, List, string_bytes, subst}
use Rattle.reflect_wire.specs.Views.{field_view}
use Rattle.text_lines.specs.UnknownTexts.{IsPayloadText, IsRecordText}
use Rattle.text_lines.specs.declared.options.FormatOptions.{FormatOptions}
use Rattle.reflect_print.proofs.Whole.{output_refused, whole_text}
use Rattle.reflect_print.proofs.writer.Writer.fmt_unknown_field.Goals as goal

pub returns-clause-text : goal.returns-clause-text
returns-clause-text g c =
    let Is : FormatOptions → List ℕ → Type 0 = λ form. IsRecordText form.pretty (IsPayloadText 100 form.pretty) 0 (field_view c.args.field.now) in
    let lent : string_bytes c.unknown_field.new.self.output ≡ c.as_str.result.now = search rules in (
      c.as_str.result.now,
      subst (Is c.args.self.now.options) lent (whole_text Is _ _ _ _ c.new-lines.ensures.form c.new-lines.ensures.text c.in_ok-unknown_field.ensures.text),
      search rules,
    )

pub returns-in_err-write_str-clause-memory : goal.returns-in_err-write_str-clause-memory
returns-in_err-write_str-clause-memory g c = output_refused _ _ c.from_residual-in_err-write_str.ensures.1
