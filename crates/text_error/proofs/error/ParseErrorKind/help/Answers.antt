use Rattle.std.proofs.Common.{◌≡◌, Some, ap, string_bytes, subst, sym}
use Rattle.text_error.specs.Texts.{help_of}
use Rattle.text_error.proofs.error.ParseErrorKind.help.Goals as goal

pub returns-in_ok-format-in-IntegerValueOutOfRange : goal.returns-in_ok-format-in-IntegerValueOutOfRange
returns-in_ok-format-in-IntegerValueOutOfRange c =
    let text = c.in_ok-format-in-IntegerValueOutOfRange in
    subst (λ k. Some (string_bytes text.field-0) ≡ help_of k) (sym c.in-IntegerValueOutOfRange.is) (ap Some (text.ensures.ok))
