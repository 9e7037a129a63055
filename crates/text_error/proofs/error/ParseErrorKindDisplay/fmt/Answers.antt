use Rattle.std.proofs.Common.{sym, subst}
use Rattle.std.specs.Fmt.{HasWritten}
use Rattle.text_error.specs.Texts.{said}
use Rattle.text_error.proofs.error.ParseErrorKindDisplay.fmt.Goals as goal

-- where two names are told, what is written is read off the case
pub returns-in-FieldNotFound-clause-writes : goal.returns-in-FieldNotFound-clause-writes
returns-in-FieldNotFound-clause-writes g c = λ plain ok.
    let written = c.write-in-FieldNotFound in
    subst (λ k. HasWritten g.W.Write.write_str_gives c.args.f.now (said k) written.new.self) (sym c.in-FieldNotFound.is) (written.ensures.writes plain ok)

pub returns-in-ExtensionNotFound-clause-writes : goal.returns-in-ExtensionNotFound-clause-writes
returns-in-ExtensionNotFound-clause-writes g c = λ plain ok.
    let written = c.write-in-ExtensionNotFound in
    subst (λ k. HasWritten g.W.Write.write_str_gives c.args.f.now (said k) written.new.self) (sym c.in-ExtensionNotFound.is) (written.ensures.writes plain ok)

pub returns-in-EnumValueNotFound-clause-writes : goal.returns-in-EnumValueNotFound-clause-writes
returns-in-EnumValueNotFound-clause-writes g c = λ plain ok.
    let written = c.write-in-EnumValueNotFound in
    subst (λ k. HasWritten g.W.Write.write_str_gives c.args.f.now (said k) written.new.self) (sym c.in-EnumValueNotFound.is) (written.ensures.writes plain ok)

pub returns-in-FloatField-clause-writes : goal.returns-in-FloatField-clause-writes
returns-in-FloatField-clause-writes g c = λ plain ok.
    let written = c.write-in-FloatField in
    subst (λ k. HasWritten g.W.Write.write_str_gives c.args.f.now (said k) written.new.self) (sym c.in-FloatField.is) (written.ensures.writes plain ok)
