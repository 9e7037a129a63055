use Rattle.std.proofs.Common.{sym, subst}
use Rattle.std.specs.Fmt.{HasWritten}
use Rattle.reflect_faults.specs.FaultTexts.{said}
use Rattle.reflect_faults.proofs.error.DescriptorErrorKindDisplay.fmt.Goals as goal

-- where names or numbers are told, what is written is read off the case

pub returns-in-DuplicateFileName-clause-writes : goal.returns-in-DuplicateFileName-clause-writes
returns-in-DuplicateFileName-clause-writes g c = λ plain ok.
    let written = c.write in
    subst (λ k. HasWritten g.W.Write.write_str_gives c.args.f.now (said k) written.new.self)
    (sym c.in-DuplicateFileName.is) (written.ensures.writes plain ok)

pub returns-in-FileNotFound-clause-writes : goal.returns-in-FileNotFound-clause-writes
returns-in-FileNotFound-clause-writes g c = λ plain ok.
    let written = c.write-in-FileNotFound in
    subst (λ k. HasWritten g.W.Write.write_str_gives c.args.f.now (said k) written.new.self)
    (sym c.in-FileNotFound.is) (written.ensures.writes plain ok)

pub returns-in-DuplicateName-clause-writes : goal.returns-in-DuplicateName-clause-writes
returns-in-DuplicateName-clause-writes g c = λ plain ok.
    let written = c.write-in-DuplicateName in
    subst (λ k. HasWritten g.W.Write.write_str_gives c.args.f.now (said k) written.new.self)
    (sym c.in-DuplicateName.is) (written.ensures.writes plain ok)

pub returns-in-NameNotFound-clause-writes : goal.returns-in-NameNotFound-clause-writes
returns-in-NameNotFound-clause-writes g c = λ plain ok.
    let written = c.write-in-NameNotFound in
    subst (λ k. HasWritten g.W.Write.write_str_gives c.args.f.now (said k) written.new.self)
    (sym c.in-NameNotFound.is) (written.ensures.writes plain ok)

pub returns-in-NameShadowed-clause-writes : goal.returns-in-NameShadowed-clause-writes
returns-in-NameShadowed-clause-writes g c = λ plain ok.
    let written = c.write-in-NameShadowed in
    subst (λ k. HasWritten g.W.Write.write_str_gives c.args.f.now (said k) written.new.self)
    (sym c.in-NameShadowed.is) (written.ensures.writes plain ok)

pub returns-in-InvalidType-clause-writes : goal.returns-in-InvalidType-clause-writes
returns-in-InvalidType-clause-writes g c = λ plain ok.
    let written = c.write-in-InvalidType in
    subst (λ k. HasWritten g.W.Write.write_str_gives c.args.f.now (said k) written.new.self)
    (sym c.in-InvalidType.is) (written.ensures.writes plain ok)

pub returns-in-UnknownSyntax-clause-writes : goal.returns-in-UnknownSyntax-clause-writes
returns-in-UnknownSyntax-clause-writes g c = λ plain ok.
    let written = c.write-in-UnknownSyntax in
    subst (λ k. HasWritten g.W.Write.write_str_gives c.args.f.now (said k) written.new.self)
    (sym c.in-UnknownSyntax.is) (written.ensures.writes plain ok)

pub returns-in-MissingRequiredField-clause-writes : goal.returns-in-MissingRequiredField-clause-writes
returns-in-MissingRequiredField-clause-writes g c = λ plain ok.
    let written = c.write-in-MissingRequiredField in
    subst (λ k. HasWritten g.W.Write.write_str_gives c.args.f.now (said k) written.new.self)
    (sym c.in-MissingRequiredField.is) (written.ensures.writes plain ok)

pub returns-in-InvalidImportIndex-clause-writes : goal.returns-in-InvalidImportIndex-clause-writes
returns-in-InvalidImportIndex-clause-writes g c = λ plain ok.
    let written = c.write-in-InvalidImportIndex in
    subst (λ k. HasWritten g.W.Write.write_str_gives c.args.f.now (said k) written.new.self)
    (sym c.in-InvalidImportIndex.is) (written.ensures.writes plain ok)

pub returns-in-InvalidFieldNumber-clause-writes : goal.returns-in-InvalidFieldNumber-clause-writes
returns-in-InvalidFieldNumber-clause-writes g c = λ plain ok.
    let written = c.write-in-InvalidFieldNumber in
    subst (λ k. HasWritten g.W.Write.write_str_gives c.args.f.now (said k) written.new.self)
    (sym c.in-InvalidFieldNumber.is) (written.ensures.writes plain ok)

pub returns-in-DuplicateFieldNumber-clause-writes : goal.returns-in-DuplicateFieldNumber-clause-writes
returns-in-DuplicateFieldNumber-clause-writes g c = λ plain ok.
    let written = c.write-in-DuplicateFieldNumber in
    subst (λ k. HasWritten g.W.Write.write_str_gives c.args.f.now (said k) written.new.self)
    (sym c.in-DuplicateFieldNumber.is) (written.ensures.writes plain ok)

pub returns-in-NumberInReservedRange-clause-writes : goal.returns-in-NumberInReservedRange-clause-writes
returns-in-NumberInReservedRange-clause-writes g c = λ plain ok.
    let written = c.write-in-NumberInReservedRange in
    subst (λ k. HasWritten g.W.Write.write_str_gives c.args.f.now (said k) written.new.self)
    (sym c.in-NumberInReservedRange.is) (written.ensures.writes plain ok)

pub returns-in-NumberInExtensionRange-clause-writes : goal.returns-in-NumberInExtensionRange-clause-writes
returns-in-NumberInExtensionRange-clause-writes g c = λ plain ok.
    let written = c.write-in-NumberInExtensionRange in
    subst (λ k. HasWritten g.W.Write.write_str_gives c.args.f.now (said k) written.new.self)
    (sym c.in-NumberInExtensionRange.is) (written.ensures.writes plain ok)

pub returns-in-ExtensionNumberOutOfRange-clause-writes : goal.returns-in-ExtensionNumberOutOfRange-clause-writes
returns-in-ExtensionNumberOutOfRange-clause-writes g c = λ plain ok.
    let written = c.write-in-ExtensionNumberOutOfRange in
    subst (λ k. HasWritten g.W.Write.write_str_gives c.args.f.now (said k) written.new.self)
    (sym c.in-ExtensionNumberOutOfRange.is) (written.ensures.writes plain ok)

pub returns-in-DuplicateEnumNumber-clause-writes : goal.returns-in-DuplicateEnumNumber-clause-writes
returns-in-DuplicateEnumNumber-clause-writes g c = λ plain ok.
    let written = c.write-in-DuplicateEnumNumber in
    subst (λ k. HasWritten g.W.Write.write_str_gives c.args.f.now (said k) written.new.self)
    (sym c.in-DuplicateEnumNumber.is) (written.ensures.writes plain ok)

pub returns-in-InvalidFieldDefault-clause-writes : goal.returns-in-InvalidFieldDefault-clause-writes
returns-in-InvalidFieldDefault-clause-writes g c = λ plain ok.
    let written = c.write-in-InvalidFieldDefault in
    subst (λ k. HasWritten g.W.Write.write_str_gives c.args.f.now (said k) written.new.self)
    (sym c.in-InvalidFieldDefault.is) (written.ensures.writes plain ok)

pub returns-in-InvalidOneofIndex-clause-writes : goal.returns-in-InvalidOneofIndex-clause-writes
returns-in-InvalidOneofIndex-clause-writes g c = λ plain ok.
    let written = c.write-in-InvalidOneofIndex in
    subst (λ k. HasWritten g.W.Write.write_str_gives c.args.f.now (said k) written.new.self)
    (sym c.in-InvalidOneofIndex.is) (written.ensures.writes plain ok)

pub returns-in-BadMapEntry-clause-writes : goal.returns-in-BadMapEntry-clause-writes
returns-in-BadMapEntry-clause-writes g c = λ plain ok.
    let written = c.write-in-BadMapEntry in
    subst (λ k. HasWritten g.W.Write.write_str_gives c.args.f.now (said k) written.new.self)
    (sym c.in-BadMapEntry.is) (written.ensures.writes plain ok)

pub returns-in-DuplicateExtensionNumber-clause-writes : goal.returns-in-DuplicateExtensionNumber-clause-writes
returns-in-DuplicateExtensionNumber-clause-writes g c = λ plain ok.
    let written = c.write-in-DuplicateExtensionNumber in
    subst (λ k. HasWritten g.W.Write.write_str_gives c.args.f.now (said k) written.new.self)
    (sym c.in-DuplicateExtensionNumber.is) (written.ensures.writes plain ok)
