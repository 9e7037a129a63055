use Rattle.valid_view.proofs.Copied.{copied_both}
use Rattle.valid_view.proofs.FirmCopies.{copied_solid}
use Rattle.valid_view.proofs.keeping.copies_are_typed_and_tidy.Goals as goal

pub returns-clause-both : goal.returns-clause-both
returns-clause-both c = copied_both

pub returns-clause-solid : goal.returns-clause-solid
returns-clause-solid c = copied_solid
