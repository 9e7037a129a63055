use Rattle.linked_view.proofs.Lawful.{no_extension_faults, no_faults, no_first_faults, no_number_faults}
use Rattle.linked_view.proofs.laws.lawful_files_have_no_fault.Goals as goal

pub returns-clause-extensions : goal.returns-clause-extensions
returns-clause-extensions c earlier old w new meanings built kept =
    no_extension_faults earlier old w new meanings built kept.pooled

pub returns-clause-numbers : goal.returns-clause-numbers
returns-clause-numbers c earlier old w new meanings built kept =
    no_number_faults earlier old w new meanings built kept.pooled

pub returns-clause-whole : goal.returns-clause-whole
returns-clause-whole c earlier old w new meanings built kept =
    no_faults earlier old w new meanings built kept.pooled

pub returns-clause-first : goal.returns-clause-first
returns-clause-first c = no_first_faults
