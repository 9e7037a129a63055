use Rattle.settled_view.proofs.Faults.{no_extension_faults, no_faults, no_number_faults}
use Rattle.settled_view.proofs.laws.lawful_files_have_no_fault_behind_settled_pools.Goals as goal

pub returns-clause-extensions : goal.returns-clause-extensions
returns-clause-extensions c = no_extension_faults

pub returns-clause-numbers : goal.returns-clause-numbers
returns-clause-numbers c = no_number_faults

pub returns-clause-whole : goal.returns-clause-whole
returns-clause-whole c = no_faults
