use Rattle.linked_view.proofs.Lawful.{no_name_faults, no_reference_faults}
use Rattle.linked_view.proofs.laws.lawful_files_have_no_fault_of_names_and_references.Goals as goal

pub returns-clause-names : goal.returns-clause-names
returns-clause-names c = no_name_faults

pub returns-clause-references : goal.returns-clause-references
returns-clause-references c = no_reference_faults
