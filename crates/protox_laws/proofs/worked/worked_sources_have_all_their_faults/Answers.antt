use Rattle.protox_laws.proofs.WorkedFaults.{told_of_defaults, told_of_fields, told_of_numbers, told_of_other_fields}
use Rattle.protox_laws.proofs.worked.worked_sources_have_all_their_faults.Goals as goal

pub returns-clause-numbers : goal.returns-clause-numbers
returns-clause-numbers c = told_of_numbers

pub returns-clause-fields : goal.returns-clause-fields
returns-clause-fields c = told_of_fields

pub returns-clause-defaults : goal.returns-clause-defaults
returns-clause-defaults c = told_of_defaults

pub returns-clause-others : goal.returns-clause-others
returns-clause-others c = told_of_other_fields
