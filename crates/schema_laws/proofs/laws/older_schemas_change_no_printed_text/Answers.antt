use Rattle.schema_laws.proofs.PassedTexts.{printed_as_before, taken_if_printed, taken_if_recoded}
use Rattle.schema_laws.proofs.laws.older_schemas_change_no_printed_text.Goals as goal

pub returns-clause-same : goal.returns-clause-same
returns-clause-same c = printed_as_before

pub returns-clause-printed : goal.returns-clause-printed
returns-clause-printed c = taken_if_printed

pub returns-clause-recoded : goal.returns-clause-recoded
returns-clause-recoded c = taken_if_recoded
