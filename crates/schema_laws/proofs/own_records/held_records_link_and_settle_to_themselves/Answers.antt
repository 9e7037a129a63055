use Rattle.schema_laws.proofs.Again.{names_again, records_again, types_again}
use Rattle.schema_laws.proofs.own_records.held_records_link_and_settle_to_themselves.Goals as goal

pub returns-clause-records : goal.returns-clause-records
returns-clause-records c batches p linked new files typed t kept plain held alike bytes same copied faultless settles changes whole sound =
    records_again batches p linked new files typed t kept plain alike same copied faultless changes whole held bytes settles sound

pub returns-clause-types : goal.returns-clause-types
returns-clause-types c batches p linked new files typed t kept plain alike same copied faultless changes whole =
    types_again batches p linked new files typed t kept plain alike same copied faultless changes whole

pub returns-clause-names : goal.returns-clause-names
returns-clause-names c batches p linked new files typed t kept plain alike same copied faultless changes whole =
    names_again batches p linked new files typed t kept plain alike same copied faultless changes whole
