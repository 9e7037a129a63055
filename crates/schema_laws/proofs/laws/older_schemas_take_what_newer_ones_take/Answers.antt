use Rattle.schema_laws.proofs.PassedTexts.{known_taken}
use Rattle.schema_laws.proofs.Recoding.{accepted, recoded_accepted, takes_older}
use Rattle.schema_laws.proofs.laws.older_schemas_take_what_newer_ones_take.Goals as goal

pub returns-clause-decoded : goal.returns-clause-decoded
returns-clause-decoded c = λ old new older bytes text b h.
    takes_older old new older bytes (accepted new.0.pool new.0.sound new.1 bytes text b h)

pub returns-clause-recoded : goal.returns-clause-recoded
returns-clause-recoded c = λ old new older bytes out b h.
    takes_older old new older bytes (recoded_accepted new.0.pool new.0.sound new.1 bytes out b h)

pub returns-clause-known : goal.returns-clause-known
returns-clause-known c = known_taken
