use Rattle.schema_laws.proofs.Refusing.{decoded_taken, recoded_taken}
use Rattle.schema_laws.proofs.SameFiles.{same_names}
use Rattle.schema_laws.proofs.batches.schemas_of_the_same_files_accept_alike.Goals as goal

pub returns-clause-recoded : goal.returns-clause-recoded
returns-clause-recoded c = λ batches others s t are.
    recoded_taken s.pool t.pool s.sound t.sound (same_names batches others s t are)

pub returns-clause-decoded : goal.returns-clause-decoded
returns-clause-decoded c = λ batches others s t are.
    decoded_taken s.pool t.pool s.sound t.sound (same_names batches others s t are)
