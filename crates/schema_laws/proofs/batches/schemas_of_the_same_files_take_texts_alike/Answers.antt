use Rattle.schema_laws.proofs.Refusing.{encoded_taken}
use Rattle.schema_laws.proofs.SameFiles.{same_names}
use Rattle.schema_laws.proofs.batches.schemas_of_the_same_files_take_texts_alike.Goals as goal

pub returns : goal.returns
returns c = λ batches others s t are.
    encoded_taken s.pool t.pool s.sound t.sound (same_names batches others s t are)
