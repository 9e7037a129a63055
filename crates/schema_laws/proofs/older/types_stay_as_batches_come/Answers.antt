use Rattle.schema_laws.proofs.OlderTypes.{older_after}
use Rattle.schema_laws.proofs.older.types_stay_as_batches_come.Goals as goal

pub returns : goal.returns
returns c = λ earlier more old new a b pool also.
    older_after earlier more old.pool new.pool a b pool.kept also.kept
