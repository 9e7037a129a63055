use Rattle.std.proofs.Common.{[], ◌∷◌}
use Rattle.schema_laws.proofs.AddedBatches.{grown_batch}
use Rattle.schema_laws.proofs.OlderTypes.{older_after}
use Rattle.schema_laws.proofs.older.types_stay_as_files_come.Goals as goal

pub returns : goal.returns
returns c = λ earlier old new is grows.
    let b = grown_batch earlier old new is grows in
    older_after earlier (b.0 ∷ []) old.pool new.pool is b.1 grows.before.kept grows.after.kept
