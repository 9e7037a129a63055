use Rattle.std.proofs.Common.{[], ◌∷◌}
use Rattle.schema_laws.proofs.AddedBatches.{grown_batch}
use Rattle.schema_laws.proofs.LaterTexts.{encoded_before, known_after, taken_after}
use Rattle.schema_laws.proofs.growth.encoded_texts_stay_as_files_come.Goals as goal

pub returns-clause-same : goal.returns-clause-same
returns-clause-same c = λ earlier old new is grows.
    let b = grown_batch earlier old new is grows in
    encoded_before earlier (b.0 ∷ []) old.pool new.pool is b.1 grows.before.kept grows.after.kept
    old.sound new.sound

pub returns-clause-taken : goal.returns-clause-taken
returns-clause-taken c = λ earlier old new is grows.
    let b = grown_batch earlier old new is grows in
    taken_after earlier (b.0 ∷ []) old.pool new.pool is b.1 grows.before.kept grows.after.kept
    old.sound new.sound

pub returns-clause-known : goal.returns-clause-known
returns-clause-known c = λ earlier old new is grows.
    let b = grown_batch earlier old new is grows in
    known_after earlier (b.0 ∷ []) old.pool new.pool is b.1 grows.before.kept grows.after.kept
    old.sound new.sound
