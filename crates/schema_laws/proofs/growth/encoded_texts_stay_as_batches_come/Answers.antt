use Rattle.schema_laws.proofs.LaterTexts.{encoded_before, known_after, taken_after}
use Rattle.schema_laws.proofs.growth.encoded_texts_stay_as_batches_come.Goals as goal

pub returns-clause-same : goal.returns-clause-same
returns-clause-same c = λ earlier more old new a b pool also.
    encoded_before earlier more old.pool new.pool a b pool.kept also.kept old.sound new.sound

pub returns-clause-taken : goal.returns-clause-taken
returns-clause-taken c = λ earlier more old new a b pool also.
    taken_after earlier more old.pool new.pool a b pool.kept also.kept old.sound new.sound

pub returns-clause-known : goal.returns-clause-known
returns-clause-known c = λ earlier more old new a b pool also.
    known_after earlier more old.pool new.pool a b pool.kept also.kept old.sound new.sound
