use Rattle.std.proofs.Common.{sym}
use Rattle.schema_laws.proofs.OwnSchemas.{same_names}
use Rattle.schema_laws.proofs.Refusing.{decoded_taken}
use Rattle.schema_laws.proofs.TextsAlike.{decoded_alike, no_message}
use Rattle.schema_laws.proofs.detour.schemas_of_own_sets_decode_alike.Goals as goal

pub returns-clause-same : goal.returns-clause-same
returns-clause-same c = λ s t is detour.
    decoded_alike s.pool t.pool s.sound t.sound
    (sym (same_names s t is detour no_message))

pub returns-clause-first : goal.returns-clause-first
returns-clause-first c = λ s t is detour.
    decoded_taken s.pool t.pool s.sound t.sound
    (sym (same_names s t is detour no_message))

pub returns-clause-second : goal.returns-clause-second
returns-clause-second c = λ s t is detour.
    decoded_taken t.pool s.pool t.sound s.sound
    (same_names s t is detour no_message)
