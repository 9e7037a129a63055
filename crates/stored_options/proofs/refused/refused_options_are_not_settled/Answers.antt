use Rattle.std.proofs.Common.{refl}
use Rattle.stored_options.proofs.RefusedOptions.{not_left, not_settled}
use Rattle.stored_options.proofs.SameScopes.{alike_itself}
use Rattle.stored_options.proofs.TwinPools.{twins_itself}
use Rattle.stored_options.proofs.refused.refused_options_are_not_settled.Goals as goal

pub returns-clause-settled : goal.returns-clause-settled
returns-clause-settled c = λ scope s o at e settled paths sound can refuses settles.
    not_settled scope s s (alike_itself s) (twins_itself s.pool.now sound) can can o at e refuses settled paths settles

pub returns-clause-left : goal.returns-clause-left
returns-clause-left c = λ scope s o at e refuses stay. not_left scope s s refl o at e refuses stay
