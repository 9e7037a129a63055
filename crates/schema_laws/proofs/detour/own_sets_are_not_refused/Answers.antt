use Rattle.schema_laws.proofs.OwnRefused.{own_refused}
use Rattle.schema_laws.proofs.detour.own_sets_are_not_refused.Goals as goal

pub returns : goal.returns
returns c = λ s is held bytes short. own_refused s is held short bytes
