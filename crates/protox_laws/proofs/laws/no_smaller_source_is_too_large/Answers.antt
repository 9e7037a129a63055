use Rattle.protox_laws.proofs.Sizes.{sizeless}
use Rattle.protox_laws.proofs.laws.no_smaller_source_is_too_large.Goals as goal

pub returns : goal.returns
returns c = sizeless
