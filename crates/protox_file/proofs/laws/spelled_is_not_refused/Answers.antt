use Rattle.protox_file.proofs.Texts.{not_both}
use Rattle.protox_file.proofs.laws.spelled_is_not_refused.Goals as goal

pub returns : goal.returns
returns c = not_both
