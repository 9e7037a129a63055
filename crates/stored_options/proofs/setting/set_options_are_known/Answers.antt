use Rattle.stored_options.specs.SetOptions.{leads_by}
use Rattle.stored_options.proofs.Known.{all_known}
use Rattle.stored_options.proofs.setting.set_options_are_known.Goals as goal

pub returns : goal.returns
returns c = λ w lead. all_known w (leads_by lead)
