use Rattle.stored_options.specs.SetOptions.{leads_by}
use Rattle.stored_options.proofs.OneMessage.{all_one, one_lead}
use Rattle.stored_options.proofs.setting.options_set_one_message.Goals as goal

pub returns-clause-message : goal.returns-clause-message
returns-clause-message c = λ w lead t os old new other paths others first second.
    (all_one w (leads_by lead) (leads_by lead) (one_lead lead) t os old new other paths others first
    second).0

pub returns-clause-paths : goal.returns-clause-paths
returns-clause-paths c = λ w lead t os old new other paths others first second.
    (all_one w (leads_by lead) (leads_by lead) (one_lead lead) t os old new other paths others first
    second).1
