use Rattle.stored_options.specs.SetOptions.{leads_by}
use Rattle.stored_options.proofs.BracesListed.{list_held}
use Rattle.stored_options.proofs.BracesSet.{message_held}
use Rattle.stored_options.proofs.OneMessage.{one_lead}
use Rattle.stored_options.proofs.braces.options_in_braces_hold_what_their_text_gives.Goals as goal

pub returns-clause-message : goal.returns-clause-message
returns-clause-message c = λ w lead t u front back o old m paths ns z sets.
    message_held w (leads_by lead) (one_lead lead) t u front back o old m paths ns z sets

pub returns-clause-list : goal.returns-clause-list
returns-clause-list c = λ w lead t u os old m paths ns zs sets.
    list_held w (leads_by lead) (one_lead lead) t u os old m paths ns zs sets
