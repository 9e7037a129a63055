use Rattle.known_messages.proofs.Forms.{forms_mean, forms_recoded}
use Rattle.known_messages.proofs.laws.written_bytes_are_recoded_to_themselves.Goals as goal

pub returns-clause-mean : goal.returns-clause-mean
returns-clause-mean c = forms_mean

pub returns-clause-recoded : goal.returns-clause-recoded
returns-clause-recoded c = forms_recoded
