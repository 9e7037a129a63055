use Rattle.message_view.proofs.Recoded.{chain_normal}
use Rattle.message_view.proofs.laws.chains_have_one_normal_form.Goals as goal

pub returns : goal.returns
returns c = chain_normal
