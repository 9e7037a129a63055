use Rattle.message_view.proofs.Recoded.{found_named}
use Rattle.message_view.proofs.laws.a_found_type_has_the_name.Goals as goal

pub returns : goal.returns
returns c = found_named
