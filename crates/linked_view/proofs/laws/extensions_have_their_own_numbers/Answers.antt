use Rattle.linked_view.proofs.Extended.{key_once}
use Rattle.linked_view.proofs.laws.extensions_have_their_own_numbers.Goals as goal

pub returns : goal.returns
returns c = λ p index tells k. key_once k p index tells
