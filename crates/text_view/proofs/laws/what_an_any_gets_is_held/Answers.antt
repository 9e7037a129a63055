use Rattle.text_view.proofs.Expanded.{any_held}
use Rattle.text_view.proofs.laws.what_an_any_gets_is_held.Goals as goal

pub returns : goal.returns
returns c = any_held
