use Rattle.text_view.proofs.Kept.{blank_exclusive, blank_kinds, blank_view}
use Rattle.text_view.proofs.laws.nothing_is_seen_where_nothing_is_set.Goals as goal

pub returns : goal.returns
returns c = λ m e. (blank_view m e, blank_exclusive m e, blank_kinds m e)
