use Rattle.reflect_scope.specs.Known.{known_of}
use Rattle.message_view.proofs.Sound.{distinct}
use Rattle.message_view.proofs.laws.linked_pools_have_names.Goals as goal

pub returns : goal.returns
returns c = λ pool names file_names places links messages h. (h.pooled, distinct pool (known_of names) h.named)
