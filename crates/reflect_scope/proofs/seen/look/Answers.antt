use Rattle.std.proofs.Common.{false, arith}
use Rattle.std.proofs.lemmas.List.{get_or_past}
use Rattle.reflect_scope.proofs.seen.look.Goals as goal

pub returns-clause-others : goal.returns-clause-others
returns-clause-others c = λ g le. get_or_past c.reach.new.marks.items g false (let is = c.in_ok-reach.ensures.same in omega (arith, le, is))
