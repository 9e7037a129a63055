use Rattle.std.proofs.Common.{rules}
use Rattle.std.proofs.lemmas.List.Elements.{Contains-push}
use Rattle.reflect_scope.proofs.Search.{mark_one}
use Rattle.reflect_scope.proofs.Listed.{listed_more}
use Rattle.reflect_scope.proofs.seen.mark.Goals as goal

pub returns-in_ok-push-clause-marked : goal.returns-in_ok-push-clause-marked
returns-in_ok-push-clause-marked c = λ m. rw c.in_ok-push.ensures.items (mark_one c.args.marks.now.items c.args.order.now.items c.args.file (search rules) (search rules) m)

pub returns-in_ok-push-clause-there : goal.returns-in_ok-push-clause-there
returns-in_ok-push-clause-there c = λ m lt. rw c.in_ok-push.ensures.items (Contains-push c.args.order.now.items c.args.file)

pub returns-in_ok-push-clause-listed : goal.returns-in_ok-push-clause-listed
returns-in_ok-push-clause-listed c = λ l. rw c.in_ok-push.ensures.items (listed_more c.args.marks.now.items c.args.order.now.items c.args.file l)
