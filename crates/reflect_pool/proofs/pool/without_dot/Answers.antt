use Rattle.std.proofs.Common.{None, lit<}
use Rattle.std.proofs.lemmas.Str.Pattern.{strip_prefix_char}
use Rattle.reflect_pool.proofs.Dotless.{no_dot}
use Rattle.reflect_pool.proofs.pool.without_dot.Goals as goal

pub returns-in-None : goal.returns-in-None
returns-in-None c = no_dot c.args.name.now (strip_prefix_char 46 c.args.name.now None c.in-None.ensures.cases (lit< tt))
