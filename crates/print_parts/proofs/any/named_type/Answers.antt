use Rattle.std.proofs.Common.{rules}
use Rattle.print_parts.proofs.Urls.{no_slash, at_slash}
use Rattle.print_parts.proofs.any.named_type.Goals as goal

pub returns-in_err-name-clause-finds : goal.returns-in_err-name-clause-finds
returns-in_err-name-clause-finds c = no_slash c.args.descriptor.pool.now c.args.type_url.now _ c.in_err-name.ensures.cases (search rules)

pub returns-clause-finds : goal.returns-clause-finds
returns-clause-finds c = at_slash c.args.descriptor.pool.now c.args.type_url.now _ _ _ c.in_ok-name.ensures.cases (search rules)
