use Rattle.std.proofs.Common.{subst}
use Rattle.schema_core.specs.Refusals.{SetLinked}
use Rattle.schema_core.proofs.schema.Schema.from_descriptor_set.Goals as goal

pub returns-clause-linked : goal.returns-clause-linked
returns-clause-linked c = subst (λ p. SetLinked p c.args.bytes.now c.add_descriptor_set.new.self.pool) c.bare-schema.ensures c.in_ok-add_descriptor_set.ensures.linked
