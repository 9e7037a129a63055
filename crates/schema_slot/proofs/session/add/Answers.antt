use Rattle.std.proofs.Common.{◌≡◌, rules, subst, map}
use Rattle.std.specs.Prelude.{IfErr, OnOk}
use Rattle.schema_core.specs.Refusals.{SourcesLinked, SourcesRefused, sources_of}
use Rattle.schema_slot.specs.Held.{pair_of}
use Rattle.schema_slot.proofs.session.add.Goals as goal

pub returns-clause-ok : goal.returns-clause-ok
returns-clause-ok c =
    let lent : sources_of c.as_slice.result.now ≡ map pair_of c.args.sources.now.items = search rules in
    subst (λ s. OnOk c.add_sources.result (SourcesLinked c.args.schema.now.pool s c.add_sources.new.self.pool)) lent c.add_sources.ensures.linked

pub returns-clause-err : goal.returns-clause-err
returns-clause-err c =
    let lent : sources_of c.as_slice.result.now ≡ map pair_of c.args.sources.now.items = search rules in
    subst (λ s. IfErr c.add_sources.result (SourcesRefused c.args.schema.now.pool s)) lent c.add_sources.ensures.err
