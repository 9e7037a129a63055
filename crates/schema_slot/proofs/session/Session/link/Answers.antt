use Rattle.std.proofs.Common.{◌≡◌, rules, subst, map, []}
use Rattle.schema_core.specs.Refusals.{SourcesLinked, SourcesRefused}
use Rattle.schema_slot.proofs.Ended.{ends_done, unless_done}
use Rattle.schema_slot.specs.Held.{answer, pair_of, pool, waiting}
use Rattle.schema_slot.proofs.session.Session.link.Goals as goal

pub returns-in-Ok : goal.returns-in-Ok
returns-in-Ok c =
    let old = c.args.self.now in
    let new = c.done.new.self in
    let those : map pair_of c.replace-sources.result.items ≡ waiting old = search rules in
    let there : c.add.new.schema.pool ≡ pool new = search rules in
    let linked = subst (λ w. SourcesLinked (pool old) w c.add.new.schema.pool) those c.in-Ok.ensures.ok in (
      search rules,
      unless_done _ _ c.done.ensures.code,
      ends_done _ _ (λ s. SourcesLinked (pool old) (waiting old) (pool s) × (answer s ≡ [])) (SourcesRefused (pool old) (waiting old)) _ _ c.done.ensures.code tt c.done.ensures.answered.1
          (subst (λ p. SourcesLinked (pool old) (waiting old) p) there linked, search rules),
    )
