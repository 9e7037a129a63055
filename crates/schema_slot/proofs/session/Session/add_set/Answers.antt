use Rattle.std.proofs.Common.{◌≡◌, rules, subst, []}
use Rattle.schema_core.specs.Refusals.{SetLinked, SetRefused}
use Rattle.schema_slot.proofs.Ended.{ends_done, unless_done}
use Rattle.schema_slot.specs.Held.{answer, pool}
use Rattle.schema_slot.proofs.session.Session.add_set.Goals as goal

pub returns-in-Ok : goal.returns-in-Ok
returns-in-Ok c =
    let old = c.args.self.now in
    let bytes = c.args.bytes.now in
    let there : c.add_descriptor_set.new.self.pool ≡ pool c.done.new.self = search rules in (
      search rules,
      unless_done _ _ c.done.ensures.code,
      ends_done _ _ (λ s. SetLinked (pool old) bytes (pool s) × (answer s ≡ [])) (SetRefused (pool old) bytes) _ _ c.done.ensures.code tt c.done.ensures.answered.1
          (subst (λ p. SetLinked (pool old) bytes p) there c.in-Ok.ensures.linked, search rules),
    )
