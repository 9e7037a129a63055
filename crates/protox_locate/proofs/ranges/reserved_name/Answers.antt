use Rattle.std.proofs.Common.{◌≡◌, ◌∷◌, [], subst, rules}
use Rattle.protox_locate.specs.Collected.{meet, state}
use Rattle.protox_locate.specs.Located.{part}
use Rattle.protox_locate.proofs.ranges.reserved_name.Goals as goal

pub returns-clause-located : goal.returns-clause-located
returns-clause-located c =
    subst (λ s. state c.add.new.self ≡ meet (state c.args.locator.now) (part c.args.path.now (c.args.tag ∷ c.args.count.now.entries ∷ []) s)) c.span.ensures (search rules)
