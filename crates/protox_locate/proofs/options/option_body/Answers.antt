use Rattle.std.proofs.Common.{◌≡◌, ◌∷◌, [], subst, rules}
use Rattle.descriptor_records.specs.declared.tag.TheConstants.{UNINTERPRETED_OPTION}
use Rattle.protox_locate.specs.Collected.{meet, state}
use Rattle.protox_locate.specs.Located.{part}
use Rattle.protox_locate.proofs.options.option_body.Goals as goal

pub returns-clause-located : goal.returns-clause-located
returns-clause-located c =
    subst (λ s. state c.add.new.self ≡ meet (state c.args.locator.now) (part c.args.path.now (c.args.options ∷ UNINTERPRETED_OPTION ∷ c.args.count.now.entries ∷ []) s)) c.span.ensures (search rules)
