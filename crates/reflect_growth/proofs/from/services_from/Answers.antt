use Rattle.std.proofs.Common.{arith, ◌≤◌}
use Rattle.reflect_tables.specs.Views.{service_of}
use Rattle.reflect_growth.proofs.More.{one_fails}
use Rattle.reflect_growth.proofs.from.services_from.Goals as goal

-- the service is declared before
pub returns-then-service-first : goal.returns-then-service-first
returns-then-service-first c =
    let before = c.if-service-first.true in
    one_fails (λ x. c.args.first ≤ x.file) service_of c.args.items.now c.loop-service.service-index c.service-item.result (search) (search) (λ from. absurd (omega (arith, before, from)))
