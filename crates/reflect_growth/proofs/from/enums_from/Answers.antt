use Rattle.std.proofs.Common.{arith, ◌≤◌}
use Rattle.reflect_tables.specs.Views.{enum_of}
use Rattle.reflect_growth.proofs.More.{one_fails}
use Rattle.reflect_growth.proofs.from.enums_from.Goals as goal

-- the enumeration is declared before
pub returns-then-enumeration-first : goal.returns-then-enumeration-first
returns-then-enumeration-first c =
    let before = c.if-enumeration-first.true in
    one_fails (λ x. c.args.first ≤ x.file) enum_of c.args.items.now c.loop-enumeration.enumeration-index c.enumeration-item.result (search) (search) (λ from. absurd (omega (arith, before, from)))
