use Rattle.std.proofs.Common.{arith, ◌≤◌}
use Rattle.reflect_tables.specs.Views.{extension_of}
use Rattle.reflect_growth.proofs.More.{one_fails}
use Rattle.reflect_growth.proofs.from.extensions_from.Goals as goal

-- the extension is declared before
pub returns-then-extension-first : goal.returns-then-extension-first
returns-then-extension-first c =
    let before = c.if-extension-first.true in
    one_fails (λ x. c.args.first ≤ x.file) extension_of c.args.items.now c.loop-extension.extension-index c.extension-item.result (search) (search) (λ from. absurd (omega (arith, before, from)))
