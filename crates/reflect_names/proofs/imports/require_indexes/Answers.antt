use Rattle.std.proofs.Common.{◌≡◌, ℤ, pos, arith, subst, get_or, to_z, of_z, w32, rules}
use Rattle.reflect_faults.specs.Faults.{Adds, place_at}
use Rattle.reflect_names.specs.Names.{public_fault}
use Rattle.reflect_faults.proofs.Added.{adds_at}
use Rattle.reflect_names.proofs.imports.require_indexes.Goals as goal

pub turns-preserved : goal.turns-preserved
turns-preserved c =
    let xs = c.deref-import-items.result.now in
    let x : ℤ = get_or xs c.turns.at (pos 0) in
    let t = c.turns.faults in
    let same : to_z w32 (of_z w32 x) ≡ x = search rules in
    let now = subst (λ y. Adds t c.require_index.new.faults (public_fault (place_at t c.args.index) c.args.count c.turns.at y)) same c.in_ok-require_index.ensures in
    adds_at (λ at. public_fault at c.args.count) c.args.faults.now t c.require_index.new.faults c.args.index xs c.turns.at (pos 0) (omega arith) c.turns.invariant now
