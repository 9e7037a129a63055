use Rattle.std.proofs.Common.{◌≡◌, pos, ℕ, ℤ, get_or, arith, to_z, of_z, w32, subst, rules}
use Rattle.reflect_faults.specs.Faults.{Adds, place_at}
use Rattle.reflect_faults.proofs.Added.{adds_at}
use Rattle.reflect_rules.specs.Numbered.{fault_of, list_tag, number_tag}
use Rattle.reflect_rules.specs.Repeats.{repeat_fault}
use Rattle.reflect_rules.proofs.repeats.list_repeats.Goals as goal

pub turns-preserved : goal.turns-preserved
turns-preserved c =
    let what = c.args.what in
    let xs = c.as_slice-repeat-items.result.now in
    let x : ℕ × ℤ = get_or xs c.turns.repeat-index (0, pos 0) in
    let t = c.turns.faults in
    let same : to_z w32 (of_z w32 x.1) ≡ x.1 = search rules in
    let now = subst (λ n. Adds t c.list_repeat.new.faults (repeat_fault (fault_of what) (list_tag what) (number_tag what) c.args.path.now (place_at t c.args.file) (x.0, n))) same c.in_ok-list_repeat.ensures in
    adds_at (λ at k r. repeat_fault (fault_of what) (list_tag what) (number_tag what) c.args.path.now at r) c.args.faults.now t c.list_repeat.new.faults c.args.file xs c.turns.repeat-index (0, pos 0) (omega arith) c.turns.invariant now
