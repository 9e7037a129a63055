use Rattle.std.proofs.Common.{arith, subst, ◌∙◌, None, get_or}
use Rattle.descriptor_records.specs.declared.enums.EnumReservedRange.{EnumReservedRange}
use Rattle.reflect_faults.specs.Faults.{Adds, place_at}
use Rattle.reflect_names.specs.Names.{bound_faults, enum_range_faults}
use Rattle.reflect_faults.proofs.Added.{adds_at}
use Rattle.reflect_names.proofs.required.require_of_enum.Goals as goal

pub turns-preserved : goal.turns-preserved
turns-preserved c =
    let xs = c.deref-range-items.result.now in
    let d : EnumReservedRange = record { start = None; end = None } in
    let x = get_or xs c.turns.at d in
    let t = c.turns.faults in
    let now = subst (λ p. Adds t c.require_bounds.new.faults (bound_faults (place_at t c.args.file) p x.start x.end)) (c.as_slice.ensures.value ∙ c.in_ok-place.ensures.path) c.in_ok-require_bounds.ensures in
    adds_at (λ at. enum_range_faults at c.args.path.now) c.args.faults.now t c.require_bounds.new.faults c.args.file xs c.turns.at d (omega arith) c.turns.invariant now
