use Rattle.std.proofs.Common.{◌≡◌, ◌++◌, drop, map, take}
use Rattle.reflect_faults.specs.FaultPlaces.{located_of, moved}
use Rattle.reflect_passes.proofs.error.locate_others.Given as goal

abbrev pub invariant-loop-fault : goal.invariant-loop-fault
invariant-loop-fault l =
    let faults = l.fn.faults.items in
    l.fault-items ≡ map (moved (located_of l.file l.source)) (take l.fault-index faults) ++ drop l.fault-index faults
