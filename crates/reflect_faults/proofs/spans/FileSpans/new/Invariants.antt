use Rattle.std.proofs.Common.{take}
use Rattle.reflect_faults.specs.Spans.{AreSpans}
use Rattle.reflect_faults.proofs.spans.FileSpans.new.Given as goal

abbrev pub invariant-locations : goal.invariant-locations
invariant-locations l = AreSpans l.by_path (take l.location-index l.locations)
