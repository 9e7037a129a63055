use Rattle.std.proofs.Common.{◌≡◌, length}
use Rattle.reflect_faults.specs.Spans.{span_among}
use Rattle.reflect_options.proofs.resolve.span_of_path.Given as goal

abbrev pub decreases-locations : goal.decreases-locations
decreases-locations l = length l.rest

abbrev pub invariant-locations : goal.invariant-locations
invariant-locations l = record { left : span_among l.rest l.path ≡ span_among l.locations l.path }
