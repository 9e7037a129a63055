use Rattle.std.proofs.Common.{take}
use Rattle.schema_core.specs.Refusals.{sources_of}
use Rattle.schema_core.proofs.Refused.{AreRead}
use Rattle.schema_core.proofs.schema.Schema.add_sources.Given as goal

abbrev pub invariant-loop-source : goal.invariant-loop-source
invariant-loop-source l = AreRead (sources_of (take l.source-index l.sources)) l.files.items
