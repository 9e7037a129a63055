use Rattle.schema_view.proofs.Defaults.{passes_before}
use Rattle.schema_view.proofs.laws.bytes_pass_through_the_schema_before.Goals as goal

pub returns : goal.returns
returns c = passes_before
