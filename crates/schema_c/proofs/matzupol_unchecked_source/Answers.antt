use Rattle.std.proofs.Common.{rules}
use Rattle.schema_slot.proofs.Called.{on_session}
use Rattle.schema_slot.specs.Calls.{Waits}
use Rattle.schema_c.proofs.matzupol_unchecked_source.Goals as goal

pub returns : goal.returns
returns c = on_session (Waits c.args.name.now c.args.text.now) _ _ _ c.deref_mut.result.now c.source-code.result c.source-code.new.self (search rules) (search rules) (search rules) c.source-code.ensures
