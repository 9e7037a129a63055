use Rattle.std.proofs.Common.{rules}
use Rattle.schema_slot.proofs.Called.{on_session}
use Rattle.schema_slot.specs.Calls.{AddsSet}
use Rattle.schema_c.proofs.matzupol_unchecked_add_set.Goals as goal

pub returns : goal.returns
returns c = on_session (AddsSet c.args.set.now) _ _ _ c.deref_mut.result.now c.add_set-code.result c.add_set-code.new.self (search rules) (search rules) (search rules) c.add_set-code.ensures
