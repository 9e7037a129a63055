use Rattle.std.proofs.Common.{rules}
use Rattle.schema_slot.proofs.Called.{on_session}
use Rattle.schema_slot.specs.Calls.{GivesSet}
use Rattle.schema_c.proofs.matzupol_unchecked_set.Goals as goal

pub returns : goal.returns
returns c = on_session GivesSet _ _ _ c.deref_mut.result.now c.set-code.result c.set-code.new.self (search rules) (search rules) (search rules) c.set-code.ensures
