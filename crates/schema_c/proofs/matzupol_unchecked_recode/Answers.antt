use Rattle.std.proofs.Common.{rules}
use Rattle.schema_slot.proofs.Called.{on_session}
use Rattle.schema_slot.specs.Calls.{Recodes}
use Rattle.schema_c.proofs.matzupol_unchecked_recode.Goals as goal

pub returns : goal.returns
returns c = on_session (Recodes c.args.type_name.now c.args.bytes.now) _ _ _ c.deref_mut.result.now c.recode-code.result c.recode-code.new.self (search rules) (search rules) (search rules) c.recode-code.ensures
