use Rattle.std.proofs.Common.{rules}
use Rattle.schema_slot.proofs.Called.{on_session}
use Rattle.schema_slot.specs.Calls.{Forgets}
use Rattle.schema_c.proofs.matzupol_unchecked_forget.Goals as goal

pub returns : goal.returns
returns c = on_session Forgets _ _ _ c.deref_mut.result.now c.forget-code.result c.forget-code.new.self (search rules) (search rules) (search rules) c.forget-code.ensures
