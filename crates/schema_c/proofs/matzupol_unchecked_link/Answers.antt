use Rattle.std.proofs.Common.{rules}
use Rattle.schema_slot.proofs.Called.{on_session}
use Rattle.schema_slot.specs.Calls.{Links}
use Rattle.schema_c.proofs.matzupol_unchecked_link.Goals as goal

pub returns : goal.returns
returns c = on_session Links _ _ _ c.deref_mut.result.now c.link-code.result c.link-code.new.self (search rules) (search rules) (search rules) c.link-code.ensures
