use Rattle.std.proofs.Common.{rules}
use Rattle.schema_slot.proofs.Called.{on_session}
use Rattle.schema_slot.specs.Calls.{Encodes}
use Rattle.schema_c.proofs.matzupol_unchecked_encode.Goals as goal

pub returns : goal.returns
returns c = on_session (Encodes c.args.type_name.now c.args.text.now) _ _ _ c.deref_mut.result.now c.encode-code.result c.encode-code.new.self (search rules) (search rules) (search rules) c.encode-code.ensures
