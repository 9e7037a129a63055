use Rattle.std.proofs.Common.{rules}
use Rattle.schema_slot.proofs.Called.{on_session}
use Rattle.schema_slot.specs.Calls.{Decodes}
use Rattle.schema_c.proofs.matzupol_unchecked_decode.Goals as goal

pub returns : goal.returns
returns c = on_session (Decodes c.args.type_name.now c.args.bytes.now) _ _ _ c.deref_mut.result.now c.decode-code.result c.decode-code.new.self (search rules) (search rules) (search rules) c.decode-code.ensures
