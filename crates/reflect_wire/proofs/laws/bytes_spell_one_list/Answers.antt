use Rattle.reflect_wire.proofs.Spelling.{one_list}
use Rattle.reflect_wire.proofs.laws.bytes_spell_one_list.Goals as goal

pub returns : goal.returns
returns c = one_list
