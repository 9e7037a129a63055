use Rattle.protox_declaration_records.proofs.Held.{is_i32}
use Rattle.protox_declaration_records.proofs.number.i32_of.Goals as goal

pub returns : goal.returns
returns c = is_i32 c.args.int c.as_i32.result c.as_i32.ensures
