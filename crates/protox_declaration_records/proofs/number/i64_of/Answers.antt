use Rattle.protox_declaration_records.proofs.Held.{is_i64}
use Rattle.protox_declaration_records.proofs.number.i64_of.Goals as goal

pub returns : goal.returns
returns c = is_i64 c.args.int c.as_i64.result c.as_i64.ensures
