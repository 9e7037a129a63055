use Rattle.std.proofs.Common.{◌≡◌, [], arith}
use Rattle.std.proofs.lemmas.Grind.{common_steps}
use Rattle.reflect_wire.specs.Views.{fields_of}
use Rattle.reflect_wire.proofs.Views.{no_fields_in, no_records_in}
use Rattle.reflect_wire.proofs.unknown.UnknownFieldSet.is_empty.Goals as goal

pub returns : goal.returns
returns c = (
  λ yes. no_records_in c.args.self.now (let e : fields_of c.args.self.now ≡ [] = grind (arith, common_steps) in e),
  λ none. let e = no_fields_in c.args.self.now none in grind (arith, common_steps),
)
