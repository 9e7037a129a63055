use Rattle.std.proofs.Common.{drop, sym}
use Rattle.std.proofs.lemmas.List.{take-append-drop}
use Rattle.schema_core.proofs.payload.trim_end.Goals as goal

pub returns-clause-cut : goal.returns-clause-cut
returns-clause-cut c = (drop c.back.end c.args.text.now, c.back.invariant.1, sym (take-append-drop c.back.end c.args.text.now))
