use Rattle.std.proofs.Common.{arith}
use Rattle.std.specs.BTreeMap.{get_by_text}
use Rattle.reflect_names.specs.Names.{import_fault}
use Rattle.reflect_faults.proofs.Added.{adds_more}
use Rattle.reflect_names.proofs.imports.require_imports.Goals as goal

pub turns-preserved : goal.turns-preserved
turns-preserved c =
    adds_more (λ at. import_fault at (λ n. get_by_text c.args.file_names.now n)) c.args.faults.now c.turns.faults c.require_import.new.faults c.args.index c.deref-name-items.result.now c.turns.at c.name-item.result (omega arith) c.name-item.is c.turns.invariant c.in_ok-require_import.ensures
