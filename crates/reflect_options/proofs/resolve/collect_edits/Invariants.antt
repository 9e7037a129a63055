use Rattle.std.proofs.Common.{◌≡◌, ◌≤◌, ◌-◌, length}
use Rattle.reflect_options.specs.Settling.{SettlesFiles}
use Rattle.reflect_options.specs.Visiting.{IsClean}
use Rattle.reflect_options.proofs.resolve.collect_edits.Given as goal

abbrev pub invariant-files : goal.invariant-files
invariant-files l = record {
  inside : l.index - l.first ≤ length l.pool.files - l.first;
  clean : IsClean l.visitor;
  pool : l.visitor.pool.now ≡ l.pool;
  settled : SettlesFiles l.pool l.first (l.index - l.first) l.visitor.edits.items;
}
