use Rattle.std.proofs.Common.{take}
use Rattle.reflect_declarations.specs.Declarations.{Runs, each}
use Rattle.reflect_options.specs.Entities.{range_at}
use Rattle.reflect_options.specs.Visiting.{Passes}
use Rattle.reflect_options.proofs.options_visitor.OptionsVisitor.settle_ranges.Given as goal

abbrev pub invariant-turns : goal.invariant-turns
invariant-turns l = Runs Passes l.initial.self (each (range_at l.file l.path l.name) 0 (take l.place l.ranges)) l.self
