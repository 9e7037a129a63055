use Rattle.std.proofs.Common.{◌≡◌, ◌∷◌, replicate}
use Rattle.text_lines.specs.Added.{Adds}
use Rattle.text_lines.proofs.lines.Lines.line.Given as goal

abbrev pub invariant-loop : goal.invariant-loop
invariant-loop l = record {
  written : Adds l.fn.self.output (10 ∷ replicate l.counter 32) l.self.output;
  form : l.self.options ≡ l.fn.self.options;
}
