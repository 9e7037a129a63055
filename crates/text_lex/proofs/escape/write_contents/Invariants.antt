use Rattle.std.proofs.Common.{◌≡◌, ◌-◌, ◌≤◌, ◌++◌, length, drop}
use Rattle.std.specs.Fmt.{HasWritten, IsPlainFormatter}
use Rattle.protox_lex.specs.Class.{Text}
use Rattle.text_lex.specs.Printed.{escaped}
use Rattle.protox_lex.specs.Lex.{unescaped}
use Rattle.text_lex.proofs.escape.write_contents.Given as goal

abbrev pub invariant-loop-at : goal.invariant-loop-at
invariant-loop-at g l = record {
  within : l.at ≤ length l.raw;
  done : Text;
  wrote : IsPlainFormatter l.initial.f → HasWritten g.W.Write.write_str_gives l.initial.f done l.f;
  same : done ++ escaped (unescaped (drop l.at l.raw)) ≡ escaped (unescaped l.raw);
}

abbrev pub decreases-loop-at : goal.decreases-loop-at
decreases-loop-at g l = length l.raw - l.at
