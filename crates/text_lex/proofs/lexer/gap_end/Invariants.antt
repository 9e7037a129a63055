use Rattle.std.proofs.Common.{◌≡◌, ◌≤◌, ◌-◌, length, drop}
use Rattle.text_lex.specs.Lex.{lexemes_from}
use Rattle.text_lex.proofs.lexer.gap_end.Given as goal

abbrev pub invariant-gap : goal.invariant-gap
invariant-gap l = record {
  least : l.at ≤ l.end;
  within : l.end ≤ length l.text;
  passed : lexemes_from l.at 0 (drop l.at l.text) ≡ lexemes_from l.end 0 (drop l.end l.text);
}

abbrev pub decreases-gap : goal.decreases-gap
decreases-gap l = length l.text - l.end
