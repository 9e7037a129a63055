use Rattle.std.proofs.Common.{◌≡◌, ◌-◌, ◌≤◌, length}
use Rattle.protox_lex.specs.Shown.{stream}
use Rattle.protox_lex.specs.Unread.{unread}
use Rattle.protox_lex.proofs.lexer.Lexer.next.Given as goal

abbrev pub invariant-loop-self : goal.invariant-loop-self
invariant-loop-self l = record {
  same : stream l.self ≡ stream l.initial.self;
  unread : unread l.self ≤ unread l.initial.self;
  source : l.self.source.now ≡ l.source;
}

abbrev pub decreases-loop-self : goal.decreases-loop-self
decreases-loop-self l = length l.source - l.self.at
