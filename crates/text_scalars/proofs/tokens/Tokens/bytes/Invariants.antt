use Rattle.std.proofs.Common.{◌≡◌, ◌≤◌}
use Rattle.text_scalars.specs.Left.{left}
use Rattle.text_scalars.specs.Remaining.{remaining}
use Rattle.text_scalars.specs.Scalars.{literals_at}
use Rattle.text_scalars.proofs.Literals.{meant}
use Rattle.text_scalars.proofs.tokens.Tokens.bytes.Given as goal

abbrev pub invariant-literals : goal.invariant-literals
invariant-literals l = record {
  more : left l.self ≤ left l.initial.self;
  whole : meant l.bytes.items (literals_at l.last.end (remaining l.self)) ≡ meant l.initial.bytes.items (literals_at l.initial.last.end (remaining l.initial.self));
}

abbrev pub decreases-literals : goal.decreases-literals
decreases-literals l = left l.self
