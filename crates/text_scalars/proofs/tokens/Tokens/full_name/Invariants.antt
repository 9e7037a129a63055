use Rattle.std.proofs.Common.{◌≡◌, ◌≤◌, string_bytes}
use Rattle.text_scalars.specs.Left.{left}
use Rattle.text_scalars.specs.Names.{dotted_at}
use Rattle.text_scalars.specs.Remaining.{remaining}
use Rattle.text_scalars.proofs.Naming.{onto}
use Rattle.text_scalars.proofs.tokens.Tokens.full_name.Given as goal

abbrev pub invariant-words : goal.invariant-words
invariant-words l = record {
  more : left l.self ≤ left l.initial.self;
  whole : onto (string_bytes l.name) (dotted_at (remaining l.self)) ≡ onto (string_bytes l.initial.name) (dotted_at (remaining l.initial.self));
}

abbrev pub decreases-words : goal.decreases-words
decreases-words l = left l.self
