use Rattle.std.proofs.Common.{◌≡◌}
use Rattle.text_model.specs.Tree.{Fields}
use Rattle.text_scalars.specs.Left.{left}
use Rattle.text_scalars.specs.Remaining.{remaining}
use Rattle.text_syntax.specs.Beginning.{BeginWith}
use Rattle.text_syntax.specs.Syntax.{at_end, message_at}
use Rattle.reflect_format.specs.Filled.{Fills}
use Rattle.reflect_format.proofs.parser.fields_to_end.Given as goal

abbrev pub invariant-fields : goal.invariant-fields
invariant-fields l =
    (l.message.descriptor ≡ l.initial.message.descriptor)
    × (done : Fields)
    × BeginWith at_end (message_at 100) (remaining l.initial.tokens) done (remaining l.tokens)
    × Fills done l.initial.message l.message

abbrev pub decreases-fields : goal.decreases-fields
decreases-fields l = left l.tokens
