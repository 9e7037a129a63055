use Rattle.std.proofs.Common.{◌≡◌, ◌+◌, ◌*◌, ◌≤◌}
use Rattle.text_model.specs.Tree.{Fields, Values}
use Rattle.text_scalars.specs.Braces.{closing}
use Rattle.text_scalars.specs.Left.{left}
use Rattle.text_scalars.specs.Remaining.{remaining}
use Rattle.text_syntax.specs.Beginning.{BeginWith}
use Rattle.text_syntax.specs.Syntax.{at_sign, list_at, message_at, more_at, values_by}
use Rattle.text_syntax.proofs.Continuing.{listed_on}
use Rattle.reflect_format.specs.Filled.{AreValues, Fills}
use Rattle.reflect_format.specs.Told.{ListBegins}
use Rattle.reflect_format.proofs.parser.+field.Given as goal

abbrev pub decreases-message_value : goal.decreases-message_value
decreases-message_value l = 8 * l.braces

abbrev pub decreases-value : goal.decreases-value
decreases-value l = 8 * l.braces + 1

abbrev pub decreases-expansion : goal.decreases-expansion
decreases-expansion l = 8 * l.braces + 1

abbrev pub decreases-list : goal.decreases-list
decreases-list l = 8 * l.braces + 2

abbrev pub decreases-values : goal.decreases-values
decreases-values l = 8 * l.braces + 3

abbrev pub decreases-assignment : goal.decreases-assignment
decreases-assignment l = 8 * l.braces + 4

abbrev pub decreases-named_value : goal.decreases-named_value
decreases-named_value l = 8 * l.braces + 5

abbrev pub decreases-field : goal.decreases-field
decreases-field l = 8 * l.braces + 6

abbrev pub decreases-fields_to_brace : goal.decreases-fields_to_brace
decreases-fields_to_brace l = 8 * l.braces + 7

abbrev pub invariant-fields_to_brace-fields : goal.invariant-fields_to_brace-fields
invariant-fields_to_brace-fields l =
    (left l.tokens ≤ left l.initial.tokens)
    × (l.message.descriptor ≡ l.initial.message.descriptor)
    × (done : Fields)
    × BeginWith (at_sign (closing l.closing)) (message_at l.braces) (remaining l.initial.tokens) done
    (remaining l.tokens)
    × Fills done l.initial.message l.message

abbrev pub decreases-fields_to_brace-fields : goal.decreases-fields_to_brace-fields
decreases-fields_to_brace-fields l = left l.tokens

abbrev pub invariant-list-values : goal.invariant-list-values
invariant-list-values l =
    (left l.tokens ≤ left l.initial.tokens)
    × (done : Values)
    × AreValues done l.kind l.values.items
    × (list_at (message_at l.braces) (remaining l.initial.tokens)
    ≡ listed_on done
    (values_by (message_at l.braces) (more_at (message_at l.braces)) (remaining l.tokens)))
    × ListBegins (message_at l.braces) (remaining l.initial.tokens) done (remaining l.tokens)

abbrev pub decreases-list-values : goal.decreases-list-values
decreases-list-values l = left l.tokens
