use Rattle.print_view.proofs.Refused.{told_refused}
use Rattle.print_view.proofs.unknown.told_records_are_no_text.Goals as goal

pub returns : goal.returns
returns c = told_refused
