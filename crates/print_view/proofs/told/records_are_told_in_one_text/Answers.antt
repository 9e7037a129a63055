use Rattle.print_view.proofs.ToldOnce.{record_once}
use Rattle.print_view.proofs.told.records_are_told_in_one_text.Goals as goal

pub returns : goal.returns
returns c = record_once
