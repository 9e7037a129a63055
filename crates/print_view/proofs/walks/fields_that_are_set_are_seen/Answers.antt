use Rattle.print_view.proofs.SetSeen.{extensions_seen, fields_seen}
use Rattle.print_view.proofs.walks.fields_that_are_set_are_seen.Goals as goal

pub returns-clause-fields : goal.returns-clause-fields
returns-clause-fields c = fields_seen

pub returns-clause-extensions : goal.returns-clause-extensions
returns-clause-extensions c = extensions_seen
