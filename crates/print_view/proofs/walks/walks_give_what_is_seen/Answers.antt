use Rattle.print_view.proofs.SetSeen.{all_extensions, all_fields, all_records}
use Rattle.print_view.proofs.walks.walks_give_what_is_seen.Goals as goal

pub returns-clause-fields : goal.returns-clause-fields
returns-clause-fields c = all_fields

pub returns-clause-extensions : goal.returns-clause-extensions
returns-clause-extensions c = all_extensions

pub returns-clause-unknown : goal.returns-clause-unknown
returns-clause-unknown c = all_records
