use Rattle.valid_view.proofs.ExtendedTidy.{list_tidy, map_tidy, same_tidy}
use Rattle.valid_view.proofs.merged.extended_fields_leave_messages_tidy.Goals as goal

pub returns-clause-list : goal.returns-clause-list
returns-clause-list c = list_tidy

pub returns-clause-map : goal.returns-clause-map
returns-clause-map c = map_tidy

pub returns-clause-neither : goal.returns-clause-neither
returns-clause-neither c = same_tidy
