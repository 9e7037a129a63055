use Rattle.valid_view.proofs.Extended.{list_typed, map_typed, same_typed}
use Rattle.valid_view.proofs.merged.extended_fields_leave_messages_typed.Goals as goal

pub returns-clause-list : goal.returns-clause-list
returns-clause-list c = list_typed

pub returns-clause-map : goal.returns-clause-map
returns-clause-map c = map_typed

pub returns-clause-neither : goal.returns-clause-neither
returns-clause-neither c = same_typed
