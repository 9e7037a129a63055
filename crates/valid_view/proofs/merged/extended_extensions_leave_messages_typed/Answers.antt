use Rattle.valid_view.proofs.Extended.{list_extension_typed, map_extension_typed, same_extension_typed}
use Rattle.valid_view.proofs.merged.extended_extensions_leave_messages_typed.Goals as goal

pub returns-clause-list : goal.returns-clause-list
returns-clause-list c = list_extension_typed

pub returns-clause-map : goal.returns-clause-map
returns-clause-map c = map_extension_typed

pub returns-clause-neither : goal.returns-clause-neither
returns-clause-neither c = same_extension_typed
