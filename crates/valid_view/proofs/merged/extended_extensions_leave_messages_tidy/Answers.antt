use Rattle.valid_view.proofs.ExtendedTidy.{list_extension_tidy, map_extension_tidy, same_extension_tidy}
use Rattle.valid_view.proofs.merged.extended_extensions_leave_messages_tidy.Goals as goal

pub returns-clause-list : goal.returns-clause-list
returns-clause-list c = list_extension_tidy

pub returns-clause-map : goal.returns-clause-map
returns-clause-map c = map_extension_tidy

pub returns-clause-neither : goal.returns-clause-neither
returns-clause-neither c = same_extension_tidy
