use Rattle.valid_view.proofs.ExtendedSolid.{list_extension_solid, map_extension_solid, same_extension_solid}
use Rattle.valid_view.proofs.merged.extended_extensions_leave_messages_solid.Goals as goal

pub returns-clause-list : goal.returns-clause-list
returns-clause-list c = list_extension_solid

pub returns-clause-map : goal.returns-clause-map
returns-clause-map c = map_extension_solid

pub returns-clause-neither : goal.returns-clause-neither
returns-clause-neither c = same_extension_solid
