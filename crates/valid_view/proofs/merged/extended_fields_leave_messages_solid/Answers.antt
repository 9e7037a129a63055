use Rattle.valid_view.proofs.ExtendedSolid.{list_solid, map_solid, same_solid}
use Rattle.valid_view.proofs.merged.extended_fields_leave_messages_solid.Goals as goal

pub returns-clause-list : goal.returns-clause-list
returns-clause-list c = list_solid

pub returns-clause-map : goal.returns-clause-map
returns-clause-map c = map_solid

pub returns-clause-neither : goal.returns-clause-neither
returns-clause-neither c = same_solid
