use Rattle.linked_view.proofs.Enums.{enum_to, enum_from}
use Rattle.linked_view.proofs.laws.enums_have_no_fault_where_they_are_numbered.Goals as goal

pub returns : goal.returns
returns c at path proto3 e = (enum_to at path proto3 e, enum_from at path proto3 e)
