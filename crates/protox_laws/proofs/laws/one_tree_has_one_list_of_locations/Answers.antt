use Rattle.protox_laws.proofs.Locations.{same_locations}
use Rattle.protox_laws.proofs.laws.one_tree_has_one_list_of_locations.Goals as goal
use Rattle.protox_lex.specs.Lines.{feeds_of}

pub returns : goal.returns
returns c = λ z file a b h k. same_locations z (feeds_of z) file a b h k
