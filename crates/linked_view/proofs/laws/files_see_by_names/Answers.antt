use Rattle.std.proofs.Common.{subst}
use Rattle.linked_view.proofs.Counts.{IsPlaced}
use Rattle.linked_view.proofs.NamedFiles.{names_recorded}
use Rattle.linked_view.proofs.Sees.{sees_to, sees_from}
use Rattle.linked_view.proofs.laws.files_see_by_names.Goals as goal

pub returns : goal.returns
returns c indexes links files placed linked i j f g e d =
    let are = subst (IsPlaced indexes) (names_recorded files) placed in
    (sees_to indexes links files are linked i j f g e d, sees_from indexes links files are linked i j f g e d)
