use Rattle.linked_view.proofs.NamedFiles.{files_to, files_from}
use Rattle.linked_view.proofs.laws.files_have_no_fault_where_they_are_files.Goals as goal

pub returns : goal.returns
returns c at indexes first old new placed =
    (files_to at indexes first old new placed, files_from at indexes first old new placed)
