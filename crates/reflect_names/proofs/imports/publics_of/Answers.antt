use Rattle.std.proofs.Common.{◌≡◌, ℤ, pos, [], ◌++◌, get_or, to_z, of_z, w32, ap, ◌∙◌, rules}
use Rattle.std.specs.List.{cons_option}
use Rattle.reflect_scope.specs.FileIndexes.{indexes_of}
use Rattle.reflect_names.specs.ImportedFiles.{import_at}
use Rattle.reflect_names.proofs.ImportRuns.{found_more}
use Rattle.reflect_names.proofs.imports.publics_of.Goals as goal

pub turns-preserved : goal.turns-preserved
turns-preserved c =
    let at = import_at (indexes_of c.args.file_names.now) c.args.names.now.items in
    let xs = c.deref-import-items.result.now in
    let x : ℤ = get_or xs c.turns.import-index (pos 0) in
    let files = c.turns.files.items in
    let same : to_z w32 (of_z w32 x) ≡ x = search rules in
    found_more at xs c.turns.import-index (pos 0) files c.push_found.new.files.items c.turns-test.true c.turns.invariant
    (c.in_ok-push_found.ensures ∙ ap (λ o. files ++ cons_option o []) (c.import_at.ensures ∙ ap at same))
