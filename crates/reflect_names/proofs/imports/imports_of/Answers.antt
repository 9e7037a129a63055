use Rattle.std.proofs.Common.{◌≡◌, [], ◌++◌, ap, ◌∙◌, rules}
use Rattle.std.specs.List.{cons_option}
use Rattle.reflect_scope.specs.FileIndexes.{indexes_of}
use Rattle.reflect_names.specs.ImportedFiles.{file_of}
use Rattle.reflect_names.proofs.ImportRuns.{found_more}
use Rattle.reflect_names.proofs.imports.imports_of.Goals as goal

pub turns-preserved : goal.turns-preserved
turns-preserved c =
    let of = file_of (indexes_of c.args.file_names.now) in
    let name = c.name-item.result in
    let files = c.turns.files.items in
    let found : c.copied.result ≡ of name = search rules in
    found_more of c.deref-name-items.result.now c.turns.name-index name files c.push_found.new.files.items c.turns-test.true c.turns.invariant
    (c.in_ok-push_found.ensures ∙ ap (λ o. files ++ cons_option o []) (found ∙ ap of c.name-item.is))
