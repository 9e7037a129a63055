use Rattle.std.proofs.Common.{◌≡◌, [], OnOk, Result, Ok, Err, ap, subst, ◌∙◌}
use Rattle.reflect_faults.specs.Faults.{Adds, list_of, place_at}
use Rattle.reflect_scope.specs.FileIndexes.{indexes_of}
use Rattle.reflect_scope.specs.Known.{known_of}
use Rattle.reflect_known.specs.KnownNames.{known_behind}
use Rattle.reflect_names.specs.NamePass.{faults_along}
use Rattle.reflect_declarations.specs.Batches.{batch_declarations}
use Rattle.reflect_passes.specs.NameFaults.{name_faults}
use Rattle.reflect_passes.proofs.Listed.{names_listed, refused_by}
use Rattle.reflect_passes.proofs.passes.declare_names.Goals as goal

listed : (c : goal.After-without_faults) → list_of c.into_parts-all.result.1 ≡ name_faults (indexes_of c.args.file_names.now) (known_of c.args.names.now) c.args.before c.args.first c.args.files.now
listed c =
    let f = c.new-faults.result in
    let g = c.name_files.new.faults in
    let v = c.new-visitor.result in
    let h = c.declare_files-declared.new.self.faults in
    let now = indexes_of c.name_files.new.file_names in
    let known = known_of c.args.names.now in
    let ds = batch_declarations c.args.before c.args.first c.args.files.now in
    let same : known_of v.names ≡ known = c.new-visitor.ensures.names ∙ ap known_of c.replace-known.ensures.value in
    let names : indexes_of v.file_names.now ≡ now = ap indexes_of c.new-visitor.ensures.file_names in
    let found = subst (λ x. Adds x h (faults_along (place_at x) now known ds)) c.new-visitor.ensures.faults
    (subst (λ k. Adds v.faults h (faults_along (place_at v.faults) now k ds)) same
    (subst (λ n. Adds v.faults h (faults_along (place_at v.faults) n (known_of v.names) ds)) names c.in-Ok.ensures.faults)) in
    ap list_of c.into_parts-all.ensures.faults
    ∙ names_listed f c.args.files.now c.args.first c.args.before c.new-faults.ensures.none c.new-faults.ensures.files c.new-faults.ensures.first g h (indexes_of c.args.file_names.now) now known c.in_default.ensures.faults c.in_default.ensures.names found

pub returns-in-Ok-clause-ok : goal.returns-in-Ok-clause-ok
returns-in-Ok-clause-ok c = subst (λ xs. OnOk c.without_faults.result (xs ≡ [])) (listed c) c.without_faults.ensures.ok

pub returns-in-Ok-clause-err : goal.returns-in-Ok-clause-err
returns-in-Ok-clause-err c =
    let faults = name_faults (indexes_of c.args.file_names.now) (known_of c.args.names.now) c.args.before c.args.first c.args.files.now in
    refused_by c.without_faults.result (list_of c.into_parts-all.result.1) (λ xs. xs ≡ faults) (listed c) c.without_faults.ensures.err

always : {T E : Type 0} (r : Result T E) (P : Type 0) → P → OnOk r P
always (Ok x) P p = p
always (Err e) P p = tt

pub returns-in-Ok-clause-names : goal.returns-in-Ok-clause-names
returns-in-Ok-clause-names c =
    let known = known_of c.args.names.now in
    let ds = batch_declarations c.args.before c.args.first c.args.files.now in
    let v = c.new-visitor.result in
    let same : known_of v.names ≡ known = c.new-visitor.ensures.names ∙ ap known_of c.replace-known.ensures.value in
    always c.without_faults.result (known_of c.into_parts-all.result.0 ≡ known_behind known ds) (c.into_parts-all.ensures.names ∙ c.in-Ok.ensures.known ∙ ap (λ k. known_behind k ds) same)
