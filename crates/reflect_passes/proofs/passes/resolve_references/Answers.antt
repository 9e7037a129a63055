use Rattle.std.proofs.Common.{◌≡◌, [], map, ap, sym, subst, ◌∙◌}
use Rattle.std.proofs.lemmas.Result.{err_from_is_err_and}
use Rattle.reflect_faults.specs.Faults.{list_of}
use Rattle.reflect_scope.specs.Known.{known_of}
use Rattle.reflect_names.specs.ReferenceSteps.{target_of}
use Rattle.reflect_passes.specs.Errors.{faults_of}
use Rattle.reflect_passes.specs.NameFaults.{ReferenceFaults}
use Rattle.reflect_passes.proofs.Listed.{references_listed, refused_as}
use Rattle.reflect_passes.proofs.passes.resolve_references.Goals as goal

pub returns-in_err-without_faults-clause-err : goal.returns-in_err-without_faults-clause-err
returns-in_err-without_faults-clause-err c =
    let f = c.new-faults.ensures in
    let v = c.new-visitor.ensures in
    let out = c.into_parts-references in
    let known = known_of c.args.names.now in
    let found = references_listed c.new-faults.result c.args.files.now c.args.first c.args.before f.none f.files f.first known c.args.links.now
    c.new-visitor.result c.resolve_files.new.self out.result.0.items (list_of out.result.1) (ap known_of v.names) v.links v.faults v.references c.in_default.ensures.resolves out.ensures.references (ap list_of out.ensures.faults) in
    let p = err_from_is_err_and c.from_residual.result c.from_residual.ensures.1 in
    let faults = ReferenceFaults known c.args.links.now c.args.before c.args.first c.args.files.now in
    let says : faults_of p.0 ≡ list_of out.result.1 = ap faults_of p.2 ∙ c.in_err-without_faults.ensures.err in
    refused_as c.from_residual.result p.0 faults p.1 (subst faults (sym says) (map target_of out.result.0.items, found))

pub returns-clause-ok : goal.returns-clause-ok
returns-clause-ok c =
    let f = c.new-faults.ensures in
    let v = c.new-visitor.ensures in
    let out = c.into_parts-references in
    let known = known_of c.args.names.now in
    references_listed c.new-faults.result c.args.files.now c.args.first c.args.before f.none f.files f.first known c.args.links.now
    c.new-visitor.result c.resolve_files.new.self out.result.0.items [] (ap known_of v.names) v.links v.faults v.references c.in_default.ensures.resolves out.ensures.references (sym c.in_ok-without_faults.ensures.ok ∙ ap list_of out.ensures.faults)
