use Rattle.std.proofs.Common.{◌≡◌, ◌++◌, [], length, ap, sym, ◌∙◌, append_assoc, rules, pos}
use Rattle.std.proofs.lemmas.List.{append-nil}
use Rattle.reflect_scope.specs.Means.{scopes, outer}
use Rattle.reflect_scope.proofs.Scopes.{outer_less}
use Rattle.reflect_scope.specs.Known.{known_of, declared}
use Rattle.reflect_faults.specs.Faults.{place_at, list_of}
use Rattle.reflect_known.specs.KnownNames.{packages, package_of}
use Rattle.reflect_names.specs.Names.{package_faults, taken}
use Rattle.reflect_names.specs.NameSteps.{known-on}
use Rattle.reflect_faults.proofs.Added.{places_of_same}
use Rattle.reflect_names.proofs.Packages.{packages_more, packages_last, faults_more, faults_last}
use Rattle.reflect_names.proofs.names.declare_package.Goals as goal

pub returns-in_err-declare-clause-keeps : goal.returns-in_err-declare-clause-keeps
returns-in_err-declare-clause-keeps c = known-on c.args.file (known_of c.args.names.now) (known_of c.scopes.names) (known_of c.declare.new.names) c.scopes.invariant.keeps c.declare.ensures.keeps

pub scopes-smaller : goal.scopes-smaller
scopes-smaller c =
    let s = c.scopes.scope.now in
    let some : length s ≡ 0 → ⊥ = search rules in
    rw c.outer_of-scope.ensures (outer_less s some)

pub scopes-preserved : goal.scopes-preserved
scopes-preserved c =
    let s = c.scopes.scope.now in
    let file = c.args.file in
    let known = known_of c.scopes.names in
    let at = place_at c.args.faults.now file in
    let some : length s ≡ 0 → ⊥ = search rules in
    let same : place_at c.scopes.faults file ≡ at = places_of_same c.args.faults.now c.scopes.faults c.scopes.invariant.files c.scopes.invariant.first file in
    let new = c.in_ok-declare.ensures.known in
    record {
      known = c.scopes.invariant.known ∙ packages_more known file s some ∙ ap (λ k. packages k file (scopes (outer s))) (sym new) ∙ ap (λ t. packages (known_of c.declare.new.names) file (scopes t)) (sym c.outer_of-scope.ensures);
      faults = c.scopes.invariant.faults ∙ ap (λ fs. list_of c.scopes.faults ++ fs) (faults_more at known file s some)
          ∙ sym (append_assoc (list_of c.scopes.faults) (taken at known [] (pos 2) s (package_of file)) (package_faults at (declared known s (package_of file)) file (scopes (outer s))))
          ∙ ap (λ fs. fs ++ package_faults at (declared known s (package_of file)) file (scopes (outer s))) (ap (λ p. list_of c.scopes.faults ++ taken p known [] (pos 2) s (package_of file)) (sym same) ∙ sym c.in_ok-declare.ensures.faults.added)
          ∙ ap (λ k. list_of c.declare.new.faults ++ package_faults at k file (scopes (outer s))) (sym new)
          ∙ ap (λ t. list_of c.declare.new.faults ++ package_faults at (known_of c.declare.new.names) file (scopes t)) (sym c.outer_of-scope.ensures);
      files = c.in_ok-declare.ensures.faults.files ∙ c.scopes.invariant.files;
      first = c.in_ok-declare.ensures.faults.first ∙ c.scopes.invariant.first;
      keeps = known-on file (known_of c.args.names.now) known (known_of c.declare.new.names) c.scopes.invariant.keeps c.declare.ensures.keeps;
      utf8 = search rules;
    }

pub returns-clause-known : goal.returns-clause-known
returns-clause-known c =
    let none : length c.scopes.scope.now ≡ 0 = search rules in
    sym (c.scopes.invariant.known ∙ packages_last (known_of c.scopes.names) c.args.file c.scopes.scope.now none)

pub returns-clause-faults : goal.returns-clause-faults
returns-clause-faults c =
    let none : length c.scopes.scope.now ≡ 0 = search rules in
    let at = place_at c.args.faults.now c.args.file in
    record {
      files = c.scopes.invariant.files;
      first = c.scopes.invariant.first;
      added = sym (c.scopes.invariant.faults ∙ ap (λ fs. list_of c.scopes.faults ++ fs) (faults_last at (known_of c.scopes.names) c.args.file c.scopes.scope.now none) ∙ append-nil (list_of c.scopes.faults));
    }
