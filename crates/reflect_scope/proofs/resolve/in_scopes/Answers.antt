use Rattle.std.proofs.Common.{◌≡◌, ℕ, List, length, ap, sym, subst, ◌∙◌, rules, Err}
use Rattle.reflect_scope.specs.Known.{known_of}
use Rattle.reflect_scope.specs.Seen.{tells}
use Rattle.reflect_scope.specs.Means.{means, join, standing, undotted, scopes, outer, missing, Answers}
use Rattle.reflect_scope.specs.declared.resolve.Standing.{Standing}
use Rattle.reflect_scope.proofs.Scopes.{outer_less}
use Rattle.reflect_scope.proofs.Steps.{undotted_found, undotted_last, undotted_more}
use Rattle.reflect_scope.proofs.resolve.in_scopes.Goals as goal

pub returns-in-Wanted : goal.returns-in-Wanted
returns-in-Wanted c =
    let at : List ℕ → Standing = λ p. standing (tells c.args.dependencies.now) c.args.filter (known_of c.args.names.now (join p c.args.name.now)) in
    let s = c.scopes.scope.now in
    let text : c.as_str.result.now ≡ join s c.args.name.now = c.as_str.ensures.value ∙ c.in_ok-write_joined.ensures in
    let got : known_of c.args.names.now (join s c.args.name.now) ≡ c.get-found.result = ap (known_of c.args.names.now) (sym text) ∙ sym c.get-found.ensures in
    let found = ap (standing (tells c.args.dependencies.now) c.args.filter) got ∙ sym c.in-Wanted.ensures in
    c.scopes.invariant.same ∙ undotted_found at c.args.name.now s c.scopes.passed c.in-Wanted.definition found ∙ ap (λ t. means t c.in-Wanted.definition) (sym c.in_ok-write_joined.ensures)

pub returns-then-is_empty : goal.returns-then-is_empty
returns-then-is_empty c =
    let at : List ℕ → Standing = λ p. standing (tells c.args.dependencies.now) c.args.filter (known_of c.args.names.now (join p c.args.name.now)) in
    let s = c.scopes.scope.now in
    let text : c.as_str.result.now ≡ join s c.args.name.now = c.as_str.ensures.value ∙ c.in_ok-write_joined.ensures in
    let got : known_of c.args.names.now (join s c.args.name.now) ≡ c.get-found.result = ap (known_of c.args.names.now) (sym text) ∙ sym c.get-found.ensures in
    let found : at s ≡ c.standing_of-here.result = ap (standing (tells c.args.dependencies.now) c.args.filter) got ∙ sym c.standing_of-here.ensures in
    let none : length s ≡ 0 = search rules in
    let is = c.scopes.invariant.same ∙ undotted_last at c.args.name.now s c.scopes.passed c.standing_of-here.result found (λ d e. search (rules, c.in_default.not-Wanted)) none
    ∙ ap missing (sym c.is_passed-passed.ensures) in
    subst (Answers (Err c.unresolved.result)) (sym is) c.unresolved.ensures

pub scopes-smaller : goal.scopes-smaller
scopes-smaller c =
    let s = c.scopes.scope.now in
    let some : length s ≡ 0 → ⊥ = search rules in
    rw c.outer_of-scope.ensures (outer_less s some)

pub scopes-preserved : goal.scopes-preserved
scopes-preserved c =
    let at : List ℕ → Standing = λ p. standing (tells c.args.dependencies.now) c.args.filter (known_of c.args.names.now (join p c.args.name.now)) in
    let s = c.scopes.scope.now in
    let text : c.as_str.result.now ≡ join s c.args.name.now = c.as_str.ensures.value ∙ c.in_ok-write_joined.ensures in
    let got : known_of c.args.names.now (join s c.args.name.now) ≡ c.get-found.result = ap (known_of c.args.names.now) (sym text) ∙ sym c.get-found.ensures in
    let found : at s ≡ c.standing_of-here.result = ap (standing (tells c.args.dependencies.now) c.args.filter) got ∙ sym c.standing_of-here.ensures in
    let some : length s ≡ 0 → ⊥ = search rules in
    record {
      same = c.scopes.invariant.same ∙ undotted_more at c.args.name.now s c.scopes.passed c.standing_of-here.result found (λ d e. search (rules, c.in_default.not-Wanted)) some
          ∙ ap (λ p. undotted at c.args.name.now (scopes (outer s)) p) (sym c.is_passed-passed.ensures) ∙ ap (λ t. undotted at c.args.name.now (scopes t) c.is_passed-passed.result) (sym c.outer_of-scope.ensures);
      utf8 = search rules;
    }
