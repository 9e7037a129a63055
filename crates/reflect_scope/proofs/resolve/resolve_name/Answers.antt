use Rattle.std.proofs.Common.{◌≡◌, ℕ, List, true, ap, sym, subst, ◌∙◌, Some, None, lit<, Option, Bor}
use Rattle.reflect_scope.specs.Known.{known_of}
use Rattle.std.proofs.lemmas.Str.Pattern.{strip_prefix_char, split_once_first, split_parts}
use Rattle.reflect_scope.specs.Seen.{tells}
use Rattle.reflect_scope.specs.Says.{NameMeans}
use Rattle.reflect_scope.specs.Means.{join, standing, resolve, has_dot, Answers, dotted, is_holder, scopes}
use Rattle.reflect_scope.specs.declared.definition.Definition.{Definition}
use Rattle.reflect_scope.proofs.Scopes.{no_dot}
use Rattle.reflect_scope.proofs.Says.{resolve_means, tells_from_answers}
use Rattle.reflect_scope.proofs.Steps.{resolve_dotted, resolve_undotted, has_dot-append}
use Rattle.reflect_scope.proofs.resolve.resolve_name.Goals as goal

pub returns-in-Some-clause-answers : goal.returns-in-Some-clause-answers
returns-in-Some-clause-answers c =
    let names : List ℕ → Option Definition = known_of c.args.names.now in
    let is = strip_prefix_char 46 c.args.name.now (Some c.in-Some.full_name) c.in-Some.ensures.cases (lit< tt) in
    subst (λ n. Answers c.by_full_name.result (resolve names (tells c.args.dependencies.now) c.args.filter c.args.scope.now n)) (sym is) c.by_full_name.ensures

pub returns-in-Some-clause-means : goal.returns-in-Some-clause-means
returns-in-Some-clause-means c =
    let names : List ℕ → Option Definition = known_of c.args.names.now in
    tells_from_answers (NameMeans names (tells c.args.dependencies.now) c.args.filter c.args.scope.now c.args.name.now) c.by_full_name.result _
    (resolve_means names (tells c.args.dependencies.now) c.args.filter c.args.scope.now c.args.name.now) (returns-in-Some-clause-answers c)

pub returns-in-Some-split_once-clause-answers : goal.returns-in-Some-split_once-clause-answers
returns-in-Some-split_once-clause-answers c =
    let names : List ℕ → Option Definition = known_of c.args.names.now in
    let sees = tells c.args.dependencies.now in
    let name = c.args.name.now in
    let none = strip_prefix_char 46 name None c.in_default.ensures.cases (lit< tt) in
    let x : Bor (List ℕ) × Bor (List ℕ) = (c.in-Some-split_once.first, c.in-Some-split_once.field-0-1) in
    let cases = c.in-Some-split_once.ensures.cases in
    let parts = split_parts 46 name (Some x) cases (lit< tt) in
    let front = split_once_first 46 name (Some x) cases (lit< tt) in
    let dots : has_dot name ≡ true = ap has_dot parts.0 ∙ has_dot-append x.0.now x.1.now in
    let same = resolve_dotted names sees c.args.filter c.args.scope.now name none dots in
    subst (Answers c.by_first_part.result) (sym same) (subst (λ t. Answers c.by_first_part.result (dotted (λ p. is_holder (names (join p t))) (λ p. standing sees c.args.filter (names (join p name))) name (scopes c.args.scope.now))) front.1 c.by_first_part.ensures)

pub returns-in-Some-split_once-clause-means : goal.returns-in-Some-split_once-clause-means
returns-in-Some-split_once-clause-means c =
    let names : List ℕ → Option Definition = known_of c.args.names.now in
    tells_from_answers (NameMeans names (tells c.args.dependencies.now) c.args.filter c.args.scope.now c.args.name.now) c.by_first_part.result _
    (resolve_means names (tells c.args.dependencies.now) c.args.filter c.args.scope.now c.args.name.now) (returns-in-Some-split_once-clause-answers c)

pub returns-in-None-clause-answers : goal.returns-in-None-clause-answers
returns-in-None-clause-answers c =
    let names : List ℕ → Option Definition = known_of c.args.names.now in
    let name = c.args.name.now in
    let none = strip_prefix_char 46 name None c.in_default.ensures.cases (lit< tt) in
    let plain = no_dot name (split_parts 46 name None c.in-None.ensures.cases (lit< tt)) in
    subst (Answers c.in_scopes.result) (sym (resolve_undotted names (tells c.args.dependencies.now) c.args.filter c.args.scope.now name none plain)) c.in_scopes.ensures

pub returns-in-None-clause-means : goal.returns-in-None-clause-means
returns-in-None-clause-means c =
    let names : List ℕ → Option Definition = known_of c.args.names.now in
    tells_from_answers (NameMeans names (tells c.args.dependencies.now) c.args.filter c.args.scope.now c.args.name.now) c.in_scopes.result _
    (resolve_means names (tells c.args.dependencies.now) c.args.filter c.args.scope.now c.args.name.now) (returns-in-None-clause-answers c)
