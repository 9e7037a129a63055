-- What a walk of the visitor of the rules leaves.
use Rattle.std.proofs.Common.{◌≡◌, List, [], ◌∷◌, ◌++◌, ap, sym, ◌∙◌, subst, refl}
use Rattle.std.proofs.Math.Path.{fun_ext}
use Rattle.std.specs.BTreeMap.{get}
use Rattle.std.specs.Ordering.{nat_cmp}
use Rattle.reflect_declarations.specs.Declarations.{Declaration, Runs}
use Rattle.reflect_faults.specs.Faults.{Fault, Adds, place_at}
use Rattle.reflect_faults.proofs.Added.{adds_on, adds_none, same_places}
use Rattle.reflect_rules.specs.TypesSay.{TypesSay}
use Rattle.reflect_rules.specs.Walks.{Facts, Place, place_behind}
use Rattle.reflect_rules.specs.Rules.{Values}
use Rattle.reflect_rules.specs.RulePass.{FaultsAlong}
use Rattle.reflect_rules.specs.RuleSteps.{Checks, facts_of, place_of}
use Rattle.reflect_rules.specs.declared.rule_visitor.RuleVisitor.{RuleVisitor}

-- the faults that a walk finds
pub record Found {T : Type 0} (says : T → TypesSay) (values : T → Values) (s : RuleVisitor T) (ds : List Declaration) (t : RuleVisitor T) : Type 0 where
  pub found : List Fault
  pub right : FaultsAlong (facts_of says s) (values s.types.now) (place_at s.faults) (place_of s) ds found
  pub faults : Adds s.faults t.faults found

pub ran : {T : Type 0} (says : T → TypesSay) (values : T → Values) (s : RuleVisitor T) (ds : List Declaration) (t : RuleVisitor T) → Runs (Checks says values) s ds t → Found says values s ds t
ran says values s [] t e = record { found = []; right = refl; faults = subst (λ x. Adds s.faults x []) (ap (λ x. x.faults) (sym e)) (adds_none s.faults) }
ran says values s (d ∷ ds) t (m, (step, rest)) =
    let r = ran says values m ds t rest in
    let places : place_at m.faults ≡ place_at s.faults = fun_ext (same_places s.faults m.faults _ step.faults) in
    let facts : facts_of says m ≡ facts_of says s =
    ap {B = Facts} (λ x. record { types = says x; uses = λ i. get nat_cmp m.uses.now i; first = m.first_message }) step.facts.types
    ∙ ap {B = Facts} (λ u. record { types = says s.types.now; uses = λ i. get nat_cmp u i; first = m.first_message }) step.facts.uses
    ∙ ap {B = Facts} (λ n. record { types = says s.types.now; uses = λ i. get nat_cmp s.uses.now i; first = n }) step.facts.first in
    let place : place_of m ≡ place_behind (place_of s) d =
    ap {B = Place} (λ x. record { rest = x; is_proto3 = m.is_proto3; oneofs = m.oneofs }) step.rest
    ∙ ap {B = Place} (λ x. record { rest = (place_behind (place_of s) d).rest; is_proto3 = x; oneofs = m.oneofs }) step.is_proto3
    ∙ ap {B = Place} (λ x. record { rest = (place_behind (place_of s) d).rest; is_proto3 = (place_behind (place_of s) d).is_proto3; oneofs = x }) step.oneofs in
    let later = subst (λ p. FaultsAlong (facts_of says s) (values s.types.now) (place_at s.faults) p ds r.found) place
    (subst (λ a. FaultsAlong (facts_of says s) (values s.types.now) a (place_of m) ds r.found) places
    (subst (λ x. FaultsAlong (facts_of says s) (values x) (place_at m.faults) (place_of m) ds r.found) step.facts.types
    (subst (λ g. FaultsAlong g (values m.types.now) (place_at m.faults) (place_of m) ds r.found) facts r.right))) in
    record {
      found = step.found ++ r.found;
      right = (step.found, r.found, step.right, later, refl);
      faults = adds_on s.faults m.faults t.faults _ _ step.faults r.faults;
    }
