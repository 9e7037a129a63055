-- What a walk of the visitor of names leaves.
use Rattle.std.proofs.Common.{◌≡◌, ℕ, zero, suc, arith, List, [], ◌∷◌, ap, sym, ◌∙◌, subst}
use Rattle.std.proofs.Math.Path.{fun_ext}
use Rattle.std.specs.BTreeMap.{get_by_text}
use Rattle.reflect_declarations.specs.Declarations.{Declaration, Runs}
use Rattle.reflect_declarations.specs.Batches.{KeptBy}
use Rattle.reflect_scope.specs.Known.{known_of, kept_first, AllBelow}
use Rattle.reflect_faults.specs.Faults.{Adds, place_at}
use Rattle.reflect_known.specs.KnownNames.{known_behind}
use Rattle.reflect_names.specs.NamePass.{faults_along}
use Rattle.reflect_names.specs.NameSteps.{AddsName, KeepsNames, KeepsFrom}
use Rattle.reflect_names.specs.declared.name_visitor.NameVisitor.{NameVisitor}
use Rattle.reflect_faults.proofs.Added.{adds_on, adds_none, same_places}

pub record Ran (s : NameVisitor) (ds : List Declaration) (t : NameVisitor) : Type 0 where
  pub known : known_of t.names ≡ known_behind (known_of s.names) ds
  pub faults : Adds s.faults t.faults (faults_along (place_at s.faults) (λ n. get_by_text s.file_names.now n) (known_of s.names) ds)

pub ran : (s : NameVisitor) (ds : List Declaration) (t : NameVisitor) → Runs AddsName s ds t → Ran s ds t
ran s [] t e = record {
  known = ap (λ x. known_of x.names) e;
  faults = subst (λ x. Adds s.faults x []) (ap (λ x. x.faults) (sym e)) (adds_none s.faults);
}
ran s (d ∷ ds) t (m, (step, rest)) =
    let r = ran m ds t rest in
    let places : place_at m.faults ≡ place_at s.faults = fun_ext (same_places s.faults m.faults _ step.faults) in
    let names : (λ n. get_by_text m.file_names.now n) ≡ (λ n. get_by_text s.file_names.now n) = ap (λ f. λ n. get_by_text f n) step.file_names in
    let later = subst (λ k. Adds m.faults t.faults (faults_along (place_at s.faults) (λ n. get_by_text s.file_names.now n) k ds)) step.known
    (subst (λ f. Adds m.faults t.faults (faults_along (place_at s.faults) f (known_of m.names) ds)) names
    (subst (λ p. Adds m.faults t.faults (faults_along p (λ n. get_by_text m.file_names.now n) (known_of m.names) ds)) places r.faults)) in
    record {
      known = r.known ∙ ap (λ k. known_behind k ds) step.known;
      faults = adds_on s.faults m.faults t.faults _ _ step.faults later;
    }

-- what a walk over files leaves of what was known
pub kept : (i n : ℕ) (s t : NameVisitor) → KeptBy KeepsNames i n s t → KeepsFrom i n (known_of s.names) (known_of t.names)
kept i zero s t e = record {
  kept = λ mark le u. ap (λ x. kept_first mark (known_of x.names u)) e;
  bound = λ top le all. subst (λ x. AllBelow top (known_of x.names)) (sym e) all;
}
kept i (suc n) s t (m, before, now) =
    let r = kept i n s m before in
    record {
      kept = λ mark le u. now.known.kept mark (omega (arith, le)) u ∙ r.kept mark le u;
      bound = λ top le all. now.known.bound top (omega (arith, le)) (r.bound top (omega (arith, le)) all);
    }

pub kept_files : (i n : ℕ) (s t : NameVisitor) → KeptBy KeepsNames i n s t → t.file_names.now ≡ s.file_names.now
kept_files i zero s t e = ap (λ x. x.file_names.now) e
kept_files i (suc n) s t (m, before, now) = now.file_names ∙ kept_files i n s m before
