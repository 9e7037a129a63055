-- References that are found one after another.
use Rattle.std.proofs.Common.{◌≡◌, List, ◌++◌, map, ap, ◌∙◌, append_assoc}
use Rattle.reflect_faults.specs.Faults.{Fault}
use Rattle.reflect_names.specs.References.{Target, View}
use Rattle.reflect_names.specs.ReferenceSteps.{Finds, IsSame, target_of, view_of}
use Rattle.reflect_names.specs.declared.resolve_visitor.ResolveVisitor.{ResolveVisitor}
use Rattle.reflect_scope.specs.Known.{known_of}
use Rattle.reflect_scope.specs.Seen.{tells}
use Rattle.reflect_faults.proofs.Added.{adds_on}

pub finds_on : (s t u : ResolveVisitor) (xs ys : List Target) (ws vs : List Fault) → Finds s t xs ws → Finds t u ys vs → Finds s u (xs ++ ys) (ws ++ vs)
finds_on s t u xs ys ws vs a b = record {
  references = b.references ∙ ap (λ l. l ++ ys) a.references ∙ append_assoc (map target_of s.references.items) xs ys;
  faults = adds_on s.faults t.faults u.faults ws vs a.faults b.faults;
}

pub same_view : (s t : ResolveVisitor) → IsSame s t → view_of t ≡ view_of s
same_view s t a = ap {B = View} (λ m. record { known = known_of m; sees = tells t.seen }) a.names ∙ ap {B = View} (λ x. record { known = known_of s.names.now; sees = tells x }) a.seen
