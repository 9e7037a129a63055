-- What a walk of the visitor of uses leaves.
use Rattle.std.proofs.Common.{◌≡◌, ℕ, List, [], ◌∷◌, ◌++◌, Option, Some, None, ap, ◌∙◌, refl}
use Rattle.std.specs.BTreeMap.{get}
use Rattle.std.specs.Ordering.{nat_cmp}
use Rattle.descriptor_records.specs.declared.field.FieldDescriptorProto.{FieldDescriptorProto}
use Rattle.reflect_declarations.specs.Declarations.{Declaration, Runs}
use Rattle.reflect_rules.specs.TypesSay.{TypesSay}
use Rattle.reflect_references.specs.Meanings.{rest_behind}
use Rattle.reflect_rules.specs.Uses.{users_in, users, use_by, use_behind}
use Rattle.reflect_rules.specs.UseSteps.{Notes}
use Rattle.reflect_rules.specs.declared.uses.EntryUse.{EntryUse}
use Rattle.reflect_rules.specs.declared.uses.UseVisitor.{UseVisitor}

pub use_of_none : (fs : List FieldDescriptorProto) → use_behind None fs ≡ use_by fs
use_of_none [] = refl
use_of_none (f ∷ fs) = refl

use_behind_both : (u : Option EntryUse) (fs gs : List FieldDescriptorProto) → use_behind (use_behind u fs) gs ≡ use_behind u (fs ++ gs)
use_behind_both u [] gs = refl
use_behind_both None (f ∷ []) [] = refl
use_behind_both None (f ∷ []) (g ∷ gs) = refl
use_behind_both None (f ∷ e ∷ fs) [] = refl
use_behind_both None (f ∷ e ∷ fs) (g ∷ gs) = refl
use_behind_both (Some u) (f ∷ fs) [] = refl
use_behind_both (Some u) (f ∷ fs) (g ∷ gs) = refl

pub uses_found : {T : Type 0} (says : T → TypesSay) (s : UseVisitor T) (ds : List Declaration) (t : UseVisitor T) → Runs (Notes says) s ds t
    → (i : ℕ) → get nat_cmp t.uses i ≡ use_behind (get nat_cmp s.uses i) (users (says s.types.now) i s.references.rest.now ds)
uses_found says s [] t e i = ap (λ v. get nat_cmp v.uses i) e
uses_found says s (d ∷ ds) t (m, (step, rest)) i =
    let here = users_in (says s.types.now) i s.references.rest.now d in
    uses_found says m ds t rest i
    ∙ ap (λ y. use_behind (get nat_cmp m.uses i) (users (says y) i m.references.rest.now ds)) step.types
    ∙ ap (λ r. use_behind (get nat_cmp m.uses i) (users (says s.types.now) i r ds)) step.rest
    ∙ ap (λ u. use_behind u (users (says s.types.now) i (rest_behind d s.references.rest.now) ds)) (step.uses i)
    ∙ use_behind_both (get nat_cmp s.uses i) here (users (says s.types.now) i (rest_behind d s.references.rest.now) ds)
