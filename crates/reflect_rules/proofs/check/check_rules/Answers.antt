use Rattle.std.proofs.Common.{◌≡◌, ℕ, Option, ◌++◌, map, ap, sym, ◌∙◌, subst, false}
use Rattle.std.proofs.Math.Path.{fun_ext}
use Rattle.std.specs.BTreeMap.{get}
use Rattle.std.specs.Ordering.{nat_cmp}
use Rattle.reflect_declarations.specs.Batches.{batch_declarations}
use Rattle.reflect_faults.specs.Faults.{fault_view, list_of, place_at, batch_places}
use Rattle.reflect_names.specs.Names.{Places}
use Rattle.reflect_rules.specs.Walks.{Place}
use Rattle.reflect_rules.specs.RulePass.{batch_use, FaultsAlong}
use Rattle.reflect_rules.specs.RuleSteps.{facts_of, place_of}
use Rattle.reflect_rules.specs.Uses.{users, use_by, use_behind}
use Rattle.reflect_rules.specs.declared.uses.EntryUse.{EntryUse}
use Rattle.reflect_rules.proofs.RuleRuns.{ran}
use Rattle.reflect_rules.proofs.UseRuns.{uses_found, use_of_none}
use Rattle.reflect_rules.proofs.check.check_rules.Goals as goal

pub returns : goal.returns
returns g c =
    let says = g.T.Types.says in
    let values = g.T.Types.values in
    let fs = c.args.files.now in
    let ds = batch_declarations c.args.before c.args.first fs in
    let v = c.new-visitor-2.result in
    let made = c.new-visitor-2.ensures in
    let r = ran says values v ds c.visit_all-2.new.visitor c.in_ok-visit_all-2.ensures.runs in
    let w = c.new-visitor.result in
    let begun_by = c.new-visitor.ensures in
    let references : w.references.rest.now ≡ c.args.references.now = begun_by.references ∙ c.new-references.ensures in
    let uses : ℕ → Option EntryUse = batch_use (says c.args.types.now) c.args.before c.args.first fs c.args.references.now in
    let used : (facts_of says v).uses ≡ uses = fun_ext (λ i.
    ap (λ m. get nat_cmp m i) (made.uses ∙ c.into_uses-uses.ensures)
    ∙ uses_found says w ds c.visit_all.new.visitor c.in_ok-visit_all.ensures.runs i
    ∙ ap (λ u. use_behind u (users (says w.types.now) i w.references.rest.now ds)) (begun_by.uses i)
    ∙ use_of_none (users (says w.types.now) i w.references.rest.now ds)
    ∙ ap (λ y. use_by (users (says y) i w.references.rest.now ds)) begun_by.types
    ∙ ap (λ r. use_by (users (says c.args.types.now) i r ds)) references) in
    let files : place_at v.faults ≡ batch_places fs c.args.first =
    ap place_at made.faults
    ∙ ap {B = ℕ → Places} (λ xs. batch_places xs c.new-faults.result.first) c.new-faults.ensures.files
    ∙ ap {B = ℕ → Places} (batch_places fs) c.new-faults.ensures.first in
    let place : place_of v ≡ record { rest = c.args.references.now; is_proto3 = false; oneofs = 0 } =
    ap {B = Place} (λ x. record { rest = x; is_proto3 = v.is_proto3; oneofs = v.oneofs }) (made.references ∙ c.new-references.ensures)
    ∙ ap {B = Place} (λ x. record { rest = c.args.references.now; is_proto3 = x; oneofs = v.oneofs }) made.is_proto3
    ∙ ap {B = Place} (λ x. record { rest = c.args.references.now; is_proto3 = false; oneofs = x }) made.oneofs in
    let found : map fault_view c.into_list.result.items ≡ r.found =
    c.into_list.ensures ∙ ap list_of c.into_faults.ensures ∙ r.faults.added ∙ ap (λ l. l ++ r.found) (ap list_of made.faults ∙ c.new-faults.ensures.none) in
    let right = subst (λ f. FaultsAlong (record { types = says v.types.now; uses = f; first = v.first_message }) (values v.types.now) (place_at v.faults) (place_of v) ds r.found) used r.right in
    let types = subst (λ y. FaultsAlong (record { types = says y; uses = uses; first = v.first_message }) (values y) (place_at v.faults) (place_of v) ds r.found) made.types right in
    let t = c.args.types.now in
    let first = subst (λ n. FaultsAlong (record { types = says t; uses = uses; first = n }) (values t) (place_at v.faults) (place_of v) ds r.found) made.first types in
    let n = c.args.before.messages in
    let placed = subst (λ at. FaultsAlong (record { types = says t; uses = uses; first = n }) (values t) at (place_of v) ds r.found) files first in
    let begun = subst (λ p. FaultsAlong (record { types = says t; uses = uses; first = n }) (values t) (batch_places fs c.args.first) p ds r.found) place placed in
    subst (λ xs. FaultsAlong (record { types = says t; uses = uses; first = n }) (values t) (batch_places fs c.args.first) (record { rest = c.args.references.now; is_proto3 = false; oneofs = 0 }) ds xs) (sym found) begun
