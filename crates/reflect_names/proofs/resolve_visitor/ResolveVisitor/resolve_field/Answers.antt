use Rattle.std.proofs.Common.{◌≡◌, [], subst, ◌∙◌}
use Rattle.reflect_scope.specs.declared.definition.ResolveNameFilter.TheVariants as filter
use Rattle.reflect_faults.specs.Faults.{place_at}
use Rattle.reflect_names.specs.References.{name_targets, type_faults, type_name_faults}
use Rattle.reflect_names.specs.ReferenceSteps.{Finds, view_of}
use Rattle.reflect_faults.proofs.Added.{same_places}
use Rattle.reflect_names.proofs.Found.{finds_on, same_view}
use Rattle.reflect_names.proofs.resolve_visitor.ResolveVisitor.resolve_field.Goals as goal

pub returns-clause-finds : goal.returns-clause-finds
returns-clause-finds c =
    let s = c.args.self.now in
    let a = c.check_label.new.self in
    let b = c.check_type.new.self in
    let t = c.resolve_type_name.new.self in
    let path = c.args.path.now in
    let scope = c.args.full_name.now in
    let file = c.args.file in
    let field = c.args.field.now in
    let first = c.in_ok-check_label.ensures.finds in
    let place_a = same_places s.faults a.faults _ first.faults file in
    let place_b : place_at b.faults file ≡ place_at s.faults file = same_places a.faults b.faults _ c.in_ok-check_type.ensures.finds.faults file ∙ place_a in
    let view_b : view_of b ≡ view_of s = same_view a b c.in_ok-check_type.ensures.same ∙ same_view s a c.in_ok-check_label.ensures.same in
    let second = subst (λ p. Finds a b [] (type_faults p path field.field_type)) place_a c.in_ok-check_type.ensures.finds in
    let third = subst (λ v. Finds b t (name_targets v filter.FieldType scope field.type_name) (type_name_faults (place_at s.faults file) v path scope field)) view_b
    (subst (λ p. Finds b t (name_targets (view_of b) filter.FieldType scope field.type_name) (type_name_faults p (view_of b) path scope field)) place_b c.in_ok-resolve_type_name.ensures.finds) in
    finds_on s a t [] _ _ _ first (finds_on a b t [] _ _ _ second third)
