use Rattle.std.proofs.Common.{ap, subst, ◌∙◌}
use Rattle.reflect_scope.specs.declared.definition.ResolveNameFilter.TheVariants as filter
use Rattle.reflect_scope.specs.Seen.{tells}
use Rattle.reflect_faults.specs.Faults.{place_at}
use Rattle.reflect_names.specs.References.{name_targets, field_reference_faults}
use Rattle.reflect_names.specs.ReferenceSteps.{Finds, view_of}
use Rattle.reflect_faults.proofs.Added.{same_places}
use Rattle.reflect_names.proofs.Found.{finds_on, same_view}
use Rattle.reflect_names.proofs.resolve_visitor.ResolveVisitorVisitor.visit_extension.Goals as goal

pub returns-clause-step : goal.returns-clause-step
returns-clause-step c =
    let s = c.args.self.now in
    let t = c.resolve_message.new.self in
    let u = c.resolve_field.new.self in
    let path = c.args.path.now in
    let scope = c.args.full_name.now in
    let file = c.args.file in
    let field = c.args.extension.now in
    let first = c.in_ok-resolve_message.ensures.finds in
    let view = same_view s t c.in_ok-resolve_message.ensures.same in
    let places = same_places s.faults t.faults _ first.faults file in
    let second = subst (λ v. Finds t u (name_targets v filter.FieldType scope field.type_name) (field_reference_faults (place_at s.faults file) v path scope field)) view
    (subst (λ p. Finds t u (name_targets (view_of t) filter.FieldType scope field.type_name) (field_reference_faults p (view_of t) path scope field)) places c.in_ok-resolve_field.ensures.finds) in
    let both = finds_on s t u _ _ _ _ first second in
    record {
      references = both.references;
      faults = both.faults;
      looks = ap tells (c.in_ok-resolve_field.ensures.same.seen ∙ c.in_ok-resolve_message.ensures.same.seen);
      names = c.in_ok-resolve_field.ensures.same.names ∙ c.in_ok-resolve_message.ensures.same.names;
      links = c.in_ok-resolve_field.ensures.same.links ∙ c.in_ok-resolve_message.ensures.same.links;
    }
