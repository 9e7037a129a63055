use Rattle.std.proofs.Common.{pos, ap, subst, ◌∙◌}
use Rattle.reflect_scope.specs.declared.definition.ResolveNameFilter.TheVariants as filter
use Rattle.reflect_scope.specs.Seen.{tells}
use Rattle.reflect_faults.specs.Faults.{place_at}
use Rattle.reflect_names.specs.References.{name_targets, reference_faults}
use Rattle.reflect_names.specs.ReferenceSteps.{Finds, view_of}
use Rattle.reflect_faults.proofs.Added.{same_places}
use Rattle.reflect_names.proofs.Found.{finds_on, same_view}
use Rattle.reflect_names.proofs.resolve_visitor.ResolveVisitorVisitor.visit_method.Goals as goal

pub returns-clause-step : goal.returns-clause-step
returns-clause-step c =
    let s = c.args.self.now in
    let t = c.resolve_message.new.self in
    let u = c.resolve_message-2.new.self in
    let path = c.args.path.now in
    let scope = c.args.full_name.now in
    let file = c.args.file in
    let output = c.args.method.now.output_type in
    let first = c.in_ok-resolve_message.ensures.finds in
    let view = same_view s t c.in_ok-resolve_message.ensures.same in
    let places = same_places s.faults t.faults _ first.faults file in
    let second = subst (λ v. Finds t u (name_targets v filter.Message scope output) (reference_faults (place_at s.faults file) v filter.Message path scope (pos 3) output)) view
    (subst (λ p. Finds t u (name_targets (view_of t) filter.Message scope output) (reference_faults p (view_of t) filter.Message path scope (pos 3) output)) places c.in_ok-resolve_message-2.ensures.finds) in
    let both = finds_on s t u _ _ _ _ first second in
    record {
      references = both.references;
      faults = both.faults;
      looks = ap tells (c.in_ok-resolve_message-2.ensures.same.seen ∙ c.in_ok-resolve_message.ensures.same.seen);
      names = c.in_ok-resolve_message-2.ensures.same.names ∙ c.in_ok-resolve_message.ensures.same.names;
      links = c.in_ok-resolve_message-2.ensures.same.links ∙ c.in_ok-resolve_message.ensures.same.links;
    }
