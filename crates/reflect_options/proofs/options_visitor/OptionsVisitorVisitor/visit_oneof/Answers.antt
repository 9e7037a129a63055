use Rattle.std.proofs.Common.{pos, ap, refl}
use Rattle.option_parts.specs.declared.option_scope.OptionScope.TheVariants as scopes
use Rattle.reflect_declarations.specs.Declarations.{oneof_declaration}
use Rattle.reflect_options.specs.Entities.{declared}
use Rattle.reflect_options.proofs.Passing.{one_visit}
use Rattle.reflect_options.proofs.options_visitor.OptionsVisitorVisitor.visit_oneof.Goals as goal

pub returns-clause-step : goal.returns-clause-step
returns-clause-step c =
    let d = oneof_declaration c.args.path.now c.args.full_name.now c.args.file c.args._message c.args._index c.args.oneof.now in
    one_visit c.args.self.now c.settle.new.self d _ _ refl refl (ap (declared d scopes.Oneof (pos 2)) c.as_ref.ensures.value) c.in_ok-settle.ensures
