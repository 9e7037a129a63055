use Rattle.std.proofs.Common.{◌∙◌, pos, ap}
use Rattle.option_parts.specs.declared.option_scope.OptionScope.TheVariants as scopes
use Rattle.reflect_options.specs.Entities.{Entity}
use Rattle.reflect_options.proofs.Passing.{one_range}
use Rattle.reflect_options.proofs.options_visitor.OptionsVisitor.settle_range.Goals as goal

pub returns : goal.returns
returns c =
    let e : Entity = record { scope = scopes.ExtensionRange; file = c.args.file; path = c.as_slice.result.now; number = pos 3; name = c.args.name.now; options = c.args.range.now.options } in
    one_range c.settle.result c.args.self.now c.settle.new.self _ _ (ap (λ o. record e { options = o }) c.as_ref.ensures.value ∙ ap (λ p. record e { path = p }) (c.as_slice.ensures.value ∙ c.in_ok-path.ensures)) c.settle.ensures
