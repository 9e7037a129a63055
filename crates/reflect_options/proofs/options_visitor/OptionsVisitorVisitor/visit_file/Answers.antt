use Rattle.std.proofs.Common.{◌∙◌, ap, refl, subst}
use Rattle.reflect_declarations.specs.Declarations.{file_declaration}
use Rattle.reflect_options.specs.Entities.{Entity, file_entity}
use Rattle.reflect_options.specs.Visiting.{Passes}
use Rattle.reflect_options.proofs.options_visitor.OptionsVisitorVisitor.visit_file.Goals as goal

pub returns-clause-step : goal.returns-clause-step
returns-clause-step c =
    let e = file_entity (file_declaration c.args.path.now c.args.file c.args.descriptor.now) c.args.descriptor.now in
    let there = record c.args.self.now { seen = c.look_from.new.self } in
    let same = ap (λ o. record e { name = c.package_of.result.now; options = o }) c.as_ref.ensures.value ∙ ap (λ n. record e { name = n }) c.package_of.ensures in
    record {
      there = there;
      looks = record { pool = refl; seen = (c.links.result.now, c.links.ensures, c.in_ok-look_from.ensures.files); edits = refl; moved = refl; fault = refl };
      passes = (c.settle.new.self, (subst (λ (x : Entity). Passes there x c.settle.new.self) same c.in_ok-settle.ensures, refl));
    }
