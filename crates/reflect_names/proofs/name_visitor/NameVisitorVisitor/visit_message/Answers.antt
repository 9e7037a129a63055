use Rattle.std.proofs.Common.{◌++◌, subst, refl}
use Rattle.reflect_declarations.specs.Declarations.{each}
use Rattle.reflect_declarations.specs.Tree.{parts_of}
use Rattle.reflect_faults.specs.Faults.{Adds}
use Rattle.reflect_names.specs.Names.{extension_range_faults, reserved_range_faults}
use Rattle.reflect_faults.proofs.Added.{adds_on, same_places}
use Rattle.reflect_names.proofs.name_visitor.NameVisitorVisitor.visit_message.Goals as goal

pub returns-clause-step : goal.returns-clause-step
returns-clause-step c =
    let s = c.args.self.now.faults in
    let t = c.declare_named.new.faults in
    let u = c.require_of_message.new.faults in
    let m = parts_of c.args.message.now in
    let path = c.args.path.now in
    let first = c.in_ok-declare_named.ensures.faults in
    let second = subst (λ p. Adds t u (each (extension_range_faults p path) 0 m.extension_range ++ each (reserved_range_faults p path) 0 m.reserved_range)) (same_places s t _ first c.args.file) c.in_ok-require_of_message.ensures in
    record {
      known = c.in_ok-declare_named.ensures.known;
      faults = adds_on s t u _ _ first second;
      file_names = refl;
    }
