use Rattle.std.proofs.Common.{pos, ap, refl, subst}
use Rattle.option_parts.specs.declared.option_scope.OptionScope.TheVariants as scopes
use Rattle.reflect_declarations.specs.Declarations.{Runs, each, message_declaration}
use Rattle.reflect_declarations.specs.Tree.{parts_of}
use Rattle.reflect_options.specs.Entities.{Entity, declared, range_at}
use Rattle.reflect_options.specs.Visiting.{Passes}
use Rattle.reflect_options.proofs.options_visitor.OptionsVisitorVisitor.visit_message.Goals as goal

pub returns-clause-step : goal.returns-clause-step
returns-clause-step c =
    let d = message_declaration c.args.path.now c.args.full_name.now c.args.file c.args._parent c.args._index (parts_of c.args.message.now) in
    let here = subst (λ (x : Entity). Passes c.args.self.now x c.settle.new.self) (ap (declared d scopes.Message (pos 7)) c.as_ref.ensures.value) c.in_ok-settle.ensures in
    let ranges = subst (λ rs. Runs Passes c.settle.new.self (each (range_at c.args.file c.args.path.now c.args.full_name.now) 0 rs) c.settle_ranges.new.self) c.as_slice-ranges.ensures.value c.in_ok-settle_ranges.ensures in
    record {
      there = c.args.self.now;
      looks = record { pool = refl; seen = refl; edits = refl; moved = refl; fault = refl };
      passes = (c.settle.new.self, (here, ranges));
    }
