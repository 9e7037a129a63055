use Rattle.std.proofs.Common.{◌≡◌, pos, map, length, subst, ◌∙◌, refl, rules}
use Rattle.reflect_declarations.specs.Tree.{parts_of}
use Rattle.reflect_faults.specs.Faults.{Adds, place_at, duplicate_number}
use Rattle.reflect_rules.specs.Repeats.{repeat_faults}
use Rattle.reflect_rules.specs.Rules.{entry_faults, message_faults}
use Rattle.reflect_rules.specs.RuleSteps.{facts_of}
use Rattle.reflect_rules.proofs.Then.{adds_then}
use Rattle.reflect_rules.proofs.rule_visitor.RuleVisitorVisitor.visit_message.Goals as goal

pub returns-clause-step : goal.returns-clause-step
returns-clause-step g c =
    let s = c.args.self.now.faults in
    let t = c.check_entry.new.faults in
    let u = c.check_distinct.new.faults in
    let at = place_at s c.args.file in
    let path = c.args.path.now in
    let m = parts_of c.args.message.now in
    let used = (facts_of g.T.Types.says c.args.self.now).uses c.args.index in
    let first = subst (λ v. Adds s t (entry_faults at path c.args.full_name.now v m)) (c.copied-used.ensures ∙ c.get.ensures.value) c.in_ok-check_entry.ensures in
    let len : c.len-self.result ≡ length m.oneof_decl = search rules in
    record {
      found = message_faults at path c.args.full_name.now used m;
      right = refl;
      faults = adds_then s t u c.args.file _ (λ p. repeat_faults duplicate_number (pos 2) (pos 3) path p (map (λ f. f.number) m.field)) first c.in_ok-check_distinct.ensures;
      rest = refl;
      is_proto3 = refl;
      oneofs = len;
      facts = record { types = refl; uses = refl; first = refl };
    }
