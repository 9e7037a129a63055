use Rattle.std.proofs.Common.{◌≡◌, ℤ, List, Option, ◌++◌, subst, ap, ◌∙◌, refl, to_z, of_z, w32, rules}
use Rattle.reflect_faults.specs.Faults.{Fault, Adds, place_at}
use Rattle.reflect_scope.specs.declared.definition.DefinitionKind.{DefinitionKind}
use Rattle.reflect_references.specs.Meanings.{meaning, behind}
use Rattle.reflect_rules.specs.Numbers.{number_faults}
use Rattle.reflect_rules.specs.Rules.{message_of, older_faults, default_faults, number_of, ExtensionNumber, ExtensionFindings, ExtensionFaults}
use Rattle.reflect_rules.specs.RuleSteps.{facts_of}
use Rattle.reflect_rules.proofs.Then.{adds_then}
use Rattle.reflect_faults.proofs.Added.{adds_on, same_places}
use Rattle.reflect_rules.proofs.rule_visitor.RuleVisitorVisitor.visit_extension.Goals as goal

pub returns-clause-step : goal.returns-clause-step
returns-clause-step g c =
    let v = c.args.self.now in
    let x = c.args.extension.now in
    let file = c.args.file in
    let path = c.args.path.now in
    let facts = facts_of g.T.Types.says v in
    let values = g.T.Types.values v.types.now in
    let s = v.faults in
    let at = place_at s file in
    let n : ℤ = c.unwrap_or-number.result in
    let w = to_z w32 (of_z w32 n) in
    let same : w ≡ n = search rules in
    let e : Option DefinitionKind = c.meaning_of-extendee.result in
    let m : Option DefinitionKind = c.meaning_of-meaning.result in
    let b = c.has_right_default-suits.result in
    let t1 = c.check_number.new.faults in
    let t2 = c.check_extension_number.new.faults in
    let t3 = c.check_older_entry.new.faults in
    let t4 = c.check_default.new.faults in
    let a1 = subst (λ y. Adds s t1 (number_faults at path y)) same c.in_ok-check_number.ensures in
    let numbers : List Fault = c.in_ok-check_extension_number.ensures.0 in
    let is_number = subst (λ y. ExtensionNumber facts.types at path y (message_of e) numbers) same
    (subst (λ p. ExtensionNumber facts.types p path w (message_of e) numbers) (same_places s t1 _ a1 file) c.in_ok-check_extension_number.ensures.1) in
    let b2 = adds_on s t1 t2 _ numbers a1 c.in_ok-check_extension_number.ensures.2 in
    let b3 = adds_then s t2 t3 file _ (λ p. older_faults p path facts.types facts.first (message_of m)) b2 c.in_ok-check_older_entry.ensures in
    let b4 = adds_then s t3 t4 file _ (λ p. default_faults p path x.default_value b) b3 c.in_ok-check_default.ensures in
    let xs = number_faults at path n ++ numbers ++ older_faults at path facts.types facts.first (message_of m) ++ default_faults at path x.default_value b in
    let findings : ExtensionFindings facts values at path x n e m = record { numbers = numbers; suits = b; is_number = is_number; is_suited = c.has_right_default-suits.ensures } in
    let given : ExtensionFaults facts values at path x n e m xs = (findings, refl) in
    let number : n ≡ number_of x = search rules in
    let rest = c.meaning_of-extendee.ensures.rest in
    let meant : m ≡ meaning x.type_name (behind x.extendee v.references.rest.now) = c.meaning_of-meaning.ensures.meaning ∙ ap (meaning x.type_name) rest in
    record {
      found = xs;
      right = subst (λ o. ExtensionFaults facts values at path x (number_of x) (meaning x.extendee v.references.rest.now) o xs) meant
          (subst (λ o. ExtensionFaults facts values at path x (number_of x) o m xs) c.meaning_of-extendee.ensures.meaning
          (subst (λ y. ExtensionFaults facts values at path x y e m xs) number given));
      faults = b4;
      rest = c.meaning_of-meaning.ensures.rest ∙ ap (behind x.type_name) rest;
      is_proto3 = refl;
      oneofs = refl;
      facts = record { types = refl; uses = refl; first = refl };
    }
