use Rattle.std.proofs.Common.{◌≡◌, ℤ, Option, ◌++◌, subst, refl, to_z, of_z, w32, rules}
use Rattle.reflect_faults.specs.Faults.{Adds, place_at}
use Rattle.reflect_scope.specs.declared.definition.DefinitionKind.{DefinitionKind}
use Rattle.reflect_rules.specs.Numbers.{number_faults, reserved_faults, kept_faults, oneof_faults}
use Rattle.reflect_tables.specs.Ranges.{IsRangeOf}
use Rattle.reflect_rules.specs.Rules.{message_of, older_faults, default_faults, number_of, FieldFindings, FieldFaults}
use Rattle.reflect_rules.specs.RuleSteps.{facts_of}
use Rattle.reflect_rules.proofs.Then.{adds_then}
use Rattle.reflect_rules.proofs.rule_visitor.RuleVisitorVisitor.visit_field.Goals as goal

pub returns-clause-step : goal.returns-clause-step
returns-clause-step g c =
    let v = c.args.self.now in
    let f = c.args.field.now in
    let file = c.args.file in
    let path = c.args.path.now in
    let facts = facts_of g.T.Types.says v in
    let values = g.T.Types.values v.types.now in
    let s = v.faults in
    let at = place_at s file in
    let n : ℤ = c.unwrap_or-number.result in
    let w = to_z w32 (of_z w32 n) in
    let same : w ≡ n = search rules in
    let m : Option DefinitionKind = c.meaning_of-meaning.result in
    let r = c.find_in-reserved.result in
    let k = c.find_in-kept.result in
    let b = c.has_right_default-suits.result in
    let t1 = c.check_number.new.faults in
    let t2 = c.check_reserved.new.faults in
    let t3 = c.check_not_extension.new.faults in
    let t4 = c.check_oneof.new.faults in
    let t5 = c.check_older_entry.new.faults in
    let t6 = c.check_default.new.faults in
    let a1 = subst (λ x. Adds s t1 (number_faults at path x)) same c.in_ok-check_number.ensures in
    let a2 = subst (λ x. Adds t1 t2 (reserved_faults (place_at t1 file) path x r)) same c.in_ok-check_reserved.ensures in
    let a3 = subst (λ x. Adds t2 t3 (kept_faults (place_at t2 file) path x k)) same c.in_ok-check_not_extension.ensures in
    let b2 = adds_then s t1 t2 file _ (λ p. reserved_faults p path n r) a1 a2 in
    let b3 = adds_then s t2 t3 file _ (λ p. kept_faults p path n k) b2 a3 in
    let b4 = adds_then s t3 t4 file _ (λ p. oneof_faults p path v.oneofs f.oneof_index) b3 c.in_ok-check_oneof.ensures in
    let b5 = adds_then s t4 t5 file _ (λ p. older_faults p path facts.types facts.first (message_of m)) b4 c.in_ok-check_older_entry.ensures in
    let b6 = adds_then s t5 t6 file _ (λ p. default_faults p path f.default_value b) b5 c.in_ok-check_default.ensures in
    let xs = number_faults at path n ++ reserved_faults at path n r ++ kept_faults at path n k ++ oneof_faults at path v.oneofs f.oneof_index
    ++ older_faults at path facts.types facts.first (message_of m) ++ default_faults at path f.default_value b in
    let is_r = subst (λ x. IsRangeOf (facts.types.reserved c.args.message) x r) same (subst (λ rs. IsRangeOf rs w r) c.reserved_numbers.ensures c.find_in-reserved.ensures) in
    let is_k = subst (λ x. IsRangeOf (facts.types.extensions c.args.message) x k) same (subst (λ rs. IsRangeOf rs w k) c.extension_numbers.ensures c.find_in-kept.ensures) in
    let findings : FieldFindings facts values m c.args.message n f = record { reserved = r; kept = k; suits = b; is_reserved = is_r; is_kept = is_k; is_suited = c.has_right_default-suits.ensures } in
    let given : FieldFaults facts values v.oneofs at path c.args.message f n m xs = (findings, refl) in
    let number : n ≡ number_of f = search rules in
    record {
      found = xs;
      right = subst (λ o. FieldFaults facts values v.oneofs at path c.args.message f (number_of f) o xs) c.meaning_of-meaning.ensures.meaning
          (subst (λ x. FieldFaults facts values v.oneofs at path c.args.message f x m xs) number given);
      faults = b6;
      rest = c.meaning_of-meaning.ensures.rest;
      is_proto3 = refl;
      oneofs = refl;
      facts = record { types = refl; uses = refl; first = refl };
    }
