use Rattle.std.proofs.Common.{◌≡◌, ◌∷◌, ◌++◌, [], List, pos, cond, false, codes, sym, subst, rules}
use Rattle.std.specs.Fmt.{signed_decimal}
use Rattle.reflect_faults.specs.Faults.{Fault, place_at, invalid_type}
use Rattle.reflect_names.specs.References.{is_in, type_faults}
use Rattle.reflect_names.specs.ReferenceSteps.{Finds}
use Rattle.reflect_names.proofs.resolve_visitor.ResolveVisitor.check_type.Goals as goal

pub returns-clause-finds : goal.returns-clause-finds
returns-clause-finds c =
    let s = c.args.self.now in
    let t = c.invalid_type.new.self in
    let at = place_at s.faults c.args.file in
    let path = c.args.path.now in
    let n = c.in-Some.field_type in
    let digits : c.as_str.result.now ≡ signed_decimal n = search rules in
    let none : is_in n 18 ≡ false = search rules in
    let fault : List _ → Fault = λ name. invalid_type name (codes "a field type") (at (path ++ (pos 5 ∷ []))) in
    let told = subst (λ name. Finds s t [] (fault name ∷ [])) digits c.in_ok-invalid_type.ensures.finds in
    subst (λ o. Finds s t [] (type_faults at path o)) (sym c.in-Some.is)
    (subst (λ b. Finds s t [] (cond b [] (fault (signed_decimal n) ∷ []))) (sym none) told)
