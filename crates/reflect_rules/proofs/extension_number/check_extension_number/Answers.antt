use Rattle.std.proofs.Common.{◌≡◌, Some, ◌++◌, subst, refl, to_z, of_z, w32, rules}
use Rattle.reflect_faults.specs.Faults.{Adds, place_at}
use Rattle.reflect_rules.specs.Numbers.{reserved_faults, outside_faults}
use Rattle.reflect_tables.specs.Ranges.{IsRangeOf}
use Rattle.reflect_rules.specs.Rules.{ExtensionNumber}
use Rattle.reflect_rules.proofs.Then.{adds_then}
use Rattle.reflect_rules.proofs.extension_number.check_extension_number.Goals as goal

pub returns : goal.returns
returns g c =
    let types = g.T.Types.says c.args.types.now in
    let n = c.args.number in
    let path = c.args.path.now in
    let s = c.args.faults.now in
    let at = place_at s c.args.file in
    let t = c.check_reserved.new.faults in
    let u = c.check_extension.new.faults in
    let i = c.in-Some.index in
    let r = c.find_in-reserved.result in
    let k = c.find_in-kept.result in
    let w = to_z w32 (of_z w32 n) in
    let same : w ≡ n = search rules in
    let is_r : IsRangeOf (types.reserved i) n r = subst (λ v. IsRangeOf (types.reserved i) v r) same (subst (λ rs. IsRangeOf rs w r) c.reserved_numbers.ensures c.find_in-reserved.ensures) in
    let is_k : IsRangeOf (types.extensions i) n k = subst (λ v. IsRangeOf (types.extensions i) v k) same (subst (λ rs. IsRangeOf rs w k) c.extension_numbers.ensures c.find_in-kept.ensures) in
    let first = subst (λ v. Adds s t (reserved_faults at path v r)) same c.in_ok-check_reserved.ensures in
    let named = subst (λ m. Adds t u (outside_faults (place_at t c.args.file) path w m k)) c.message_name-name.ensures c.in_ok-check_extension.ensures in
    let second = subst (λ v. Adds t u (outside_faults (place_at t c.args.file) path v (types.name i) k)) same named in
    let xs = reserved_faults at path n r ++ outside_faults at path n (types.name i) k in
    let right : ExtensionNumber types at path n (Some i) xs = (r, k, is_r, is_k, refl) in (
      xs,
      subst (λ m. ExtensionNumber types at path n m xs) c.in-Some.ensures right,
      adds_then s t u c.args.file _ (λ p. outside_faults p path n (types.name i) k) first second,
    )
