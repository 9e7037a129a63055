use Rattle.std.proofs.Common.{rules, ◌≡◌, suc, ◌∙◌, pos, sym, ap, subst, add-one, option_map, is_some, true, false, get_or, arith, to_z, of_z, w32}
use Rattle.option_parts.specs.Moves.{targets_of}
use Rattle.option_parts.proofs.Moves.{StaysBelow, MovesFront, none_below, other_number, front_stays, front_moves, none_moves}
use Rattle.option_parts.proofs.moved_locations.moved_path.Goals.{then-number-eq-UNINTERPRETED_OPTION+in_ok-found+else-is_some+in-Some-1, then-number-eq-UNINTERPRETED_OPTION+in_ok-found+else-is_some+in-None-1, else-number-eq-UNINTERPRETED_OPTION}
use Rattle.option_parts.proofs.moved_locations.moved_path.Goals as goal

pub numbers-init : goal.numbers-init
numbers-init c = none_below (targets_of c.args.moved.now) c.args.path.now

pub returns-then-is_some : goal.returns-then-is_some
returns-then-is_some c =
    let targets = targets_of c.args.moved.now in
    let path = c.args.path.now in
    let at = c.numbers.at in
    let here = c.in_ok-found.ensures in
    let found = option_map (λ v. v.items) c.in_ok-found.found in
    let bits : to_z w32 (of_z w32 (get_or path at (pos 0))) ≡ get_or path at (pos 0) = search rules in
    let is : is_some found ≡ true = search rules in
    let long : c.saturating_add.result ≡ suc (suc at) = grind (arith, c.saturating_add.ensures) in
    front_moves targets path at (pos 0) found (sym bits ∙ ap (to_z w32) c.if-number-eq-UNINTERPRETED_OPTION.true)
    (subst (λ n. MovesFront targets path n found) long (here.moved, λ lt. ap (option_map (λ v. v.items)) (here.short lt)))
    is c.numbers.invariant

pub numbers-preserved : goal.numbers-preserved
numbers-preserved c =
    let targets = targets_of c.args.moved.now in
    let path = c.args.path.now in
    let at = c.numbers.at in
    subst (λ n. StaysBelow targets path (suc (suc n))) (sym (add-one at))
    (elim c.if-number-eq-UNINTERPRETED_OPTION.branch [
      | then-number-eq-UNINTERPRETED_OPTION+in_ok-found+else-is_some+in-Some-1 w ↦ absurd (search rules)
      | then-number-eq-UNINTERPRETED_OPTION+in_ok-found+else-is_some+in-None-1 w ↦
          let here = w.in_ok-found.ensures in
          let found = option_map (λ v. v.items) w.in_ok-found.found in
          let is : is_some found ≡ false = search rules in
          let long : w.saturating_add.result ≡ suc (suc at) = grind (arith, w.saturating_add.ensures) in
          front_stays targets path at found
          (subst (λ n. MovesFront targets path n found) long (here.moved, λ lt. ap (option_map (λ v. v.items)) (here.short lt)))
          is c.numbers.invariant
      | else-number-eq-UNINTERPRETED_OPTION w ↦ other_number targets path at (pos 0) (λ e. w.if-number-eq-UNINTERPRETED_OPTION.false (ap (of_z w32) e)) c.numbers.invariant
    ])

pub returns : goal.returns
returns c =
    none_moves (targets_of c.args.moved.now) c.args.path.now (suc (suc c.numbers.at)) (let end = c.numbers-test.false in omega (arith, end)) c.numbers.invariant
