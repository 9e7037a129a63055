use Rattle.std.proofs.Common.{◌≡◌, ℕ, ℤ, to_z, of_z, w32, List, get_or, [], ◌∷◌, ◌++◌, Some, None, true, false, ap, sym, ◌∙◌, rules, cond}
use Rattle.std.specs.BTreeSet.{contains}
use Rattle.std.specs.Ordering.{int_cmp, int_eq}
use Rattle.std.proofs.lemmas.List.{append-nil}
use Rattle.reflect_rules.proofs.Again.{seen_none, found_none, seen_more, found_more}
use Rattle.reflect_rules.proofs.repeats.repeated.Goals as goal
use Rattle.reflect_rules.proofs.repeats.repeated.Goals.{in-Some+in_ok-insert+then-not-branch+in_ok-push, in-Some+in_ok-insert+else-not-branch, in_default}

pub turns-preserved : goal.turns-preserved
turns-preserved c =
    let ns = c.args.numbers.now in
    let k = c.turns.place in
    let lt = c.turns-test.true in
    elim c.match-number.branch [
      | in-Some+in_ok-insert+then-not-branch+in_ok-push w ↦
          let m = w.in-Some.number in
          let is : get_or ns k None ≡ Some m = search rules in
          let old : contains int_cmp c.turns.seen m ≡ true = search rules in
          let same : to_z w32 (of_z w32 m) ≡ m = search rules in
          record {
            seen = λ n.
                let u : contains int_cmp w.insert.new.self n ≡ cond (int_eq m n) true (contains int_cmp c.turns.seen n) = search rules in
                ap (λ s. contains int_cmp s n) w.seen-is ∙ u ∙ ap (λ b. cond (int_eq m n) true b) (c.turns.invariant.seen n) ∙ sym (seen_more ns k lt m is n);
            found = ap (λ v. v.items) w.repeated-is ∙ w.in_ok-push.ensures.items ∙ ap {B = List (ℕ × ℤ)} (λ (x : ℤ). c.turns.repeated.items ++ ((k, x) ∷ [])) same ∙ ap {B = List (ℕ × ℤ)} (λ l. l ++ ((k, m) ∷ [])) c.turns.invariant.found ∙ sym (found_more ns k lt m is true (sym (c.turns.invariant.seen m) ∙ old));
          }
      | in-Some+in_ok-insert+else-not-branch w ↦
          let m = w.in-Some.number in
          let is : get_or ns k None ≡ Some m = search rules in
          let old : contains int_cmp c.turns.seen m ≡ false = search rules in
          record {
            seen = λ n.
                let u : contains int_cmp w.insert.new.self n ≡ cond (int_eq m n) true (contains int_cmp c.turns.seen n) = search rules in
                ap (λ s. contains int_cmp s n) w.seen-is ∙ u ∙ ap (λ b. cond (int_eq m n) true b) (c.turns.invariant.seen n) ∙ sym (seen_more ns k lt m is n);
            found = ap (λ v. v.items) w.repeated-is ∙ c.turns.invariant.found ∙ sym (found_more ns k lt m is false (sym (c.turns.invariant.seen m) ∙ old) ∙ append-nil _);
          }
      | in_default w ↦
          let is = w.in_default.is in
          record {
            seen = λ n. ap (λ s. contains int_cmp s n) w.seen-is ∙ c.turns.invariant.seen n ∙ sym (seen_none ns k lt is n);
            found = ap (λ v. v.items) w.repeated-is ∙ c.turns.invariant.found ∙ sym (found_none ns k lt is);
          }
    ]
