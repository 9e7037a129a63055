use Rattle.std.proofs.Common.{◌≡◌, ℕ, ◌<◌, ◌+◌, ◌++◌, ◌∷◌, [], take, get_or, length, sym, subst, ◌∙◌, arith, inl, inr}
use Rattle.std.specs.List.{Contains}
use Rattle.std.proofs.lemmas.List.{take_more, take_all}
use Rattle.std.proofs.lemmas.List.Elements.{Contains-push, Contains-push_cases, Contains-append_left}
use Rattle.reflect_scope.proofs.Search.{extends_more, extends_as, extends_keeps}
use Rattle.reflect_scope.proofs.seen.mark_all.Goals as goal

pub turns-preserved : goal.turns-preserved
turns-preserved c =
    let fs = c.args.files.now in
    let k = c.turns.file-index in
    let at = get_or fs k 0 in
    let front : take (k + 1) fs ≡ take k fs ++ at ∷ [] = take_more fs k 0 (omega arith) in
    let new = c.mark.new.order.items in
    let mid = c.turns.order.items in
    let old = c.args.order.now.items in
    let first = extends_as (Contains (take k fs)) (Contains (take (k + 1) fs)) old mid (λ g h. subst (λ xs. Contains xs g) (sym front) (Contains-append_left (take k fs) (at ∷ []) g h)) c.turns.invariant.grown in
    let second = extends_as (λ g. g ≡ at) (Contains (take (k + 1) fs)) mid new (λ g e. subst (λ xs. Contains xs g) (sym front) (subst (Contains (take k fs ++ at ∷ [])) (sym e) (Contains-push (take k fs) at))) c.in_ok-mark.ensures.grown in
    let within : (g : ℕ) → g < length c.args.marks.now.items → g < length c.turns.marks.items = λ g lt. subst (λ n. g < n) (sym c.turns.invariant.same) lt in
    record {
      marked = λ m. c.in_ok-mark.ensures.marked (c.turns.invariant.marked m);
      same = c.in_ok-mark.ensures.same ∙ c.turns.invariant.same;
      grown = extends_more (Contains (take (k + 1) fs)) old mid new first second;
      there = λ m g h lt. elim (Contains-push_cases (take k fs) at g (subst (λ xs. Contains xs g) front h)) [
        | inl was ↦ extends_keeps (λ x. x ≡ at) mid new c.in_ok-mark.ensures.grown g (c.turns.invariant.there m g was lt)
        | inr e ↦ subst (Contains new) e (c.in_ok-mark.ensures.there (c.turns.invariant.marked m) (subst (λ x. x < length c.turns.marks.items) (sym e) (within g lt)))
      ];
      listed = λ l. c.in_ok-mark.ensures.listed (c.turns.invariant.listed l);
    }

pub returns-clause-there : goal.returns-clause-there
returns-clause-there c =
    let fs = c.args.files.now in
    let all : take c.turns.file-index fs ≡ fs = take_all c.turns.file-index fs (omega arith) in
    λ m g h lt. c.turns.invariant.there m g (subst (λ xs. Contains xs g) (sym all) h) lt
