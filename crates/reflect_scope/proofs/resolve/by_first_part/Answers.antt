use Rattle.std.proofs.Common.{◌≡◌, ℕ, List, Bool, true, false, length, ap, sym, subst, ◌∙◌, rules}
use Rattle.reflect_scope.specs.Known.{known_of}
use Rattle.reflect_scope.specs.Seen.{tells}
use Rattle.reflect_scope.specs.Means.{join, standing, is_holder, dotted, scopes, settled, Answers}
use Rattle.reflect_scope.specs.declared.resolve.Standing.{Standing}
use Rattle.reflect_scope.proofs.Scopes.{outer_less}
use Rattle.reflect_scope.proofs.Steps.{dotted_here, dotted_last, dotted_more}
use Rattle.reflect_scope.proofs.resolve.by_first_part.Goals as goal

pub returns-then-is_holder : goal.returns-then-is_holder
returns-then-is_holder c =
    let first : List ℕ → Bool = λ p. is_holder (known_of c.args.names.now (join p c.args.first.now)) in
    let at : List ℕ → Standing = λ p. standing (tells c.args.dependencies.now) c.args.filter (known_of c.args.names.now (join p c.args.name.now)) in
    let s = c.scopes.scope.now in
    let part : c.as_str.result.now ≡ join s c.args.first.now = c.as_str.ensures.value ∙ c.in_ok-write_joined.ensures in
    let got : known_of c.args.names.now (join s c.args.first.now) ≡ c.get.result = ap (known_of c.args.names.now) (sym part) ∙ sym c.get.ensures in
    let holder : first s ≡ true = ap is_holder got ∙ sym c.is_holder.ensures ∙ c.if-is_holder.true in
    let whole = c.in_ok-write_joined-2.ensures in
    let text : c.as_str-then-is_holder.result.now ≡ join s c.args.name.now = c.as_str-then-is_holder.ensures.value ∙ whole in
    let found : at s ≡ c.standing_of.result = ap (standing (tells c.args.dependencies.now) c.args.filter) (ap (known_of c.args.names.now) (sym text) ∙ sym c.get-found.ensures) ∙ sym c.standing_of.ensures in
    let is = c.scopes.invariant.same ∙ dotted_here first at c.args.name.now s holder ∙ ap (λ st. settled st (join s c.args.name.now)) found ∙ ap (settled c.standing_of.result) (sym whole) in
    subst (Answers c.settle.result) (sym is) c.settle.ensures

pub returns-then-is_empty : goal.returns-then-is_empty
returns-then-is_empty c =
    let first : List ℕ → Bool = λ p. is_holder (known_of c.args.names.now (join p c.args.first.now)) in
    let at : List ℕ → Standing = λ p. standing (tells c.args.dependencies.now) c.args.filter (known_of c.args.names.now (join p c.args.name.now)) in
    let s = c.scopes.scope.now in
    let part : c.as_str.result.now ≡ join s c.args.first.now = c.as_str.ensures.value ∙ c.in_ok-write_joined.ensures in
    let got : known_of c.args.names.now (join s c.args.first.now) ≡ c.get.result = ap (known_of c.args.names.now) (sym part) ∙ sym c.get.ensures in
    let holder : first s ≡ false = ap is_holder got ∙ sym c.is_holder.ensures ∙ c.if-is_holder.false in
    let none : length s ≡ 0 = search rules in
    c.scopes.invariant.same ∙ dotted_last first at c.args.name.now s holder none

pub scopes-smaller : goal.scopes-smaller
scopes-smaller c =
    let s = c.scopes.scope.now in
    let some : length s ≡ 0 → ⊥ = search rules in
    rw c.outer_of-scope.ensures (outer_less s some)

pub scopes-preserved : goal.scopes-preserved
scopes-preserved c =
    let first : List ℕ → Bool = λ p. is_holder (known_of c.args.names.now (join p c.args.first.now)) in
    let at : List ℕ → Standing = λ p. standing (tells c.args.dependencies.now) c.args.filter (known_of c.args.names.now (join p c.args.name.now)) in
    let s = c.scopes.scope.now in
    let part : c.as_str.result.now ≡ join s c.args.first.now = c.as_str.ensures.value ∙ c.in_ok-write_joined.ensures in
    let got : known_of c.args.names.now (join s c.args.first.now) ≡ c.get.result = ap (known_of c.args.names.now) (sym part) ∙ sym c.get.ensures in
    let holder : first s ≡ false = ap is_holder got ∙ sym c.is_holder.ensures ∙ c.if-is_holder.false in
    let some : length s ≡ 0 → ⊥ = search rules in
    record {
      same = c.scopes.invariant.same ∙ dotted_more first at c.args.name.now s holder some ∙ ap (λ t. dotted first at c.args.name.now (scopes t)) (sym c.outer_of-scope.ensures);
      utf8 = search rules;
    }
