use Rattle.std.proofs.Common.{◌≡◌, ℤ, List, [], ◌∷◌, ◌++◌, refl, sym, ap, ◌∙◌, subst, append-nil, append_assoc, arith, rules, to_z, of_z, w32}
use Rattle.std.proofs.lemmas.Grind.{common_steps}
use Rattle.std.proofs.lemmas.Result.{err_from_is_err_and}
use Rattle.reflect_codec.specs.Reading.{SpellsNumbers, int32_of}
use Rattle.reflect_codec.proofs.Spelled.{number_more, numbers_behind, no_more_numbers}
use Rattle.reflect_codec.proofs.fields.with_packed.Goals as goal

pub loop-left-init : goal.loop-left-init
loop-left-init c = ([], sym (append-nil _), ([], refl, refl), λ zs s. (zs, s))

pub returns-in_err-n : goal.returns-in_err-n
returns-in_err-n c =
    let more : c.loop-left.left.now ≡ [] → ⊥ = λ e. grind (arith, common_steps) in
    let i = c.loop-left.invariant in
    let p = err_from_is_err_and c.from_residual.result c.from_residual.ensures.1 in
    rw (p.1, p.2) (no_more_numbers c.args.payload.now c.loop-left.left.now i.0 i.2 i.3 more c.in_err-n.field-0.0 c.in_err-n.ensures.read c.in_err-n.ensures.fault)

pub returns : goal.returns
returns c =
    let none : c.loop-left.left.now ≡ [] = grind (arith, common_steps) in
    let i = c.loop-left.invariant in
    let whole : i.2.0 ≡ c.args.payload.now = sym (i.2.2 ∙ ap (λ left. i.2.0 ++ left) none ∙ append-nil i.2.0) in
    (i.0, subst (λ bytes. SpellsNumbers bytes i.0) whole i.2.1, i.1)

pub loop-left-preserved : goal.loop-left-preserved
loop-left-preserved c =
    let i = c.loop-left.invariant in
    let v = c.in_ok-n.ensures.read in
    let z : ℤ = int32_of c.in_ok-n.n in
    let bits : to_z w32 (of_z w32 c.int32_of.result) ≡ c.int32_of.result = search rules in (
      i.0 ++ z ∷ [],
      c.in_ok-push.ensures.items ∙ ap (λ (y : ℤ). c.loop-left.list.items ++ y ∷ []) (bits ∙ c.int32_of.ensures) ∙ ap (λ (zs : List ℤ). zs ++ z ∷ []) i.1 ∙ append_assoc _ i.0 (z ∷ []),
      number_more c.args.payload.now c.loop-left.left.now v.0 c.in_ok-n.rest.now c.in_ok-n.n i.0 i.2 v.1 v.2,
      (λ zs s. let b = i.3 zs s in numbers_behind c.loop-left.left.now v.0 c.in_ok-n.rest.now c.in_ok-n.n v.1 v.2 b.0 b.1),
    )
