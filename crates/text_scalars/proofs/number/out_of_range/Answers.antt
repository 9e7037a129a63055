use Rattle.std.proofs.Common.{rules, ◌≡◌, Bool, true, false, [], ◌∷◌, ◌++◌, Some, refl, string_bytes}
use Rattle.text_lex.specs.declared.token.Radix.{Radix}
use Rattle.protox_lex.specs.Class.{Text}
use Rattle.text_model.specs.Tree.{integer, signed}
use Rattle.text_scalars.specs.Number.{scalar_of}
use Rattle.text_scalars.specs.Scalars.{told}
use Rattle.text_scalars.proofs.number.out_of_range.Goals as goal
use Rattle.text_scalars.proofs.number.out_of_range.Goals.{then-literal, else-literal}

with_minus : (m : Bool) (r : Radix) (d s t : Text) → m ≡ true → s ≡ 45 ∷ [] → t ≡ s ++ d
    → told (signed m (integer r d)) ≡ Some t
with_minus m r d s t flag sign all = rw (flag, all, sign) refl

without : (m : Bool) (r : Radix) (d s t : Text) → m ≡ false → s ≡ [] → t ≡ s ++ d
    → told (signed m (integer r d)) ≡ Some t
without m r d s t flag sign all = rw (flag, all, sign) refl

pub returns-clause-told : goal.returns-clause-told
returns-clause-told c =
    let l = c.args.literal in
    let all : string_bytes c.in_ok-format.field-0 ≡ c.if-literal.sign.now ++ l.int.digits.now = search rules in
    let t : told (scalar_of l) ≡ Some (string_bytes c.in_ok-format.field-0) =
    elim c.if-literal.branch [
      | then-literal w ↦ with_minus l.is_negative l.int.radix l.int.digits.now c.if-literal.sign.now _ w.if-literal.true (search rules) all
      | else-literal w ↦ without l.is_negative l.int.radix l.int.digits.now c.if-literal.sign.now _ w.if-literal.false (search rules) all
    ] in
    (t, refl, refl, refl, refl)
