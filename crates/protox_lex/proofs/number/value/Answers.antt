use Rattle.std.proofs.Common.{◌≡◌, get_or, ap, sym, ◌∙◌, arith}
use Rattle.std.proofs.lemmas.List.{take_all}
use Rattle.protox_lex.specs.Lex.{value, digit, short}
use Rattle.protox_lex.proofs.Values.{value-more-le, is_long, is_short, over, over_sum}
use Rattle.protox_lex.proofs.number.value.Goals as goal

pub returns-in_err-checked_mul : goal.returns-in_err-checked_mul
returns-in_err-checked_mul c =
    let digits = c.args.digits.now in
    let le = value-more-le c.args.radix c.loop-b.b-index 0 digits (omega arith) (omega arith) in
    c.from_residual.ensures ∙ sym (is_long (value c.args.radix digits) (over _ c.loop-b.n _ c.args.radix _ (sym c.loop-b.invariant.0) c.in_err-checked_mul.ensures le))

pub returns-in_err-n : goal.returns-in_err-n
returns-in_err-n c =
    let digits = c.args.digits.now in
    let le = value-more-le c.args.radix c.loop-b.b-index 0 digits (omega arith) (omega arith) in
    c.from_residual-in_err-n.ensures ∙ sym (is_long (value c.args.radix digits) (over_sum _ c.loop-b.n _ c.args.radix (digit (get_or digits c.loop-b.b-index 0)) c.in_ok-checked_mul.field-0 (sym c.loop-b.invariant.0) (grind arith) (rw c.digit-more.ensures.value at c.in_err-n.ensures) le))

pub returns : goal.returns
returns c =
    let e : c.loop-b.n ≡ value c.args.radix c.args.digits.now = c.loop-b.invariant.0 ∙ ap (value c.args.radix) (take_all c.loop-b.b-index c.args.digits.now (omega arith)) in
    sym (ap short (sym e) ∙ is_short c.loop-b.n (omega arith))
