use Rattle.std.proofs.Common.{◌≡◌, ◌∙◌, inl, inr, ap, drop, refl, sym, arith}
use Rattle.std.specs.Prelude.{◌==◌}
use Rattle.std.proofs.lemmas.Bool.{cases_lt, eqb-true, false_from_ne_true}
use Rattle.std.proofs.lemmas.List.{take_rest}
use Rattle.std.proofs.lemmas.List.Sums.{position_or_len_is}
use Rattle.reflect_faults.specs.SourceBytes.{len_of_line}
use Rattle.reflect_faults.proofs.label.line_len.Goals as goal

pub returns-then-byte-eq10-clause-len : goal.returns-then-byte-eq10-clause-len
returns-then-byte-eq10-clause-len c =
    let lt = c.bytes-test.true in
    sym (position_or_len_is (λ b. b == 10) _ c.bytes.index 0 (omega (arith, lt)) c.bytes.invariant (λ _. rw c.if-byte-eq10.true refl))
    ∙ ap len_of_line (take_rest c.as_bytes.result.now c.args.start ∙ ap (drop c.args.start) c.as_bytes.ensures.value)

pub bytes-preserved : goal.bytes-preserved
bytes-preserved c = λ k lt. elim (cases_lt k c.bytes.index) [
  | inl low ↦ c.bytes.invariant k low
  | inr le ↦
      let here : c.bytes.index ≡ k = omega (arith, lt, le) in
      rw (← here) (false_from_ne_true _ (λ e. c.if-byte-eq10.false (eqb-true _ _ e)))
]

pub returns-clause-len : goal.returns-clause-len
returns-clause-len c =
    let past = c.bytes-test.false in
    sym (position_or_len_is (λ b. b == 10) _ _ 0 (omega arith) (λ k lt. c.bytes.invariant k (omega (arith, lt, past))) (λ lt. absurd (omega (arith, lt))))
    ∙ ap len_of_line (take_rest c.as_bytes.result.now c.args.start ∙ ap (drop c.args.start) c.as_bytes.ensures.value)
