use Rattle.std.proofs.Common.{◌≡◌, ◌<◌, ◌+◌, ◌∙◌, ap, drop, get_or, length, subst, sym, arith}
use Rattle.reflect_faults.specs.SourceBytes.{first_of_line}
use Rattle.reflect_faults.proofs.Lines.{at_end, behind, past_end, past_other}
use Rattle.reflect_faults.proofs.label.line_start.Goals.{then-byte-eq10+else-left-le1, else-byte-eq10}
use Rattle.reflect_faults.proofs.label.line_start.Goals as goal

pub returns-then-left-le1-clause-start : goal.returns-then-left-le1-clause-start
returns-then-left-le1-clause-start c =
    let i = c.bytes.index in
    let same = c.as_bytes-byte-items.ensures.value in
    sym (c.bytes.invariant.start
    ∙ at_end c.args.source.now i c.bytes.left (subst (λ l. i < length l) same c.bytes-test.true)
    c.bytes.invariant.more c.if-left-le1.true
    (subst (λ l. get_or l i 0 ≡ 10) same c.if-byte-eq10.true))

pub returns-then-left-le1-clause-within : goal.returns-then-left-le1-clause-within
returns-then-left-le1-clause-within c =
    let lt = subst (λ l. c.bytes.index < length l) c.as_bytes-byte-items.ensures.value c.bytes-test.true in
    omega (arith, lt)

pub bytes-preserved : goal.bytes-preserved
bytes-preserved c =
    let i = c.bytes.index in
    let s = c.args.source.now in
    let same = c.as_bytes-byte-items.ensures.value in
    let lt = subst (λ l. i < length l) same c.bytes-test.true in
    let before = c.bytes.invariant in
    elim c.if-byte-eq10.branch [
      | then-byte-eq10+else-left-le1 w ↦ record {
        start =
            before.start
            ∙ past_end s i c.bytes.left lt before.more (subst (λ l. get_or l i 0 ≡ 10) same w.if-byte-eq10.true)
            ∙ ap (λ n. behind (i + 1) (first_of_line (drop (i + 1) s) n)) (sym w.left-is);
        more = omega (arith, w.left-is, w.if-left-le1.false);
      }
      | else-byte-eq10 w ↦ record {
        start =
            before.start
            ∙ past_other s i c.bytes.left lt before.more (λ e. w.if-byte-eq10.false (ap (λ l. get_or l i 0) same ∙ e))
            ∙ ap (λ n. behind (i + 1) (first_of_line (drop (i + 1) s) n)) (sym w.left-is);
        more = omega (arith, w.left-is, before.more);
      }
    ]
