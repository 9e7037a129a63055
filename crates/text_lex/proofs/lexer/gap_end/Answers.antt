use Rattle.std.proofs.Common.{◌≡◌, ◌∙◌, ap, sym, true, slice_index, drop, arith}
use Rattle.protox_lex.specs.Class.{is_in}
use Rattle.protox_lex.specs.declared.class.Class.TheVariants as class
use Rattle.text_lex.specs.Lex.{lexemes_from}
use Rattle.text_lex.proofs.Streams.{blank_here, comment_here}
use Rattle.text_lex.proofs.lexer.gap_end.Goals as goal

pub gap-preserved-then-b-eq35 : goal.gap-preserved-then-b-eq35
gap-preserved-then-b-eq35 c =
    let text = c.args.text.now in
    let end = c.past-end.ensures in
    record {
      least = omega (arith, c.gap.invariant.least, end.within.0);
      within = end.within.1;
      passed = c.gap.invariant.passed ∙ comment_here c.gap.end text (omega arith) (grind (arith, c.if-b-eq35.true)) ∙ ap (λ k. lexemes_from k 0 (drop k text)) (sym end.value);
    }

pub gap-preserved : goal.gap-preserved
gap-preserved c =
    let text = c.args.text.now in
    let blank : is_in class.Blank (slice_index text c.gap.end) ≡ true = sym c.is_in.ensures ∙ c.if-is_in.true in
    record { least = omega (arith, c.gap.invariant.least); within = omega arith; passed = c.gap.invariant.passed ∙ blank_here c.gap.end text (omega arith) blank }
