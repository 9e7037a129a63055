use Rattle.std.proofs.Common.{◌<◌, slice_index, arith}
use Rattle.std.proofs.lemmas.Str.{IsCharBoundary-after_ascii}
use Rattle.text_lex.proofs.token.Int.from_literal.Goals.{then-bytes-eq120, else-bytes-eq120}
use Rattle.text_lex.proofs.token.Int.from_literal.Goals as goal

pub range_from-requires : goal.range_from-requires
range_from-requires c =
    let mark : slice_index c.args.literal.now 1 < 128 = elim c.if-bytes-eq120.branch [
      | then-bytes-eq120 w ↦ grind (arith, w.if-bytes-eq120, w.value-is)
      | else-bytes-eq120 w ↦ grind (arith, w.if-bytes-eq120, w.value-is, c.if-bytes-eq88.true)
    ] in
    λ _. IsCharBoundary-after_ascii c.args.literal.now 1 c.utf8.literal (omega (arith, c.if-bytes-lt2.false)) mark

pub range_from-requires-else-bytes-eq88 : goal.range_from-requires-else-bytes-eq88
range_from-requires-else-bytes-eq88 c =
    λ _. IsCharBoundary-after_ascii c.args.literal.now 0 c.utf8.literal (omega (arith, c.if-bytes-lt2.false)) (grind (arith, c.if-bytes-ne48.false))
