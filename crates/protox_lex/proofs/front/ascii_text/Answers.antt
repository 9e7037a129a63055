use Rattle.std.proofs.Common.{arith}
use Rattle.protox_lex.proofs.AsciiRuns.{ascii_text}
use Rattle.protox_lex.proofs.front.ascii_text.Goals as goal

pub unwrap-requires : goal.unwrap-requires
unwrap-requires c =
    let u = ascii_text c.args.z.now c.requires in
    let cases = c.from_utf8.ensures.cases in
    grind (arith, u, cases)
