use Rattle.std.proofs.Common.{◌≡◌, ◌<◌, false, arith, rules}
use Rattle.text_lex.specs.Printed.{is_readable}
use Rattle.text_lex.proofs.HexEscapes.{in_hex}
use Rattle.text_lex.proofs.escape.EscapedByteDisplay.fmt.Goals.{in_default-via-then-b-lt9, in_default-via-else-b-lt9+else-b-lt11+then-b-lt32, in_default-via-else-b-lt9+else-b-lt11+else-b-lt32+else-b-lt127}
use Rattle.text_lex.proofs.escape.EscapedByteDisplay.fmt.Goals as goal

pub returns-in_default-clause-writes : goal.returns-in_default-clause-writes
returns-in_default-clause-writes g c =
    let b = c.args.self.now.0 in
    let small : b < 256 = search rules in
    let other : is_readable b ≡ false = elim c.in_default.branch [
      | in_default-via-then-b-lt9 w ↦ search (rules, arith)
      | in_default-via-else-b-lt9+else-b-lt11+then-b-lt32 w ↦ search (rules, arith)
      | in_default-via-else-b-lt9+else-b-lt11+else-b-lt32+else-b-lt127 w ↦ search (rules, arith)
    ] in
    rw (in_hex b small other) (search rules)
