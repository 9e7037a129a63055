use Rattle.run_parts.proofs.Written.{not_begun, on_err}
use Rattle.run_parts.proofs.lines.write_line.Goals as goal

pub returns-in_err-line-clause-part : goal.returns-in_err-line-clause-part
returns-in_err-line-clause-part g c =
    on_err c.from_residual.result _ (not_begun g.W.Write.contents c.args.stream.now (g.D.Display.output c.args.text))
