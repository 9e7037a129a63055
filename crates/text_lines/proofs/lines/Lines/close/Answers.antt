use Rattle.text_lines.proofs.Appending.{adds_on}
use Rattle.text_lines.proofs.lines.Lines.close.Goals as goal

pub returns-clause-text : goal.returns-clause-text
returns-clause-text c = adds_on _ _ _ _ _ c.in_ok-last_line.ensures.text c.put.ensures
