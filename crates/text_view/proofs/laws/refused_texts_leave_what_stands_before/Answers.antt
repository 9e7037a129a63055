use Rattle.text_view.proofs.Stopped.{fields_before}
use Rattle.text_view.proofs.laws.refused_texts_leave_what_stands_before.Goals as goal

pub returns : goal.returns
returns c = fields_before
