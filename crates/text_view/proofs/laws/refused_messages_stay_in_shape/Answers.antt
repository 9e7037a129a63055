use Rattle.text_view.proofs.Halted.{stopped_kinds, stopped_shape}
use Rattle.text_view.proofs.laws.refused_messages_stay_in_shape.Goals as goal

pub returns-clause-kinds : goal.returns-clause-kinds
returns-clause-kinds c = stopped_kinds

pub returns-clause-shape : goal.returns-clause-shape
returns-clause-shape c = stopped_shape
