use Rattle.source_grammar.proofs.Answered.{refused}
use Rattle.source_grammar.proofs.answers.sources_are_refused_for_their_faults.Goals as goal

pub returns : goal.returns
returns c = λ name z r. refused z r.faults.items
