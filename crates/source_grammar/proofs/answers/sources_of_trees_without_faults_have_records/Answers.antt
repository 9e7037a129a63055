use Rattle.source_grammar.proofs.Answered.{recorded}
use Rattle.source_grammar.proofs.answers.sources_of_trees_without_faults_have_records.Goals as goal

pub returns : goal.returns
returns c = recorded
