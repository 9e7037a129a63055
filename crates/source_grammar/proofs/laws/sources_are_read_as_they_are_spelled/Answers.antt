use Rattle.source_grammar.proofs.FileLaws.{spelled}
use Rattle.source_grammar.proofs.laws.sources_are_read_as_they_are_spelled.Goals as goal

pub returns : goal.returns
returns c = spelled
