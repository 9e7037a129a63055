use Rattle.source_grammar.proofs.Answered.{same_record}
use Rattle.source_grammar.proofs.answers.sources_of_the_same_tokens_have_the_same_record.Goals as goal

pub returns : goal.returns
returns c = same_record
