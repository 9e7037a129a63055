use Rattle.source_grammar.proofs.MessageLaws.{message_law, extend_law}
use Rattle.source_grammar.proofs.Rules.{reads}
use Rattle.source_grammar.proofs.laws.messages_are_read_as_they_are_spelled.Goals as goal

pub returns-clause-messages : goal.returns-clause-messages
returns-clause-messages c = λ n. reads (message_law n)

pub returns-clause-extends : goal.returns-clause-extends
returns-clause-extends c = λ n. reads (extend_law n)
