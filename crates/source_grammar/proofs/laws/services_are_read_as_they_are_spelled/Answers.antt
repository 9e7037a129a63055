use Rattle.source_grammar.proofs.ServiceLaws.{rule_service}
use Rattle.source_grammar.proofs.Rules.{reads}
use Rattle.source_grammar.proofs.laws.services_are_read_as_they_are_spelled.Goals as goal

pub returns : goal.returns
returns c = reads rule_service
