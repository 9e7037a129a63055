use Rattle.source_grammar.proofs.NameLaws.{rule_full, rule_type_name}
use Rattle.source_grammar.proofs.Rules.{reads}
use Rattle.source_grammar.proofs.laws.names_are_read_as_they_are_spelled.Goals as goal

pub returns-clause-full : goal.returns-clause-full
returns-clause-full c = reads rule_full

pub returns-clause-types : goal.returns-clause-types
returns-clause-types c = reads rule_type_name
