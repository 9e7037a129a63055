use Rattle.source_grammar.proofs.OptionLaws.{rule_value, rule_option, rule_options}
use Rattle.source_grammar.proofs.Rules.{reads}
use Rattle.source_grammar.proofs.laws.options_are_read_as_they_are_spelled.Goals as goal

pub returns-clause-value : goal.returns-clause-value
returns-clause-value c = reads rule_value

pub returns-clause-statement : goal.returns-clause-statement
returns-clause-statement c = reads rule_option

pub returns-clause-list : goal.returns-clause-list
returns-clause-list c = reads rule_options
