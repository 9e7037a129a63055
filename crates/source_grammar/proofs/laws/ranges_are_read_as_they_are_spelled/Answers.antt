use Rattle.source_grammar.proofs.RangeLaws.{rule_range, rule_reserved}
use Rattle.source_grammar.proofs.Rules.{reads}
use Rattle.source_grammar.proofs.laws.ranges_are_read_as_they_are_spelled.Goals as goal

pub returns-clause-range : goal.returns-clause-range
returns-clause-range c = reads rule_range

pub returns-clause-reserved : goal.returns-clause-reserved
returns-clause-reserved c = reads rule_reserved
