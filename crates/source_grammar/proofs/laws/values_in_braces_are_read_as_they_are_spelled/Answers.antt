use Rattle.source_grammar.proofs.AggregateLaws.{rule_aggregate}
use Rattle.source_grammar.proofs.Rules.{reads}
use Rattle.source_grammar.proofs.laws.values_in_braces_are_read_as_they_are_spelled.Goals as goal

pub returns : goal.returns
returns c = reads rule_aggregate
