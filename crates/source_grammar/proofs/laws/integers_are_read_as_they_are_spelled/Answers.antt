use Rattle.source_grammar.proofs.NameLaws.{rule_int}
use Rattle.source_grammar.proofs.Rules.{reads}
use Rattle.source_grammar.proofs.laws.integers_are_read_as_they_are_spelled.Goals as goal

pub returns : goal.returns
returns c = reads rule_int
