use Rattle.source_grammar.proofs.FieldLaws.{rule_ty, rule_extensions}
use Rattle.source_grammar.proofs.Rules.{reads}
use Rattle.source_grammar.proofs.laws.types_are_read_as_they_are_spelled.Goals as goal

pub returns-clause-types : goal.returns-clause-types
returns-clause-types c = reads rule_ty

pub returns-clause-extensions : goal.returns-clause-extensions
returns-clause-extensions c = reads rule_extensions
