use Rattle.source_grammar.proofs.FileLaws.{rule_import, rule_package}
use Rattle.source_grammar.proofs.Rules.{reads}
use Rattle.source_grammar.proofs.laws.imports_and_packages_are_read_as_they_are_spelled.Goals as goal

pub returns-clause-imports : goal.returns-clause-imports
returns-clause-imports c = reads rule_import

pub returns-clause-packages : goal.returns-clause-packages
returns-clause-packages c = reads rule_package
