use Rattle.source_laws.proofs.FileRules.{spelled_named}
use Rattle.source_laws.proofs.laws.trees_of_sources_have_identifiers.Goals as goal

pub returns : goal.returns
returns c = spelled_named
