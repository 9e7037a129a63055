use Rattle.schema_laws.proofs.OneWay.{sources_one_way}
use Rattle.schema_laws.proofs.ReadSources.{files_whole}
use Rattle.schema_laws.proofs.exact.sources_are_refused_in_one_way.Goals as goal

pub returns-clause-links : goal.returns-clause-links
returns-clause-links c = λ p q given e f small refused refuses. files_whole p given refuses.0 e small refuses.1 refused

pub returns-clause-options : goal.returns-clause-options
returns-clause-options c = λ p q given e f small refused refuses. files_whole p given refuses.0 e small refuses.1 refused

pub returns-clause-either : goal.returns-clause-either
returns-clause-either c = sources_one_way
