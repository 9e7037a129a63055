use Rattle.text_view.proofs.HaveNames.{have_identifiers, have_names}
use Rattle.text_view.proofs.names.names_as_in_sources_are_found.Goals as goal

pub returns-clause-names : goal.returns-clause-names
returns-clause-names c = have_names

pub returns-clause-identifiers : goal.returns-clause-identifiers
returns-clause-identifiers c = have_identifiers
