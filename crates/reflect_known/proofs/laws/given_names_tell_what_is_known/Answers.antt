use Rattle.reflect_known.proofs.GivenNames.{known_told, names_told, past_told}
use Rattle.reflect_known.proofs.laws.given_names_tell_what_is_known.Goals as goal

pub returns-clause-known : goal.returns-clause-known
returns-clause-known c = known_told

pub returns-clause-names : goal.returns-clause-names
returns-clause-names c = names_told

pub returns-clause-counts : goal.returns-clause-counts
returns-clause-counts c = past_told
