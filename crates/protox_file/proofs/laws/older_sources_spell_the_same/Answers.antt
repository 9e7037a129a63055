use Rattle.protox_file.proofs.OlderSources.{older_spells}
use Rattle.protox_file.proofs.laws.older_sources_spell_the_same.Goals as goal

pub returns : goal.returns
returns c = older_spells
