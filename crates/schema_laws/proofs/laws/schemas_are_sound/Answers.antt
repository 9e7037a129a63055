use Rattle.schema_laws.proofs.laws.schemas_are_sound.Goals as goal

pub returns : goal.returns
returns c = λ s. s.sound
