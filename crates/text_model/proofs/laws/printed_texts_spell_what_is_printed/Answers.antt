use Rattle.text_model.proofs.Shown.{text_spelled}
use Rattle.text_model.proofs.laws.printed_texts_spell_what_is_printed.Goals as goal

pub returns : goal.returns
returns c = text_spelled
