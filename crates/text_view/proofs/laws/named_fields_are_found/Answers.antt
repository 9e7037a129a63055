use Rattle.text_view.proofs.Named.{fields_found}
use Rattle.text_view.proofs.laws.named_fields_are_found.Goals as goal

pub returns : goal.returns
returns c = fields_found
