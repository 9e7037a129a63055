use Rattle.valid_view.proofs.Kept.{set_extension_solid, set_extension_tidy}
use Rattle.valid_view.proofs.keeping.set_extensions_leave_messages_tidy.Goals as goal

pub returns-clause-tidy : goal.returns-clause-tidy
returns-clause-tidy c = set_extension_tidy

pub returns-clause-solid : goal.returns-clause-solid
returns-clause-solid c = set_extension_solid
