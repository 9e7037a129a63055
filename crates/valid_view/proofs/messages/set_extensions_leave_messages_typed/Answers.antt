use Rattle.valid_view.proofs.Setting.{set_extension_typed}
use Rattle.valid_view.proofs.messages.set_extensions_leave_messages_typed.Goals as goal

pub returns : goal.returns
returns c = set_extension_typed
