use Rattle.valid_view.proofs.Setting.{set_typed}
use Rattle.valid_view.proofs.messages.set_fields_leave_messages_typed.Goals as goal

pub returns : goal.returns
returns c = set_typed
