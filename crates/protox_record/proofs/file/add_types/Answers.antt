use Rattle.std.proofs.Common.{◌≡◌, ◌∷◌, [], rules}
use Rattle.protox_message_records.proofs.Types.{adds_pushed}
use Rattle.protox_record.specs.FileRecords.{types_at}
use Rattle.protox_message_records.specs.MessageRecords.{type_of_message}
use Rattle.protox_record.proofs.file.add_types.Goals as goal

pub returns-in_ok-push-in-Message : goal.returns-in_ok-push-in-Message
returns-in_ok-push-in-Message c =
    let x = c.args.item.now in
    let message = c.in-Message.message in
    let one : types_at x ≡ type_of_message message ∷ [] = search rules in
    adds_pushed c.args.syntax (type_of_message message) (types_at x) c.args.types.now.items c.push.new.self.items c.in_ok-message_record-in-Message.field-0 c.in_ok-push-in-Message.ensures.items one c.in_ok-message_record-in-Message.ensures
