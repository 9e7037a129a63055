use Rattle.std.proofs.Common.{rules, None}
use Rattle.reflect_pool.specs.FieldsLeft.{field_type}
use Rattle.reflect_message.specs.Held.{UpdatesField}
use Rattle.reflect_message.proofs.Setting.{exclusive_unset}
use Rattle.reflect_message.proofs.by_field.DynamicMessage.clear_field.Goals as goal

pub returns-in-Some-clause-exclusive : goal.returns-in-Some-clause-exclusive
returns-in-Some-clause-exclusive c =
    let number = (field_type c.args.field.now).number in
    let updated : UpdatesField c.args.self.now c.put_block.new.self number None = search rules in
    exclusive_unset c.args.self.now c.put_block.new.self number updated
