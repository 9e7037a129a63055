use Rattle.std.proofs.Common.{IfSome, sym, subst}
use Rattle.reflect_pool.specs.FieldsLeft.{field_type}
use Rattle.reflect_scalar.specs.FieldTypes.{field_pool}
use Rattle.reflect_entries.specs.Entries.{value_at}
use Rattle.reflect_message.specs.Held.{fields_of}
use Rattle.reflect_message.specs.Names.{Value}
use Rattle.reflect_message.specs.Oneofs.{PutsField}
use Rattle.reflect_message.specs.Shown.{IsHeldOrDefault}
use Rattle.reflect_message.proofs.Defaulting.{held_or_default}
use Rattle.reflect_message.proofs.field_of.FieldDescriptorFieldOfMessageDescriptor.fill.Goals as goal

pub returns-clause-filled : goal.returns-clause-filled
returns-clause-filled c =
    let field = c.args.self.now in
    let old = c.args.message.now in
    let new = c.fill_field.new.self in
    let held = value_at (fields_of old) (field_type field).number in
    let default = c.in_ok-default.default in
    let put = c.in_ok-fill_field.ensures in
    subst (λ o. IfSome o (λ (v : Value). IsHeldOrDefault (field_pool field) (field_type field) held v × PutsField old new field v)) (sym put.ok.here) (
      held_or_default (field_pool field) (field_type field) held default c.in_ok-default.ensures,
      record { same_type = put.type_stays; set = put.ok; ascending = put.ascending; exclusive = put.exclusive },
    )
