use Rattle.std.proofs.Common.{rules, ◌≡◌, OnOk, sym, subst}
use Rattle.reflect_entries.specs.Entries.{IsAscending}
use Rattle.reflect_message.specs.Held.{fields_of, choices_of, extensions_of, unknown_of}
use Rattle.reflect_message.proofs.Setting.{field_set, exclusive_set}
use Rattle.reflect_message.proofs.by_field.DynamicMessage.set_field.Goals as goal

pub returns-clause-ok : goal.returns-clause-ok
returns-clause-ok c =
    let old = c.args.self.now in
    let new = c.put_block.new.self in
    let before = c.deref_mut.result.now in
    let after = c.set_field-outcome.new.self in
    let set = c.set_field-outcome.ensures in
    let was : before.choices.members ≡ choices_of old = search rules in
    let had : before.fields ≡ fields_of old = search rules in
    let is : choices_of new ≡ after.choices.members = search rules in
    let has : fields_of new ≡ after.fields = search rules in
    let extensions : extensions_of new ≡ extensions_of old = search rules in
    let unknown : unknown_of new ≡ unknown_of old = search rules in
    field_set old new c.args.field.now before.choices.members after.choices.members before.fields after.fields was had is has c.set_field-outcome.result c.args.value set.here set.changes set.chooses extensions unknown

pub returns-clause-exclusive : goal.returns-clause-exclusive
returns-clause-exclusive c =
    let old = c.args.self.now in
    let new = c.put_block.new.self in
    let before = c.deref_mut.result.now in
    let after = c.set_field-outcome.new.self in
    let set = c.set_field-outcome.ensures in
    let was : before.choices.members ≡ choices_of old = search rules in
    let had : before.fields ≡ fields_of old = search rules in
    let is : choices_of new ≡ after.choices.members = search rules in
    let has : fields_of new ≡ after.fields = search rules in
    let type : new.descriptor ≡ old.descriptor = search rules in
    exclusive_set old new c.args.field.now before.choices.members after.choices.members before.fields after.fields was had is has c.set_field-outcome.result set.changes set.chooses set.err set.room type

pub returns-clause-ascending : goal.returns-clause-ascending
returns-clause-ascending c =
    let put = c.set_field-outcome in
    let has : fields_of c.put_block.new.self ≡ put.new.self.fields = search rules in
    subst (λ l. OnOk put.result (IsAscending l)) (sym has) put.ensures.ascending
