use Rattle.std.proofs.Common.{rules, ◌≡◌, OnOk, sym, subst, unwrap_or}
use Rattle.reflect_pool.specs.FieldsLeft.{field_type}
use Rattle.reflect_entries.specs.Entries.{IsAscending, value_at}
use Rattle.reflect_message.specs.Held.{fields_of, choices_of, extensions_of, unknown_of}
use Rattle.reflect_message.specs.Oneofs.{SetsField}
use Rattle.reflect_message.proofs.Setting.{field_set, exclusive_set}
use Rattle.reflect_message.proofs.by_field.DynamicMessage.fill_field.Goals as goal

pub returns-clause-ok : goal.returns-clause-ok
returns-clause-ok c =
    let old = c.args.self.now in
    let new = c.put_block.new.self in
    let field = c.args.field.now in
    let n = (field_type field).number in
    let before = c.deref_mut.result.now in
    let after = c.fill_field-outcome.new.self in
    let filled = c.fill_field-outcome.ensures in
    let result = c.fill_field-outcome.result in
    let was : before.choices.members ≡ choices_of old = search rules in
    let had : before.fields ≡ fields_of old = search rules in
    let is : choices_of new ≡ after.choices.members = search rules in
    let has : fields_of new ≡ after.fields = search rules in
    let extensions : extensions_of new ≡ extensions_of old = search rules in
    let unknown : unknown_of new ≡ unknown_of old = search rules in
    let set = field_set old new field before.choices.members after.choices.members before.fields after.fields was had is has result (unwrap_or (value_at before.fields n) c.args.default) filled.here filled.changes filled.chooses extensions unknown in
    subst (λ es. OnOk result (SetsField old new field (unwrap_or (value_at es n) c.args.default))) had set

pub returns-clause-exclusive : goal.returns-clause-exclusive
returns-clause-exclusive c =
    let old = c.args.self.now in
    let new = c.put_block.new.self in
    let before = c.deref_mut.result.now in
    let after = c.fill_field-outcome.new.self in
    let filled = c.fill_field-outcome.ensures in
    let was : before.choices.members ≡ choices_of old = search rules in
    let had : before.fields ≡ fields_of old = search rules in
    let is : choices_of new ≡ after.choices.members = search rules in
    let has : fields_of new ≡ after.fields = search rules in
    let type : new.descriptor ≡ old.descriptor = search rules in
    exclusive_set old new c.args.field.now before.choices.members after.choices.members before.fields after.fields was had is has c.fill_field-outcome.result filled.changes filled.chooses filled.err filled.room type

pub returns-clause-ascending : goal.returns-clause-ascending
returns-clause-ascending c =
    let filled = c.fill_field-outcome in
    let has : fields_of c.put_block.new.self ≡ filled.new.self.fields = search rules in
    subst (λ l. OnOk filled.result (IsAscending l)) (sym has) filled.ensures.ascending
