use Rattle.std.proofs.Common.{rules, ◌≡◌, OnErr, OnOk, ap, sym, subst, ◌∙◌}
use Rattle.reflect_entries.specs.Entries.{IsAscending, value_at}
use Rattle.reflect_pool.specs.FieldsLeft.{field_type}
use Rattle.reflect_message.specs.Held.{choices_of, fields_of}
use Rattle.reflect_message.specs.Lists.{KeepsList, Lengthens}
use Rattle.reflect_message.specs.Names.{Parts}
use Rattle.reflect_message.specs.Oneofs.{IsExclusive}
use Rattle.reflect_extend.specs.Others.{KeepsOther, StaysUnset}
use Rattle.reflect_extend.specs.Puts.{PutsEntries, PutsSome}
use Rattle.reflect_extend.specs.Siblings.{KeepsRest}
use Rattle.reflect_extend.proofs.Exclusive.{stays_exclusive}
use Rattle.reflect_extend.proofs.Putting.{puts_none_at}
use Rattle.reflect_extend.proofs.Staying.{absent_at, of_message, other_at, refused, rest_at}
use Rattle.reflect_extend.proofs.extend_message.DynamicMessageExtendMessage.extend_field.Goals as goal

pub returns-in_err-parts-clause-part : goal.returns-in_err-parts-clause-part
returns-in_err-parts-clause-part c = λ map. puts_none_at c.from_residual.result (fields_of c.args.self.now) (fields_of c.take_block.new.self) (field_type c.args.field.now).number c.args.values.items (ap fields_of c.in_err-parts.ensures.err)

pub returns-in_err-parts-clause-other : goal.returns-in_err-parts-clause-other
returns-in_err-parts-clause-other c = λ list. other_at (fields_of c.args.self.now) (fields_of c.take_block.new.self) (ap fields_of c.in_err-parts.ensures.err) (field_type c.args.field.now).number

pub returns-in_err-parts-clause-absent : goal.returns-in_err-parts-clause-absent
returns-in_err-parts-clause-absent c =
    refused c.from_residual.result (absent_at (fields_of c.args.self.now) (fields_of c.take_block.new.self) (ap fields_of c.in_err-parts.ensures.err) (field_type c.args.field.now).number)

pub returns-in_err-parts-clause-rest : goal.returns-in_err-parts-clause-rest
returns-in_err-parts-clause-rest c =
    refused c.from_residual.result (rest_at (fields_of c.args.self.now) (fields_of c.take_block.new.self) (ap fields_of c.in_err-parts.ensures.err) c.args.field.now)

pub returns-in_err-parts-clause-exclusive : goal.returns-in_err-parts-clause-exclusive
returns-in_err-parts-clause-exclusive c = λ owns. subst IsExclusive (sym c.in_err-parts.ensures.err)

pub returns-clause-list : goal.returns-clause-list
returns-clause-list c = λ list.
    let r = c.extend_parts-outcome.result in
    let n = (field_type c.args.field.now).number in
    let out = ap (λ (parts : Parts). parts.fields) c.deref_mut.ensures.value ∙ c.in_ok-parts.ensures.fields in
    of_message (λ old new. OnOk r (Lengthens (value_at old n) (value_at new n) c.args.values.items)) (fields_of c.args.self.now) c.deref_mut.result.now.fields c.extend_parts-outcome.new.parts.fields (fields_of c.put_block.new.self)
    out c.put_block.ensures.fields (c.extend_parts-outcome.ensures.list list)

pub returns-clause-map : goal.returns-clause-map
returns-clause-map c = λ map.
    let r = c.extend_parts-outcome.result in
    let n = (field_type c.args.field.now).number in
    let out = ap (λ (parts : Parts). parts.fields) c.deref_mut.ensures.value ∙ c.in_ok-parts.ensures.fields in
    of_message (λ old new. OnOk r (PutsEntries (value_at old n) (value_at new n) c.args.values.items)) (fields_of c.args.self.now) c.deref_mut.result.now.fields c.extend_parts-outcome.new.parts.fields (fields_of c.put_block.new.self)
    out c.put_block.ensures.fields (c.extend_parts-outcome.ensures.map map)

pub returns-clause-part : goal.returns-clause-part
returns-clause-part c = λ map.
    let r = c.extend_parts-outcome.result in
    let n = (field_type c.args.field.now).number in
    let out = ap (λ (parts : Parts). parts.fields) c.deref_mut.ensures.value ∙ c.in_ok-parts.ensures.fields in
    of_message (λ old new. OnErr r (PutsSome (value_at old n) (value_at new n) c.args.values.items)) (fields_of c.args.self.now) c.deref_mut.result.now.fields c.extend_parts-outcome.new.parts.fields (fields_of c.put_block.new.self)
    out c.put_block.ensures.fields (c.extend_parts-outcome.ensures.part map)

pub returns-clause-left : goal.returns-clause-left
returns-clause-left c = λ list.
    let r = c.extend_parts-outcome.result in
    let n = (field_type c.args.field.now).number in
    let out = ap (λ (parts : Parts). parts.fields) c.deref_mut.ensures.value ∙ c.in_ok-parts.ensures.fields in
    of_message (λ old new. OnErr r (KeepsList (value_at old n) (value_at new n))) (fields_of c.args.self.now) c.deref_mut.result.now.fields c.extend_parts-outcome.new.parts.fields (fields_of c.put_block.new.self)
    out c.put_block.ensures.fields (c.extend_parts-outcome.ensures.left list)

pub returns-clause-other : goal.returns-clause-other
returns-clause-other c = λ list.
    let n = (field_type c.args.field.now).number in
    let out = ap (λ (parts : Parts). parts.fields) c.deref_mut.ensures.value ∙ c.in_ok-parts.ensures.fields in
    of_message (λ old new. KeepsOther (value_at old n) (value_at new n)) (fields_of c.args.self.now) c.deref_mut.result.now.fields c.extend_parts-outcome.new.parts.fields (fields_of c.put_block.new.self)
    out c.put_block.ensures.fields (c.extend_parts-outcome.ensures.other list)

pub returns-clause-absent : goal.returns-clause-absent
returns-clause-absent c =
    let r = c.extend_parts-outcome.result in
    let n = (field_type c.args.field.now).number in
    let out = ap (λ (parts : Parts). parts.fields) c.deref_mut.ensures.value ∙ c.in_ok-parts.ensures.fields in
    of_message (λ old new. OnErr r (StaysUnset (value_at old n) (value_at new n))) (fields_of c.args.self.now) c.deref_mut.result.now.fields c.extend_parts-outcome.new.parts.fields (fields_of c.put_block.new.self)
    out c.put_block.ensures.fields c.extend_parts-outcome.ensures.absent

pub returns-clause-rest : goal.returns-clause-rest
returns-clause-rest c =
    let r = c.extend_parts-outcome.result in
    let out = ap (λ (parts : Parts). parts.fields) c.deref_mut.ensures.value ∙ c.in_ok-parts.ensures.fields in
    of_message (λ old new. OnErr r (KeepsRest c.args.field.now old new)) (fields_of c.args.self.now) c.deref_mut.result.now.fields c.extend_parts-outcome.new.parts.fields (fields_of c.put_block.new.self)
    out c.put_block.ensures.fields c.extend_parts-outcome.ensures.rest

pub returns-clause-exclusive : goal.returns-clause-exclusive
returns-clause-exclusive c = λ owns.
    let old = c.args.self.now in
    let new = c.put_block.new.self in
    let before = c.deref_mut.result.now in
    let after = c.extend_parts-outcome.new.parts in
    let was : before.choices.members ≡ choices_of old = search rules in
    let had : before.fields ≡ fields_of old = search rules in
    let is : choices_of new ≡ after.choices.members = search rules in
    let has : fields_of new ≡ after.fields = search rules in
    let type : new.descriptor ≡ old.descriptor = search rules in
    stays_exclusive old new before.choices.members after.choices.members before.fields after.fields was had is has type (c.extend_parts-outcome.ensures.chosen old.descriptor owns)

pub returns-in_err-parts-clause-ascending : goal.returns-in_err-parts-clause-ascending
returns-in_err-parts-clause-ascending c = subst (λ m. IsAscending (fields_of m)) (sym c.in_err-parts.ensures.err)

pub returns-clause-ascending : goal.returns-clause-ascending
returns-clause-ascending c = λ up.
    let put = c.extend_parts-outcome in
    let had : c.deref_mut.result.now.fields ≡ fields_of c.args.self.now = search rules in
    let has : fields_of c.put_block.new.self ≡ put.new.parts.fields = search rules in
    subst IsAscending (sym has) (put.ensures.ascending (subst IsAscending (sym had) up))
