use Rattle.std.proofs.Common.{rules, ◌≡◌, OnErr, OnOk, ap, refl, subst, sym, ◌∙◌}
use Rattle.reflect_entries.specs.Entries.{IsAscending, value_at}
use Rattle.reflect_message.specs.Held.{choices_of, extensions_of, fields_of}
use Rattle.reflect_message.specs.Oneofs.{IsExclusive}
use Rattle.reflect_scalar.specs.FieldTypes.{extension_type}
use Rattle.reflect_message.specs.Lists.{KeepsList, Lengthens}
use Rattle.reflect_message.specs.Names.{Parts}
use Rattle.reflect_extend.specs.Others.{KeepsOther, StaysUnset}
use Rattle.reflect_extend.specs.Puts.{PutsEntries, PutsSome}
use Rattle.reflect_extend.proofs.Exclusive.{put_back}
use Rattle.reflect_extend.proofs.Putting.{puts_none_at}
use Rattle.reflect_extend.proofs.Staying.{absent_at, of_message, other_at, refused}
use Rattle.reflect_extend.proofs.extend_message.DynamicMessageExtendMessage.extend_extension.Goals as goal

pub returns-in_err-parts-clause-part : goal.returns-in_err-parts-clause-part
returns-in_err-parts-clause-part c = λ map. puts_none_at c.from_residual.result (extensions_of c.args.self.now) (extensions_of c.take_block.new.self) (extension_type c.args.extension.now).number c.args.values.items (ap extensions_of c.in_err-parts.ensures.err)

pub returns-in_err-parts-clause-other : goal.returns-in_err-parts-clause-other
returns-in_err-parts-clause-other c =
    λ list. other_at (extensions_of c.args.self.now) (extensions_of c.take_block.new.self) (ap extensions_of c.in_err-parts.ensures.err) (extension_type c.args.extension.now).number

pub returns-in_err-parts-clause-absent : goal.returns-in_err-parts-clause-absent
returns-in_err-parts-clause-absent c =
    refused c.from_residual.result (absent_at (extensions_of c.args.self.now) (extensions_of c.take_block.new.self) (ap extensions_of c.in_err-parts.ensures.err) (extension_type c.args.extension.now).number)

pub returns-clause-list : goal.returns-clause-list
returns-clause-list c = λ list.
    let r = c.extend-outcome.result in
    let n = (extension_type c.args.extension.now).number in
    let out = ap (λ (parts : Parts). parts.extensions) c.deref_mut.ensures.value ∙ c.in_ok-parts.ensures.extensions in
    of_message (λ old new. OnOk r (Lengthens (value_at old n) (value_at new n) c.args.values.items)) (extensions_of c.args.self.now) c.deref_mut.result.now.extensions c.extend-outcome.new.content (extensions_of c.put_block.new.self)
    out c.put_block.ensures.extensions (c.extend-outcome.ensures.list list)

pub returns-clause-map : goal.returns-clause-map
returns-clause-map c = λ map.
    let r = c.extend-outcome.result in
    let n = (extension_type c.args.extension.now).number in
    let out = ap (λ (parts : Parts). parts.extensions) c.deref_mut.ensures.value ∙ c.in_ok-parts.ensures.extensions in
    of_message (λ old new. OnOk r (PutsEntries (value_at old n) (value_at new n) c.args.values.items)) (extensions_of c.args.self.now) c.deref_mut.result.now.extensions c.extend-outcome.new.content (extensions_of c.put_block.new.self)
    out c.put_block.ensures.extensions (c.extend-outcome.ensures.map map)

pub returns-clause-part : goal.returns-clause-part
returns-clause-part c = λ map.
    let r = c.extend-outcome.result in
    let n = (extension_type c.args.extension.now).number in
    let out = ap (λ (parts : Parts). parts.extensions) c.deref_mut.ensures.value ∙ c.in_ok-parts.ensures.extensions in
    of_message (λ old new. OnErr r (PutsSome (value_at old n) (value_at new n) c.args.values.items)) (extensions_of c.args.self.now) c.deref_mut.result.now.extensions c.extend-outcome.new.content (extensions_of c.put_block.new.self)
    out c.put_block.ensures.extensions (c.extend-outcome.ensures.part map)

pub returns-clause-left : goal.returns-clause-left
returns-clause-left c = λ list.
    let r = c.extend-outcome.result in
    let n = (extension_type c.args.extension.now).number in
    let out = ap (λ (parts : Parts). parts.extensions) c.deref_mut.ensures.value ∙ c.in_ok-parts.ensures.extensions in
    of_message (λ old new. OnErr r (KeepsList (value_at old n) (value_at new n))) (extensions_of c.args.self.now) c.deref_mut.result.now.extensions c.extend-outcome.new.content (extensions_of c.put_block.new.self)
    out c.put_block.ensures.extensions (c.extend-outcome.ensures.left list)

pub returns-clause-other : goal.returns-clause-other
returns-clause-other c = λ list.
    let n = (extension_type c.args.extension.now).number in
    let out = ap (λ (parts : Parts). parts.extensions) c.deref_mut.ensures.value ∙ c.in_ok-parts.ensures.extensions in
    of_message (λ old new. KeepsOther (value_at old n) (value_at new n)) (extensions_of c.args.self.now) c.deref_mut.result.now.extensions c.extend-outcome.new.content (extensions_of c.put_block.new.self)
    out c.put_block.ensures.extensions (c.extend-outcome.ensures.other list)

pub returns-clause-absent : goal.returns-clause-absent
returns-clause-absent c =
    let r = c.extend-outcome.result in
    let n = (extension_type c.args.extension.now).number in
    let out = ap (λ (parts : Parts). parts.extensions) c.deref_mut.ensures.value ∙ c.in_ok-parts.ensures.extensions in
    of_message (λ old new. OnErr r (StaysUnset (value_at old n) (value_at new n))) (extensions_of c.args.self.now) c.deref_mut.result.now.extensions c.extend-outcome.new.content (extensions_of c.put_block.new.self)
    out c.put_block.ensures.extensions c.extend-outcome.ensures.absent

pub returns-in_err-parts-clause-exclusive : goal.returns-in_err-parts-clause-exclusive
returns-in_err-parts-clause-exclusive c = subst IsExclusive (sym c.in_err-parts.ensures.err)

pub returns-clause-exclusive : goal.returns-clause-exclusive
returns-clause-exclusive c =
    let old = c.args.self.now in
    let new = c.put_block.new.self in
    let is : choices_of new ≡ choices_of old = search rules in
    let has : fields_of new ≡ fields_of old = search rules in
    let type : new.descriptor ≡ old.descriptor = search rules in
    put_back old new (choices_of old) (choices_of old) (fields_of old) (fields_of old) refl refl is has type

pub returns-in_err-parts-clause-ascending : goal.returns-in_err-parts-clause-ascending
returns-in_err-parts-clause-ascending c = subst (λ m. IsAscending (extensions_of m)) (sym c.in_err-parts.ensures.err)

pub returns-clause-ascending : goal.returns-clause-ascending
returns-clause-ascending c = λ up.
    let put = c.extend-outcome in
    let had : c.deref_mut.result.now.extensions ≡ extensions_of c.args.self.now = search rules in
    let has : extensions_of c.put_block.new.self ≡ put.new.content = search rules in
    subst IsAscending (sym has) (put.ensures.ascending (subst IsAscending (sym had) up))
