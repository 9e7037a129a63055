use Rattle.std.proofs.Common.{rules, ◌≡◌, ◌∷◌, [], Some, map, ap, ◌∙◌, refl, subst, sym}
use Rattle.reflect_pool.specs.FieldsLeft.{field_place, field_type, fields_left, type_in}
use Rattle.reflect_pool.specs.declared.message.Fields.{Fields}
use Rattle.reflect_pool.specs.declared.message.MessageDescriptor.{MessageDescriptor}
use Rattle.reflect_pool.proofs.PlacesLeft.{at_places}
use Rattle.reflect_tables.specs.Types.{no_field, type_at}
use Rattle.reflect_message.specs.Known.{known_field}
use Rattle.print_parts.specs.Parts.{declared_entry}
use Rattle.print_parts.proofs.Choosing.{IsChosen, all_chosen, none_chosen, one_put}
use Rattle.print_parts.proofs.entries.printed_fields.Goals as goal

pub loop-declared-init : goal.loop-declared-init
loop-declared-init c =
    let d = c.args.message.now.descriptor in
    let all : Fields = record { message = d; next = 0 } in
    let from : c.into_iter-declared-iterator.result ≡ all = search rules in
    let empty : c.new-fields.result.items ≡ [] = search rules in
    let left = map type_in (fields_left c.into_iter-declared-iterator.result) in
    subst (λ done. IsChosen c.args.options c.args.message.now done left)
    (sym (ap (map declared_entry) empty))
    (none_chosen c.args.options c.args.message.now left
    (ap (λ (s : Fields). map type_in (fields_left s)) from ∙ at_places d type_in (type_at d.pool.now d.index).fields no_field (λ k. refl)))

pub loop-declared-preserved-in-Continue-1 : goal.loop-declared-preserved-in-Continue-1
loop-declared-preserved-in-Continue-1 c =
    let d = c.args.message.now.descriptor in
    let g = field_type c.in-Some.declared in
    let f = c.in-Some-declared_field.field in
    let step : fields_left c.loop-declared.declared-iterator ≡ field_place c.in-Some.declared ∷ fields_left c.next.new.self = search rules in
    let known : Some (field_type f) ≡ known_field d.pool.now d.index g.number =
    c.in-Some-declared_field.ensures.known
    ∙ ap (λ (m : MessageDescriptor). known_field m.pool.now m.index c.number.result) c.descriptor-in-loop-declared.ensures
    ∙ ap (known_field d.pool.now d.index) c.number.ensures in
    one_put c.args.options c.args.message.now _ _ g (field_type f) _ _ (ap (map type_in) step) known c.in_ok-push_field.ensures c.loop-declared.invariant

pub returns : goal.returns
returns c =
    let none : fields_left c.loop-declared.declared-iterator ≡ [] = search rules in
    all_chosen c.args.options c.args.message.now _ _ (ap (map type_in) none) c.loop-declared.invariant
