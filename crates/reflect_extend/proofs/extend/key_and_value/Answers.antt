use Rattle.std.proofs.Common.{refl, sym, ap, ◌∙◌, option_map}
use Rattle.reflect_message.specs.Held.{fields_of}
use Rattle.reflect_extend.proofs.Giving.{gives}
use Rattle.reflect_extend.proofs.extend.key_and_value.Goals as goal

pub returns-in-Some : goal.returns-in-Some
returns-in-Some c =
    gives c.args.entry c.descriptor-descriptor.result c.map_entry_key_field-key_field.result
    c.map_entry_value_field-value_field.result (fields_of c.taken.new.message) c.in_ok-key.key
    c.in_ok-value.value _ c.descriptor-descriptor.ensures (c.if-not-is_map_entry.ensures.0 refl)
    c.map_entry_key_field-key_field.ensures.message c.map_entry_key_field-key_field.ensures.place
    c.map_entry_value_field-value_field.ensures.message
    c.map_entry_value_field-value_field.ensures.place c.in_ok-key.ensures.part
    c.taken.ensures.taken c.in_ok-value.ensures.part
    (ap (option_map (λ k. (k, c.in_ok-value.value))) (sym c.in-Some.is ∙ c.into_map_key.ensures.key))

pub returns : goal.returns
returns c =
    gives c.args.entry c.descriptor-descriptor.result c.map_entry_key_field-key_field.result
    c.map_entry_value_field-value_field.result (fields_of c.taken.new.message) c.in_ok-key.key
    c.in_ok-value.value _ c.descriptor-descriptor.ensures (c.if-not-is_map_entry.ensures.0 refl)
    c.map_entry_key_field-key_field.ensures.message c.map_entry_key_field-key_field.ensures.place
    c.map_entry_value_field-value_field.ensures.message
    c.map_entry_value_field-value_field.ensures.place c.in_ok-key.ensures.part
    c.taken.ensures.taken c.in_ok-value.ensures.part
    (ap (option_map (λ k. (k, c.in_ok-value.value))) (sym c.in-None.is ∙ c.into_map_key.ensures.key))
