use Rattle.std.proofs.Common.{◌∙◌, map, rules, sym}
use Rattle.std.proofs.Math.ListN.{length-map}
use Rattle.descriptor_records.specs.Content.{field_view}
use Rattle.option_parts.specs.TypedOptions.{typed_field}
use Rattle.option_parts.proofs.Copying.{one_more}
use Rattle.option_parts.proofs.typed_options.copy_in_fields.Goals as goal

pub loop-place-preserved : goal.loop-place-preserved
loop-place-preserved c =
    let before = c.loop-place.invariant in
    let old = c.args.fields.now.items in
    record {
      changed = one_more field_view typed_field (map field_view old) c.loop-place.fields.items c.loop-place.place c.index_mut.result.now c.copy_packed.new.field (search rules) (before.count ∙ sym (length-map old field_view)) before.changed c.index_mut.ensures.value c.copy_packed.ensures;
      count = search rules;
    }
