use Rattle.std.proofs.Common.{◌∙◌, ap, map, rules, sym}
use Rattle.std.proofs.Math.ListN.{length-map}
use Rattle.descriptor_records.specs.Content.{message_view}
use Rattle.descriptor_records.specs.declared.message.DescriptorProto.TheViews.{out-DescriptorProto}
use Rattle.descriptor_records.proofs.Messages.{message_view-roll, message_view-out}
use Rattle.option_parts.specs.TypedOptions.{typed_message}
use Rattle.option_parts.proofs.Copying.{one_more, typed_steps}
use Rattle.option_parts.proofs.typed_options.+copy_in_messages.Goals as goal

pub loop-place-preserved : goal.loop-place-preserved
loop-place-preserved t c =
    let before = c.loop-place.invariant in
    let old = c.args.messages.now.items in
    let was = c.index_mut-message.result.now in
    record {
      changed = one_more message_view typed_message (map message_view old) c.loop-place.messages.items c.loop-place.place was _ (search rules) (before.count ∙ sym (length-map old message_view)) before.changed c.index_mut-message.ensures.value
          (message_view-roll _ ∙ typed_steps (out-DescriptorProto was) c.copy_in_fields.new.fields c.copy_in_fields-in-loop-place.new.fields c.copy_in_enums.new.enums c.copy_in_messages.new.messages c.copy_in_fields.ensures c.copy_in_fields-in-loop-place.ensures c.copy_in_enums.ensures c.copy_in_messages.ensures
          ∙ ap typed_message (sym (message_view-out was)));
      count = search rules;
      unvisited = search rules;
    }
