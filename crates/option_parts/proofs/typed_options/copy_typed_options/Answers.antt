use Rattle.std.proofs.Common.{◌∙◌, map, rules, sym}
use Rattle.std.proofs.Math.ListN.{length-map}
use Rattle.descriptor_records.specs.Content.{file_view}
use Rattle.option_parts.specs.TypedOptions.{typed_file}
use Rattle.option_parts.proofs.Copying.{one_more}
use Rattle.option_parts.proofs.typed_options.copy_typed_options.Goals as goal

pub loop-place-preserved : goal.loop-place-preserved
loop-place-preserved c =
    let before = c.loop-place.invariant in
    let old = c.args.files.now.items in
    record {
      changed = one_more file_view typed_file (map file_view old) c.loop-place.files.items c.loop-place.place c.index_mut.result.now c.copy_in_file.new.file (search rules) (before.count ∙ sym (length-map old file_view)) before.changed c.index_mut.ensures.value c.copy_in_file.ensures;
      count = search rules;
    }
