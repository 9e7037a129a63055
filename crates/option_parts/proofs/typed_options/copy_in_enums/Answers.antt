use Rattle.std.proofs.Common.{◌∙◌, map, rules, sym}
use Rattle.std.proofs.Math.ListN.{length-map}
use Rattle.descriptor_records.specs.Content.{enum_view}
use Rattle.option_parts.specs.TypedOptions.{typed_enum}
use Rattle.option_parts.proofs.Copying.{one_more}
use Rattle.option_parts.proofs.typed_options.copy_in_enums.Goals as goal

pub loop-place-preserved : goal.loop-place-preserved
loop-place-preserved c =
    let before = c.loop-place.invariant in
    let old = c.args.enums.now.items in
    record {
      changed = one_more enum_view typed_enum (map enum_view old) c.loop-place.enums.items c.loop-place.place c.index_mut.result.now c.copy_aliases.new.enumeration (search rules) (before.count ∙ sym (length-map old enum_view)) before.changed c.index_mut.ensures.value c.copy_aliases.ensures;
      count = search rules;
    }
