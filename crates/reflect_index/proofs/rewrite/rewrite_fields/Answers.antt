use Rattle.std.proofs.Common.{◌∙◌, ap, rules}
use Rattle.std.proofs.Math.Seq.{map-set_same}
use Rattle.descriptor_records.specs.Content.{field_view}
use Rattle.reflect_known.specs.GivenNames.{field_name}
use Rattle.reflect_index.specs.Rewriting.{write_type}
use Rattle.reflect_index.proofs.Writing.{viewed_step}
use Rattle.reflect_index.proofs.rewrite.rewrite_fields.Goals as goal

pub fields-preserved : goal.fields-preserved
fields-preserved c =
    let was = c.index_mut.result.now in
    let items = c.fields.fields.items in
    let place = c.fields.place in
    let new = c.rewrite_type.new.field in
    let before = c.fields.invariant in
    record {
      names =
          map-set_same field_name items place new was
          (c.rewrite_type.ensures.names ∙ ap field_name c.index_mut.ensures.value)
          ∙ before.names;
      written =
          viewed_step field_view write_type items place was new _ _ _ (search rules)
          c.index_mut.ensures.value c.rewrite_type.ensures.written before.written;
      count = search rules;
    }
