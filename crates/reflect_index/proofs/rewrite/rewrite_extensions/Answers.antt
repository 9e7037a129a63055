use Rattle.std.proofs.Common.{◌∙◌, ap, rules}
use Rattle.std.proofs.Math.Seq.{map-set_same}
use Rattle.descriptor_records.specs.Content.{field_view}
use Rattle.reflect_known.specs.GivenNames.{field_name}
use Rattle.reflect_index.specs.Rewriting.{write_extension}
use Rattle.reflect_index.proofs.Writing.{viewed_step}
use Rattle.reflect_index.proofs.rewrite.rewrite_extensions.Goals as goal

pub extensions-preserved : goal.extensions-preserved
extensions-preserved c =
    let was = c.index_mut.result.now in
    let items = c.extensions.extensions.items in
    let place = c.extensions.place in
    let new = c.rewrite_extension.new.extension in
    let before = c.extensions.invariant in
    record {
      names =
          map-set_same field_name items place new was
          (c.rewrite_extension.ensures.names ∙ ap field_name c.index_mut.ensures.value)
          ∙ before.names;
      written =
          viewed_step field_view write_extension items place was new _ _ _ (search rules)
          c.index_mut.ensures.value c.rewrite_extension.ensures.written before.written;
      count = search rules;
    }
