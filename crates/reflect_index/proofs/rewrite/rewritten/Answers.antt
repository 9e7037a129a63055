use Rattle.std.proofs.Common.{◌∙◌, ap, rules}
use Rattle.std.proofs.Math.Seq.{map-set_same}
use Rattle.descriptor_records.specs.Content.{file_view}
use Rattle.reflect_known.specs.GivenNames.{names_of_file}
use Rattle.reflect_tables.specs.Views.{record_file}
use Rattle.reflect_index.specs.Rewriting.{write_file}
use Rattle.reflect_index.proofs.Writing.{viewed_step}
use Rattle.reflect_index.proofs.rewrite.rewritten.Goals as goal

pub loop-place-preserved : goal.loop-place-preserved
loop-place-preserved c =
    let files = c.loop-place.files.items in
    let place = c.loop-place.place in
    let was = c.index_mut.result.now in
    let now = c.rewrite_file.new.file in
    let before = c.loop-place.invariant in
    record {
      headers =
          map-set_same record_file files place now was
          (c.rewrite_file.ensures.header ∙ ap record_file c.index_mut.ensures.value)
          ∙ before.headers;
      names =
          map-set_same names_of_file files place now was
          (c.rewrite_file.ensures.names ∙ ap names_of_file c.index_mut.ensures.value)
          ∙ before.names;
      written =
          viewed_step file_view write_file files place was now _ _ _ (search rules)
          c.index_mut.ensures.value c.rewrite_file.ensures.written before.written;
      count = search rules;
    }
