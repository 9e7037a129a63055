use Rattle.std.proofs.Common.{◌∙◌, ap, rules}
use Rattle.std.proofs.Math.Seq.{map-set_same}
use Rattle.descriptor_records.specs.Content.{method_view}
use Rattle.reflect_known.specs.GivenNames.{method_name}
use Rattle.reflect_index.specs.Rewriting.{write_method}
use Rattle.reflect_index.proofs.Writing.{viewed_step}
use Rattle.reflect_index.proofs.rewrite.rewrite_methods.Goals as goal

pub methods-preserved : goal.methods-preserved
methods-preserved c =
    let was = c.index_mut.result.now in
    let items = c.methods.methods.items in
    let place = c.methods.place in
    let new = c.rewrite_method.new.method in
    let before = c.methods.invariant in
    record {
      names =
          map-set_same method_name items place new was
          (c.rewrite_method.ensures.names ∙ ap method_name c.index_mut.ensures.value)
          ∙ before.names;
      written =
          viewed_step method_view write_method items place was new _ _ _ (search rules)
          c.index_mut.ensures.value c.rewrite_method.ensures.written before.written;
      count = search rules;
    }
