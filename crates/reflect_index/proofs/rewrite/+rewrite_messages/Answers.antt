use Rattle.std.proofs.Common.{◌∙◌, ap, rules}
use Rattle.std.proofs.Math.Seq.{map-set_same}
use Rattle.descriptor_records.specs.Content.{message_view}
use Rattle.reflect_known.specs.GivenNames.{names_of_message}
use Rattle.reflect_index.specs.Rewriting.{write_message}
use Rattle.reflect_index.proofs.RewrittenMessages.{names_kept}
use Rattle.reflect_index.proofs.Writing.{viewed_step, message_written}
use Rattle.reflect_index.proofs.rewrite.+rewrite_messages.Goals as goal

pub turns-preserved : goal.turns-preserved
turns-preserved t c =
    let before = c.turns.invariant in
    let was = c.index_mut-message.result.now in
    let items = c.turns.messages.items in
    let place = c.turns.place in
    let fields = c.rewrite_fields.new.fields in
    let nested = c.rewrite_messages.new.messages in
    let extensions = c.rewrite_extensions.new.extensions in
    let kept = names_kept was fields nested extensions c.rewrite_fields.ensures.names
    c.rewrite_messages.ensures.names c.rewrite_extensions.ensures.names in
    let here = message_written was fields nested extensions _ _ _ _ c.rewrite_fields.ensures.written
    c.rewrite_messages.ensures.written c.rewrite_extensions.ensures.written in
    record {
      names =
          map-set_same names_of_message items place _ was
          (kept ∙ ap names_of_message c.index_mut-message.ensures.value) ∙ before.names;
      written =
          viewed_step message_view write_message items place was _ _ _ _ (search rules)
          c.index_mut-message.ensures.value here before.written;
      count = search rules;
      unvisited = search rules;
    }
