use Rattle.std.proofs.Common.{◌&&◌, ap, sym, ◌∙◌}
use Rattle.protox_locate.specs.Gap.{Read, notes_of, read_view, trails}
use Rattle.protox_locate.proofs.Pieces.{all_read}
use Rattle.protox_locate.proofs.gap.gap_comments.Goals as goal

pub returns : goal.returns
returns c =
    let whole = sym (all_read (read_view c.pieces.reader) c.args.bytes.now c.pieces.at c.pieces-test.false) ∙ c.pieces.invariant.so_far in
    c.into_comments.ensures ∙ ap (λ (r : Read). notes_of (c.args.may_trail && trails c.args.behind r) r.notes) whole
