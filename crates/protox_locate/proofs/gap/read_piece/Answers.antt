use Rattle.std.proofs.Common.{sym, ◌∙◌, refl}
use Rattle.protox_locate.specs.Gap.{line_end, other_byte, read_view}
use Rattle.protox_locate.specs.declared.gap.Mark.TheVariants as marks
use Rattle.protox_locate.proofs.Pieces.{block_on, line_on, read_on}
use Rattle.protox_locate.proofs.gap.read_piece.Goals as goal

pub returns-in_ok-line_comment-in-Line-clause-reads : goal.returns-in_ok-line_comment-in-Line-clause-reads
returns-in_ok-line_comment-in-Line-clause-reads c =
    line_on (read_view c.args.reader.now) (read_view c.line_comment.new.self) c.args.bytes.now c.args.at c.requires c.min-end.result c.find.result c.first_mark.result c.in-Line.is c.first_mark.ensures
    (c.find.ensures.first refl) c.min-end.ensures c.in_ok-line_comment-in-Line.ensures

pub returns-in_ok-block_comment-in-Block-clause-reads : goal.returns-in_ok-block_comment-in-Block-clause-reads
returns-in_ok-block_comment-in-Block-clause-reads c =
    block_on (read_view c.args.reader.now) (read_view c.block_comment.new.self) c.args.bytes.now c.args.at c.requires c.min.result c.find_close-end.result c.first_mark.result c.in-Block.is c.first_mark.ensures
    c.find_close-end.ensures.first c.find_close-end.ensures.within.1 c.min.ensures c.in_ok-block_comment-in-Block.ensures

pub returns-in-Feed-clause-reads : goal.returns-in-Feed-clause-reads
returns-in-Feed-clause-reads c =
    read_on (read_view c.args.reader.now) (read_view c.feed.new.self) c.args.bytes.now c.args.at _ marks.Feed line_end c.requires (sym c.in-Feed.is ∙ c.first_mark.ensures) refl c.feed.ensures refl

pub returns-in-Other-clause-reads : goal.returns-in-Other-clause-reads
returns-in-Other-clause-reads c =
    read_on (read_view c.args.reader.now) (read_view c.args.reader.now) c.args.bytes.now c.args.at _ marks.Other other_byte c.requires (sym c.in-Other.is ∙ c.first_mark.ensures) refl refl refl
