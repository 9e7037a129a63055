use Rattle.std.proofs.Common.{◌≡◌, ℕ, ◌+◌, ◌≤◌, List, fold, length}
use Rattle.protox_lex.specs.Lines.{feeds_of, later_start, line_at, start_at}
use Rattle.text_error.proofs.lines.line_and_column.Given as goal

-- what was counted, with the feeds that are left, comes to what all of them do
pub record Counts (line start offset : ℕ) (feeds text : List ℕ) : Type 0 where
  pub lines : line + line_at feeds offset ≡ line_at (feeds_of text) offset
  pub starts : fold (later_start offset) start feeds ≡ start_at (feeds_of text) offset
  pub few : line + length feeds ≤ length text
  pub within : start ≤ offset

abbrev pub invariant-feeds : goal.invariant-feeds
invariant-feeds l = Counts l.line l.start l.offset l.feeds l.text

abbrev pub decreases-feeds : goal.decreases-feeds
decreases-feeds l = length l.feeds
