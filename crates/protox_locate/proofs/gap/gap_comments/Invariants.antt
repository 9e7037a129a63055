use Rattle.std.proofs.Common.{◌≡◌, ◌-◌, ◌≤◌, length, drop}
use Rattle.protox_locate.specs.Gap.{pieces, read_all, read_view, unread}
use Rattle.protox_locate.proofs.gap.gap_comments.Given as goal

abbrev pub invariant-pieces : goal.invariant-pieces
invariant-pieces l = record {
  within : l.at ≤ length l.bytes;
  so_far : read_all (read_view l.reader) (pieces (drop l.at l.bytes)) ≡ read_all unread (pieces l.bytes);
}

abbrev pub decreases-pieces : goal.decreases-pieces
decreases-pieces l = length l.bytes - l.at
