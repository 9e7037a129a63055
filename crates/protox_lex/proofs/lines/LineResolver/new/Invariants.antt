use Rattle.std.proofs.Common.{◌≡◌, ◌++◌, length}
use Rattle.memchr.specs.Find.{places, is_byte}
use Rattle.protox_lex.proofs.lines.LineResolver.new.Given as goal

abbrev pub invariant-feeds : goal.invariant-feeds
invariant-feeds l = l.ends.items ++ l.feeds ≡ places (is_byte 10) l.source

abbrev pub decreases-feeds : goal.decreases-feeds
decreases-feeds l = length l.feeds
