use Rattle.std.proofs.Common.{◌≡◌, length}
use Rattle.std.specs.Prelude.{None}
use Rattle.protox_lex.specs.Shown as lexed
use Rattle.protox_tokens.specs.Stream.{gather, raw}
use Rattle.protox_tokens.proofs.tokens.gathered.Given as goal

abbrev pub invariant-comments : goal.invariant-comments
invariant-comments l = gather l.hash (raw l.next (lexed.stream l.lexer)) ≡ gather None (lexed.stream l.fn.lexer)

abbrev pub decreases-comments : goal.decreases-comments
decreases-comments l = length (raw l.next (lexed.stream l.lexer))
