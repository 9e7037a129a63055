use Rattle.std.proofs.Common.{◌≡◌, ◌+◌, length, drop, ap, ◌∙◌, arith, length-drop}
use Rattle.std.proofs.lemmas.List.{take_rest}
use Rattle.protox_locate.proofs.Finds.{feed_at, no_feed}
use Rattle.protox_locate.proofs.gap.find.Goals as goal

pub returns-in-Some-clause-first : goal.returns-in-Some-clause-first
returns-in-Some-clause-first c = λ feed. ap (λ n. c.args.at + n) (feed_at c.args.wanted _ _ c.in-Some.place feed (take_rest c.args.bytes.now c.args.at) c.in-Some.ensures)

pub returns-in-None-clause-first : goal.returns-in-None-clause-first
returns-in-None-clause-first c = λ feed.
    let z = c.args.bytes.now in
    let whole : length z ≡ c.args.at + length (drop c.args.at z) = omega (arith, length-drop c.args.at z, c.requires) in
    whole ∙ ap (λ n. c.args.at + n) (no_feed c.args.wanted _ _ feed (take_rest z c.args.at) c.in-None.ensures)
