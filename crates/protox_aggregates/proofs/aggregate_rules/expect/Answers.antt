use Rattle.std.proofs.Common.{string_bytes}
use Rattle.protox_aggregates.proofs.Written.{writes_expected}
use Rattle.protox_tokens.specs.Stream.{stream}
use Rattle.protox_aggregates.proofs.aggregate_rules.expect.Goals as goal

pub returns-clause-writes : goal.returns-clause-writes
returns-clause-writes c =
    rw c.in_ok-add.ensures (writes_expected (stream c.args.tokens.now) (stream c.expect_in_text.new.self) (string_bytes c.args.text.now) c.args.sign c.in_ok-expect_in_text.field-0 c.in_ok-expect_in_text.ensures.reads)
