use Rattle.std.proofs.Common.{◌≡◌, Ok, true, false, rules, string_bytes}
use Rattle.protox_aggregates.proofs.Written.{writes_passed, writes_unpassed}
use Rattle.protox_lex.specs.Token.{sign}
use Rattle.protox_tokens.specs.Parser.{pass_in}
use Rattle.protox_tokens.specs.Stream.{stream, text}
use Rattle.protox_aggregates.proofs.aggregate_rules.eat.Goals as goal

pub returns-then-not-passes_in_text-clause-writes : goal.returns-then-not-passes_in_text-clause-writes
returns-then-not-passes_in_text-clause-writes c =
    let no : c.passes_in_text.result ≡ false = search rules in
    let e : pass_in text (sign c.args.sign) (stream c.args.tokens.now) ≡ Ok (false, stream c.passes_in_text.new.self) = rw (← no) c.passes_in_text.ensures.reads in
    writes_unpassed (stream c.args.tokens.now) (stream c.passes_in_text.new.self) (string_bytes c.args.text.now) c.args.sign e

pub returns-clause-writes : goal.returns-clause-writes
returns-clause-writes c =
    let yes : c.passes_in_text.result ≡ true = search rules in
    let e : pass_in text (sign c.args.sign) (stream c.args.tokens.now) ≡ Ok (true, stream c.passes_in_text.new.self) = rw (← yes) c.passes_in_text.ensures.reads in
    rw c.in_ok-add.ensures (writes_passed (stream c.args.tokens.now) (stream c.passes_in_text.new.self) (string_bytes c.args.text.now) c.args.sign e)
