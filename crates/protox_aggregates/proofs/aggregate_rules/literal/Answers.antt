use Rattle.std.proofs.Common.{◌≡◌, ◌∙◌, Some, ap, sym, string_bytes}
use Rattle.std.specs.Option.{option_map}
use Rattle.protox_aggregates.proofs.Written.{writes_seen}
use Rattle.protox_lex.specs.Shown.{token_of}
use Rattle.protox_tokens.specs.Reads.{lexeme_view}
use Rattle.protox_tokens.specs.Stream.{peek, stream, text}
use Rattle.protox_aggregates.proofs.aggregate_rules.literal.Goals as goal

pub returns-in_ok-add-clause-writes : goal.returns-in_ok-add-clause-writes
returns-in_ok-add-clause-writes c =
    let l = c.in-Some-String.field-0 in
    let k = token_of l.token in
    let seen : peek text (stream c.args.tokens.now) ≡ Some (k, l.span) =
    sym c.peek_in_text.ensures.seen ∙ ap (option_map lexeme_view) c.in-Some-String.is in
    rw (c.in_ok-add.ensures, c.advance.ensures.passes) (writes_seen (stream c.args.tokens.now) (string_bytes c.args.text.now) k l.span seen)
