use Rattle.std.proofs.Common.{string_bytes, rules}
use Rattle.std.specs.contracts.alloc.Global.{the_row}
use Rattle.text_scalars.specs.Names.{bracketed_at, full_name_at, text_and_bytes, view_and_bytes}
use Rattle.text_scalars.specs.Reading.{and_then, seen_as}
use Rattle.text_scalars.specs.Remaining.{remaining}
use Rattle.text_scalars.proofs.Naming.{passed, second_fails}
use Rattle.text_scalars.proofs.tokens.Tokens.bracketed.Goals as goal

pub returns-in_err-message-clause-read : goal.returns-in_err-message-clause-read
returns-in_err-message-clause-read c =
    let r = c.from_residual-in_err-message in
    passed view_and_bytes (seen_as text_and_bytes (and_then (full_name_at (remaining c.args.self.now)) (bracketed_at c.args.opened))) r.result (remaining c.full_name-2.new.self) c.in_err-message.field-0.0 r.ensures.1
    (second_fails (string_bytes {Z = the_row.Denot}) c.args.opened (string_bytes c.in_ok-first.first) c.in_err-message.field-0.0 (full_name_at (remaining c.args.self.now)) (remaining c.full_name.new.self) (remaining c.eat-2.new.self) (remaining c.full_name-2.new.self) c.eat-2.result
    c.in_ok-first.ensures.read (search rules) (search rules) (search rules) (search rules) c.in_err-message.ensures.read)
