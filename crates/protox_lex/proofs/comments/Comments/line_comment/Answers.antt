use Rattle.std.proofs.Common.{◌≡◌, ◌-◌, length, arith, refl, rules}
use Rattle.std.specs.Vec.{vec_len}
use Rattle.protox_lex.proofs.Lengthened.{on_ok, on_err, blocks_same}
use Rattle.protox_lex.proofs.comments.Comments.line_comment.Goals as goal

pub returns-in-Some-clause-lengthens : goal.returns-in-Some-clause-lengthens
returns-in-Some-clause-lengthens c =
    let items = c.args.self.now.blocks.items in
    let same : length items ≡ vec_len c.args.self.now.blocks = search rules in
    let some = c.in-Some.ensures.variant.0 refl in
    on_ok _ c.push_str.result items (vec_len c.args.self.now.blocks - 1) c.push_str.new.self c.in-Some.last.now c.args.text.now (omega (arith, same, some)) c.in-Some.ensures.value c.push_str.ensures.bytes

pub returns-in-Some-clause-err : goal.returns-in-Some-clause-err
returns-in-Some-clause-err c =
    let items = c.args.self.now.blocks.items in
    let same : length items ≡ vec_len c.args.self.now.blocks = search rules in
    let some = c.in-Some.ensures.variant.0 refl in
    blocks_same c.push_str.result _ _ _ _ (on_err c.push_str.result items (vec_len c.args.self.now.blocks - 1) c.push_str.new.self c.in-Some.last.now c.args.text.now (omega (arith, same, some)) c.in-Some.ensures.value c.push_str.ensures.bytes)
