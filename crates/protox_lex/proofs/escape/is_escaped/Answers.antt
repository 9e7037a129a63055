use Rattle.std.proofs.Common.{◌≡◌, ◌+◌, sym, arith, drop, length-drop, subst, []}
use Rattle.std.proofs.lemmas.List.{take_rest}
use Rattle.std.proofs.Math.ListN.{drop_of_length-le}
use Rattle.protox_lex.specs.Spelled.{IsEscaped, nothing}
use Rattle.protox_lex.proofs.EscapedTexts.{Both, past_byte, past_escape, past_none}
use Rattle.protox_lex.proofs.escape.is_escaped.Goals as goal

pub loop-at-preserved-then-raw-at-ne92 : goal.loop-at-preserved-then-raw-at-ne92
loop-at-preserved-then-raw-at-ne92 c =
    let l = c.loop-at in
    let before : Both c.args.raw.now l.at = record { back = l.invariant.back; on = l.invariant.on } in
    let after = past_byte c.args.raw.now l.at c.loop-at-test.true c.if-raw-at-ne92.true before in
    record { within = omega arith; back = after.back; on = after.on }

pub loop-at-preserved : goal.loop-at-preserved
loop-at-preserved c =
    let l = c.loop-at in
    let raw = c.args.raw.now in
    let known = rw take_rest at c.in-Ok.ensures.value in
    let within = rw take_rest at c.in-Ok.ensures.within in
    let before : Both raw l.at = record { back = l.invariant.back; on = l.invariant.on } in
    let after = past_escape raw l.at (c.in-Ok.field-0-0, c.in-Ok.len) c.loop-at-test.true c.if-raw-at-ne92.false (sym known) before in
    record { within = omega (arith, within.1, length-drop (l.at + 1) raw); back = after.back; on = after.on }

pub returns-in_default-clause-no : goal.returns-in_default-clause-no
returns-in_default-clause-no c _ =
    let l = c.loop-at in
    let known = rw take_rest at c.in_default.ensures.value in
    let before : Both c.args.raw.now l.at = record { back = l.invariant.back; on = l.invariant.on } in
    past_none c.args.raw.now l.at c.in_default.field-0 c.loop-at-test.true c.if-raw-at-ne92.false (sym known) before

pub returns-clause-yes : goal.returns-clause-yes
returns-clause-yes c _ =
    let l = c.loop-at in
    let none : drop l.at c.args.raw.now ≡ [] = drop_of_length-le c.args.raw.now (omega arith) in
    l.invariant.back (subst IsEscaped (sym none) nothing)
