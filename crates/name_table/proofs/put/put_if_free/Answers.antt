use Rattle.std.proofs.Common.{◌≡◌, Some, sym, ◌∙◌, rules}
use Rattle.std.specs.BTreeMap.{get}
use Rattle.name_table.specs.Slots.{by_bits}
use Rattle.name_table.proofs.Puts.{put_back}
use Rattle.name_table.proofs.put.put_if_free.Goals as goal

pub returns-in-Ok-Some-clause-puts : goal.returns-in-Ok-Some-clause-puts
returns-in-Ok-Some-clause-puts g c =
    let m = c.args.slots.now in
    let n = c.insert.new.self in
    let h = c.args.hash in
    let had : get by_bits m h ≡ Some c.in-Some.held = sym c.in_ok-insert.ensures.old ∙ c.in-Some.is in
    let puts = c.in_ok-insert.ensures.updates in
    let is = c.in-Ok-Some.field-0-is in
    let slot_is = c.in-Ok-Some.slot-is in
    let old = c.in-Ok-Some.ensures.old in
    let found : get by_bits n h ≡ Some c.in-Ok-Some.slot = cc in
    let here : get by_bits n h ≡ Some c.args.slot = puts.1 in
    (search rules, cc, put_back m n c.insert-in-Some.new.self h c.args.slot c.in-Some.held had puts c.in-Ok-Some.ensures.updates)
