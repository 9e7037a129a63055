use Rattle.std.proofs.Common.{refl, sym, subst}
use Rattle.std.proofs.lemmas.Result.{err_from_is_err_and}
use Rattle.reflect_decode.specs.Levels.{TakesAt}
use Rattle.reflect_decode.specs.Ordered.{HoldsInOrder}
use Rattle.reflect_decode.specs.Spelled.{TellsWhy}
use Rattle.reflect_decode.specs.Suits.{Suits, SuitsBelow}
use Rattle.reflect_decode.proofs.InOrder.{message_from, nothing_in_order}
use Rattle.reflect_decode.proofs.Sparing.{decoded}
use Rattle.reflect_decode.proofs.Suiting.{nothing_suits}
use Rattle.reflect_decode.proofs.decode_message.DynamicMessageDecodeMessage.decode.Goals as goal

pub returns-clause-read : goal.returns-clause-read
returns-clause-read c =
    let new = c.new-message.ensures in
    let merged = c.in_ok-merge_body.ensures in
    let read = merged.read in
    decoded (TakesAt 100) c.args.descriptor c.new-message.result.descriptor 100 c.args.bytes.now c.in_ok-merge_body.field-0.now _ _ read.0 new.same_type read.1 (merged.whole refl) read.2 new.fields new.extensions new.unknown new.exclusive new.empty read.3

pub returns-in_err-merge_body-clause-fault : goal.returns-in_err-merge_body-clause-fault
returns-in_err-merge_body-clause-fault c =
    let r = c.from_residual in
    let p = err_from_is_err_and r.result r.ensures.1 in
    let new = c.new-message in
    let type = c.args.descriptor in
    let failed = c.in_err-merge_body in
    let suits = subst (Suits 100 new.result.descriptor) (sym new.ensures.empty) (nothing_suits (SuitsBelow 100) new.result.descriptor) in
    rw (p.1, p.2) (subst (λ d. TellsWhy d c.args.bytes.now failed.field-0.0) new.ensures.same_type (failed.ensures.fault suits))

pub returns-clause-in_order : goal.returns-clause-in_order
returns-clause-in_order c =
    let empty = subst HoldsInOrder (sym c.new-message.ensures.empty) nothing_in_order in
    message_from c.merge_body.new.message (c.in_ok-merge_body.ensures.read.2.in_order empty)
