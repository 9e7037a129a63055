use Rattle.std.proofs.Common.{refl, sym, subst}
use Rattle.std.proofs.lemmas.Result.{err_from_is_err_and}
use Rattle.reflect_message.specs.Contents.{content_of}
use Rattle.reflect_decode.specs.Levels.{TakesAt}
use Rattle.reflect_decode.specs.Spelled.{TellsWhy}
use Rattle.reflect_decode.specs.Suits.{Suits}
use Rattle.reflect_decode.proofs.Copying.{merged, merged_chosen}
use Rattle.reflect_decode.proofs.InOrder.{message_from, message_tells}
use Rattle.reflect_decode.proofs.Suiting.{copy_suits}
use Rattle.reflect_decode.proofs.decode_message.DynamicMessageDecodeMessage.merge.Goals as goal

pub returns-clause-read : goal.returns-clause-read
returns-clause-read c =
    let old = c.args.self.now in
    let copy = c.in_ok-merged in
    let made = copy.ensures in
    let taken = c.in_ok-merge_body.ensures in
    let read = taken.read in
    merged 100 old.descriptor copy.merged.descriptor c.args.bytes.now c.in_ok-merge_body.field-0.now
    (content_of old) (content_of copy.merged) (content_of c.merge_body.new.message)
    read.0 made.same_type read.1 (taken.whole refl) read.2 read.3 made.copied
    (message_tells copy.merged made.in_order)

pub returns-clause-exclusive : goal.returns-clause-exclusive
returns-clause-exclusive c =
    let old = c.args.self.now in
    let new = c.merge_body.new.message in
    let copy = c.in_ok-merged in
    let made = copy.ensures in
    let taken = c.in_ok-merge_body.ensures in
    let read = taken.read in
    merged_chosen (TakesAt 100) old.descriptor copy.merged.descriptor new.descriptor
    (content_of old) (content_of copy.merged) (content_of new) read.0 made.same_type taken.same_type read.2 made.copied

pub returns-in_err-merge_body-clause-fault : goal.returns-in_err-merge_body-clause-fault
returns-in_err-merge_body-clause-fault c =
    let old = c.args.self.now in
    let copy = c.in_ok-merged in
    let made = copy.ensures in
    let type = copy.merged.descriptor in
    let failed = c.in_err-merge_body in
    let r = c.from_residual-in_err-merge_body in
    let p = err_from_is_err_and r.result r.ensures.1 in
    λ suits.
    let before = subst (λ t. Suits 100 t (content_of old)) (sym made.same_type) suits in
    let held = copy_suits 100 type (content_of old) (content_of copy.merged) made.copied before in
    rw (p.1, p.2) (subst (λ d. TellsWhy d c.args.bytes.now failed.field-0.0) made.same_type (failed.ensures.fault held))

pub returns-clause-in_order : goal.returns-clause-in_order
returns-clause-in_order c =
    let copy = c.in_ok-merged in
    let before = message_tells copy.merged copy.ensures.in_order in
    message_from c.merge_body.new.message (c.in_ok-merge_body.ensures.read.2.in_order before)
