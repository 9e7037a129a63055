-- Where nothing stands under the number the default is put there.
use Rattle.std.proofs.Common.{arith}
use Rattle.std.proofs.lemmas.List.Edits.{length-insert}
use Rattle.std.proofs.lemmas.Slice.Zip.{length-zip}
use Rattle.reflect_entries.proofs.Side.{stays, put_default, there_now, sorted_in}
use Rattle.reflect_entries.proofs.Zips.{ascend_from, held_at}
use Rattle.reflect_entries.proofs.entries.Entries.room.Goals as goal

pub invariant_of-self-in-Err : goal.invariant_of-self-in-Err
invariant_of-self-in-Err g c =
    let ks = c.self.inside.numbers.items in
    let vs = c.self.inside.values.items in
    let e = c.self.invariant.0 in
    let le = rw c.as_slice.ensures.value at c.in-Err.ensures.in_range in
    let parts = rw c.as_slice.ensures.value at c.in-Err.ensures.between in
    let done = c.in_ok-insert_both-in-Err.ensures in
    rw (done.number, done.value) (
      omega (arith, e, length-insert ks c.in-Err.at c.args.number le, length-insert vs c.in-Err.at c.args.default (omega (arith, e, le))),
      sorted_in ks vs e c.self.invariant.1 c.in-Err.at c.args.number le (parts (ascend_from ks c.self.invariant.1)) c.args.default,
    )

pub returns-in-Ok-clause-found : goal.returns-in-Ok-clause-found
returns-in-Ok-clause-found g c =
    let ks = c.self.inside.numbers.items in
    let vs = c.self.inside.values.items in
    let e = c.self.invariant.0 in
    let lt = rw c.as_slice.ensures.value at c.in-Ok.ensures.in_range in
    let at = rw c.as_slice.ensures.value at c.in-Ok.ensures.found in
    rw (← c.self.view_is) (omega (arith, lt, e, length-zip ks vs), held_at ks vs c.in-Ok.at c.args.number e lt at)

pub returns-in-Ok-clause-updates : goal.returns-in-Ok-clause-updates
returns-in-Ok-clause-updates g c =
    let lt = rw c.as_slice.ensures.value at c.in-Ok.ensures.in_range in
    let at = rw c.as_slice.ensures.value at c.in-Ok.ensures.found in
    rw (← c.self.view_is) (stays c.self.inside.numbers.items c.self.inside.values.items c.self.invariant.0 c.self.invariant.1 c.in-Ok.at c.args.number lt at c.args.default)

pub returns-in_ok-insert_both-in-Err-clause-found : goal.returns-in_ok-insert_both-in-Err-clause-found
returns-in_ok-insert_both-in-Err-clause-found g c =
    let ks = c.self.inside.numbers.items in
    let le = rw c.as_slice.ensures.value at c.in-Err.ensures.in_range in
    let parts = rw c.as_slice.ensures.value at c.in-Err.ensures.between in
    let done = c.in_ok-insert_both-in-Err.ensures in
    rw (done.number, done.value) (there_now ks c.self.inside.values.items c.self.invariant.0 c.self.invariant.1 c.in-Err.at c.args.number le (parts (ascend_from ks c.self.invariant.1)) c.args.default)

pub returns-in_ok-insert_both-in-Err-clause-updates : goal.returns-in_ok-insert_both-in-Err-clause-updates
returns-in_ok-insert_both-in-Err-clause-updates g c =
    let ks = c.self.inside.numbers.items in
    let le = rw c.as_slice.ensures.value at c.in-Err.ensures.in_range in
    let parts = rw c.as_slice.ensures.value at c.in-Err.ensures.between in
    let done = c.in_ok-insert_both-in-Err.ensures in
    rw (← c.self.view_is, done.number, done.value) (put_default ks c.self.inside.values.items c.self.invariant.0 c.self.invariant.1 c.in-Err.at c.args.number le (parts (ascend_from ks c.self.invariant.1)) c.args.default)
