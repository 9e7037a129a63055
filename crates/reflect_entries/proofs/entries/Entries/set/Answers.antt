-- The value goes over what stood under the number, or beside the number in its place.
use Rattle.std.proofs.Common.{arith, Result, Ok, Err, OnOk, OnErr}
use Rattle.std.proofs.lemmas.List.Edits.{length-insert}
use Rattle.reflect_entries.proofs.Side.{put_in, put_over, sorted_in}
use Rattle.reflect_entries.proofs.Zips.{ascend_from}
use Rattle.reflect_entries.proofs.entries.Entries.set.Goals as goal

-- what follows from an `Ok` and from an `Err` follows from both
either : {A E : Type 0} (P P' Q Q' : Type 0) {G : Type 0} (r : Result A E) → OnOk r P → OnOk r P' → OnErr r Q → OnErr r Q' → (P → P' → G) → (Q → Q' → G) → G
either P P' Q Q' (Ok a) p p' q q' f g = f p p'
either P P' Q Q' (Err e) p p' q q' f g = g q q'

pub invariant_of-self-in-Continue-1 : goal.invariant_of-self-in-Continue-1
invariant_of-self-in-Continue-1 g c =
    let ks = c.self.inside.numbers.items in
    let vs = c.self.inside.values.items in
    let i = c.in-Err.at in
    let n = c.args.number in
    let e = c.self.invariant.0 in
    let le = rw c.as_slice.ensures.value at c.in-Err.ensures.in_range in
    let parts = rw c.as_slice.ensures.value at c.in-Err.ensures.between in
    let done = c.insert_both.ensures in
    either _ _ _ _ c.insert_both.result done.number done.value done.numbers_stay done.values_stay
    (λ a b. rw (a, b) (omega (arith, e, length-insert ks i n le, length-insert vs i c.args.value (omega (arith, e, le))), sorted_in ks vs e c.self.invariant.1 i n le (parts (ascend_from ks c.self.invariant.1)) c.args.value))
    (λ a b. rw (a, b) c.self.invariant)

pub returns-in-Ok-clause-updates : goal.returns-in-Ok-clause-updates
returns-in-Ok-clause-updates g c =
    let ks = c.self.inside.numbers.items in
    let vs = c.self.inside.values.items in
    let lt = rw c.as_slice.ensures.value at c.in-Ok.ensures.in_range in
    let at = rw c.as_slice.ensures.value at c.in-Ok.ensures.found in
    rw (← c.self.view_is) (put_over ks vs c.self.invariant.0 c.self.invariant.1 c.in-Ok.at c.args.number lt at c.args.value)

pub returns-in_ok-insert_both-in-Err-clause-updates : goal.returns-in_ok-insert_both-in-Err-clause-updates
returns-in_ok-insert_both-in-Err-clause-updates g c =
    let ks = c.self.inside.numbers.items in
    let vs = c.self.inside.values.items in
    let le = rw c.as_slice.ensures.value at c.in-Err.ensures.in_range in
    let parts = rw c.as_slice.ensures.value at c.in-Err.ensures.between in
    rw (← c.self.view_is, c.in_ok-insert_both-in-Err.ensures.number, c.in_ok-insert_both-in-Err.ensures.value)
    (put_in ks vs c.self.invariant.0 c.self.invariant.1 c.in-Err.at c.args.number le (parts (ascend_from ks c.self.invariant.1)) c.args.value)
