-- The number and its value go out of their places.
use Rattle.std.proofs.Common.{sym, ap, ◌∙◌, arith}
use Rattle.std.proofs.lemmas.List.Edits.{length-remove}
use Rattle.reflect_entries.specs.Entries.{value_at}
use Rattle.reflect_entries.proofs.Side.{got, not_got, took, sorted_out, left}
use Rattle.reflect_entries.proofs.Zips.{ascend_from}
use Rattle.reflect_entries.proofs.entries.Entries.take.Goals as goal

pub invariant_of-self : goal.invariant_of-self
invariant_of-self g c =
    let ks = c.self.inside.numbers.items in
    let vs = c.self.inside.values.items in
    let e = c.self.invariant.0 in
    let lt = rw c.as_slice.ensures.value at c.in-Ok.ensures.in_range in
    let at = rw c.as_slice.ensures.value at c.in-Ok.ensures.found in
    let i = c.in-Ok.at in (
      rw (c.remove-in-Ok.ensures.items, c.remove.ensures.items) (omega (arith, e, length-remove ks i lt, length-remove vs i (omega (arith, e, lt)))),
      rw c.remove.ensures.items (sorted_out ks vs e c.self.invariant.1 i c.args.number lt at c.remove-in-Ok.result),
    )

pub returns-in-Ok-clause-value : goal.returns-in-Ok-clause-value
returns-in-Ok-clause-value g c =
    let lt = rw c.as_slice.ensures.value at c.in-Ok.ensures.in_range in
    let at = rw c.as_slice.ensures.value at c.in-Ok.ensures.found in
    sym (got c.self.inside.numbers.items c.self.inside.values.items c.self.invariant.0 c.self.invariant.1 c.in-Ok.at c.args.number lt at c.remove-in-Ok.result c.remove-in-Ok.ensures.value)
    ∙ ap (λ es. value_at es c.args.number) c.self.view_is

pub returns-in-Ok-clause-updates : goal.returns-in-Ok-clause-updates
returns-in-Ok-clause-updates g c =
    let ks = c.self.inside.numbers.items in
    let vs = c.self.inside.values.items in
    let lt = rw c.as_slice.ensures.value at c.in-Ok.ensures.in_range in
    let at = rw c.as_slice.ensures.value at c.in-Ok.ensures.found in
    rw (← c.self.view_is, c.remove.ensures.items, c.remove-in-Ok.ensures.items) (took ks vs c.self.invariant.0 c.self.invariant.1 c.in-Ok.at c.args.number lt at c.remove-in-Ok.result)

pub returns-in-Err-clause-value : goal.returns-in-Err-clause-value
returns-in-Err-clause-value g c =
    let ks = c.self.inside.numbers.items in
    let le = rw c.as_slice.ensures.value at c.in-Err.ensures.in_range in
    let parts = rw c.as_slice.ensures.value at c.in-Err.ensures.between in
    sym (not_got ks c.self.inside.values.items c.self.invariant.0 c.self.invariant.1 c.in-Err.field-0 c.args.number le (parts (ascend_from ks c.self.invariant.1))) ∙ ap (λ es. value_at es c.args.number) c.self.view_is

pub returns-in-Err-clause-updates : goal.returns-in-Err-clause-updates
returns-in-Err-clause-updates g c =
    let ks = c.self.inside.numbers.items in
    let le = rw c.as_slice.ensures.value at c.in-Err.ensures.in_range in
    let parts = rw c.as_slice.ensures.value at c.in-Err.ensures.between in
    rw (← c.self.view_is) (left ks c.self.inside.values.items c.self.invariant.0 c.self.invariant.1 c.in-Err.field-0 c.args.number le (parts (ascend_from ks c.self.invariant.1)))
