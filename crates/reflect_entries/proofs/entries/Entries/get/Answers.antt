-- The value at the number's place stands under it, and where there is none nothing does.
use Rattle.std.proofs.Common.{sym, ap, ◌∙◌}
use Rattle.reflect_entries.specs.Entries.{value_at}
use Rattle.reflect_entries.proofs.Side.{got, not_got}
use Rattle.reflect_entries.proofs.Zips.{ascend_from}
use Rattle.reflect_entries.proofs.entries.Entries.get.Goals as goal

pub returns-in-Ok : goal.returns-in-Ok
returns-in-Ok g c =
    let ks = c.self.inside.numbers.items in
    let vs = c.self.inside.values.items in
    let lt = rw c.as_slice.ensures.value at c.in-Ok.ensures.in_range in
    let at = rw c.as_slice.ensures.value at c.in-Ok.ensures.found in
    sym (got ks vs c.self.invariant.0 c.self.invariant.1 c.in-Ok.at c.args.number lt at c.index.result.now c.index.ensures) ∙ ap (λ es. value_at es c.args.number) c.self.view_is

pub returns-in-Err : goal.returns-in-Err
returns-in-Err g c =
    let ks = c.self.inside.numbers.items in
    let vs = c.self.inside.values.items in
    let le = rw c.as_slice.ensures.value at c.in-Err.ensures.in_range in
    let parts = rw c.as_slice.ensures.value at c.in-Err.ensures.between in
    sym (not_got ks vs c.self.invariant.0 c.self.invariant.1 c.in-Err.field-0 c.args.number le (parts (ascend_from ks c.self.invariant.1))) ∙ ap (λ es. value_at es c.args.number) c.self.view_is
