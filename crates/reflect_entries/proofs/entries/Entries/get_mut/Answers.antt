-- What is written goes over what stood under the number.
use Rattle.std.proofs.Common.{refl, sym, ap, ◌∙◌, true, false, true≢false}
use Rattle.reflect_entries.specs.Entries.{value_at}
use Rattle.reflect_entries.proofs.Side.{got, not_got, put_over}
use Rattle.reflect_entries.proofs.Zips.{ascend_from}
use Rattle.reflect_entries.proofs.entries.Entries.get_mut.Goals as goal

pub returns-in-Ok : goal.returns-in-Ok
returns-in-Ok g c =
    let ks = c.self.inside.numbers.items in
    let vs = c.self.inside.values.items in
    let lt = rw c.as_slice.ensures.value at c.in-Ok.ensures.in_range in
    let at = rw c.as_slice.ensures.value at c.in-Ok.ensures.found in (
      (refl, (λ w is. rw (← c.self.view_is) (put_over ks vs c.self.invariant.0 c.self.invariant.1 c.in-Ok.at c.args.number lt at w)), refl),
      record {
        writes_back = tt;
        value = sym (got ks vs c.self.invariant.0 c.self.invariant.1 c.in-Ok.at c.args.number lt at c.index_mut.result.now c.index_mut.ensures.value) ∙ ap (λ es. value_at es c.args.number) c.self.view_is;
      },
    )

pub returns-in-Err : goal.returns-in-Err
returns-in-Err g c =
    let ks = c.self.inside.numbers.items in
    let vs = c.self.inside.values.items in
    let le = rw c.as_slice.ensures.value at c.in-Err.ensures.in_range in
    let parts = rw c.as_slice.ensures.value at c.in-Err.ensures.between in (
      (refl, (λ w is. absurd (true≢false (sym is))), c.self.view_is),
      record {
        writes_back = tt;
        value = sym (not_got ks vs c.self.invariant.0 c.self.invariant.1 c.in-Err.field-0 c.args.number le (parts (ascend_from ks c.self.invariant.1))) ∙ ap (λ es. value_at es c.args.number) c.self.view_is;
      },
    )
