-- What is written goes over what stands at the number's place.
use Rattle.std.proofs.Common.{◌≡◌, ◌<◌, length, refl, sym, ap, ◌∙◌, arith, unwrap_or}
use Rattle.std.proofs.lemmas.Slice.Zip.{length-zip}
use Rattle.std.specs.List.{HoldsAt}
use Rattle.reflect_entries.specs.Entries.{value_at}
use Rattle.reflect_entries.proofs.Places.{again}
use Rattle.reflect_entries.proofs.Side.{got, put_over}
use Rattle.reflect_entries.proofs.Zips.{number_at}
use Rattle.reflect_entries.proofs.entries.Entries.slot.Goals as goal

pub index_mut-requires : goal.index_mut-requires
index_mut-requires g c =
    let lt = rw (← c.self.view_is) at c.in_ok-at.ensures.found.0 in
    omega (arith, lt, length-zip c.self.inside.numbers.items c.self.inside.values.items, c.self.invariant.0)

pub returns : goal.returns
returns g c =
    let ks = c.self.inside.numbers.items in
    let vs = c.self.inside.values.items in
    let e = c.self.invariant.0 in
    let i = c.in_ok-at.at in
    let n = c.args.number in
    let found = rw (← c.self.view_is) at c.in_ok-at.ensures.found in
    let lt : i < length ks = omega (arith, found.0, length-zip ks vs, e) in
    let at : HoldsAt (λ k. k ≡ n) ks i = number_at ks vs i n e lt c.index_mut.result.now found.1 in
    let room = c.in_ok-at.ensures.updates in
    let here = got ks vs e c.self.invariant.1 i n lt at c.index_mut.result.now c.index_mut.ensures.value in
    let same = sym here ∙ (ap (λ es. value_at es n) c.self.view_is ∙ room.here) in (
      (refl, (λ w is. again room (rw (← c.self.view_is) (put_over ks vs e c.self.invariant.1 i n lt at w))), tt),
      record {
        writes_back = tt;
        value = ap (λ o. unwrap_or o c.index_mut.result.now) same;
      },
    )
