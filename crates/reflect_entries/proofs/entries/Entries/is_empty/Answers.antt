use Rattle.std.proofs.Common.{◌≡◌, List, [], ◌∷◌, length, ap, refl, arith, tests}
use Rattle.std.proofs.lemmas.Slice.Zip.{length-zip}
use Rattle.reflect_entries.proofs.entries.Entries.is_empty.Goals as goal

none : {X : Type 0} (xs : List X) → length xs ≡ 0 → xs ≡ []
none [] e = refl
none (x ∷ xs) e = absurd (omega (arith, e))

pub returns : goal.returns
returns g c =
    let pairs = length-zip c.self.inside.numbers.items c.self.inside.values.items in
    let same = ap length c.self.view_is in
    let is = c.is_empty.ensures in (
      λ t. none c.args.self.now (let zero : length c.self.inside.numbers.items ≡ 0 = grind (arith, tests, is, t) in omega (arith, pairs, same, c.self.invariant.0, zero)),
      λ e. let no = ap length e in let zero : length c.self.inside.numbers.items ≡ 0 = omega (arith, pairs, same, c.self.invariant.0, no) in grind (arith, tests, is, zero),
    )
