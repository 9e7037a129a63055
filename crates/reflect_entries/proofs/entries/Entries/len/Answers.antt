use Rattle.std.proofs.Common.{length, ap, arith}
use Rattle.std.proofs.lemmas.Slice.Zip.{length-zip}
use Rattle.reflect_entries.proofs.entries.Entries.len.Goals as goal

pub returns : goal.returns
returns g c =
    let pairs = length-zip c.self.inside.numbers.items c.self.inside.values.items in
    let same = ap length c.self.view_is in
    omega (arith, pairs, same, c.self.invariant.0, c.len.ensures)
