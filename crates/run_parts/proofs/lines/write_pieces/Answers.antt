use Rattle.std.proofs.Common.{◌++◌, take}
use Rattle.std.proofs.KnownBytes.{Appends-trans}
use Rattle.run_parts.proofs.Written.{more_gone}
use Rattle.run_parts.proofs.lines.write_pieces.Goals as goal

pub writes-preserved-in-Ok : goal.writes-preserved-in-Ok
writes-preserved-in-Ok g c =
    let (done, split, appended) = c.writes.invariant in
    let rest = c.writes.rest.now in
    let n = c.in-Ok.n in
    (done ++ take n rest, more_gone _ done rest n split, Appends-trans _ _ _ _ _ appended c.in-Ok.ensures.bytes)
