use Rattle.std.proofs.Common.{map, drop}
use Rattle.run_parts.proofs.Reading.{ReadSoFar, RefusedSoFar}
use Rattle.run_parts.proofs.files.read_sources.Given as goal

abbrev pub invariant-names : goal.invariant-names
invariant-names g l = record {
  read : ReadSoFar g.F.SourceFiles.read_gives l.wanted.root.now (map (λ n. n.now) l.wanted.names.now) l.initial.files
      (map (λ c. c.items) l.contents.items) (map (λ n. n.now) (drop l.name-index l.wanted.names.now)) l.files;
  refused : RefusedSoFar g.F.SourceFiles.read_gives l.wanted.root.now (map (λ n. n.now) l.wanted.names.now) l.initial.files
      (map (λ n. n.now) (drop l.name-index l.wanted.names.now)) l.files;
}
