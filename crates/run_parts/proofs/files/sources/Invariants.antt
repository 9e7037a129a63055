use Rattle.std.proofs.Common.{◌≡◌, ◌++◌, map}
use Rattle.std.specs.List.{zip}
use Rattle.run_parts.proofs.Texts.{AreTextsIf, RefusedOn}
use Rattle.run_parts.proofs.files.sources.Given as goal

abbrev pub invariant-named : goal.invariant-named
invariant-named l = record {
  texts : map (λ s. (s.0.now, s.1.now)) l.sources.items
      ++ zip (map (λ n. n.now) l.name-iterator.a.rest.now) (map (λ c. c.items) l.name-iterator.b.rest.now)
      ≡ zip (map (λ n. n.now) l.names) (map (λ c. c.items) l.contents);
  utf8 : AreTextsIf (zip (map (λ n. n.now) l.names) (map (λ c. c.items) l.contents))
      (zip (map (λ n. n.now) l.name-iterator.a.rest.now) (map (λ c. c.items) l.name-iterator.b.rest.now));
  refused : RefusedOn (zip (map (λ n. n.now) l.names) (map (λ c. c.items) l.contents))
      (zip (map (λ n. n.now) l.name-iterator.a.rest.now) (map (λ c. c.items) l.name-iterator.b.rest.now));
}
