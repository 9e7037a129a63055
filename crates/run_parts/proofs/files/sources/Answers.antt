use Rattle.std.proofs.Common.{subst, sym}
use Rattle.std.proofs.lemmas.Slice.Zip.{either_empty_from_Zip}
use Rattle.run_parts.specs.Refusals.{AreTexts}
use Rattle.run_parts.proofs.Texts.{none_paired, paired_all}
use Rattle.run_parts.proofs.files.sources.Goals as goal

pub returns-clause-texts : goal.returns-clause-texts
returns-clause-texts c =
    let i = c.named.name-iterator in
    let none = either_empty_from_Zip i c.next.new.self c.next.result c.in-None.is c.next.ensures.steps in
    paired_all (λ n. n.now) (λ b. b.items) _ _ i.a.rest.now i.b.rest.now none c.named.invariant.texts

pub returns-clause-utf8 : goal.returns-clause-utf8
returns-clause-utf8 c =
    let i = c.named.name-iterator in
    let none = either_empty_from_Zip i c.next.new.self c.next.result c.in-None.is c.next.ensures.steps in
    c.named.invariant.utf8 (subst AreTexts (sym (none_paired (λ n. n.now) (λ b. b.items) i.a.rest.now i.b.rest.now none)) tt)
