use Rattle.std.proofs.Common.{◌≡◌, ◌∷◌, [], Some, ap, subst, sym, ◌∙◌, rules}
use Rattle.descriptor_records.specs.declared.tag.file.TheConstants as files
use Rattle.protox_locate.specs.Collected.{meet, meets, state}
use Rattle.protox_locate.specs.Files.{kind_events}
use Rattle.protox_locate.specs.Located.{part}
use Rattle.protox_tree.specs.declared.file.ImportKind.TheVariants as kinds
use Rattle.protox_locate.proofs.file.import_kind.Goals as goal

pub returns-in_ok-add-in-Some-Public-default-clause-located : goal.returns-in_ok-add-in-Some-Public-default-clause-located
returns-in_ok-add-in-Some-Public-default-clause-located c =
    let word = c.in-Some-Public-default.word in
    let old = state c.args.locator.now in
    let new = state c.add.new.self in
    let sent : new ≡ meet old (part [] (files.PUBLIC_DEPENDENCY ∷ c.next-place.result ∷ []) word) = search rules in
    let met = subst (λ p. new ≡ meet old (part [] (files.PUBLIC_DEPENDENCY ∷ p ∷ []) word)) c.next-place.ensures.place sent in
    let kind : c.args.kind ≡ Some (kinds.Public, word) = first_of (cc, search rules) in
    met ∙ ap (λ k. meets old (kind_events c.args.counts.now k)) (sym kind)

pub returns-in_ok-add-in-Some-Weak-default-clause-located : goal.returns-in_ok-add-in-Some-Weak-default-clause-located
returns-in_ok-add-in-Some-Weak-default-clause-located c =
    let word = c.in-Some-Weak-default.word in
    let old = state c.args.locator.now in
    let new = state c.add-in-Some-Weak-default.new.self in
    let place = c.next-place-in-Some-Weak-default in
    let sent : new ≡ meet old (part [] (files.WEAK_DEPENDENCY ∷ place.result ∷ []) word) = search rules in
    let met = subst (λ p. new ≡ meet old (part [] (files.WEAK_DEPENDENCY ∷ p ∷ []) word)) place.ensures.place sent in
    let kind : c.args.kind ≡ Some (kinds.Weak, word) = first_of (cc, search rules) in
    met ∙ ap (λ k. meets old (kind_events c.args.counts.now k)) (sym kind)
