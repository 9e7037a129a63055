use Rattle.std.proofs.Common.{List, [], ◌∷◌, map, length, Option, option_to_list, ap, sym, subst, ◌∙◌}
use Rattle.std.specs.Borrow.{Bor}
use Rattle.std.specs.Iterator.Adapters.{once_item, once_steps}
use Rattle.std.specs.declared.iter.Once.{Once}
use Rattle.std.proofs.lemmas.Iterator.{YieldsList, YieldsList-from_slice}
use Rattle.std.proofs.lemmas.Iterator.Consumers.{YieldsList-from_shown, YieldsList-from_chain}
use Rattle.reflect_faults.specs.declared.error.DescriptorErrorKind.{DescriptorErrorKind}
use Rattle.reflect_passes.proofs.error.DescriptorError.errors.Goals as goal

-- what is lent of the one that is left
abbrev lent : Option (Bor DescriptorErrorKind) → List DescriptorErrorKind
lent o = map (λ k. k.now) (option_to_list o)

the_first : (s : Once (Bor DescriptorErrorKind)) → YieldsList once_steps (λ k. k.now) s (lent (once_item s))
the_first = YieldsList-from_shown once_steps (λ k. k.now) (λ s. lent (once_item s))
    (λ s t p. ap (λ o. length (lent o)) (sym p.0))
    (λ s k t p. ap lent (sym p.0) ∙ ap (λ o. k.now ∷ lent o) (sym p.1))

pub returns : goal.returns
returns c =
    let first = subst (λ o. YieldsList once_steps (λ k. k.now) c.once.result (lent o)) c.once.ensures.item (the_first c.once.result) in
    (YieldsList-from_chain (subst (λ s. YieldsList once_steps (λ k. k.now) s (c.args.self.now.first ∷ [])) (sym c.chain.ensures.first) first)
    (YieldsList-from_slice c.args.self.now.others.items (cc)) c.chain.ensures.first_done c.chain.ensures.second_done).runs
