-- Oneofs that are named after fields, with one more.
use Rattle.std.proofs.Common.{◌∙◌, ◌++◌, List, [], ◌∷◌, sym}
use Rattle.descriptor_records.specs.Content.{OneofContent}
use Rattle.protox_lex.specs.Class.{Text}
use Rattle.protox_message_records.specs.SyntheticOneofs.{AreNamedAfter, AreSame, IsFreed, IsNamedAfter}

pub named_more : (taken names : List Text) (os : List OneofContent) (name : Text) (o : OneofContent) → AreNamedAfter taken names os → IsNamedAfter taken name o → AreNamedAfter taken (names ++ name ∷ []) (os ++ o ∷ [])
named_more taken [] [] name o before is = (is, tt)
named_more taken [] (p ∷ os) name o before is = absurd before
named_more taken (n ∷ names) [] name o before is = absurd before
named_more taken (n ∷ names) (p ∷ os) name o before is = (before.0, named_more taken names os name o before.1 is)

-- only which names are taken counts
freed_same : (xs ys : List Text) (name made : Text) → AreSame xs ys → IsFreed xs name made → IsFreed ys name made
freed_same xs ys name made same h = (h.0, h.1, sym (same made) ∙ h.2, λ fewer lt. sym (same _) ∙ h.3 fewer lt)

pub named_same : (xs ys names : List Text) (os : List OneofContent) → AreSame xs ys → AreNamedAfter xs names os → AreNamedAfter ys names os
named_same xs ys [] [] same h = tt
named_same xs ys [] (o ∷ os) same h = absurd h
named_same xs ys (name ∷ names) [] same h = absurd h
named_same xs ys (name ∷ names) (o ∷ os) same h = ((h.0.0, freed_same xs ys _ h.0.0 same h.0.1, h.0.2), named_same xs ys names os same h.1)
