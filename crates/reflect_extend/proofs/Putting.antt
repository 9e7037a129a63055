-- Maps that values are put into.
use Rattle.std.proofs.Common.{◌≡◌, ℕ, List, [], ◌∷◌, ◌++◌, Option, None, Some, Result, OnErr, MatchOption, refl, sym, ap, ◌∙◌, subst}
use Rattle.reflect_entries.specs.Entries.{value_at}
use Rattle.reflect_message.specs.Maps.{entries_held, map_entries}
use Rattle.reflect_message.specs.Names.{Value}
use Rattle.reflect_extend.specs.Gives.{Entry}
use Rattle.reflect_extend.specs.Puts.{Puts, PutsAll, PutsFront, PutsSome, ChangesMap}
use Rattle.reflect_extend.proofs.Staying.{refused}

-- one value more
pub puts_more : (a b c : List Entry) (vs : List Value) (v : Value) → PutsAll a b vs → Puts b c v → PutsAll a c (vs ++ v ∷ [])
puts_more a b c [] v h k = (c, subst (λ l. Puts l c v) h k, refl)
puts_more a b c (w ∷ vs) v h k = (h.0, h.1, puts_more h.0 b c vs v h.2 k)

-- none are put where nothing changes
none_put : (old new : Option Value) (vs : List Value) → new ≡ old → PutsSome old new vs
none_put old new vs same = by (entries_held old) refl where
  by : (held : Option (List Entry)) → entries_held old ≡ held → MatchOption held (new ≡ old) (λ before. (after : List Entry) × (entries_held new ≡ Some after) × PutsFront before after vs)
  by None is = same
  by (Some es) is = (es, ap entries_held same ∙ is, ([], vs, refl, refl))

module _ {A E : Type 0} (r : Result A E) where
  -- a refusal at the first value of those behind
  pub puts_front : (old mid new : List Entry) (all front behind : List Value) → all ≡ front ++ behind → new ≡ mid → PutsAll old mid front → OnErr r (PutsFront old new all)
  puts_front old mid new all front behind parts same h = refused r (front, behind, parts, subst (λ l. PutsAll old l front) (sym same) h)

  -- a refusal before any of them, which leaves the map
  pub puts_none_at : (old new : List (ℕ × Value)) (n : ℕ) (vs : List Value) → new ≡ old → OnErr r (PutsSome (value_at old n) (value_at new n) vs)
  puts_none_at old new n vs same = refused r (none_put (value_at old n) (value_at new n) vs (ap (λ l. value_at l n) same))

-- a map was changed so that stood there, or one that was made where nothing stood
module _ (R : List Entry → List Entry → Type 0) (old new : Option Value) (before after : Value) (put : new ≡ Some after) where
  pub changes_there : Some before ≡ old → ChangesMap R (Some before) (Some after) → ChangesMap R old new
  changes_there at h = subst (λ o. ChangesMap R o new) at (subst (ChangesMap R (Some before)) (sym put) h)

  pub changes_made : None ≡ old → map_entries before ≡ Some [] → ChangesMap R (Some before) (Some after) → ChangesMap R old new
  changes_made none empty h =
      subst (λ o. ChangesMap R o new) none (subst (ChangesMap R None) (sym put)
      (subst (λ es. MatchOption es (Some after ≡ Some before) (λ (was : List Entry). (now : List Entry) × (map_entries after ≡ Some now) × R was now)) empty h))
