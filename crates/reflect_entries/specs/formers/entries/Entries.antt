-- `Entries` as a type that may hold the type that holds it, by its values.
use Rattle.std.specs.Prelude.{◌≡◌, ℕ, List, [], ◌∷◌, map, length}
use mathlib.Core.Path.{refl, sym, ap, ◌∙◌}
use mathlib.Core.Former.{Former, one_more, this, const, pair, list, via, children}
use mathlib.Core.HLevel.{×_prop}
use native.Mathlib.Nat.{ℕ_set}
use native.Mathlib.Omega.{arith}
use lib.ListN.{length-map}
use denote.RattleType.{RattleType}
use denote.HoleLaws.{Alike}
use denote.HolePlaces.{Recodes, struct_places, laid}
use denote.Hole.Carrier.{listed}
use denote.Hole.Fix.{over}
use denote.Param.Weighed.{Weighed, most}
use denote.Model.Placed.{held, view_places_where}
use Rattle.std.specs.List.{zip}
use Rattle.std.specs.List.Sorted.{IsStrictlySortedBy, IsStrictlySortedBy-prop}
use Rattle.std.specs.Ordering.{nat_cmp}
use Rattle.std.specs.Map.{values_of}
use Rattle.reflect_entries.specs.Pairs.{entry, on_value, entries_put, values_listed, entries_recoded}
use Rattle.std.specs.formers.vec.Vec as vec
use Rattle.std.specs.declared.vec.Vec.{Vec}
use Rattle.std.specs.declared.alloc.Global.{Global}
use Rattle.std.specs.contracts.alloc.Global as heap
use Rattle.std.specs.contracts.impls.GlobalAllocator.TheImpl.{ghosts}
use Rattle.reflect_entries.specs.declared.entries.Entries.TheInside.{Inside}
use Rattle.reflect_entries.specs.declared.entries.Entries.TheView.{view, invariant}
use Rattle.reflect_entries.specs.contracts.entries.Entries as C
use Rattle.reflect_entries.specs.contracts.entries.Entries.TheInside as I

abbrev pub the_former : Former {0} → Former {0}
the_former g = list (entry g)

abbrev pub the_weighed : {g : Former {0}} → Weighed g → Weighed (the_former g)
the_weighed w = record { weight = λ X μ es. most (w.weight X μ) (values_of es); puts = λ X μ es. entries_put w X μ es }

pub the_empty : List (ℕ × ⊥)
the_empty = []

abbrev pub the_items : (X : Type 0) → List (ℕ × X) → List X
the_items X es = values_of es

pub the_items_listed : (X : Type 0) (es : List (ℕ × X)) → listed _ (children (the_former this) X es) ≡ the_items X es
the_items_listed X es = values_listed X es

abbrev fields : Former {0}
fields = via (pair (const (Vec ℕ Global)) (vec.the_former this Global)) Inside (λ X a. (a.numbers, a.values)) (λ X v. record { numbers = v.0; values = v.1 }) (λ X a. refl) (λ X v. refl)

zip-map : {X Y : Type 0} (h : X → Y) (ks : List ℕ) (vs : List X) → zip ks (map h vs) ≡ map (on_value h) (zip ks vs)
zip-map h [] vs = refl
zip-map h (k ∷ ks) [] = refl
zip-map h (k ∷ ks) (v ∷ vs) = ap (λ l. (k, h v) ∷ l) (zip-map h ks vs)

zip-held : (X : Type 0) (ks : List ℕ) (vs : List X) → length vs ≡ length ks → held (list (entry this)) X (zip ks vs) ≡ held (list this) X vs
zip-held X [] [] e = refl
zip-held X [] (v ∷ vs) e = absurd (omega (arith, e))
zip-held X (k ∷ ks) [] e = absurd (omega (arith, e))
zip-held X (k ∷ ks) (v ∷ vs) e = λ i. (one_more (zip-held X ks vs (omega (arith, e)) i).0, (v, (zip-held X ks vs (omega (arith, e)) i).1))

module _ (R R' : RattleType) (h : R.Denot → R'.Denot) where
  pub the_places : Alike R R' h → Alike (C.the_row R) (C.the_row R') ((the_former this).map R.Denot R'.Denot h)
  the_places a = view_places_where fields (the_former this) (λ X. view X)
      (λ X Y k u. zip-map k u.numbers.items u.values.items)
      (λ X u. length u.values.items ≡ length u.numbers.items) (λ X Y k u e. sym (length-map u.values.items k) ∙ e) (λ X u e. zip-held X u.numbers.items u.values.items e)
      R.Denot R'.Denot h (C.the_row R).coded (C.the_row R').coded
      (invariant R.Denot) (invariant R'.Denot) (λ u. ×_prop (ℕ_set _ _) (IsStrictlySortedBy-prop nat_cmp _)) (λ u. ×_prop (ℕ_set _ _) (IsStrictlySortedBy-prop nat_cmp _))
      (λ u e. (length-map u.values.items h ∙ e.0, e.1)) (λ u e. (sym (length-map u.values.items h) ∙ e.0, e.1)) (λ u e. e.0)
      (over (I.the_row R)) (over (I.the_row R'))
      (struct_places (I.the_type R) (I.the_type R') (λ n. n, (vec.mapped h, tt)) _ (λ d. refl) refl
      ((refl, (λ n. refl, λ n. refl)), (laid _ _ _ (vec.the_places heap.the_row ghosts R R' h a), tt)))

  pub the_codes_placed : Recodes R R' h → Recodes (C.the_row R) (C.the_row R') ((the_former this).map R.Denot R'.Denot h)
  the_codes_placed e d = entries_recoded R R' h e d
