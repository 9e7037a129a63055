-- What holds of values, or of entries, holds of those of one tree that are in order: of each in a list, of each in a map, and of what stands under a number.
use Rattle.std.proofs.Common.{◌≡◌, ℕ, List, [], ◌∷◌, map, Option, None, Some, option_map, refl, sym, ap, ◌∙◌, subst}
use Rattle.std.specs.List.{AllByRecursion}
use Rattle.std.specs.Prelude.{IfSome, IsTrue}
use Rattle.reflect_entries.specs.Entries.{value_at}
use Rattle.reflect_scalar.specs.declared.map_key.MapKey.{MapKey}
use Rattle.reflect_copies.specs.Copies.{AreCopies}
use Rattle.reflect_copies.specs.InOrder.{in_order}
use Rattle.reflect_copies.specs.Trees.{entry_tree, tree}
use Rattle.reflect_decode.specs.Ordered.{AreInOrder}
use Rattle.reflect_message.specs.Names.{Value}

abbrev pub Sorted : Value → Type 0
Sorted v = IsTrue (in_order v)

module _ (P : Value → Type 0) (one : (v w : Value) → tree w ≡ tree v → Sorted w → P v → P w) where
  pub items_hold : (vs ws : List Value) → map tree ws ≡ map tree vs → AllByRecursion Sorted ws → AllByRecursion P vs → AllByRecursion P ws
  items_hold vs [] same sorted all = tt
  items_hold [] (w ∷ ws) same sorted all = absurd (cc same)
  items_hold (v ∷ vs) (w ∷ ws) same sorted all =
      let here : tree w ≡ tree v = cc same in
      let rest : map tree ws ≡ map tree vs = cc same in
      (one v w here sorted.0 all.0, items_hold vs ws rest sorted.1 all.1)

  under_holds : (o : Option Value) (w : Value) → option_map tree (Some w) ≡ option_map tree o → Sorted w → ((v : Value) → o ≡ Some v → P v) → P w
  under_holds None w e sorted held = absurd (cc e)
  under_holds (Some v) w e sorted held =
      let same : tree w ≡ tree v = cc e in
      one v w same sorted (held v refl)

  pub place_holds : (es gs : List (ℕ × Value)) → AreCopies es gs → AreInOrder gs → (n : ℕ) → ((v : Value) → value_at es n ≡ Some v → P v) → (w : Value) → value_at gs n ≡ Some w → P w
  place_holds es gs copied sorted n held w at =
      under_holds (value_at es n) w (sym (ap (option_map tree) at) ∙ copied n) (subst (λ o. IfSome o Sorted) at (sorted.each n)) held

module _ (P : MapKey × Value → Type 0) (one : (e g : MapKey × Value) → entry_tree g ≡ entry_tree e → Sorted g.1 → P e → P g) where
  pub entries_hold : (es gs : List (MapKey × Value)) → map entry_tree gs ≡ map entry_tree es → AllByRecursion (λ (g : MapKey × Value). Sorted g.1) gs → AllByRecursion P es → AllByRecursion P gs
  entries_hold es [] same sorted all = tt
  entries_hold [] (g ∷ gs) same sorted all = absurd (cc same)
  entries_hold (e ∷ es) (g ∷ gs) same sorted all =
      let here : entry_tree g ≡ entry_tree e = cc same in
      let rest : map entry_tree gs ≡ map entry_tree es = cc same in
      (one e g here sorted.0 all.0, entries_hold es gs rest sorted.1 all.1)
