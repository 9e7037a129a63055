-- Pairs of a number and a value, as a type that may hold itself by its values.
use Rattle.std.specs.Prelude.{◌≡◌, ℕ, max, List, [], ◌∷◌, map}
use mathlib.Core.Path.{refl, sym, ap, ◌∙◌}
use mathlib.Core.Former.{Former, Count, Row, this, const, pair, list, list_count, list_put, children}
use base.Stored.{code_map, coded×, coded_list, coded_ℕ, gcons}
use denote.RattleType.{RattleType}
use denote.HolePlaces.{Recodes}
use denote.Hole.Carrier.{listed}
use denote.Param.Nested.{deepest}
use denote.Param.Weighed.{Weighed, most, none_max, List-puts, w_pair, w_const}
use Rattle.std.specs.Map.{values_of}

abbrev pub entry : Former {0} → Former {0}
entry g = pair (const ℕ) g

-- the pair, with h applied to its value
abbrev pub on_value : {X Y : Type 0} → (X → Y) → ℕ × X → ℕ × Y
on_value h p = (p.0, h p.1)

most_values : {Y : Type 0} (f : Y → ℕ) (es : List (ℕ × Y)) → most (λ p. max 0 (f p.1)) es
    ≡ most f (values_of es)
most_values f [] = refl
most_values f (e ∷ es) = λ i. max (sym (none_max (f e.1)) i) (most_values f es i)

pub entries_put : {g : Former {0}} (w : Weighed g) (X : Type 0) (μ : X → ℕ) (es : List (ℕ × g.Of X))
    (n : Count) (t : Row X n)
    → deepest μ (list_count (entry g) (map ((entry g).shape X) es) n) (list_put (entry g) X es n t)
    ≡ max (most (w.weight X μ) (values_of es)) (deepest μ n t)
entries_put w X μ es n t = List-puts (w_pair (w_const ℕ) w) X μ es n t
    ∙ ap (λ a. max a (deepest μ n t)) (most_values (w.weight X μ) es)

pub values_listed : (X : Type 0) (es : List (ℕ × X)) → listed _ (children (list (entry this)) X es)
    ≡ values_of es
values_listed X [] = refl
values_listed X (e ∷ es) = ap (λ l. e.1 ∷ l) (values_listed X es)

pub entries_recoded : (R R' : RattleType) (h : R.Denot → R'.Denot) → Recodes R R' h
    → (es : List (ℕ × R.Denot))
    → (coded_list (coded× coded_ℕ R'.coded)).code (map (on_value h) es)
    ≡ (coded_list (coded× coded_ℕ R.coded)).code es
entries_recoded R R' h e es = sym
    (code_map (coded× coded_ℕ R.coded).code (coded× coded_ℕ R'.coded).code (on_value h)
    (λ x i. gcons (coded_ℕ.code x.0) (sym (e x.1) i)) es)
