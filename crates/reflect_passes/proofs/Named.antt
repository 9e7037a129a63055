-- A value among those of an enum.
use Rattle.std.proofs.Common.{ℕ, pos, List, [], Option, Some, None, get_or, is_some, refl, sym, subst}
use Rattle.std.specs.Bool.{Decides}
use Rattle.std.specs.List.{Any}
use Rattle.std.proofs.lemmas.List.Elements.{Contains-get_or}
use Rattle.reflect_tables.specs.Types.{ValueType}
use Rattle.reflect_tables.specs.Finding.{IsFirst}

pub first_decides : (P : ValueType → Type 0) (vs : List ValueType) (r : Option ℕ) → IsFirst P vs r → Decides (is_some r) (Any P vs)
first_decides P vs (Some i) h =
    let none : ValueType = record { path = []; name = []; full_name = []; number = pos 0 } in
    let at = Contains-get_or vs i none h.0 in
    (λ _. (at.0, get_or vs i none, at.1, at.2, h.1.0 none), λ _. refl)
first_decides P vs None h = (λ e. cc, λ x. absurd (h x.0 x.1 x.2 (subst P (sym x.3) x.4)))
