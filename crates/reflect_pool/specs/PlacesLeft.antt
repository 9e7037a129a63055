-- Places, each with what it is a place of: a pool, a message type, an enum or a service.
use Rattle.std.specs.Prelude.{ℕ, ◌-◌, List, map}
use Rattle.std.specs.List.{range_with_len}

-- these places of one
abbrev pub places_in : {A : Type 0} → A → List ℕ → List (A × ℕ)
places_in a ks = map (λ k. (a, k)) ks

-- the places behind the first ones, where there are so many
abbrev pub places_from : {A : Type 0} → A → ℕ → ℕ → List (A × ℕ)
places_from a first count = places_in a (range_with_len first (count - first))
