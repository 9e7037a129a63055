-- What a text gets behind it.
use Rattle.std.specs.Prelude.{◌≡◌, List, ℕ, ◌++◌, String, string_bytes}
use Rattle.std.specs.declared.alloc.Global.{Global}

-- a text stands behind what was there
abbrev pub Adds : String Global → List ℕ → String Global → Type 0
Adds old text new = string_bytes new ≡ string_bytes old ++ text

-- one of these texts does
abbrev pub AddsOneOf : String Global → (List ℕ → Type 0) → String Global → Type 0
AddsOneOf old Is new = (text : List ℕ) × Is text × Adds old text new
