-- Which bytes are texts, and why some are none.
use Rattle.std.specs.Prelude.{◌≡◌, ◌⊎◌, ℕ, List, [], ◌∷◌, string_bytes}
use Rattle.std.specs.List.{AllByRecursion}
use Rattle.std.specs.Str.{IsUtf8}
use Rattle.run_parts.specs.declared.files.FileFault.{FileFault}
use Rattle.run_parts.specs.declared.files.FileFault.TheVariants as files

-- they are not UTF-8, and are called by the name, or memory runs out for the name
abbrev pub RefusesText : List ℕ → List ℕ → FileFault → Type 0
RefusesText bytes name (files.NotUtf8 called) = (string_bytes called ≡ name)
    × (IsUtf8 bytes → ⊥)
RefusesText bytes name (files.Read path) = ⊥
RefusesText bytes name files.Memory = IsUtf8 bytes → ⊥

-- names with their bytes, all of which are texts
abbrev pub AreTexts : List (List ℕ × List ℕ) → Type 0
AreTexts sources = AllByRecursion (λ s. IsUtf8 s.1) sources

-- Of names with their bytes: those of one are refused, or memory runs out for one; those before it
-- are UTF-8.
abbrev pub RefusesOne : List (List ℕ × List ℕ) → FileFault → Type 0
RefusesOne [] e = ⊥
RefusesOne (s ∷ rest) e = RefusesText s.1 s.0 e
    ⊎ (IsUtf8 s.1 × ((e ≡ files.Memory) ⊎ RefusesOne rest e))
