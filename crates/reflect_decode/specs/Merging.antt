-- What the bytes spell that are merged into a message.
use Rattle.std.specs.Prelude.{◌≡◌, ℕ, List, [], ◌∷◌, ◌++◌, map, Option, Some, None}
use Rattle.reflect_wire.specs.Key.{IsKey}
use Rattle.reflect_wire.specs.Records.{Payload, IsValue, IsGroup, SpellsRecords}
use Rattle.reflect_wire.specs.Views.{records_of}
use Rattle.reflect_wire.specs.declared.wire_key.WireKey.{WireKey}

-- the records of a message take all the bytes, those of a group stand before its end
abbrev pub IsBody : Option ℕ → ℕ → List ℕ → List (ℕ × Payload) → Type 0
IsBody None levels bytes rs = SpellsRecords levels bytes (records_of rs)
IsBody (Some n) levels bytes rs = IsGroup levels n bytes (records_of rs)

-- the bytes spell values of the key, behind each of which the key stands again
abbrev pub LeadsOn : ℕ → WireKey → List ℕ → List Payload → Type 0
LeadsOn levels key bytes [] = bytes ≡ []
LeadsOn levels key bytes (p ∷ ps) = (value again rest : List ℕ) × IsValue levels key value p
    × IsKey again key × LeadsOn levels key rest ps × (bytes ≡ value ++ (again ++ rest))

-- behind a key the bytes spell its value, and perhaps more records with the same key
abbrev pub IsRun : ℕ → WireKey → List ℕ → List Payload × Payload → Type 0
IsRun levels key bytes run = (lead value : List ℕ) × LeadsOn levels key lead run.0
    × IsValue levels key value run.1 × (bytes ≡ lead ++ value)

-- the records of such a run
abbrev pub run_records : ℕ → List Payload × Payload → List (ℕ × Payload)
run_records n run = map (λ p. (n, p)) (run.0 ++ run.1 ∷ [])
