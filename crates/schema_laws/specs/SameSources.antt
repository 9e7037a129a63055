-- Sources that differ in their gaps and comments alone.
use Rattle.std.specs.Prelude.{◌≡◌, ◌⊎◌, List, [], ◌∷◌, Contains}
use Rattle.descriptor_records.specs.Content.{FileContent}
use Rattle.schema_core.specs.declared.schema.Schema.{Schema}
use Rattle.schema_laws.specs.Histories.{BatchLinked, IsMadeBy, Source, Sources}
use Rattle.source_grammar.specs.SameTokens.{HaveSameTokens}

-- Of sources that were added, the last batch of them first, this one stays: it came under a name
-- under which none was there.
abbrev pub Stays : List Sources → Source → Type 0
Stays [] s = ⊥
Stays (last ∷ earlier) s = Stays earlier s
    ⊎ (Contains last s × ((t : Source) → Stays earlier t → t.0 ≡ s.0 → ⊥))

-- Each that stays of the first has its like among those that stay of the second: under the same
-- name, with the same tokens.
abbrev pub HaveTheirLike : List Sources → List Sources → Type 0
HaveTheirLike batches others = (s : Source) → Stays batches s
    → (t : Source) × Stays others t × (s.0 ≡ t.0) × HaveSameTokens s.1 t.1

abbrev pub AreSameSources : List Sources → List Sources → Type 0
AreSameSources batches others = HaveTheirLike batches others × HaveTheirLike others batches

-- the sources of a history, as they were added
abbrev pub given_in : (batches : List (List FileContent)) (s : Schema)
    → IsMadeBy BatchLinked batches s → List Sources
given_in [] s made = []
given_in (last ∷ earlier) s (old, before, add, pool) = add.given ∷ given_in earlier old before
