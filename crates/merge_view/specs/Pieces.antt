-- Bytes that are merged in pieces.
use Rattle.std.specs.Prelude.{◌≡◌, ℕ, List, [], ◌∷◌}
use Rattle.reflect_pool.specs.declared.message.MessageDescriptor.{MessageDescriptor}
use Rattle.reflect_message.specs.Names.{DynamicMessage}
use Rattle.reflect_decode.specs.Spelled.{IsMerged}

-- `merge` takes in one piece after the other, from the old message to the new one
abbrev pub MergesEach : MessageDescriptor → DynamicMessage → List (List ℕ) → DynamicMessage → Type 0
MergesEach d old [] new = old ≡ new
MergesEach d old (b ∷ bs) new =
    (next : DynamicMessage) × (next.descriptor ≡ d) × IsMerged d b old next
    × MergesEach d next bs new
