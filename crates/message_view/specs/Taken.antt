-- Messages out of which fields, extensions or other records are taken.
use Rattle.std.specs.Prelude.{◌≡◌, ◌⊎◌, List, []}
use Rattle.reflect_message.specs.Held.{extensions_of, fields_of, unknown_of}
use Rattle.reflect_message.specs.Names.{DynamicMessage}

-- all that was held is held, or nothing
abbrev pub AllOrNothing : {X : Type 0} → List X → List X → Type 0
AllOrNothing old new = (new ≡ old) ⊎ (new ≡ [])

-- of each sort all is left, or nothing
pub record TakesOut (old new : DynamicMessage) : Type 0 where
  pub same_type : new.descriptor ≡ old.descriptor
  pub fields : AllOrNothing (fields_of old) (fields_of new)
  pub extensions : AllOrNothing (extensions_of old) (extensions_of new)
  pub unknown : AllOrNothing (unknown_of old) (unknown_of new)
