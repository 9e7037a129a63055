-- Values that are put behind those of a list, or give entries to a map.
use Rattle.std.specs.Prelude.{◌≡◌, ℕ, true}
use Rattle.reflect_message.specs.Names.{DynamicMessage, Value}
use Rattle.reflect_numbered.specs.Fits.{fit_of, suits_type}
use Rattle.reflect_numbered.specs.declared.validity.Strictness.{Strictness}
use Rattle.reflect_numbered.specs.declared.validity.Strictness.TheVariants.{Surface}
use Rattle.reflect_tables.specs.Types.{FieldType, PoolType}
use Rattle.valid_view.specs.Inside.{IfMessage}
use Rattle.valid_view.specs.Tidy.{Solid}

-- valid as one value of the field's kind, as `is_valid` tells: one of the list, or a message of the
-- type of the map's entries
abbrev pub IsGiven : PoolType → FieldType → Value → Type 0
IsGiven pool f v = (fit_of v).one Surface pool f.kind ≡ true

-- a message of a type of the pool that suits it
abbrev pub IsSuitedIn : Strictness → PoolType → DynamicMessage → Type 0
IsSuitedIn how pool m = (m.descriptor.pool.now ≡ pool) × (suits_type how m ≡ true)

-- one that holds, at each depth, what is whole
abbrev pub IsSolidIn : ℕ → PoolType → DynamicMessage → Type 0
IsSolidIn levels pool m = (m.descriptor.pool.now ≡ pool) × Solid levels m

-- so given, and the message that the value is, if it is one, is what is asked
abbrev pub GivenWith : (DynamicMessage → Type 0) → PoolType → FieldType → Value → Type 0
GivenWith P pool f v = IsGiven pool f v × IfMessage P v
