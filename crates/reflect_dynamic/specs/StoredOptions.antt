-- What reading a declaration's stored options answers: the message that they spell, of the type
-- that the pool has for options of its sort.
use Rattle.std.specs.Prelude.{◌≡◌, ℕ, List, [], Option, None, Some}
use Rattle.descriptor_records.specs.declared.options.Options.{Options}
use Rattle.reflect_decode.specs.Spelled.{IsSpelled, TellsWhy}
use Rattle.reflect_message.specs.Names.{DynamicMessage}
use Rattle.reflect_pool.specs.FindsNames.{FindsMessage}
use Rattle.reflect_pool.specs.declared.message.MessageDescriptor.{MessageDescriptor}
use Rattle.reflect_tables.specs.Types.{PoolType}
use Rattle.reflect_wire.specs.declared.wire_error.WireError.{WireError}

-- the bytes of stored options, none where a declaration has none
abbrev pub stored_bytes : Option Options → List ℕ
stored_bytes None = []
stored_bytes (Some options) = options.encoded.items

-- it is the pool's type of the name
abbrev pub IsNamed : PoolType → List ℕ → MessageDescriptor → Type 0
IsNamed pool name d = (d.pool.now ≡ pool) × FindsMessage pool name (Some d)

-- nothing is read where the pool has no type of the name; else the message of this type that the
-- options' bytes spell
abbrev pub IsReadBy : PoolType → List ℕ → Option Options → Option DynamicMessage → Type 0
IsReadBy pool name options None = FindsMessage pool name None
IsReadBy pool name options (Some m) = (d : MessageDescriptor) × IsNamed pool name d
    × (m.descriptor ≡ d) × IsSpelled d (stored_bytes options) m

-- the pool has a type of the name, and the error says why it does not accept the options' bytes
abbrev pub IsRefusedBy : PoolType → List ℕ → Option Options → WireError → Type 0
IsRefusedBy pool name options e = (d : MessageDescriptor) × IsNamed pool name d
    × TellsWhy d (stored_bytes options) e

-- these are the options of the declaration's record
abbrev pub HasOptions : {X : Type 0} → (X → Type 0) → (X → Option Options) → Option Options
    → Type 0
HasOptions {X} is_record options_of options = (x : X) × is_record x × (options ≡ options_of x)

-- the options that a declaration has are so
abbrev pub OfItsOptions : (Option Options → Type 0) → (Option Options → Type 0) → Type 0
OfItsOptions has is_so = (options : Option Options) × has options × is_so options
