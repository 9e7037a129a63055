-- Messages that hold what they do as calls keep it, at each depth, whether or not it suits, and as
-- the types of the code have it.
use Rattle.std.specs.Prelude.{◌≡◌, Some, [], suc, zero, ℕ}
use Rattle.std.specs.List.{AllByRecursion}
use Rattle.protobuf_model.specs.Meaning.{payloads}
use Rattle.reflect_decode.specs.Ordered.{IsOrdered}
use Rattle.reflect_entries.specs.Entries.{value_at}
use Rattle.reflect_message.specs.Contents.{content_of}
use Rattle.reflect_message.specs.Declares.{IsDeclared}
use Rattle.reflect_message.specs.Held.{extensions_of, fields_of}
use Rattle.reflect_message.specs.Names.{DynamicMessage, Value}
use Rattle.reflect_message.specs.Oneofs.{IsExclusive}
use Rattle.reflect_tables.specs.Types.{PoolType}
use Rattle.reflect_wire.specs.Written.{FitsPayload}
use Rattle.valid_view.specs.Inside.{EachMessage, IsWhole}

-- the message is of a type of the pool, its numbers ascend, it keeps records of undeclared numbers
-- alone, and of each of its oneofs one member at most holds anything
pub record IsTidy (pool : PoolType) (m : DynamicMessage) : Type 0 where
  pub pooled : m.descriptor.pool.now ≡ pool
  pub ordered : IsOrdered (content_of m)
  pub declared : (n : ℕ) → IsDeclared m.descriptor n → payloads n (content_of m).unknown ≡ []
  pub exclusive : IsExclusive m

-- of each value that its fields and its extensions hold
pub record OfHeld (R : Value → Type 0) (m : DynamicMessage) : Type 0 where
  pub fields : (n : ℕ) (v : Value) → value_at (fields_of m) n ≡ Some v → R v
  pub extensions : (n : ℕ) (v : Value) → value_at (extensions_of m) n ≡ Some v → R v

-- so is a message, and those inside it, of fewer levels than this
abbrev pub Tidy : PoolType → ℕ → DynamicMessage → Type 0
Tidy pool zero m = ⊥
Tidy pool (suc levels) m = IsTidy pool m × OfHeld (EachMessage (Tidy pool levels)) m

-- what a message holds is such as the types of the code have, and below each of its other records
-- there are so many groups at most
pub record IsSolid (levels : ℕ) (m : DynamicMessage) : Type 0 where
  pub values : OfHeld IsWhole m
  pub records : (n : ℕ) → AllByRecursion (FitsPayload levels) (payloads n (content_of m).unknown)

-- so it is, and those inside it, of fewer levels than this
abbrev pub Solid : ℕ → DynamicMessage → Type 0
Solid zero m = ⊥
Solid (suc levels) m = IsSolid levels m × OfHeld (EachMessage (Solid levels)) m
