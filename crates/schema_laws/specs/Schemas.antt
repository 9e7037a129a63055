-- Schemas that recode, one after the other.
use Rattle.std.specs.Prelude.{◌≡◌, ◌<◌, ◌^◌, ℕ, List, [], ◌∷◌, length}
use Rattle.protobuf_model.specs.Types.{Name, Types}
use Rattle.reflect_pool.specs.Dots.{without_dot}
use Rattle.reflect_wire.specs.Written.{AreBytes}
use Rattle.message_view.specs.Types.{types_of}
use Rattle.schema_core.specs.Payloads.{Recoded}
use Rattle.schema_core.specs.declared.schema.Schema.{Schema}

-- a schema, and the name of a type of it
abbrev pub SchemaType : Type 0
SchemaType = Schema × List ℕ

abbrev pub type_of : SchemaType → Types × Name
type_of s = (types_of s.0.pool, without_dot s.1)

-- by one schema after the other, each time in no more bytes than a length can say
abbrev pub RecodedThrough : List SchemaType → List ℕ → List ℕ → Type 0
RecodedThrough [] bytes out = bytes ≡ out
RecodedThrough (s ∷ ss) bytes out =
    (next : List ℕ) × Recoded s.0.pool s.1 bytes next × AreBytes next × (length next < 2 ^ 64)
    × RecodedThrough ss next out
