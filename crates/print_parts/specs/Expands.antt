-- What a `google.protobuf.Any` holds (protobuf.dev, "Any").
use Rattle.std.specs.Prelude.{◌≡◌, ◌⊎◌, ◌<◌, ℕ, List, ◌∷◌, ◌++◌, Option, None, Some, length, slice_index_or}
use Rattle.reflect_tables.specs.Types.{PoolType}
use Rattle.reflect_wire.specs.declared.wire_error.WireError.{WireError}
use Rattle.reflect_wire.specs.declared.wire_error.WireError.TheVariants as faults
use Rattle.reflect_pool.specs.FieldsLeft.{field_type}
use Rattle.reflect_pool.specs.FindsNames.{FindsMessage}
use Rattle.reflect_pool.specs.declared.field.FieldDescriptor.{FieldDescriptor}
use Rattle.reflect_pool.specs.declared.message.MessageDescriptor.{MessageDescriptor}
use Rattle.reflect_scalar.specs.FieldTypes.{field_pool}
use Rattle.reflect_entries.specs.Entries.{value_at}
use Rattle.reflect_message.specs.Declares.{Declares}
use Rattle.reflect_message.specs.Held.{fields_of}
use Rattle.reflect_message.specs.Shown.{IsHeldOrDefault}
use Rattle.reflect_message.specs.Names.{DynamicMessage, Value}
use Rattle.reflect_message.specs.Singles.{single}
use Rattle.reflect_scalar.specs.Singles.{Single, text, blob}
use Rattle.reflect_any.specs.Any.{IsAny}
use Rattle.reflect_decode.specs.Spelled.{IsSpelled, TellsWhy}

-- a single value's text, and its bytes
abbrev pub text_in : Option Single → Option (List ℕ)
text_in (Some (text s)) = Some s
text_in _ = None

abbrev pub bytes_in : Option Single → Option (List ℕ)
bytes_in (Some (blob bs)) = Some bs
bytes_in _ = None

abbrev pub text_of : Value → Option (List ℕ)
text_of v = text_in (single v)

abbrev pub bytes_of : Value → Option (List ℕ)
bytes_of v = bytes_in (single v)

-- a field of the number has the value, or this is its default and it has none
pub record IsUnder (m : DynamicMessage) (n : ℕ) (v : Value) : Type 0 where
  pub field : FieldDescriptor
  pub declared : Declares m.descriptor field
  pub number : (field_type field).number ≡ n
  pub value : IsHeldOrDefault (field_pool field) (field_type field)
      (value_at (fields_of m) (field_type field).number) v

-- the byte stands nowhere in the text
abbrev pub Lacks : ℕ → List ℕ → Type 0
Lacks b z = (i : ℕ) → i < length z → slice_index_or z i 0 ≡ b → ⊥

-- the type whose name stands behind the last `/` of a URL, if there is one
abbrev pub FindsByUrl : PoolType → List ℕ → Option MessageDescriptor → Type 0
FindsByUrl pool url found =
    (Lacks 47 url × (found ≡ None))
    ⊎ ((front name : List ℕ) × (url ≡ front ++ 47 ∷ name) × Lacks 47 name
    × FindsMessage pool name found)

-- bytes are refused for what they are
abbrev pub IsFault : WireError → Type 0
IsFault faults.Memory = ⊥
IsFault _ = Unit {0}

-- what a message holds in place of itself: the URL of a type that is known, and the message of the
-- type that its bytes spell; or nothing, if it is no Any, or has no URL, type or bytes, or bytes
-- that are refused
pub data Expands : DynamicMessage → Option (List ℕ × DynamicMessage) → Type 0 where
  other : {m : DynamicMessage} → (IsAny m.descriptor → ⊥) → Expands m None
  without_url : {m : DynamicMessage} (u : Value) → IsUnder m 1 u → text_of u ≡ None → Expands m None
  without_type : {m : DynamicMessage} (u : Value) (url : List ℕ) → IsUnder m 1 u
      → text_of u ≡ Some url
      → FindsByUrl m.descriptor.pool.now url None → Expands m None
  without_bytes : {m : DynamicMessage} (b : Value) → IsUnder m 2 b → bytes_of b ≡ None
      → Expands m None
  refused : {m : DynamicMessage} (u b : Value) (url bytes : List ℕ) (d : MessageDescriptor)
      (e : WireError)
      → IsUnder m 1 u → text_of u ≡ Some url → FindsByUrl m.descriptor.pool.now url (Some d)
      → d.pool.now ≡ m.descriptor.pool.now
      → IsUnder m 2 b → bytes_of b ≡ Some bytes → IsFault e → TellsWhy d bytes e → Expands m None
  holds : {m : DynamicMessage} (u b : Value) (url bytes : List ℕ) (d : MessageDescriptor)
      (body : DynamicMessage)
      → IsAny m.descriptor → IsUnder m 1 u → text_of u ≡ Some url
      → FindsByUrl m.descriptor.pool.now url (Some d) → d.pool.now ≡ m.descriptor.pool.now
      → IsUnder m 2 b → bytes_of b ≡ Some bytes → body.descriptor ≡ d → IsSpelled d bytes body
      → Expands m (Some (url, body))
