-- What a schema refuses of that which another one answers that says the same to texts: nothing, but
-- for want of memory.
use Rattle.std.proofs.Common.{◌≡◌, ◌∙◌, ℕ, List, refl, sym, ap, subst}
use Rattle.protobuf_model.specs.Coded.{IsAccepted}
use Rattle.reflect_pool.specs.Dots.{without_dot}
use Rattle.reflect_tables.specs.Types.{PoolType}
use Rattle.reflect_wire.specs.Written.{AreBytes}
use Rattle.reflect_wire.specs.declared.wire_error.WireError.TheVariants as wire
use Rattle.text_error.specs.declared.error.ParseErrorKind.{ParseErrorKind}
use Rattle.text_model.specs.Schemas.{Schema}
use Rattle.message_view.specs.Sound.{IsSound}
use Rattle.message_view.specs.Types.{types_of}
use Rattle.text_view.specs.Schemas.{schema_of}
use Rattle.schema_core.specs.Payloads.{Decoded, Encoded, Recoded}
use Rattle.schema_core.specs.Refusals.{BytesRefused, IsKnown, IsNoText, IsUnknown, TextRefused}
use Rattle.schema_core.specs.declared.error.SchemaError.{SchemaError}
use Rattle.schema_core.specs.declared.error.SchemaError.TheVariants.{Parse, Link, Options, Wire, Text, UnknownType, Memory, TooLong}
use Rattle.schema_laws.proofs.LaterTexts.{called, known}
use Rattle.schema_laws.proofs.Recoding.{accepted, recoded_accepted, refused}
use Rattle.schema_laws.proofs.TextsAlike.{no_message, taken_alike}

-- bytes that a known type accepts
pub bytes_taken : (q : PoolType) → IsSound q → (name bytes : List ℕ) → (IsUnknown q name → ⊥)
    → IsAccepted (types_of q) (without_dot name) bytes
    → (e : SchemaError) → BytesRefused q name bytes e → e ≡ Memory
bytes_taken q sound name bytes here takes (Parse e) h = absurd h
bytes_taken q sound name bytes here takes (Link e) h = absurd h
bytes_taken q sound name bytes here takes (Options e) h = absurd h
bytes_taken q sound name bytes here takes (Wire e) (other, none) = absurd (refused q sound name bytes e none takes)
bytes_taken q sound name bytes here takes (Text e) h = absurd h
bytes_taken q sound name bytes here takes (UnknownType n) (same, none) = absurd (here none)
bytes_taken q sound name bytes here takes Memory h = refl
bytes_taken q sound name bytes here takes TooLong h = absurd (refused q sound name bytes wire.TooLong h takes)

-- a text that is one of a known type
pub text_taken : (q : PoolType) (name text : List ℕ) → (IsUnknown q name → ⊥)
    → ((kind : ParseErrorKind) → IsNoText q name text kind → ⊥)
    → (e : SchemaError) → TextRefused q name text e → e ≡ Memory
text_taken q name text here takes (Parse e) h = absurd h
text_taken q name text here takes (Link e) h = absurd h
text_taken q name text here takes (Options e) h = absurd h
text_taken q name text here takes (Wire e) h = absurd h
text_taken q name text here takes (Text e) h = absurd (takes e.kind h)
text_taken q name text here takes (UnknownType n) (same, none) = absurd (here none)
text_taken q name text here takes Memory h = refl
text_taken q name text here takes TooLong h = absurd h

-- a type that is known is not unknown
pub not_unknown : (p : PoolType) (name : List ℕ) → IsKnown p name → IsUnknown p name → ⊥
not_unknown p name k none = known name p (called name p k) none

module _ (p q : PoolType) (sound : IsSound p) (also : IsSound q)
    (same : schema_of p no_message ≡ schema_of q no_message) (name : List ℕ) where
  -- a type that the one knows the other does
  knows : IsKnown p name → IsUnknown q name → ⊥
  knows k none = known name q (sym (ap (λ (w : Schema). w.message name) same) ∙ called name p k) none

  takes : (bytes : List ℕ) → IsAccepted (types_of p) (without_dot name) bytes
      → IsAccepted (types_of q) (without_dot name) bytes
  takes bytes h = subst (λ (w : Schema). IsAccepted w.types (without_dot name) bytes) same h

  pub recoded_taken : (bytes out : List ℕ) (e : SchemaError) → AreBytes bytes
      → Recoded p name bytes out → BytesRefused q name bytes e → e ≡ Memory
  recoded_taken bytes out e small h =
      bytes_taken q also name bytes (knows (h.1.0.index, h.1.1.1))
      (takes bytes (recoded_accepted p sound name bytes out small h)) e

  pub decoded_taken : (bytes text : List ℕ) (e : SchemaError) → AreBytes bytes
      → Decoded p name bytes text → BytesRefused q name bytes e → e ≡ Memory
  decoded_taken bytes text e small h =
      bytes_taken q also name bytes (knows (h.1.0.index, h.1.1.1))
      (takes bytes (accepted p sound name bytes text small h)) e

  pub encoded_taken : (text out : List ℕ) (e : SchemaError) → Encoded p name text out
      → TextRefused q name text e → e ≡ Memory
  encoded_taken text out e h =
      text_taken q name text (knows (h.0.index, h.1.1))
      (λ kind none. taken_alike p q sound also same name text out kind h none) e
