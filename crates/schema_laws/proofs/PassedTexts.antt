-- What a schema answers of bytes that an older one has recoded.
use Rattle.std.proofs.Common.{◌≡◌, ◌<◌, ◌^◌, ◌∙◌, ℕ, List, length, ap, sym}
use Rattle.protobuf_model.specs.Coded.{IsAccepted, Mean}
use Rattle.protobuf_model.specs.Older.{IsOlder}
use Rattle.protobuf_model.specs.Types.{Name}
use Rattle.protobuf_model.specs.Values.{Message, nothing}
use Rattle.protobuf_model.proofs.Bytewise.{one_meaning}
use Rattle.protobuf_model.proofs.Chains.{accepted_by_older}
use Rattle.reflect_pool.specs.Dots.{without_dot}
use Rattle.reflect_tables.specs.Types.{PoolType}
use Rattle.reflect_wire.specs.Written.{AreBytes}
use Rattle.text_model.specs.Printed.{printed}
use Rattle.text_model.specs.Rendered.{compact}
use Rattle.message_view.specs.Types.{types_of}
use Rattle.text_view.specs.Schemas.{schema_of}
use Rattle.print_view.specs.Forms.{own_form}
use Rattle.schema_core.specs.Payloads.{Decoded, Recoded}
use Rattle.schema_core.specs.Refusals.{BytesRefused, IsKnown}
use Rattle.schema_core.specs.declared.error.SchemaError.{SchemaError}
use Rattle.schema_core.specs.declared.error.SchemaError.TheVariants.{Memory}
use Rattle.schema_laws.specs.Schemas.{SchemaType}
use Rattle.schema_laws.proofs.Encoding.{shown}
use Rattle.schema_laws.proofs.Recoding.{passed, recodes}
use Rattle.schema_laws.proofs.Refusing.{bytes_taken, not_unknown}
use Rattle.schema_laws.proofs.TextsAlike.{no_message}

module _ (old new : SchemaType)
    (older : IsOlder (types_of old.0.pool) (without_dot old.1) (types_of new.0.pool) (without_dot new.1)) where
  pub known_taken : IsKnown old.0.pool old.1 → (bytes : List ℕ)
      → IsAccepted (types_of new.0.pool) (without_dot new.1) bytes
      → (e : SchemaError) → BytesRefused old.0.pool old.1 bytes e → e ≡ Memory
  known_taken k bytes h =
      bytes_taken old.0.pool old.0.sound old.1 bytes (not_unknown old.0.pool old.1 k)
      (accepted_by_older (types_of old.0.pool) (types_of new.0.pool) (without_dot old.1) (without_dot new.1) bytes older h)

  module _ (bytes out : List ℕ) (small : AreBytes bytes) (recoded : Recoded old.0.pool old.1 bytes out)
      (short : length out < 2 ^ 64) where
    abbrev p : PoolType
    p = new.0.pool

    abbrev t : Name
    t = without_dot new.1

    -- the message that bytes mean, and its text
    abbrev IsShown : (bs text : List ℕ) → Type 0
    IsShown bs text = (m : Message) × Mean (types_of p) t bs m
        × (text ≡ compact (printed own_form (schema_of p no_message) t m))

    seen : (bs text : List ℕ) → AreBytes bs → Decoded p new.1 bs text → IsShown bs text
    seen bs text are h = shown p new.0.sound no_message new.1 bs text are h

    means : (m : Message) → Mean (types_of p) t bytes m → Mean (types_of p) t out m
    means m h = passed old new older bytes out small recoded short m h

    accepts : (m : Message) → Mean (types_of p) t bytes m → IsAccepted (types_of p) t out
    accepts m h = let x = means m h in (x.0, x.1)

    pub printed_as_before : (a b : List ℕ) → AreBytes out
        → Decoded p new.1 bytes a → Decoded p new.1 out b → a ≡ b
    printed_as_before a b little first second =
        let x = seen bytes a small first in
        let y = seen out b little second in
        x.2
        ∙ ap (λ m. compact (printed own_form (schema_of p no_message) t m))
        (one_meaning (types_of p) t nothing out x.0 y.0 (means x.0 x.1) y.1)
        ∙ sym y.2

    pub taken_if_printed : (text : List ℕ) → Decoded p new.1 bytes text
        → (e : SchemaError) → BytesRefused p new.1 out e → e ≡ Memory
    taken_if_printed text h =
        let x = seen bytes text small h in
        bytes_taken p new.0.sound new.1 out (not_unknown p new.1 (h.1.0.index, h.1.1.1)) (accepts x.0 x.1)

    pub taken_if_recoded : (direct : List ℕ) → Recoded p new.1 bytes direct
        → (e : SchemaError) → BytesRefused p new.1 out e → e ≡ Memory
    taken_if_recoded direct h =
        let x = recodes p new.0.sound new.1 bytes direct small h in
        bytes_taken p new.0.sound new.1 out (not_unknown p new.1 (h.1.0.index, h.1.1.1)) (accepts x.0 x.1)
