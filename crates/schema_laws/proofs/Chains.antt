-- What came through a chain of older schemas the newest takes, and so does each that is older than it.
use Rattle.std.proofs.Common.{◌≡◌, ℕ, List, map, refl}
use Rattle.protobuf_model.specs.Coded.{AreOlderThan, IsAccepted, Mean}
use Rattle.protobuf_model.specs.Meaning.{meaning}
use Rattle.protobuf_model.specs.Older.{IsOlder}
use Rattle.protobuf_model.specs.Values.{nothing}
use Rattle.protobuf_model.proofs.Chains.{passes_through}
use Rattle.reflect_pool.specs.Dots.{without_dot}
use Rattle.reflect_wire.specs.Written.{AreBytes}
use Rattle.message_view.specs.Types.{types_of}
use Rattle.schema_core.specs.Refusals.{BytesRefused, IsKnown}
use Rattle.schema_core.specs.declared.error.SchemaError.{SchemaError}
use Rattle.schema_core.specs.declared.error.SchemaError.TheVariants.{Memory}
use Rattle.schema_laws.specs.Schemas.{RecodedThrough, SchemaType, type_of}
use Rattle.schema_laws.proofs.PassedTexts.{known_taken}
use Rattle.schema_laws.proofs.Recoding.{defaults, through}
use Rattle.schema_laws.proofs.Refusing.{bytes_taken, not_unknown}

module _ (new : SchemaType) (ss : List SchemaType) (older : AreOlderThan (types_of new.0.pool) (without_dot new.1) (map type_of ss))
    (bytes out : List ℕ) (small : AreBytes bytes) (takes : IsAccepted (types_of new.0.pool) (without_dot new.1) bytes) (came : RecodedThrough ss bytes out) where
  accepted_through : IsAccepted (types_of new.0.pool) (without_dot new.1) out
  accepted_through =
      let m = meaning 100 (types_of new.0.pool) (without_dot new.1) nothing takes.0 in
      let means : Mean (types_of new.0.pool) (without_dot new.1) out m =
      passes_through (types_of new.0.pool) (without_dot new.1) (map type_of ss) bytes out m (defaults new.0.pool new.0.sound) older (takes.0, takes.1, refl) (through ss bytes out small came).0 in
      (means.0, means.1)

  pub newest_takes : IsKnown new.0.pool new.1 → (e : SchemaError) → BytesRefused new.0.pool new.1 out e → e ≡ Memory
  newest_takes k = bytes_taken new.0.pool new.0.sound new.1 out (not_unknown new.0.pool new.1 k) accepted_through

  pub next_takes : (old : SchemaType) → IsOlder (types_of old.0.pool) (without_dot old.1) (types_of new.0.pool) (without_dot new.1) → IsKnown old.0.pool old.1
      → (e : SchemaError) → BytesRefused old.0.pool old.1 out e → e ≡ Memory
  next_takes old is k = known_taken old new is k out accepted_through
