-- What is encoded of a message, in whatever way it was made, in the words of the model.
use Rattle.std.proofs.Common.{◌≡◌, ◌<◌, ◌^◌, ℕ, length, sym, ap, ◌∙◌, subst}
use Rattle.protobuf_model.proofs.Bytewise.{bytes_mean, one_meaning}
use Rattle.protobuf_model.specs.Bytes.{bytes_of}
use Rattle.protobuf_model.specs.Coded.{Mean, SuitsType}
use Rattle.protobuf_model.specs.Values.{nothing}
use Rattle.reflect_decode.specs.Spelled.{IsSpelled, TellsWhy}
use Rattle.reflect_message.specs.Bytes.{message_bytes}
use Rattle.reflect_message.specs.Names.{DynamicMessage}
use Rattle.reflect_pool.specs.declared.message.MessageDescriptor.{MessageDescriptor}
use Rattle.reflect_wire.specs.Written.{AreBytes}
use Rattle.reflect_wire.specs.declared.wire_error.WireError.{WireError}
use Rattle.reflect_wire.specs.declared.wire_error.WireError.TheVariants as errors
use Rattle.message_view.specs.Shaped.{Shaped}
use Rattle.message_view.specs.Sound.{IsSound}
use Rattle.message_view.specs.Types.{name_at, types_of}
use Rattle.message_view.specs.Views.{view}
use Rattle.message_view.proofs.Arranging.{shaped_bytes}
use Rattle.message_view.proofs.Decoded.{decoded_means, told_refused}
use Rattle.message_view.proofs.Sound.{named}

module _ (d : MessageDescriptor) (sound : IsSound d.pool.now) (m : DynamicMessage) (type : m.descriptor ≡ d) (levels : ℕ) (shape : Shaped levels m) where
  -- its bytes are the one form of what it holds
  pub shape_written : message_bytes m ≡ bytes_of (types_of d.pool.now) (name_at d.pool.now d.index) (view m)
  shape_written =
      let pool = d.pool.now in
      shaped_bytes pool sound.keys sound.entries sound.lists (types_of pool) (named pool sound.names) levels m (ap (λ (d : MessageDescriptor). d.pool.now) type) shape
      ∙ ap (λ (d : MessageDescriptor). bytes_of (types_of pool) (name_at pool d.index) (view m)) type

  module _ (suits : SuitsType (types_of d.pool.now) (name_at d.pool.now d.index) (view m)) (short : length (message_bytes m) < 2 ^ 64) where
    -- they mean what it holds
    pub shape_means : Mean (types_of d.pool.now) (name_at d.pool.now d.index) (message_bytes m) (view m)
    shape_means =
        let types = types_of d.pool.now in
        let t = name_at d.pool.now d.index in
        subst (λ o. Mean types t o (view m)) (sym shape_written) (bytes_mean types t (view m) suits (subst (λ o. length o < 2 ^ 64) shape_written short))

    -- they are not refused
    pub shape_accepted : (e : WireError) → (e ≡ errors.Memory → ⊥) → TellsWhy d (message_bytes m) e → ⊥
    shape_accepted e other why = told_refused d sound (message_bytes m) e other why (shape_means.0, shape_means.1)

    -- and what is decoded of them is the message
    pub shape_decoded : AreBytes (message_bytes m) → (n : DynamicMessage) → n.descriptor ≡ d → IsSpelled d (message_bytes m) n → view n ≡ view m
    shape_decoded b n also spelled =
        one_meaning (types_of d.pool.now) (name_at d.pool.now d.index) nothing (message_bytes m) (view n) (view m) (decoded_means d sound (message_bytes m) b n also spelled) shape_means
