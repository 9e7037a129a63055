-- What a decoded message holds of bytes is bytes.
use Rattle.std.proofs.Common.{◌≡◌, ℕ, List, ◌∙◌, subst}
use Rattle.reflect_wire.specs.Views.{records_of}
use Rattle.reflect_wire.specs.Written.{AreBytes}
use Rattle.reflect_pool.specs.declared.message.MessageDescriptor.{MessageDescriptor}
use Rattle.reflect_message.specs.Names.{DynamicMessage}
use Rattle.reflect_decode.specs.Spelled.{IsSpelled}
use Rattle.protobuf_model.specs.Values.{nothing}
use Rattle.protobuf_model.proofs.Reading.{inside_spelled, listed_back}
use Rattle.text_model.proofs.InBytes.{IsInBytes}
use Rattle.message_view.specs.Sound.{IsSound}
use Rattle.message_view.specs.Types.{name_at, types_of}
use Rattle.message_view.specs.Views.{view}
use Rattle.message_view.proofs.Decoded.{decoded_means}
use Rattle.text_view.specs.SourceNames.{HasSourceNames}
use Rattle.text_view.proofs.SoundTypes.{small_defaults}
use Rattle.print_view.proofs.MeantBytes.{meaning_bytes}
use Rattle.print_view.proofs.ReadBytes.{EachHoldsBytes, inside_small, small_bytes}

pub decoded_in_bytes : (d : MessageDescriptor) → IsSound d.pool.now → HasSourceNames d.pool.now → (bytes : List ℕ) → AreBytes bytes → (m : DynamicMessage) → m.descriptor ≡ d → IsSpelled d bytes m → IsInBytes (view m)
decoded_in_bytes d sound named bytes are m type spelled =
    let means = decoded_means d sound bytes are m type spelled in
    let read = inside_spelled 100 bytes (records_of means.0) means.1.spelled ∙ listed_back means.0 in
    subst IsInBytes means.2
    (meaning_bytes 100 (types_of d.pool.now) (small_defaults d.pool.now sound named) (name_at d.pool.now d.index) nothing means.0 (λ n. tt) (subst EachHoldsBytes read (inside_small bytes (small_bytes bytes are))))
