-- Bytes are seen as one message at most.
use Rattle.std.proofs.Common.{◌≡◌, ℕ, List, refl, sym, ap, ap₂, ◌∙◌, subst}
use Rattle.reflect_wire.specs.Records.{Payload, SpellsRecords}
use Rattle.reflect_wire.specs.Views.{records_of}
use Rattle.reflect_wire.proofs.Spelling.{one_list}
use Rattle.reflect_pool.specs.declared.message.MessageDescriptor.{MessageDescriptor}
use Rattle.reflect_message.specs.Contents.{content_of}
use Rattle.reflect_message.specs.Names.{DynamicMessage}
use Rattle.reflect_decode.specs.Levels.{TakesAt}
use Rattle.reflect_decode.specs.Spelled.{IsSpelled}
use Rattle.protobuf_model.specs.Meaning.{meaning}
use Rattle.protobuf_model.specs.Reader.{list_of}
use Rattle.protobuf_model.specs.Values.{nothing}
use Rattle.protobuf_model.proofs.Reading.{listed_back}
use Rattle.message_view.specs.Sound.{IsSound}
use Rattle.message_view.specs.Types.{name_at, types_of}
use Rattle.message_view.specs.Views.{view, view_of}
use Rattle.message_view.proofs.Left.{AreLeft, leaves_meaning}
use Rattle.message_view.proofs.Seen.{view_opened}
use Rattle.message_view.proofs.Sound.{named}

-- what is seen of a message is what the records mean that the bytes spell
pub spelled_means : (d : MessageDescriptor) → IsSound d.pool.now → (bytes : List ℕ) (m : DynamicMessage) → m.descriptor ≡ d → IsSpelled d bytes m
    → (rs : List (ℕ × Payload)) × SpellsRecords 100 bytes (records_of rs) × (meaning 100 (types_of d.pool.now) (name_at d.pool.now d.index) nothing rs ≡ view m)
spelled_means d sound bytes m type (rs, spelled, keeps, some, also, fields, (extensions, apart), accepts, ordered) =
    let pool = d.pool.now in
    let left : AreLeft (TakesAt 100) d (content_of m) rs = record { unknown = keeps; fields = fields; extensions = extensions } in
    let means = leaves_meaning pool sound.keys sound.defaults (types_of pool) (named pool sound.names) 100 d refl (content_of m) rs left in
    let seen = view_opened m ∙ ap (λ (d : MessageDescriptor). view_of d.pool.now d.index (content_of m)) type in
    (rs, spelled, means ∙ sym seen)

pub seen_alike : (d e : MessageDescriptor) → IsSound d.pool.now → d.pool.now ≡ e.pool.now → d.index ≡ e.index → (bytes : List ℕ) (m n : DynamicMessage) → m.descriptor ≡ d → n.descriptor ≡ e → IsSpelled d bytes m → IsSpelled e bytes n → view m ≡ view n
seen_alike d e sound pools places bytes m n type also spelled read =
    let a = spelled_means d sound bytes m type spelled in
    let b = spelled_means e (subst IsSound pools sound) bytes n also read in
    let same : a.0 ≡ b.0 = sym (listed_back a.0) ∙ ap list_of (one_list 100 bytes (records_of a.0) (records_of b.0) a.1 b.1) ∙ listed_back b.0 in
    sym a.2
    ∙ ap (meaning 100 (types_of d.pool.now) (name_at d.pool.now d.index) nothing) same
    ∙ ap₂ (λ p i. meaning 100 (types_of p) (name_at p i) nothing b.0) pools places
    ∙ b.2
