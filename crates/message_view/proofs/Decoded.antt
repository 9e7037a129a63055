-- What `decode` says of bytes, in the words of the model.
use Rattle.std.proofs.Common.{◌≡◌, ℕ, List, ◌++◌, None, refl, sym, ap, ◌∙◌}
use Rattle.reflect_pool.specs.declared.message.MessageDescriptor.{MessageDescriptor}
use Rattle.reflect_wire.specs.Written.{AreBytes}
use Rattle.reflect_wire.specs.declared.wire_error.WireError.{WireError}
use Rattle.reflect_wire.specs.declared.wire_error.WireError.TheVariants as errors
use Rattle.reflect_message.specs.Contents.{content_of}
use Rattle.reflect_message.specs.Names.{DynamicMessage}
use Rattle.reflect_decode.specs.Levels.{TakesAt}
use Rattle.reflect_decode.specs.Refused.{BodyFault}
use Rattle.reflect_decode.specs.Spelled.{IsMerged, IsSpelled, TellsWhy}
use Rattle.reflect_decode.specs.Suits.{Suits}
use Rattle.message_laws.proofs.Excluding.{excluded}
use Rattle.protobuf_model.specs.Coded.{Mean, IsAccepted, SuitsType}
use Rattle.protobuf_model.specs.Older.{IsOlder}
use Rattle.protobuf_model.specs.Values.{nothing}
use Rattle.protobuf_model.proofs.Bytewise.{accepted_in_pieces, merged_well}
use Rattle.protobuf_model.proofs.Chains.{accepted_by_older}
use Rattle.protobuf_model.proofs.Merging.{nothing_typed}
use Rattle.message_view.specs.Sound.{IsSound}
use Rattle.message_view.specs.Types.{name_at, types_of}
use Rattle.message_view.specs.Views.{view, view_of}
use Rattle.message_view.proofs.Accepting.{accepted}
use Rattle.message_view.proofs.Admitting.{admitted}
use Rattle.message_view.proofs.Defaults.{have_defaults}
use Rattle.message_view.proofs.Left.{AreLeft, leaves_meaning}
use Rattle.message_view.proofs.Seen.{view_opened}
use Rattle.message_view.proofs.Sound.{named}

-- a message that is decoded is what the bytes mean
pub decoded_means : (d : MessageDescriptor) → IsSound d.pool.now → (bytes : List ℕ) → AreBytes bytes → (m : DynamicMessage) → m.descriptor ≡ d → IsSpelled d bytes m → Mean (types_of d.pool.now) (name_at d.pool.now d.index) bytes (view m)
decoded_means d sound bytes b m type (rs, spelled, keeps, some, also, fields, (extensions, apart), accepts, _) =
    let pool = d.pool.now in
    let left : AreLeft (TakesAt 100) d (content_of m) rs = record { unknown = keeps; fields = fields; extensions = extensions } in
    let told = named pool sound.names in
    let means = leaves_meaning pool sound.keys sound.defaults (types_of pool) told 100 d refl (content_of m) rs left in
    let seen = view_opened m ∙ ap (λ (d : MessageDescriptor). view_of d.pool.now d.index (content_of m)) type in
    (rs, record { spelled = spelled; accepted = accepted pool sound.keys (types_of pool) told 100 d refl bytes rs b spelled accepts }, means ∙ sym seen)

-- and bytes that are refused are not accepted
pub refused : (d : MessageDescriptor) → IsSound d.pool.now → (bytes : List ℕ) (e : WireError) → BodyFault 100 d.pool.now d.index None bytes e → IsAccepted (types_of d.pool.now) (name_at d.pool.now d.index) bytes → ⊥
refused d sound bytes e fault (rs, read) =
    let pool = d.pool.now in
    excluded pool sound.keys 100 d.index bytes e fault rs read.spelled (admitted pool sound.pooled sound.keys sound.entries (types_of pool) (named pool sound.names) 100 d refl rs read.accepted)

pub told_refused : (d : MessageDescriptor) → IsSound d.pool.now → (bytes : List ℕ) (e : WireError) → (e ≡ errors.Memory → ⊥) → TellsWhy d bytes e → IsAccepted (types_of d.pool.now) (name_at d.pool.now d.index) bytes → ⊥
told_refused d sound bytes errors.Memory other why h = other refl
told_refused d sound bytes errors.Truncated other why h = refused d sound bytes errors.Truncated why h
told_refused d sound bytes errors.BadVarint other why h = refused d sound bytes errors.BadVarint why h
told_refused d sound bytes errors.BadKey other why h = refused d sound bytes errors.BadKey why h
told_refused d sound bytes errors.BadWireType other why h = refused d sound bytes errors.BadWireType why h
told_refused d sound bytes errors.EndGroupMismatch other why h = refused d sound bytes errors.EndGroupMismatch why h
told_refused d sound bytes errors.TooDeep other why h = refused d sound bytes errors.TooDeep why h
told_refused d sound bytes errors.BadUtf8 other why h = refused d sound bytes errors.BadUtf8 why h
told_refused d sound bytes errors.TooLong other why h = refused d sound bytes errors.TooLong why h

-- what is decoded suits its type
pub decoded_suits : (d : MessageDescriptor) → IsSound d.pool.now → (bytes : List ℕ) → AreBytes bytes → (m : DynamicMessage) → m.descriptor ≡ d → IsSpelled d bytes m → SuitsType (types_of d.pool.now) (name_at d.pool.now d.index) (view m)
decoded_suits d sound bytes b m type h =
    let t = name_at d.pool.now d.index in
    merged_well (types_of d.pool.now) (have_defaults d.pool.now sound.keys sound.defaults) t nothing (view m) bytes (nothing_typed 100 (types_of d.pool.now) t) (decoded_means d sound bytes b m type h)

-- a type accepts what it has decoded
spelled_accepted : (d : MessageDescriptor) → IsSound d.pool.now → (bytes : List ℕ) → AreBytes bytes → (m : DynamicMessage) → m.descriptor ≡ d → IsSpelled d bytes m → IsAccepted (types_of d.pool.now) (name_at d.pool.now d.index) bytes
spelled_accepted d sound bytes b m type h = let means = decoded_means d sound bytes b m type h in (means.0, means.1)

-- and no older type refuses it
pub older_decodes : (old new : MessageDescriptor) → IsSound old.pool.now → IsSound new.pool.now
    → IsOlder (types_of old.pool.now) (name_at old.pool.now old.index) (types_of new.pool.now) (name_at new.pool.now new.index)
    → (bytes : List ℕ) → AreBytes bytes → (m : DynamicMessage) → m.descriptor ≡ new → IsSpelled new bytes m → (e : WireError) → (e ≡ errors.Memory → ⊥) → TellsWhy old bytes e → ⊥
older_decodes old new sound also older bytes b m type h e other why =
    told_refused old sound bytes e other why
    (accepted_by_older (types_of old.pool.now) (types_of new.pool.now) (name_at old.pool.now old.index) (name_at new.pool.now new.index) bytes older (spelled_accepted new also bytes b m type h))

-- a type accepts what is merged into a message that suits it
pub merged_accepted : (d : MessageDescriptor) → IsSound d.pool.now → (bytes : List ℕ) → AreBytes bytes
    → (old new : DynamicMessage) → Suits 100 d (content_of old) → IsMerged d bytes old new
    → IsAccepted (types_of d.pool.now) (name_at d.pool.now d.index) bytes
merged_accepted d sound bytes b old new suits (rs, copy, spelled, copied, ordered, merges, accepts) =
    let pool = d.pool.now in
    let told = named pool sound.names in (
      rs,
      record {
        spelled = spelled;
        accepted = accepted pool sound.keys (types_of pool) told 100 d refl bytes rs b spelled (accepts suits);
      },
    )

-- nor are decoded bytes refused one behind the other
pub pieces_decode : (d : MessageDescriptor) → IsSound d.pool.now → (a b : List ℕ) → AreBytes a → AreBytes b → (m n : DynamicMessage) → m.descriptor ≡ d → n.descriptor ≡ d → IsSpelled d a m → IsSpelled d b n
    → (e : WireError) → (e ≡ errors.Memory → ⊥) → TellsWhy d (a ++ b) e → ⊥
pieces_decode d sound a b ab bb m n type also h k e other why =
    let first = spelled_accepted d sound a ab m type h in
    let second = spelled_accepted d sound b bb n also k in
    told_refused d sound (a ++ b) e other why ((accepted_in_pieces (types_of d.pool.now) (name_at d.pool.now d.index) a b first).1 second)
