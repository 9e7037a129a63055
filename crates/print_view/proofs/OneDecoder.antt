-- The function that decodes bytes as `decode` does: of those that a type takes it gives what their
-- records mean.
use Rattle.std.proofs.Common.{◌≡◌, inl, inr, ℕ, ◌<◌, List, Option, None, Some, length, refl, sym, ap, ◌∙◌, subst}
use Rattle.protox_lex.specs.Class.{Text}
use Rattle.reflect_wire.specs.Records.{Payload, SpellsRecords}
use Rattle.reflect_wire.specs.Views.{records_of}
use Rattle.reflect_wire.specs.declared.wire_error.WireError.{WireError}
use Rattle.reflect_wire.specs.declared.wire_error.WireError.TheVariants as errors
use Rattle.reflect_wire.proofs.Spelling.{one_list}
use Rattle.reflect_tables.specs.Types.{PoolType}
use Rattle.reflect_pool.specs.declared.message.MessageDescriptor.{MessageDescriptor}
use Rattle.reflect_message.specs.Names.{DynamicMessage}
use Rattle.reflect_decode.specs.Refused.{BodyFault}
use Rattle.reflect_decode.specs.Spelled.{IsSpelled, TellsWhy}
use Rattle.message_laws.proofs.Excluding.{excluded}
use Rattle.print_parts.specs.Expands.{IsFault}
use Rattle.protobuf_model.specs.Meaning.{meaning}
use Rattle.protobuf_model.specs.Reader.{list_of}
use Rattle.protobuf_model.specs.Types.{Name}
use Rattle.protobuf_model.specs.Values.{Message, nothing}
use Rattle.protobuf_model.proofs.Reading.{listed_back}
use Rattle.message_view.specs.Sound.{IsSound}
use Rattle.message_view.specs.Types.{name_at, place_in, types_of}
use Rattle.message_view.specs.Views.{view}
use Rattle.message_view.proofs.Sound.{found_at as placed}
use Rattle.print_view.specs.Expansions.{DecodesIn}
use Rattle.print_view.proofs.Deciding.{Decided}
use Rattle.print_view.proofs.DecidingTaken.{AreTaken, taken_or_not}
use Rattle.print_view.proofs.OneView.{spelled_means}

-- what records mean to the type of a name
abbrev what_is_meant : PoolType → Name → List (ℕ × Payload) → Message
what_is_meant pool t rs = meaning 100 (types_of pool) t nothing rs

abbrev meant_if : (pool : PoolType) (i : ℕ) (t : Name) (bytes : List ℕ) → Decided (AreTaken pool i bytes) → Option Message
meant_if pool i t bytes (inl h) = Some (what_is_meant pool t h.0)
meant_if pool i t bytes (inr none) = None

some_meant : (pool : PoolType) (i : ℕ) (t : Name) (bytes : List ℕ) (v : Message) (k : Decided (AreTaken pool i bytes)) → AreTaken pool i bytes → (rs : List (ℕ × Payload)) → SpellsRecords 100 bytes (records_of rs) → what_is_meant pool t rs ≡ v
    → meant_if pool i t bytes k ≡ Some v
some_meant pool i t bytes v (inl h) taken rs spelled e =
    let same : h.0 ≡ rs = sym (listed_back h.0) ∙ ap list_of (one_list 100 bytes (records_of h.0) (records_of rs) h.1 spelled) ∙ listed_back rs in
    ap (λ rs. Some (what_is_meant pool t rs)) same ∙ ap Some e
some_meant pool i t bytes v (inr none) taken rs spelled e = absurd (none taken)

none_meant : (pool : PoolType) (i : ℕ) (t : Name) (bytes : List ℕ) (k : Decided (AreTaken pool i bytes)) → (AreTaken pool i bytes → ⊥) → meant_if pool i t bytes k ≡ None
none_meant pool i t bytes (inl h) none = absurd (none h)
none_meant pool i t bytes (inr other) none = refl

pub spelled_taken : (d : MessageDescriptor) (bytes : List ℕ) (m : DynamicMessage) → IsSpelled d bytes m → AreTaken d.pool.now d.index bytes
spelled_taken d bytes m (rs, spelled, keeps, some, also, fields, (extensions, apart), accepts, ordered) = (rs, spelled, accepts)

-- what is refused is not taken
pub told_excluded : (d : MessageDescriptor) → IsSound d.pool.now → (bytes : List ℕ) (e : WireError) → IsFault e → TellsWhy d bytes e → AreTaken d.pool.now d.index bytes → ⊥
told_excluded d sound bytes e is why (rs, spelled, accepts) = by e is why where
  wrong : (e : WireError) → BodyFault 100 d.pool.now d.index None bytes e → ⊥
  wrong e fault = excluded d.pool.now sound.keys 100 d.index bytes e fault rs spelled accepts

  by : (e : WireError) → IsFault e → TellsWhy d bytes e → ⊥
  by errors.Memory is why = absurd is
  by errors.Truncated is why = wrong errors.Truncated why
  by errors.BadVarint is why = wrong errors.BadVarint why
  by errors.BadKey is why = wrong errors.BadKey why
  by errors.BadWireType is why = wrong errors.BadWireType why
  by errors.EndGroupMismatch is why = wrong errors.EndGroupMismatch why
  by errors.TooDeep is why = wrong errors.TooDeep why
  by errors.BadUtf8 is why = wrong errors.BadUtf8 why
  by errors.TooLong is why = wrong errors.TooLong why

-- the place of the type of a name
abbrev place_of : MessageDescriptor → Name → ℕ
place_of d t = place_in d.pool.now.messages t

abbrev decoded_by : MessageDescriptor → Name → Text → Option Message
decoded_by d t bytes = meant_if d.pool.now (place_of d t) t bytes (taken_or_not d (place_of d t) bytes)

-- a sound pool's types are found by their names
found : (d e : MessageDescriptor) → IsSound d.pool.now → e.pool.now ≡ d.pool.now → place_of d (name_at d.pool.now e.index) ≡ e.index
found d e sound there =
    let within : e.index < length d.pool.now.messages = subst (λ (q : PoolType). e.index < length q.messages) there e.in_range in
    placed d.pool.now.messages e.index within (λ k less same. sound.names e.index k within less same)

given : (d e : MessageDescriptor) → IsSound d.pool.now → e.pool.now ≡ d.pool.now → (bytes : List ℕ) (m : DynamicMessage) → m.descriptor ≡ e → IsSpelled e bytes m → decoded_by d (name_at d.pool.now e.index) bytes ≡ Some (view m)
given d e sound there bytes m type spelled =
    let t = name_at d.pool.now e.index in
    let taken : AreTaken d.pool.now e.index bytes = subst (λ q. AreTaken q e.index bytes) there (spelled_taken e bytes m spelled) in
    let means = spelled_means e (subst IsSound (sym there) sound) bytes m type spelled in
    let seen : what_is_meant d.pool.now t means.0 ≡ view m = subst (λ q. what_is_meant q (name_at q e.index) means.0 ≡ view m) there means.2 in
    some_meant d.pool.now (place_of d t) t bytes (view m) (taken_or_not d (place_of d t) bytes) (subst (λ i. AreTaken d.pool.now i bytes) (sym (found d e sound there)) taken) means.0 means.1 seen

none_given : (d e : MessageDescriptor) → IsSound d.pool.now → e.pool.now ≡ d.pool.now → (bytes : List ℕ) (w : WireError) → IsFault w → TellsWhy e bytes w → decoded_by d (name_at d.pool.now e.index) bytes ≡ None
none_given d e sound there bytes w is why =
    let t = name_at d.pool.now e.index in
    none_meant d.pool.now (place_of d t) t bytes (taken_or_not d (place_of d t) bytes)
    (λ taken. told_excluded e (subst IsSound (sym there) sound) bytes w is why (subst (λ q. AreTaken q e.index bytes) (sym there) (subst (λ i. AreTaken d.pool.now i bytes) (found d e sound there) taken)))

pub decoder : (d : MessageDescriptor) → IsSound d.pool.now → (decoded : Name → Text → Option Message) × DecodesIn d.pool.now decoded
decoder d sound = (decoded_by d, λ e there bytes. (given d e sound there bytes, none_given d e sound there bytes))
