-- What is recoded, in the words of the model.
use Rattle.std.proofs.Common.{◌≡◌, inr, ◌↔◌, ◌<◌, ◌^◌, ℕ, Bool, true, false, List, [], ◌∷◌, map, length, sym, ap, ◌∙◌, subst, Some}
use Rattle.std.specs.List.{AllByRecursion}
use Rattle.reflect_tables.specs.Types.{PoolType, no_type}
use Rattle.reflect_pool.specs.Dots.{without_dot}
use Rattle.reflect_pool.specs.FindsNames.{FindsMessage}
use Rattle.reflect_pool.specs.declared.message.MessageDescriptor.{MessageDescriptor}
use Rattle.reflect_wire.specs.Written.{AreBytes}
use Rattle.reflect_wire.specs.declared.wire_error.WireError.{WireError}
use Rattle.reflect_wire.specs.declared.wire_error.WireError.TheVariants as errors
use Rattle.reflect_message.specs.Bytes.{message_bytes}
use Rattle.reflect_message.specs.Contents as contents
use Rattle.reflect_message.specs.Names.{DynamicMessage}
use Rattle.reflect_message.specs.Oneofs.{IsExclusive}
use Rattle.reflect_message.specs.Contents.{content_of}
use Rattle.reflect_decode.specs.Levels.{TakesAt}
use Rattle.reflect_decode.specs.Spelled.{IsSpelled, TellsWhy}
use Rattle.protobuf_model.specs.Bytes.{bytes_of}
use Rattle.protobuf_model.specs.Coded.{Mean, IsRecoded, IsRecodedThrough, AreOlderThan}
use Rattle.protobuf_model.specs.Older.{IsOlder}
use Rattle.protobuf_model.specs.Values.{Message, nothing}
use Rattle.protobuf_model.proofs.Bytewise.{bytes_mean, one_form, one_meaning}
use Rattle.protobuf_model.proofs.Chains.{passes, passes_through, same_as_direct}
use Rattle.message_view.specs.Recoded.{Recodes, type_of, RecodesThrough}
use Rattle.message_view.specs.Shaped.{Exclusive, HasShape, IsShaped, Shaped}
use Rattle.message_view.specs.Sound.{IsSound}
use Rattle.message_view.specs.Types.{name_at, types_of}
use Rattle.message_view.specs.Views.{view}
use Rattle.message_view.proofs.Decoded.{decoded_means, decoded_suits, told_refused}
use Rattle.message_view.proofs.Encoded.{shape_written}
use Rattle.message_view.proofs.Defaults.{have_defaults}
use Rattle.message_view.proofs.Shapes.{AreKept, kept_shaped}

-- what is decoded suits its type, in the order of its numbers
pub decoded_shape : (exclusive : Bool) (d : MessageDescriptor) (bytes : List ℕ) (m : DynamicMessage) → m.descriptor ≡ d → IsSpelled d bytes m → IsShaped (HasShape exclusive 100) m.descriptor (content_of m)
decoded_shape exclusive d bytes m type (rs, spelled, keeps, some, also, fields, (extensions, apart), accepts, ordered) =
    let left : AreKept (TakesAt 100) d contents.nothing (content_of m) rs = record { fields = fields; extensions = extensions; unknown = keeps; apart = apart; unowned = λ n none. some n (inr none); ordered = ordered } in
    kept_shaped exclusive 100 m rs (subst (λ d. AreKept (TakesAt 100) d contents.nothing (content_of m) rs) (sym type) left)

pub decoded_shaped : (d : MessageDescriptor) (bytes : List ℕ) (m : DynamicMessage) → m.descriptor ≡ d → IsSpelled d bytes m → Shaped 101 m
decoded_shaped d bytes m type spelled = decoded_shape false d bytes m type spelled

pub decoded_exclusive : (d : MessageDescriptor) (bytes : List ℕ) (m : DynamicMessage) → m.descriptor ≡ d → IsSpelled d bytes m → IsExclusive m → Exclusive 101 m
decoded_exclusive d bytes m type spelled sole = (decoded_shape true d bytes m type spelled, sole)

-- what is decoded is written in the one form of what it means
pub decoded_written : (d : MessageDescriptor) → IsSound d.pool.now → (bytes : List ℕ) (m : DynamicMessage) → m.descriptor ≡ d → IsSpelled d bytes m → message_bytes m ≡ bytes_of (types_of d.pool.now) (name_at d.pool.now d.index) (view m)
decoded_written d sound bytes m type spelled = shape_written d sound m type 101 (decoded_shaped d bytes m type spelled)

-- recoding is the model's
pub recodes : (d : MessageDescriptor) → IsSound d.pool.now → (bytes out : List ℕ) → AreBytes bytes → Recodes d bytes out → IsRecoded (types_of d.pool.now) (name_at d.pool.now d.index) bytes out
recodes d sound bytes out b r = (view r.message, decoded_means d sound bytes b r.message r.type r.decoded, sym (decoded_written d sound bytes r.message r.type r.decoded) ∙ r.encoded)

-- recoded bytes mean what the bytes do
pub recoded_means : (d : MessageDescriptor) → IsSound d.pool.now → (bytes out : List ℕ) → AreBytes bytes → Recodes d bytes out → length out < 2 ^ 64 → (m : Message) → Mean (types_of d.pool.now) (name_at d.pool.now d.index) bytes m → Mean (types_of d.pool.now) (name_at d.pool.now d.index) out m
unfolding recodes
recoded_means d sound bytes out b r short m means =
    let types = types_of d.pool.now in
    let t = name_at d.pool.now d.index in
    let its = recodes d sound bytes out b r in
    let suits = decoded_suits d sound bytes b r.message r.type r.decoded in
    let back = bytes_mean types t its.0 suits (subst (λ o. length o < 2 ^ 64) (sym its.2) short) in
    let same : its.0 ≡ m = one_meaning types t nothing bytes its.0 m its.1 means in
    subst (Mean types t out) same (subst (λ o. Mean types t o its.0) its.2 back)

-- they are not refused
pub recoded_accepted : (d : MessageDescriptor) → IsSound d.pool.now → (bytes out : List ℕ) → AreBytes bytes → Recodes d bytes out → length out < 2 ^ 64 → (e : WireError) → (e ≡ errors.Memory → ⊥) → TellsWhy d out e → ⊥
recoded_accepted d sound bytes out b r short e other why =
    let its = recodes d sound bytes out b r in
    let means = recoded_means d sound bytes out b r short its.0 its.1 in
    told_refused d sound out e other why (means.0, means.1)

-- and recoded again they are the same
pub recoded_twice : (d : MessageDescriptor) → IsSound d.pool.now → (bytes out again : List ℕ) → AreBytes bytes → AreBytes out → Recodes d bytes out → length out < 2 ^ 64 → Recodes d out again → again ≡ out
recoded_twice d sound bytes out again b c r short s =
    let types = types_of d.pool.now in
    let t = name_at d.pool.now d.index in
    let its = recodes d sound bytes out b r in
    let next = recodes d sound out again c s in
    let same : next.0 ≡ its.0 = one_meaning types t nothing out next.0 its.0 next.1 (recoded_means d sound bytes out b r short its.0 its.1) in
    sym next.2 ∙ ap (bytes_of types t) same ∙ its.2

-- equal exactly where the meanings are
pub recoded_equal : (d : MessageDescriptor) → IsSound d.pool.now → (a b x y : List ℕ) → AreBytes a → AreBytes b → (r : Recodes d a x) (s : Recodes d b y) → length x < 2 ^ 64 → length y < 2 ^ 64 → (x ≡ y) ↔ (view r.message ≡ view s.message)
unfolding recodes
recoded_equal d sound a b x y ab bb r s short also =
    let types = types_of d.pool.now in
    let t = name_at d.pool.now d.index in
    let p = recodes d sound a x ab r in
    let q = recodes d sound b y bb s in
    let form = one_form types t p.0 q.0 (decoded_suits d sound a ab r.message r.type r.decoded) (decoded_suits d sound b bb s.message s.type s.decoded) (subst (λ o. length o < 2 ^ 64) (sym p.2) short) (subst (λ o. length o < 2 ^ 64) (sym q.2) also) in
    ((λ e. form.0 (p.2 ∙ e ∙ sym q.2)), λ e. sym p.2 ∙ form.1 e ∙ q.2)

-- what an older type recodes means to the newer what the bytes do
pub recoded_passes : (old new : MessageDescriptor) → IsSound old.pool.now → IsSound new.pool.now → IsOlder (types_of old.pool.now) (name_at old.pool.now old.index) (types_of new.pool.now) (name_at new.pool.now new.index)
    → (bytes out : List ℕ) → AreBytes bytes → Recodes old bytes out → length out < 2 ^ 64 → (m : Message) → Mean (types_of new.pool.now) (name_at new.pool.now new.index) bytes m → Mean (types_of new.pool.now) (name_at new.pool.now new.index) out m
recoded_passes old new sound also older bytes out b r short m means =
    passes (types_of old.pool.now) (types_of new.pool.now) (name_at old.pool.now old.index) (name_at new.pool.now new.index) bytes out m older (have_defaults new.pool.now also.keys also.defaults) means (recodes old sound bytes out b r) short

through : (ds : List MessageDescriptor) → AllByRecursion (λ (d : MessageDescriptor). IsSound d.pool.now) ds → (bytes out : List ℕ) → AreBytes bytes → RecodesThrough ds bytes out → IsRecodedThrough (map type_of ds) bytes out × AreBytes out
through [] sound bytes out b h = (h, subst AreBytes h b)
through (d ∷ ds) sound bytes out b (next, r, nb, short, rest) = let later = through ds sound.1 next out nb rest in ((next, recodes d sound.0 bytes next b r, short, later.0), later.1)

-- also through a chain of older types
pub chain_passes : (new : MessageDescriptor) (ds : List MessageDescriptor) → IsSound new.pool.now → AllByRecursion (λ (d : MessageDescriptor). IsSound d.pool.now) ds → AreOlderThan (types_of new.pool.now) (name_at new.pool.now new.index) (map type_of ds)
    → (bytes out : List ℕ) → AreBytes bytes → RecodesThrough ds bytes out → (m : Message) → Mean (types_of new.pool.now) (name_at new.pool.now new.index) bytes m → Mean (types_of new.pool.now) (name_at new.pool.now new.index) out m
chain_passes new ds sound also older bytes out b h m means =
    passes_through (types_of new.pool.now) (name_at new.pool.now new.index) (map type_of ds) bytes out m (have_defaults new.pool.now sound.keys sound.defaults) older means (through ds also bytes out b h).0

-- and there is one normal form
pub chain_normal : (new : MessageDescriptor) (ds : List MessageDescriptor) → IsSound new.pool.now → AllByRecursion (λ (d : MessageDescriptor). IsSound d.pool.now) ds → AreOlderThan (types_of new.pool.now) (name_at new.pool.now new.index) (map type_of ds)
    → (bytes out x y : List ℕ) → AreBytes bytes → RecodesThrough ds bytes out → Recodes new out x → Recodes new bytes y → x ≡ y
chain_normal new ds sound also older bytes out x y b h r s =
    let chain = through ds also bytes out b h in
    let direct = recodes new sound bytes y b s in
    same_as_direct (types_of new.pool.now) (name_at new.pool.now new.index) (have_defaults new.pool.now sound.keys sound.defaults) (map type_of ds) older bytes out x y (direct.1.0, direct.1.1) chain.0 (recodes new sound out x chain.1 r) direct

-- a type that is found has the name
pub found_named : (d : MessageDescriptor) (p : PoolType) (name : List ℕ) → FindsMessage p name (Some d) → name_at p d.index ≡ without_dot name
found_named d p name found = found.1.0 no_type

pub recodes_named : (p : PoolType) (name : List ℕ) (d : MessageDescriptor) → IsSound p → d.pool.now ≡ p → FindsMessage p name (Some d) → (bytes out : List ℕ) → AreBytes bytes → Recodes d bytes out → IsRecoded (types_of p) (without_dot name) bytes out
recodes_named p name d sound there found bytes out b r =
    subst (λ n. IsRecoded (types_of p) n bytes out) (found_named d p name found)
    (subst (λ p. IsRecoded (types_of p) (name_at p d.index) bytes out) there (recodes d (subst IsSound (sym there) sound) bytes out b r))

-- what was encoded of a decoded message is decoded to the same message
pub encoded_read : (d : MessageDescriptor) → IsSound d.pool.now → (bytes out : List ℕ) → AreBytes bytes → AreBytes out → (r : Recodes d bytes out) → length out < 2 ^ 64 → (n : DynamicMessage) → n.descriptor ≡ d → IsSpelled d out n → view n ≡ view r.message
encoded_read d sound bytes out b c r short n type h =
    let types = types_of d.pool.now in
    let t = name_at d.pool.now d.index in
    let before = decoded_means d sound bytes b r.message r.type r.decoded in
    one_meaning types t nothing out (view n) (view r.message) (decoded_means d sound out c n type h) (recoded_means d sound bytes out b r short (view r.message) before)
