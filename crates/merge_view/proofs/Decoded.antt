-- What `merge` says of bytes, in the words of the model.
use Rattle.std.proofs.Common.{◌≡◌, ◌<◌, ◌≤◌, ◌+◌, ◌^◌, ℕ, suc, Bool, false, List, [], ◌∷◌, ◌++◌, length, append-nil, append_assoc, refl, sym, ap, ◌∙◌, subst, arith}
use Rattle.std.specs.List.{AllByRecursion, concat}
use Rattle.reflect_pool.specs.declared.message.MessageDescriptor.{MessageDescriptor}
use Rattle.reflect_wire.specs.Written.{AreBytes}
use Rattle.reflect_message.specs.Bytes.{message_bytes}
use Rattle.reflect_message.specs.Contents.{content_of, nothing}
use Rattle.reflect_message.specs.Oneofs.{AreChosen, IsExclusive}
use Rattle.reflect_message.specs.Held.{choices_of, fields_of}
use Rattle.reflect_message.specs.Names.{DynamicMessage}
use Rattle.reflect_decode.specs.Ordered.{IsOrdered}
use Rattle.reflect_decode.specs.Spelled.{IsMerged, IsSpelled}
use Rattle.reflect_decode.specs.Suits.{Suits, SuitsBelow}
use Rattle.reflect_decode.proofs.Suiting.{copy_suits, filled_suits, nothing_suits, suits_stay}
use Rattle.protobuf_model.specs.Bytes.{bytes_of}
use Rattle.protobuf_model.specs.Coded.{AreMerged, Mean, SuitsType}
use Rattle.protobuf_model.specs.Typed.{IsTyped}
use Rattle.protobuf_model.specs.Values as model
use Rattle.protobuf_model.proofs.Bytewise.{merged_deep, merged_in_pieces, merged_well, one_meaning}
use Rattle.protobuf_model.proofs.Merging.{nothing_typed}
use Rattle.message_view.specs.Shaped.{HasShape, IsShaped, Shaped}
use Rattle.message_view.specs.Sound.{IsSound}
use Rattle.message_view.specs.Types.{name_at, types_of}
use Rattle.message_view.specs.Views.{view, view_of}
use Rattle.message_view.proofs.Accepting.{accepted}
use Rattle.message_view.proofs.Decoded.{decoded_means}
use Rattle.message_view.proofs.Deeper.{deeper_shape, one_level, whole_shape}
use Rattle.message_view.proofs.Defaults.{have_defaults}
use Rattle.message_view.proofs.Elements.{seen_in}
use Rattle.message_view.proofs.Encoded.{shape_decoded, shape_written}
use Rattle.message_view.proofs.Recoded.{decoded_shape, decoded_shaped}
use Rattle.message_view.proofs.Shapes.{merged_shaped}
use Rattle.message_view.proofs.Sound.{named}
use Rattle.merge_view.specs.Pieces.{MergesEach}
use Rattle.merge_view.proofs.Copied.{copy_seen}
use Rattle.merge_view.proofs.Merged.{merged_meaning}
use Rattle.merge_view.proofs.Shaped.{copy_ordered, copy_shaped}

-- what is merged into a message is what the bytes mean behind it
pub merged_means : (d : MessageDescriptor) → IsSound d.pool.now → (bytes : List ℕ) → AreBytes bytes → (old new : DynamicMessage) → old.descriptor ≡ d → new.descriptor ≡ d
    → Suits 100 d (content_of old) → (depth : ℕ) → IsTyped depth (types_of d.pool.now) (name_at d.pool.now d.index) (view old) → IsMerged d bytes old new
    → AreMerged (types_of d.pool.now) (name_at d.pool.now d.index) (view old) bytes (view new)
merged_means d sound bytes b old new type also suits depth typed (rs, copy, spelled, copied, ordered, merges, accepts) =
    let pool = d.pool.now in
    let types = types_of pool in
    let t = name_at pool d.index in
    let told = named pool sound.names in
    let same : view old ≡ view_of pool d.index copy = seen_in pool d old type refl ∙ sym (copy_seen pool d.index (content_of old) copy copied) in
    let means = merged_meaning pool sound.keys sound.defaults types told 100 depth d refl copy (content_of new) rs (copy_suits 100 d (content_of old) copy copied suits) (subst (IsTyped depth types t) same typed) merges in
    let whole = subst (λ start. AreMerged types t start bytes (view_of pool d.index (content_of new))) (sym same)
    (rs, record { spelled = spelled; accepted = accepted pool sound.keys types told 100 d refl bytes rs b spelled (accepts suits) }, means) in
    subst (AreMerged types t (view old) bytes) (sym (seen_in pool d new also refl)) whole

-- and suits the type, in the program's words
merged_fits : (d : MessageDescriptor) (bytes : List ℕ) (old new : DynamicMessage) → Suits 100 d (content_of old) → IsMerged d bytes old new → Suits 100 d (content_of new)
merged_fits d bytes old new suits (rs, copy, spelled, copied, ordered, merges, accepts) = suits_stay 100 d copy (content_of new) rs merges (copy_suits 100 d (content_of old) copy copied suits)

-- and in the model's, where it was as deep as bytes may be, or deeper
pub merged_suits : (d : MessageDescriptor) → IsSound d.pool.now → (bytes : List ℕ) → AreBytes bytes → (old new : DynamicMessage) → old.descriptor ≡ d → new.descriptor ≡ d
    → Suits 100 d (content_of old) → (depth : ℕ) → 100 ≤ depth → IsTyped depth (types_of d.pool.now) (name_at d.pool.now d.index) (view old) → IsMerged d bytes old new
    → Suits 100 d (content_of new) × IsTyped depth (types_of d.pool.now) (name_at d.pool.now d.index) (view new)
merged_suits d sound bytes b old new type also suits depth le typed merged = (
  merged_fits d bytes old new suits merged,
  merged_deep (types_of d.pool.now) (have_defaults d.pool.now sound.keys sound.defaults) (name_at d.pool.now d.index) (view old) (view new) bytes depth le typed
      (merged_means d sound bytes b old new type also suits depth typed merged),
)

-- what is decoded suits its type
pub decoded_fits : (d : MessageDescriptor) (bytes : List ℕ) (m : DynamicMessage) → m.descriptor ≡ d → IsSpelled d bytes m → IsExclusive m → Suits 100 d (content_of m)
decoded_fits d bytes m type (rs, spelled, keeps, some, also, fields, (extensions, apart), accepts, ordered) chosen =
    filled_suits 100 d nothing (content_of m) rs
    (record { each = fields; chosen = subst (λ d. AreChosen d (choices_of m) (fields_of m)) type chosen })
    (record { each = extensions; behind = apart }) (nothing_suits (SuitsBelow 100) d)

-- bytes behind others
pub behind_means : (d : MessageDescriptor) → IsSound d.pool.now → (a b : List ℕ) → AreBytes b → (old new : DynamicMessage) → old.descriptor ≡ d → new.descriptor ≡ d
    → Suits 100 d (content_of old) → Mean (types_of d.pool.now) (name_at d.pool.now d.index) a (view old) → IsMerged d b old new
    → Mean (types_of d.pool.now) (name_at d.pool.now d.index) (a ++ b) (view new)
behind_means d sound a b second old new type also suits means merged =
    let types = types_of d.pool.now in
    let t = name_at d.pool.now d.index in
    let typed = merged_well types (have_defaults d.pool.now sound.keys sound.defaults) t model.nothing (view old) a (nothing_typed 100 types t) means in
    merged_in_pieces types t a b model.nothing (view old) (view new) means (merged_means d sound b second old new type also suits 100 typed merged)

-- one piece decoded and another merged
pub pieces_mean : (d : MessageDescriptor) → IsSound d.pool.now → (a b : List ℕ) → AreBytes a → AreBytes b → (old new : DynamicMessage) → old.descriptor ≡ d → new.descriptor ≡ d
    → IsSpelled d a old → IsExclusive old → IsMerged d b old new → Mean (types_of d.pool.now) (name_at d.pool.now d.index) (a ++ b) (view new)
pieces_mean d sound a b first second old new type also spelled chosen merged =
    behind_means d sound a b second old new type also (decoded_fits d a old type spelled chosen) (decoded_means d sound a first old type spelled) merged

bytes_joined : (a : List ℕ) (bs : List (List ℕ)) → AreBytes a → AllByRecursion AreBytes bs → AreBytes (a ++ concat bs)
bytes_joined [] [] first all = tt
bytes_joined [] (b ∷ bs) first all = bytes_joined b bs all.0 all.1
bytes_joined (n ∷ a) bs first all = (first.0, bytes_joined a bs first.1 all)

-- any number of pieces
through : (d : MessageDescriptor) → IsSound d.pool.now → (a : List ℕ) (bs : List (List ℕ)) → AllByRecursion AreBytes bs → (old new : DynamicMessage) → old.descriptor ≡ d → new.descriptor ≡ d
    → Suits 100 d (content_of old) → Mean (types_of d.pool.now) (name_at d.pool.now d.index) a (view old) → MergesEach d old bs new
    → Mean (types_of d.pool.now) (name_at d.pool.now d.index) (a ++ concat bs) (view new)
through d sound a [] all old new type also suits means same =
    let types = types_of d.pool.now in
    let t = name_at d.pool.now d.index in
    subst (λ bytes. Mean types t bytes (view new)) (sym (append-nil a)) (subst (λ m. Mean types t a (view m)) same means)
through d sound a (b ∷ bs) all old new type also suits means (next, between, merged, rest) =
    let types = types_of d.pool.now in
    let t = name_at d.pool.now d.index in
    let further = behind_means d sound a b all.0 old next type between suits means merged in
    subst (λ bytes. Mean types t bytes (view new)) (append_assoc a b (concat bs))
    (through d sound (a ++ b) bs all.1 next new between also (merged_fits d b old next suits merged) further rest)

pub each_means : (d : MessageDescriptor) → IsSound d.pool.now → (a : List ℕ) (bs : List (List ℕ)) → AreBytes a → AllByRecursion AreBytes bs → (old new : DynamicMessage) → old.descriptor ≡ d → new.descriptor ≡ d
    → IsSpelled d a old → IsExclusive old → MergesEach d old bs new → Mean (types_of d.pool.now) (name_at d.pool.now d.index) (a ++ concat bs) (view new)
each_means d sound a bs first all old new type also spelled chosen merges =
    through d sound a bs all old new type also (decoded_fits d a old type spelled chosen) (decoded_means d sound a first old type spelled) merges

-- and all decoded at once
pub pieces_alike : (d : MessageDescriptor) → IsSound d.pool.now → (a : List ℕ) (bs : List (List ℕ)) → AreBytes a → AllByRecursion AreBytes bs → (old new whole : DynamicMessage)
    → old.descriptor ≡ d → new.descriptor ≡ d → whole.descriptor ≡ d
    → IsSpelled d a old → IsExclusive old → MergesEach d old bs new → IsSpelled d (a ++ concat bs) whole → view new ≡ view whole
pieces_alike d sound a bs first all old new whole type also last spelled chosen merges together =
    one_meaning (types_of d.pool.now) (name_at d.pool.now d.index) model.nothing (a ++ concat bs) (view new) (view whole)
    (each_means d sound a bs first all old new type also spelled chosen merges)
    (decoded_means d sound (a ++ concat bs) (bytes_joined a bs first all) whole last together)

-- what is merged into a message in order leaves it so
pub merged_in_order : (d : MessageDescriptor) (bytes : List ℕ) (old new : DynamicMessage) → IsOrdered (content_of old) → IsMerged d bytes old new → IsOrdered (content_of new)
merged_in_order d bytes old new before (rs, copy, spelled, copied, ordered, merges, accepts) =
    merges.ordered (copy_ordered (content_of old) copy copied ordered before)

-- and into a message in shape, of as many levels as bytes have, or more
pub merged_in_shape : (exclusive : Bool) (d : MessageDescriptor) (bytes : List ℕ) (old new : DynamicMessage) → old.descriptor ≡ d → new.descriptor ≡ d
    → (levels : ℕ) → 100 ≤ levels → HasShape exclusive (suc levels) old → Suits 100 d (content_of old) → IsMerged d bytes old new → HasShape exclusive (suc levels) new
merged_in_shape exclusive d bytes old new type also levels le shape suits (rs, copy, spelled, copied, ordered, merges, accepts) =
    let before : IsShaped (HasShape exclusive levels) d (content_of old) =
    subst (λ (d : MessageDescriptor). IsShaped (HasShape exclusive levels) d (content_of old)) type (one_level exclusive levels old shape) in
    let held = copy_shaped exclusive levels d (content_of old) copy copied ordered before in
    merged_shaped exclusive 100 levels le new d also copy rs held (copy_suits 100 d (content_of old) copy copied suits) merges

merged_deeper : (d : MessageDescriptor) (bytes : List ℕ) (old new : DynamicMessage) → old.descriptor ≡ d → new.descriptor ≡ d
    → (levels : ℕ) → Shaped levels old → Suits 100 d (content_of old) → IsMerged d bytes old new → Shaped (suc (levels + 100)) new
merged_deeper d bytes old new type also levels shape =
    merged_in_shape false d bytes old new type also (levels + 100) (omega arith) (deeper_shape false levels (suc (levels + 100)) (omega arith) old shape)

-- so it is written in one form
pub merged_written : (d : MessageDescriptor) → IsSound d.pool.now → (bytes : List ℕ) (old new : DynamicMessage) → old.descriptor ≡ d → new.descriptor ≡ d
    → (levels : ℕ) → Shaped levels old → Suits 100 d (content_of old) → IsMerged d bytes old new
    → message_bytes new ≡ bytes_of (types_of d.pool.now) (name_at d.pool.now d.index) (view new)
merged_written d sound bytes old new type also levels shape suits merged =
    shape_written d sound new also (suc (levels + 100)) (merged_deeper d bytes old new type also levels shape suits merged)

-- and read again
pub merged_read : (d : MessageDescriptor) → IsSound d.pool.now → (bytes : List ℕ) → AreBytes bytes → (old new : DynamicMessage) → old.descriptor ≡ d → new.descriptor ≡ d
    → (levels : ℕ) → Shaped levels old → Suits 100 d (content_of old) → SuitsType (types_of d.pool.now) (name_at d.pool.now d.index) (view old) → IsMerged d bytes old new
    → length (message_bytes new) < 2 ^ 64 → AreBytes (message_bytes new)
    → (n : DynamicMessage) → n.descriptor ≡ d → IsSpelled d (message_bytes new) n → view n ≡ view new
merged_read d sound bytes b old new type also levels shape suits typed merged =
    shape_decoded d sound new also (suc (levels + 100)) (merged_deeper d bytes old new type also levels shape suits merged) (merged_suits d sound bytes b old new type also suits 100 (omega arith) typed merged).1

each_in_shape : (exclusive : Bool) (d : MessageDescriptor) (bs : List (List ℕ)) (old new : DynamicMessage) → old.descriptor ≡ d → new.descriptor ≡ d
    → HasShape exclusive 101 old → Suits 100 d (content_of old) → MergesEach d old bs new → HasShape exclusive 101 new
each_in_shape exclusive d [] old new type also shape suits same = subst (HasShape exclusive 101) same shape
each_in_shape exclusive d (b ∷ bs) old new type also shape suits (next, between, merged, rest) =
    each_in_shape exclusive d bs next new between also (merged_in_shape exclusive d b old next type between 100 (omega arith) shape suits merged) (merged_fits d b old next suits merged) rest

-- a decoded message stays in shape
pub pieces_in_shape : (exclusive : Bool) (d : MessageDescriptor) (a : List ℕ) (bs : List (List ℕ)) (old new : DynamicMessage) → old.descriptor ≡ d → new.descriptor ≡ d
    → IsSpelled d a old → IsExclusive old → MergesEach d old bs new → HasShape exclusive 101 new
pieces_in_shape exclusive d a bs old new type also spelled chosen merges =
    each_in_shape exclusive d bs old new type also (whole_shape exclusive 100 old (decoded_shape exclusive d a old type spelled) chosen) (decoded_fits d a old type spelled chosen) merges

-- and is written as what is decoded at once
pub pieces_written : (d : MessageDescriptor) → IsSound d.pool.now → (a : List ℕ) (bs : List (List ℕ)) → AreBytes a → AllByRecursion AreBytes bs → (old new whole : DynamicMessage)
    → old.descriptor ≡ d → new.descriptor ≡ d → whole.descriptor ≡ d
    → IsSpelled d a old → IsExclusive old → MergesEach d old bs new → IsSpelled d (a ++ concat bs) whole → message_bytes new ≡ message_bytes whole
pieces_written d sound a bs first all old new whole type also last spelled chosen merges together =
    shape_written d sound new also 101 (pieces_in_shape false d a bs old new type also spelled chosen merges)
    ∙ ap (bytes_of (types_of d.pool.now) (name_at d.pool.now d.index)) (pieces_alike d sound a bs first all old new whole type also last spelled chosen merges together)
    ∙ sym (shape_written d sound whole last 101 (decoded_shaped d (a ++ concat bs) whole last together))
