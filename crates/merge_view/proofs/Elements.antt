-- Records of single values, of messages and of lists behind what a field held before.
use Rattle.std.proofs.Common.{◌≡◌, ℕ, Bool, List, [], ◌∷◌, ◌++◌, map, Option, Some, None, option_map, refl, sym, ap, ◌∙◌, subst, append-nil}
use Rattle.std.specs.List.{flat_map}
use Rattle.reflect_tables.specs.Types.{PoolType, FieldType}
use Rattle.reflect_pool.specs.Kinds.{IsKind}
use Rattle.reflect_pool.specs.declared.kind.Kind.TheVariants as publics
use Rattle.reflect_pool.specs.declared.message.MessageDescriptor.{MessageDescriptor}
use Rattle.reflect_wire.specs.Records.{Payload}
use Rattle.reflect_message.specs.Contents.{Content, content_of}
use Rattle.reflect_message.specs.KindTypes.{IsScalarType}
use Rattle.reflect_message.specs.Lists.{items_held}
use Rattle.reflect_message.specs.Names.{DynamicMessage, Value}
use Rattle.reflect_decode.specs.Messages.{Takes, MergesMessage}
use Rattle.reflect_decode.specs.Scalars.{ContinuesWith, HoldsLast}
use Rattle.reflect_decode.specs.Suits.{Suiting, IsSuiting}
use Rattle.reflect_decode.specs.Taking.{AddsMessages}
use Rattle.protobuf_model.specs.Values as model
use Rattle.protobuf_model.specs.Values.{Held, Message, message, content}
use Rattle.protobuf_model.specs.Types.{Name, Part, Label, one, nested}
use Rattle.protobuf_model.specs.Scalars.{meant}
use Rattle.protobuf_model.specs.Meaning.{Merge, last_set, taken, joined, elements, items, if_any}
use Rattle.protobuf_model.specs.Typed.{IsOf, IsHeldOf}
use Rattle.protobuf_model.proofs.Bridge.{last_is}
use Rattle.protobuf_model.proofs.Pieces.{map_append, items-if_any}
use Rattle.message_view.specs.Singles.{scalar_of, single_view}
use Rattle.message_view.specs.Types.{name_at, frame_of, kind_in, part_of}
use Rattle.message_view.specs.Views.{held_in, content_view, view_of}
use Rattle.message_view.proofs.Elements.{kind_scalar, kind_message, meant_in, values_are, singles_seen, made_are, list_held, Nests, seen_in}
use Rattle.message_view.proofs.Seen.{single_seen, message_seen}

-- the last value is held, whatever was before
pub single_behind : (inner : Merge) (pool : PoolType) (f : FieldType) (h : Held) (new : Option Value) (ps : List Payload) → IsScalarType f.kind → HoldsLast pool f.kind new ps
    → taken inner (part_of pool f) (kind_in pool f.group f.kind) h ps ≡ held_in pool f (option_map content_view new)
single_behind inner pool f h new ps type (v, w, put, is, (kind, lead, p, kind_of, ends, means)) =
    let s = scalar_of f.kind in
    ap (λ k. taken inner (part_of pool f) k h ps) (kind_scalar pool f.group f.kind type)
    ∙ ap (λ ps. last_set (part_of pool f) h (flat_map (meant s) ps)) ends
    ∙ last_is (part_of pool f) s h lead p (single_view w) (meant_in pool kind f.kind p w kind_of means)
    ∙ sym (ap (λ o. held_in pool f (option_map content_view o)) put ∙ ap (λ c. held_in pool f (Some c)) (single_seen v w is))

-- behind the items of a list stand those of the records
items_are : (pool : PoolType) (f : FieldType) (old : Option Value) (before : List Value) → items_held old ≡ Some before → items (held_in pool f (option_map content_view old)) ≡ map content_view before
items_are pool f old before e = ap items (sym (list_held pool f old before e)) ∙ items-if_any (map content_view before)

behind : (pool : PoolType) (f : FieldType) (old new : Option Value) (before after added : List Value) (cs : List model.Content) → items_held old ≡ Some before → items_held new ≡ Some after → after ≡ before ++ added → cs ≡ map content_view added
    → if_any (items (held_in pool f (option_map content_view old)) ++ cs) ≡ held_in pool f (option_map content_view new)
behind pool f old new before after added cs at stands is same =
    ap if_any (ap (λ l. l ++ cs) (items_are pool f old before at) ∙ ap (λ l. map content_view before ++ l) same ∙ sym (map_append content_view before added) ∙ sym (ap (map content_view) is))
    ∙ list_held pool f new after stands

pub list_stays : (pool : PoolType) (f : FieldType) (old : Option Value) (before : List Value) → items_held old ≡ Some before → if_any (items (held_in pool f (option_map content_view old)) ++ []) ≡ held_in pool f (option_map content_view old)
list_stays pool f old before at = behind pool f old old before before [] [] at at (sym (append-nil before)) refl

pub values_behind : (inner : Merge) (pool : PoolType) (f : FieldType) (old new : Option Value) (ps : List Payload) → IsScalarType f.kind → ContinuesWith pool f.kind old new ps
    → if_any (items (held_in pool f (option_map content_view old)) ++ flat_map (elements inner (kind_in pool f.group f.kind)) ps) ≡ held_in pool f (option_map content_view new)
values_behind inner pool f old new ps type (before, after, vs, at, stands, values, (added, is, seen)) =
    ap (λ k. if_any (items (held_in pool f (option_map content_view old)) ++ flat_map (elements inner k) ps)) (kind_scalar pool f.group f.kind type)
    ∙ behind pool f old new before after added _ at stands is (values_are inner pool f.kind ps vs values ∙ sym (singles_seen added vs seen))

module _ (pool : PoolType) (inner : Merge) (takes : Takes) (nests : Nests pool inner takes) where
  pub messages_behind : (f : FieldType) (old new : Option Value) (ps : List Payload) → AddsMessages (takes.message f.group) pool f.kind old new ps
      → if_any (items (held_in pool f (option_map content_view old)) ++ flat_map (elements inner (kind_in pool f.group f.kind)) ps) ≡ held_in pool f (option_map content_view new)
  messages_behind f old new ps (before, after, added, at, stands, made, is) = behind pool f old new before after added _ at stands is (made_are pool inner takes nests f.group f.kind ps added made)

-- what is known of messages one level below that hold something before
pub record GoesOn (pool : PoolType) (inner : Merge) (takes : Takes) (suits : Suiting) (typed : Name → Message → Type 0) : Type 0 where
  pub messages : (grouped : Bool) (d : MessageDescriptor) → d.pool.now ≡ pool → (old new : Content) (ps : List Payload) → suits d old → typed (name_at pool d.index) (view_of pool d.index old) → takes.message grouped d old new ps
      → inner (name_at pool d.index) (view_of pool d.index old) (joined ps) ≡ view_of pool d.index new

-- what is held suits a field of this part and this label
abbrev pub SuitsPart : (Name → Message → Type 0) → ℕ → Option ℕ → Bool → Part → Label → Held → Type 0
SuitsPart typed levels o x p l h = IsHeldOf typed levels (Some (record { part = p; label = l; oneof = o; extension = x })) h

-- a message takes in the records inside the payloads
module _ (pool : PoolType) (inner : Merge) (takes : Takes) (suits : Suiting) (typed : Name → Message → Type 0) (levels : ℕ) (goes_on : GoesOn pool inner takes suits typed) (o : Option ℕ) (x : Bool) where
  pub message_behind : (f : FieldType) (v : Value) (new : Option Value) (p : Payload) (ps : List Payload) → IsSuiting suits pool f.kind v → SuitsPart typed levels o x (part_of pool f) one (held_in pool f (Some (content_view v))) → MergesMessage (takes.message f.group) pool f.kind (Some v) new (p ∷ ps)
      → taken inner (part_of pool f) (kind_in pool f.group f.kind) (held_in pool f (Some (content_view v))) (p ∷ ps) ≡ held_in pool f (option_map content_view new)
  message_behind f v None p ps its is h = absurd (cc h.3)
  message_behind f v (Some w) p ps (m, there, kind, fits) is (before, after, at, stands, type, takes_it) =
      let same : m ≡ before = cc (there, at) in
      let d = before.descriptor in
      let of = subst (λ (m : DynamicMessage). IsKind pool (publics.Message m.descriptor) f.kind) same kind in
      let its = subst (λ (m : DynamicMessage). suits m.descriptor (content_of m)) same fits in
      let start = view_of pool d.index (content_of before) in
      let k = kind_message pool f.group f.kind d.index of.1 in
      let seen : content_view v ≡ message start = message_seen v before at ∙ ap message (seen_in pool d before refl of.0) in
      let whole = subst (λ c. SuitsPart typed levels o x (part_of pool f) one (held_in pool f (Some c))) seen is in
      let suited = subst (λ k. IsOf typed k (message start)) k whole.0 in
      ap (λ k. taken inner (part_of pool f) k (held_in pool f (Some (content_view v))) (p ∷ ps)) k
      ∙ ap (λ c. taken inner (part_of pool f) (nested (frame_of f.group) (name_at pool d.index)) (held_in pool f (Some c)) (p ∷ ps)) seen
      ∙ ap (λ m. content (message m)) (goes_on.messages f.group d of.0 (content_of before) (content_of after) (p ∷ ps) its suited takes_it ∙ sym (seen_in pool d after type of.0))
      ∙ sym (ap (λ c. held_in pool f (Some c)) (message_seen w after stands))
