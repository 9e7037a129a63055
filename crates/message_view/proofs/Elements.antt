-- Records of single values and of lists, and what they leave.
use Rattle.std.proofs.Common.{◌≡◌, inl, inr, ℕ, Bool, List, [], ◌∷◌, ◌++◌, map, Option, Some, None, option_map, refl, sym, ap, ◌∙◌, subst, append-nil}
use Rattle.std.specs.List.{flat_map}
use Rattle.reflect_tables.specs.Types.{PoolType, FieldType, KindType}
use Rattle.reflect_tables.specs.Types as types
use Rattle.reflect_pool.specs.Kinds.{IsKind}
use Rattle.reflect_pool.specs.declared.kind.Kind.{Kind}
use Rattle.reflect_pool.specs.declared.kind.Kind.TheVariants as publics
use Rattle.reflect_pool.specs.declared.message.MessageDescriptor.{MessageDescriptor}
use Rattle.reflect_wire.specs.Records.{Payload}
use Rattle.reflect_scalar.specs.Kinds.{kind_type, wire_type, packs}
use Rattle.reflect_scalar.specs.Meaning.{StandsFor}
use Rattle.reflect_scalar.specs.Singles as held
use Rattle.reflect_scalar.proofs.Defaulted.{kind_is}
use Rattle.reflect_scalar.proofs.Meanings.{form_of_meaning}
use Rattle.reflect_message.specs.Contents.{Content, content_of, nothing}
use Rattle.reflect_message.specs.KindTypes.{IsScalarType}
use Rattle.reflect_message.specs.Lists.{items_held}
use Rattle.reflect_message.specs.Singles as singles
use Rattle.reflect_message.specs.Names.{DynamicMessage, Value}
use Rattle.reflect_decode.specs.Elements.{AreElements}
use Rattle.reflect_decode.specs.Messages.{Takes, IsMade, MergesMessage}
use Rattle.reflect_decode.specs.Packed.{IsPacked}
use Rattle.reflect_decode.specs.Scalars.{AreValues, ContinuesWith, HoldsLast}
use Rattle.reflect_decode.specs.Taking.{AreMade, AddsMessages}
use Rattle.protobuf_model.specs.Values as model
use Rattle.protobuf_model.specs.Values.{single, message, list, absent, chain_of}
use Rattle.protobuf_model.specs.Types.{scalar, nested}
use Rattle.protobuf_model.specs.Scalars.{meant}
use Rattle.protobuf_model.specs.Scalars as scalars
use Rattle.protobuf_model.specs.Reader.{inside_of}
use Rattle.protobuf_model.specs.Meaning.{Merge, last_set, last_or, settle, taken, joined, packed_or_one, elements, if_any}
use Rattle.protobuf_model.proofs.Bridge.{last_is, SpellValues, packed_is, single_is}
use Rattle.protobuf_model.proofs.Pieces.{map_append, flat_map-append}
use Rattle.message_view.specs.Singles.{scalar_of, single_view}
use Rattle.message_view.specs.Types.{name_at, frame_of, kind_in, part_of}
use Rattle.message_view.specs.Views.{held_in, content_view, view, view_of}
use Rattle.message_view.proofs.Scalars.{meant_is}
use Rattle.message_view.proofs.Seen.{single_seen, message_seen, list_seen, view_opened}

-- kinds that are no messages
pub kind_scalar : (pool : PoolType) (group : Bool) (t : KindType) → IsScalarType t → kind_in pool group t ≡ scalar (scalar_of t)
kind_scalar pool group (types.message i) h = absurd h
kind_scalar pool group t h = refl

pub kind_message : (pool : PoolType) (group : Bool) (t : KindType) (i : ℕ) → t ≡ types.message i → kind_in pool group t ≡ nested (frame_of group) (name_at pool i)
kind_message pool group t i e = ap (kind_in pool group) e

-- what the last record means
pub meant_in : (pool : PoolType) (kind : Kind) (t : KindType) (p : Payload) (v : held.Single) → IsKind pool kind t → StandsFor kind p v → meant (scalar_of t) p ≡ single_view v ∷ []
meant_in pool kind t p v is h = ap (λ t. meant (scalar_of t) p) (kind_is pool kind t is) ∙ meant_is kind p v h

-- the wire type, and whether values are packed, of each kind
pub wire_same : (k : Kind) → wire_type k ≡ scalars.wire_type (scalar_of (kind_type k))
wire_same publics.Double = refl
wire_same k = refl

pub packs_same : (k : Kind) → packs (wire_type k) ≡ scalars.packs (scalar_of (kind_type k))
packs_same publics.Double = refl
packs_same k = refl

-- a value that is a single one, where its content is set
set_single : (pool : PoolType) (f : FieldType) (new : Option Value) (v : Value) (w : held.Single) → new ≡ Some v → singles.single v ≡ Some w → settle (part_of pool f) (single_view w) ≡ held_in pool f (option_map content_view new)
set_single pool f new v w put is = sym (ap (λ o. held_in pool f (option_map content_view o)) put ∙ ap (λ c. held_in pool f (Some c)) (single_seen v w is))

-- one value of a kind that is no message
pub single_left : (inner : Merge) (pool : PoolType) (f : FieldType) (new : Option Value) (ps : List Payload) → IsScalarType f.kind → HoldsLast pool f.kind new ps
    → taken inner (part_of pool f) (kind_in pool f.group f.kind) absent ps ≡ held_in pool f (option_map content_view new)
single_left inner pool f new ps type (v, w, put, is, (kind, lead, p, kind_of, ends, means)) =
    let s = scalar_of f.kind in
    ap (λ k. taken inner (part_of pool f) k absent ps) (kind_scalar pool f.group f.kind type)
    ∙ ap (λ ps. last_set (part_of pool f) absent (flat_map (meant s) ps)) ends
    ∙ last_is (part_of pool f) s absent lead p (single_view w) (meant_in pool kind f.kind p w kind_of means)
    ∙ set_single pool f new v w put is

-- the last value, or the one that stands where there is none
pub last_or_is : (s : types.KindType) (d : model.Single) (lead : List Payload) (p : Payload) (v : model.Single) → meant (scalar_of s) p ≡ v ∷ [] → last_or d (flat_map (meant (scalar_of s)) (lead ++ p ∷ [])) ≡ v
last_or_is s d lead p v e = ap (last_or d) (flat_map-append (meant (scalar_of s)) lead (p ∷ []) ∙ ap (λ vs. flat_map (meant (scalar_of s)) lead ++ vs) (append-nil (meant (scalar_of s) p) ∙ e)) ∙ last_of d (flat_map (meant (scalar_of s)) lead) where
  last_of : (d : model.Single) (vs : List model.Single) → last_or d (vs ++ v ∷ []) ≡ v
  last_of d [] = refl
  last_of d (w ∷ vs) = last_of w vs

-- the values of one record
spelled_values : (kind : Kind) (bytes : List ℕ) (vs : List held.Single) → IsPacked kind bytes vs → SpellValues (scalar_of (kind_type kind)) bytes (map single_view vs)
spelled_values kind bytes [] h = h
spelled_values kind bytes (v ∷ vs) h =
    let one = h.2 in
    (h.0, h.1, one.0, sym one.1.0 ∙ wire_same kind, one.1.1, meant_is kind one.0 v one.2, spelled_values kind h.1 vs h.3, h.4)

pub elements_are : (kind : Kind) (p : Payload) (vs : List held.Single) → AreElements kind p vs → packed_or_one (scalar_of (kind_type kind)) p ≡ map single_view vs
elements_are kind p vs (inl (v, is, means)) = single_is (scalar_of (kind_type kind)) p (single_view v) (form_of_meaning kind p v means ∙ wire_same kind) (meant_is kind p v means) ∙ sym (ap (map single_view) is)
elements_are kind p vs (inr (body, is, packed, row)) = ap (packed_or_one (scalar_of (kind_type kind))) is ∙ packed_is (scalar_of (kind_type kind)) body (map single_view vs) (sym (packs_same kind) ∙ packed) (spelled_values kind body vs row)

abbrev pub singly : held.Single → model.Content
singly v = single (single_view v)

map_twice : (vs : List held.Single) → map single (map single_view vs) ≡ map singly vs
map_twice [] = refl
map_twice (v ∷ vs) = ap (λ l. singly v ∷ l) (map_twice vs)

pub values_are : (inner : Merge) (pool : PoolType) (t : KindType) (ps : List Payload) (vs : List held.Single) → AreValues pool t ps vs → flat_map (elements inner (scalar (scalar_of t))) ps ≡ map singly vs
values_are inner pool t [] vs h = sym (ap (map singly) h)
values_are inner pool t (p ∷ ps) vs (kind, here, behind, is, some, rest, whole) =
    ap (λ cs. cs ++ flat_map (elements inner (scalar (scalar_of t))) ps) (ap (λ t. map single (packed_or_one (scalar_of t) p)) (kind_is pool kind t is) ∙ ap (map single) (elements_are kind p here some) ∙ map_twice here)
    ∙ ap (λ cs. map singly here ++ cs) (values_are inner pool t ps behind rest) ∙ sym (map_append singly here behind) ∙ sym (ap (map singly) whole)

pub singles_seen : (added : List Value) (vs : List held.Single) → map singles.single added ≡ map Some vs → map content_view added ≡ map singly vs
singles_seen [] [] e = refl
singles_seen [] (v ∷ vs) e = absurd (cc e)
singles_seen (a ∷ added) [] e = absurd (cc e)
singles_seen (a ∷ added) (v ∷ vs) e =
    let here : singles.single a ≡ Some v = cc e in
    let rest : map singles.single added ≡ map Some vs = cc e in
    ap (λ c. c ∷ map content_view added) (single_seen a v here) ∙ ap (λ cs. singly v ∷ cs) (singles_seen added vs rest)

-- a list as it is held
some_list : (pool : PoolType) (f : FieldType) (cs : List model.Content) → if_any cs ≡ held_in pool f (Some (list (chain_of cs)))
some_list pool f [] = refl
some_list pool f (c ∷ cs) = refl

pub list_held : (pool : PoolType) (f : FieldType) (new : Option Value) (after : List Value) → items_held new ≡ Some after → if_any (map content_view after) ≡ held_in pool f (option_map content_view new)
list_held pool f None after e = let none : after ≡ [] = cc e in ap (λ l. if_any (map content_view l)) none
list_held pool f (Some v) after e = some_list pool f (map content_view after) ∙ sym (ap (λ c. held_in pool f (Some c)) (list_seen v after e))

-- behind nothing stands what is added
pub all_added : (before after added : List Value) → items_held None ≡ Some before → after ≡ before ++ added → after ≡ added
all_added before after added e is = let none : before ≡ [] = cc e in is ∙ ap (λ l. l ++ added) none

pub values_left : (inner : Merge) (pool : PoolType) (f : FieldType) (new : Option Value) (ps : List Payload) → IsScalarType f.kind → ContinuesWith pool f.kind None new ps
    → if_any (flat_map (elements inner (kind_in pool f.group f.kind)) ps) ≡ held_in pool f (option_map content_view new)
values_left inner pool f new ps type (before, after, vs, none, stands, values, (added, behind, seen)) =
    ap (λ k. if_any (flat_map (elements inner k) ps)) (kind_scalar pool f.group f.kind type)
    ∙ ap if_any (values_are inner pool f.kind ps vs values ∙ sym (singles_seen added vs seen) ∙ sym (ap (map content_view) (all_added before after added none behind)))
    ∙ list_held pool f new after stands

-- what is known of messages one level below, and of what is inside entries
pub record Nests (pool : PoolType) (inner : Merge) (takes : Takes) : Type 0 where
  pub messages : (grouped : Bool) (d : MessageDescriptor) → d.pool.now ≡ pool → (c : Content) (ps : List Payload) → takes.message grouped d nothing c ps → inner (name_at pool d.index) model.nothing (joined ps) ≡ view_of pool d.index c
  pub entries : (p : Payload) (rs : List (ℕ × Payload)) → takes.entry p rs → inside_of p ≡ rs

-- a message as its type in the pool has it
pub seen_in : (pool : PoolType) (d : MessageDescriptor) (m : DynamicMessage) → m.descriptor ≡ d → d.pool.now ≡ pool → view m ≡ view_of pool d.index (content_of m)
seen_in pool d m type there = view_opened m ∙ ap (λ (d : MessageDescriptor). view_of d.pool.now d.index (content_of m)) type ∙ ap (λ p. view_of p d.index (content_of m)) there

module _ (pool : PoolType) (inner : Merge) (takes : Takes) (nests : Nests pool inner takes) where
  made_is : (group : Bool) (t : KindType) (kind : Kind) (p : Payload) (v : Value) → IsKind pool kind t → IsMade (takes.message group) kind p v → elements inner (kind_in pool group t) p ≡ content_view v ∷ []
  made_is group t (publics.Message d) p v is (m, there, type, takes_it) =
      ap (λ k. elements inner k p) (kind_message pool group t d.index is.1)
      ∙ ap (λ m. message m ∷ []) (ap (inner (name_at pool d.index) model.nothing) (sym (append-nil (inside_of p))) ∙ nests.messages group d is.0 (content_of m) (p ∷ []) takes_it ∙ sym (seen_in pool d m type is.0))
      ∙ ap (λ c. c ∷ []) (sym (message_seen v m there))
  made_is group t kind p v is h = absurd h

  pub made_are : (group : Bool) (t : KindType) (ps : List Payload) (vs : List Value) → AreMade (takes.message group) pool t ps vs → flat_map (elements inner (kind_in pool group t)) ps ≡ map content_view vs
  made_are group t [] vs h = sym (ap (map content_view) h)
  made_are group t (p ∷ ps) vs (kind, v, behind, is, one, rest, whole) =
      ap (λ cs. cs ++ flat_map (elements inner (kind_in pool group t)) ps) (made_is group t kind p v is one)
      ∙ ap (λ cs. content_view v ∷ cs) (made_are group t ps behind rest) ∙ sym (ap (map content_view) whole)

  -- a list of messages
  pub messages_left : (f : FieldType) (new : Option Value) (ps : List Payload) → AddsMessages (takes.message f.group) pool f.kind None new ps
      → if_any (flat_map (elements inner (kind_in pool f.group f.kind)) ps) ≡ held_in pool f (option_map content_view new)
  messages_left f new ps (before, after, added, none, stands, made, behind) =
      ap if_any (made_are f.group f.kind ps added made ∙ sym (ap (map content_view) (all_added before after added none behind)))
      ∙ list_held pool f new after stands

  -- a message that has taken in payloads
  pub merged_is : (group : Bool) (t : KindType) (v : Value) (ps : List Payload) → MergesMessage (takes.message group) pool t None (Some v) ps
      → (i : ℕ) × (t ≡ types.message i) × (message (inner (name_at pool i) model.nothing (joined ps)) ≡ content_view v)
  merged_is group t v ps (before, after, (is, empty), stands, type, takes_it) =
      let d = before.descriptor in
      let from_nothing = subst (λ c. takes.message group d c (content_of after) ps) empty takes_it in
      (d.index, is.1, ap message (nests.messages group d is.0 (content_of after) ps from_nothing ∙ sym (seen_in pool d after type is.0)) ∙ sym (message_seen v after stands))

  -- one message
  pub message_left : (f : FieldType) (new : Option Value) (p : Payload) (ps : List Payload) → MergesMessage (takes.message f.group) pool f.kind None new (p ∷ ps)
      → taken inner (part_of pool f) (kind_in pool f.group f.kind) absent (p ∷ ps) ≡ held_in pool f (option_map content_view new)
  message_left f None p ps h = absurd (cc h.3)
  message_left f (Some v) p ps h =
      let is = merged_is f.group f.kind v (p ∷ ps) h in
      ap (λ k. taken inner (part_of pool f) k absent (p ∷ ps)) (kind_message pool f.group f.kind is.0 is.1)
      ∙ ap (λ c. held_in pool f (Some c)) is.2
