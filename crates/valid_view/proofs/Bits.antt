-- Single values that payloads mean fit the types of the code, where the payloads fit their forms: numbers have their bits, texts are of UTF-8, and no value has more bytes than a length can say.
use Rattle.std.proofs.Common.{◌≡◌, ◌≤◌, ◌<◌, ◌^◌, ◌-◌, inl, inr, ℕ, suc, Bool, true, false, List, [], ◌∷◌, ◌++◌, length, Some, IfSome, Vec, sym, subst, arith}
use Rattle.std.specs.List.{AllByRecursion}
use Rattle.reflect_tables.specs.Types.{KindType, PoolType}
use Rattle.reflect_wire.specs.Records.{Payload, SpellsRecords, delimited, group}
use Rattle.reflect_wire.specs.Views.{records_of}
use Rattle.reflect_wire.specs.Written.{AreBytes, FitsPayload, FitsRecords}
use Rattle.reflect_pool.specs.declared.kind.Kind.{Kind}
use Rattle.reflect_pool.specs.declared.message.MessageDescriptor.{MessageDescriptor}
use Rattle.reflect_scalar.specs.Keys.{key_view}
use Rattle.reflect_scalar.specs.Kinds.{kind_type}
use Rattle.reflect_scalar.specs.Meaning.{StandsFor}
use Rattle.reflect_scalar.specs.Singles as held
use Rattle.reflect_scalar.specs.Written.{Fits}
use Rattle.reflect_scalar.specs.declared.map_key.MapKey.{MapKey}
use Rattle.reflect_scalar.specs.declared.map_key.MapKey.TheVariants as keys
use Rattle.reflect_copies.proofs.Alike.{Open}
use Rattle.reflect_decode.specs.Elements.{AreElements}
use Rattle.reflect_decode.specs.Keeps as keeps
use Rattle.reflect_decode.specs.Messages.{AreInside, IsEntryBody, IsInside}
use Rattle.reflect_decode.specs.Packed.{IsPacked}
use Rattle.reflect_decode.specs.Scalars.{AreValues, IsLast}
use Rattle.reflect_message.specs.Names.{Value}
use Rattle.reflect_message.specs.Singles as singles
use Rattle.reflect_message.specs.declared.parts.HeldOf.TheOpen.{ValueOf-F}
use Rattle.reflect_message.specs.declared.parts.HeldOf.TheViews.{out-ValueOf}
use Rattle.protobuf_model.specs.Scalars.{Suits}
use Rattle.protobuf_model.specs.Types.{Scalar}
use Rattle.protobuf_model.specs.Types as kinds
use Rattle.protobuf_model.proofs.Arranged.{all_append, all_payloads}
use Rattle.protobuf_model.proofs.Lists.{all_map}
use Rattle.message_view.specs.Singles.{scalar_of, single_view}
use Rattle.message_view.proofs.Oneofs.{payloads_same}
use Rattle.message_view.proofs.Plain.{HasBytes, HaveBytes, IsPlainRecord, back_bytes, front_bytes, packed_fits, plain_records, spelled_plain}
use Rattle.message_view.proofs.Scalars.{suits_is}
use Rattle.message_view.proofs.Seen.{single_in}

-- what is so of all holds of those behind
pub all_behind : {X : Type 0} (P : X → Type 0) (a b : List X) → AllByRecursion P (a ++ b) → AllByRecursion P b
all_behind P [] b all = all
all_behind P (x ∷ a) b all = all_behind P a b all.1

-- ---- lengths: what the code holds has no more bytes than a length can say
vec_short : {X Z : Type 0} (v : Vec X Z) → length v.items < 2 ^ 64
vec_short v =
    let same : v.len ≡ length v.items = v.ok.0 in
    let within : v.len ≤ v.cap = v.ok.1 in
    let small : v.cap < 2 ^ 63 = v.small in
    omega (arith, same, within, small)

abbrev IsShort : held.Single → Type 0
IsShort (held.text t) = length t < 2 ^ 64
IsShort (held.blob b) = length b < 2 ^ 64
IsShort w = Unit {0}

open_short : (o : Open) → IfSome (single_in o) IsShort
open_short (ValueOf-F.String t) = vec_short t.bytes
open_short (ValueOf-F.Bytes b) = vec_short b
open_short o = tt

pub value_short : (v : Value) (w : held.Single) → singles.single v ≡ Some w → IsShort w
value_short v w at = subst (λ o. IfSome o IsShort) at (open_short (out-ValueOf MessageDescriptor v))

pub key_short : (k : MapKey) → IsShort (key_view k)
key_short (keys.String t) = vec_short t.bytes
key_short k = tt

-- ---- single values of some kind
abbrev pub IsSuited : held.Single → Type 0
IsSuited w = (k : Scalar) × Suits k (single_view w)

pub suited_fits : (k : Scalar) (w : held.Single) → Suits k (single_view w) → IsShort w → Fits w
suited_fits kinds.int32 (held.int32 z) suits short = suits
suited_fits kinds.sint32 (held.int32 z) suits short = suits
suited_fits kinds.sfixed32 (held.int32 z) suits short = suits
suited_fits kinds.int64 (held.int64 z) suits short = suits
suited_fits kinds.sint64 (held.int64 z) suits short = suits
suited_fits kinds.sfixed64 (held.int64 z) suits short = suits
suited_fits kinds.uint32 (held.uint32 n) suits short = suits
suited_fits kinds.fixed32 (held.uint32 n) suits short = suits
suited_fits kinds.uint64 (held.uint64 n) suits short = suits
suited_fits kinds.fixed64 (held.uint64 n) suits short = suits
suited_fits kinds.bool (held.truth b) suits short = tt
suited_fits kinds.string (held.text t) suits short = (suits, short)
suited_fits kinds.bytes (held.blob b) suits short = short
suited_fits kinds.enumeration (held.enumerated z) suits short = suits
suited_fits k w suits short = absurd suits

-- ---- payloads that fit their forms, and are made of bytes
abbrev pub IsFine : ℕ → Payload → Type 0
IsFine levels p = FitsPayload levels p × HasBytes p

abbrev pub AreFine : ℕ → List (ℕ × Payload) → Type 0
AreFine levels rs = AllByRecursion (λ (r : ℕ × Payload). IsFine levels r.1) rs

plain_fine : (levels : ℕ) (rs : List (ℕ × Payload)) → AllByRecursion (IsPlainRecord levels) rs → AreFine levels rs
plain_fine levels rs all = all_map (IsPlainRecord levels) (λ (r : ℕ × Payload). IsFine levels r.1) rs (λ r plain. (plain.fits, plain.bytes)) all

pub spelled_fine : (levels : ℕ) (bytes : List ℕ) (rs : List (ℕ × Payload)) → AreBytes bytes → SpellsRecords levels bytes (records_of rs) → AreFine levels rs
spelled_fine levels bytes rs b spelled = plain_fine levels rs (spelled_plain levels bytes rs b spelled)

-- those of a number
pub fine_at : (levels n : ℕ) (rs : List (ℕ × Payload)) → AreFine levels rs → AllByRecursion (IsFine levels) (keeps.payloads n rs)
fine_at levels n rs all = subst (AllByRecursion (IsFine levels)) (sym (payloads_same n rs)) (all_payloads (λ (r : ℕ × Payload). IsFine levels r.1) n rs all)

-- records inside a payload
inside_fine : (grouped : Bool) (levels : ℕ) (p : Payload) (rs : List (ℕ × Payload)) → IsFine (suc levels) p → IsInside grouped levels p rs → AreFine levels rs
inside_fine false levels (delimited body) rs fine inside = spelled_fine levels body rs fine.1 inside
inside_fine true levels (group within) rs fine inside =
    let one_down : suc levels - 1 ≡ levels = omega arith in
    let fits = subst (λ l. FitsRecords l within) one_down fine.0.1 in
    plain_fine levels rs (plain_records levels rs (subst (FitsRecords levels) inside fits) (subst HaveBytes inside fine.1))
inside_fine grouped levels p rs fine inside = absurd inside

pub all_inside_fine : (grouped : Bool) (levels : ℕ) (ps : List Payload) (rs : List (ℕ × Payload)) → AllByRecursion (IsFine (suc levels)) ps → AreInside grouped levels ps rs → AreFine levels rs
all_inside_fine grouped levels [] rs fine h = subst (AreFine levels) (sym h) tt
all_inside_fine grouped levels (p ∷ ps) rs fine (here, behind, inside, rest, whole) =
    subst (AreFine levels) (sym whole)
    (all_append (λ (r : ℕ × Payload). IsFine levels r.1) here behind (inside_fine grouped levels p here fine.0 inside) (all_inside_fine grouped levels ps behind fine.1 rest))

-- and those of a map's entry
pub entry_fine : (levels : ℕ) (p : Payload) (rs : List (ℕ × Payload)) → IsFine levels p → IsEntryBody levels p rs → AreFine levels rs
entry_fine levels (delimited body) rs fine inside = spelled_fine levels body rs fine.1 inside
entry_fine levels p rs fine inside = absurd inside

-- ---- what payloads mean
packed_suited : (kind : Kind) (bytes : List ℕ) (ws : List held.Single) → AreBytes bytes → IsPacked kind bytes ws → AllByRecursion IsSuited ws
packed_suited kind bytes [] b row = tt
packed_suited kind bytes (w ∷ ws) b (front, rest, (p, plain, means), more, joined) =
    let both : AreBytes (front ++ rest) = subst AreBytes joined b in
    ((scalar_of (kind_type kind), suits_is kind p w 0 means (packed_fits front p (front_bytes front rest both) plain.1)), packed_suited kind rest ws (back_bytes front rest both) more)

module _ (levels : ℕ) where
  abbrev AllFine : List Payload → Type 0
  AllFine ps = AllByRecursion (IsFine levels) ps

  stands_suited : (kind : Kind) (p : Payload) (w : held.Single) → IsFine levels p → StandsFor kind p w → IsSuited w
  stands_suited kind p w fine means = (scalar_of (kind_type kind), suits_is kind p w levels means fine.0)

  elements_suited : (kind : Kind) (p : Payload) (ws : List held.Single) → IsFine levels p → AreElements kind p ws → AllByRecursion IsSuited ws
  elements_suited kind p ws fine (inl (w, one, means)) = subst (AllByRecursion IsSuited) (sym one) (stands_suited kind p w fine means, tt)
  elements_suited kind p ws fine (inr (body, same, packs_it, row)) = packed_suited kind body ws (subst HasBytes same fine.1) row

  pub values_suited : (pool : PoolType) (t : KindType) (ps : List Payload) (ws : List held.Single) → AllFine ps → AreValues pool t ps ws → AllByRecursion IsSuited ws
  values_suited pool t [] ws fine h = subst (AllByRecursion IsSuited) (sym h) tt
  values_suited pool t (p ∷ ps) ws fine (kind, here, behind, is, elements, rest, whole) =
      subst (AllByRecursion IsSuited) (sym whole) (all_append IsSuited here behind (elements_suited kind p here fine.0 elements) (values_suited pool t ps behind fine.1 rest))

  pub last_suited : (pool : PoolType) (t : KindType) (ps : List Payload) (w : held.Single) → AllFine ps → IsLast pool t ps w → IsSuited w
  last_suited pool t ps w fine (kind, lead, p, is, ends, means) =
      stands_suited kind p w (all_behind (IsFine levels) lead (p ∷ []) (subst AllFine ends fine)).0 means
