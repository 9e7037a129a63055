-- One value: what it is written as is accepted and means it.
use Rattle.std.proofs.Common.{◌≡◌, ℕ, ◌<◌, ◌||◌, not, Bool, true, false, cond, List, [], ◌∷◌, map, refl, ap, ◌∙◌, append-nil, arith}
use Rattle.std.specs.List.{flat_map}
use Rattle.reflect_wire.specs.declared.wire_key.WireType.TheVariants.{StartGroup}
use Rattle.reflect_wire.specs.Records.{Payload, varint, fixed64, delimited, group, fixed32, wire_of}
use Rattle.reflect_wire.specs.Written.{FitsPayload}
use Rattle.protobuf_model.specs.Values.{Single, Content, single, message, content, Message, absent, nothing}
use Rattle.protobuf_model.specs.Types.{Name, Scalar, Frame, sized, tagged, Kind, scalar, nested, Part, one, Types}
use Rattle.protobuf_model.specs.Types as kinds
use Rattle.protobuf_model.specs.Scalars.{meant, packs, wire_type, same, Suits}
use Rattle.protobuf_model.specs.Reader.{inside_of}
use Rattle.protobuf_model.specs.Meaning.{last_set, last_or, taken, packed_or_one, elements, entry_value}
use Rattle.protobuf_model.specs.Accepts.{Acceptable, AcceptsPart}
use Rattle.protobuf_model.specs.Typed.{IsOf, IsSet}
use Rattle.protobuf_model.specs.Bytes.{in_frame, payloads_in, written}
use Rattle.protobuf_model.proofs.Pieces.{Inner}
use Rattle.protobuf_model.proofs.Singles.{IsSized, IsWritten, value_written}

-- a payload of a kind's own form is no packed one
pub plain_one : (k : Scalar) (p : Payload) → wire_of p ≡ wire_type k → packed_or_one k p ≡ meant k p
plain_one k (varint v) e = refl
plain_one k (fixed64 v) e = refl
plain_one k (group v) e = refl
plain_one k (fixed32 v) e = refl
plain_one kinds.string (delimited v) e = refl
plain_one kinds.bytes (delimited v) e = refl
plain_one k (delimited v) e = absurd (cc)

no_group_form : (k : Scalar) → StartGroup ≡ wire_type k → ⊥
no_group_form kinds.string e = cc
no_group_form k e = cc

-- and has no bytes inside, where it packs
pub numeric_sized : (k : Scalar) (p : Payload) → wire_of p ≡ wire_type k → packs k ≡ true → IsSized p
numeric_sized k (varint v) e t = omega arith
numeric_sized k (fixed64 v) e t = omega arith
numeric_sized k (fixed32 v) e t = omega arith
numeric_sized kinds.string (delimited v) e t = absurd (cc)
numeric_sized kinds.bytes (delimited v) e t = absurd (cc)
numeric_sized k (delimited v) e t = absurd (cc)
numeric_sized k (group v) e t = absurd (no_group_form k e)

abbrev pub part : Kind → Bool → Single → Part
part k b d = record { kind = k; presence = b; default = d }

-- what the messages one level down do
pub record AreBack (types : Types) (accept : Acceptable) (inner : Inner) (typed : Name → Message → Type 0) (levels : ℕ) : Type 0 where
  pub accepted : (frame : Frame) (j : Name) (m : Message) → typed j m → (p : Payload) → in_frame (nested frame j) (written types j m) ≡ p ∷ [] → IsSized p → accept frame j p × FitsPayload levels p
  pub back : (frame : Frame) (j : Name) (m : Message) → typed j m → (p : Payload) → in_frame (nested frame j) (written types j m) ≡ p ∷ [] → IsSized p → inner j nothing (inside_of p) ≡ m
  pub deeper : (j : Name) (m : Message) → typed j m → 0 < levels

module _ (types : Types) (accept : Acceptable) (inner : Inner) (typed : Name → Message → Type 0) (levels : ℕ) where
  -- one payload, that is accepted and read as the content
  pub record IsPut (part : Part) (c : Content) : Type 0 where
    pub payload : Payload
    pub alone : payloads_in types part one c ≡ payload ∷ []
    pub accepted : IsSized payload → AcceptsPart accept part.kind payload × FitsPayload levels payload
    pub field : IsSized payload → IsSet part c → taken inner part part.kind absent (payload ∷ []) ≡ content c
    pub element : IsSized payload → elements inner part.kind payload ≡ c ∷ []
    pub value : IsSized payload → entry_value inner part part.kind (payload ∷ []) ≡ c

  settled : (b : Bool) (c : Content) → b ≡ true → cond b (content c) absent ≡ content c
  settled true c e = refl
  settled false c e = cc

  put_scalar : (k : Scalar) (b : Bool) (d v : Single) → Suits k v → IsWritten k v → IsPut (part (scalar k) b d) (single v)
  put_scalar k b d v s w =
      let means : flat_map (meant k) (w.payload ∷ []) ≡ v ∷ [] = append-nil (meant k w.payload) ∙ w.means in
      record {
        payload = w.payload;
        alone = w.alone;
        accepted = λ z. ((v, w.means, s), w.fits levels z);
        field = λ z set. ap (last_set (part (scalar k) b d) absent) means ∙ settled (b || not (same v d)) (single v) set;
        element = λ z. ap (map single) (plain_one k w.payload w.form ∙ w.means);
        value = λ z. ap (λ vs. single (last_or d vs)) means;
      }

  framed : (frame : Frame) (j : Name) (rs : List (ℕ × Payload)) → (p : Payload) × (in_frame (nested frame j) rs ≡ p ∷ [])
  framed sized j rs = (_, refl)
  framed tagged j rs = (_, refl)

  put_message : AreBack types accept inner typed levels → (frame : Frame) (j : Name) (b : Bool) (d : Single) (m : Message) → typed j m → IsPut (part (nested frame j) b d) (message m)
  put_message each frame j b d m t =
      let f = framed frame j (written types j m) in
      record {
        payload = f.0;
        alone = f.1;
        accepted = λ z. each.accepted frame j m t f.0 f.1 z;
        field = λ z set. ap (λ rs. content (message (inner j nothing rs))) (append-nil (inside_of f.0)) ∙ ap (λ m. content (message m)) (each.back frame j m t f.0 f.1 z);
        element = λ z. ap (λ m. message m ∷ []) (each.back frame j m t f.0 f.1 z);
        value = λ z. ap (λ rs. message (inner j nothing rs)) (append-nil (inside_of f.0)) ∙ ap message (each.back frame j m t f.0 f.1 z);
      }

  put_at : AreBack types accept inner typed levels → (k : Kind) (b : Bool) (d : Single) (c : Content) → IsOf typed k c → IsPut (part k b d) c
  put_at each (scalar k) b d (single v) h = put_scalar k b d v h (value_written k v h)
  put_at each (nested frame j) b d (message m) h = put_message each frame j b d m h
  put_at each k b d c h = absurd h

  pub put_content : AreBack types accept inner typed levels → (part : Part) (c : Content) → IsOf typed part.kind c → IsPut part c
  put_content each part c h = put_at each part.kind part.presence part.default c h
