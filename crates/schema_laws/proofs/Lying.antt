-- Where a message is held along numbers, its bytes lie along them in those of the message around it.
use Rattle.std.proofs.Common.{◌≡◌, inr, ℕ, ◌<◌, ◌^◌, List, [], ◌∷◌, Option, Some, refl, sym, ap, ◌∙◌, subst}
use Rattle.descriptor_records.specs.Content.{NameContent}
use Rattle.protobuf_model.specs.Bytes.{bytes_of, in_frame, payloads_in, payloads_under, type_of, written}
use Rattle.protobuf_model.specs.Meaning.{payloads}
use Rattle.protobuf_model.specs.Types.{Field, Frame, Kind, Label, Name, Part, nested, one, sized, tagged}
use Rattle.protobuf_model.specs.Values.{Content, Held, Message, absent, content, dictionary, list, message, records, single}
use Rattle.protobuf_model.proofs.Arranged.{arranged_at}
use Rattle.reflect_wire.specs.Encoding.{records_bytes}
use Rattle.reflect_wire.specs.Records.{Payload, delimited, group}
use Rattle.reflect_wire.specs.Views.{records_of}
use Rattle.stored_options.specs.Braces.{LeadsAlong, held_along, held_inside}
use Rattle.stored_options.specs.SetOptions.{Leads, LeadsInto}
use Rattle.stored_options.proofs.BracesKept.{AreThrough, absent_inside, are_through}
use Rattle.text_laws.specs.SoundTypes.{HasSoundTypes}
use Rattle.text_model.specs.Schemas.{Schema}
use Rattle.schema_laws.specs.LyingBytes.{HoldsBytes, LieAlong}

-- ---- the payload of a message

abbrev pub framed : Frame → List (ℕ × Payload) → Payload
framed sized rs = delimited (records_bytes (records_of rs))
framed tagged rs = group (records_of rs)

one_framed : (frame : Frame) (u : Name) (rs : List (ℕ × Payload)) → in_frame (nested frame u) rs ≡ framed frame rs ∷ []
one_framed sized u rs = refl
one_framed tagged u rs = refl

pub framed_holds : (frame : Frame) (rs : List (ℕ × Payload)) → HoldsBytes (framed frame rs) (records_bytes (records_of rs))
framed_holds sized rs = refl
framed_holds tagged rs = refl

-- ---- what is held further inside is held in a message

not_absent : (ns : List ℕ) (c : Content) → held_inside ns absent ≡ content c → ⊥
not_absent ns c e =
    let clash : absent ≡ content c = sym (absent_inside ns) ∙ e in
    cc clash

pub held_message : (w : Schema) (t : Name) (ns : List ℕ) → AreThrough w t ns → (h : Held) (c : Content) → held_inside ns h ≡ content c → (inner : Message) × (h ≡ content (message inner))
held_message w t [] way h c e = absurd way
held_message w t (n ∷ ns) way (content (message inner)) c e = (inner, refl)
held_message w t (n ∷ ns) way (content (single v)) c e = absurd (not_absent ns c e)
held_message w t (n ∷ ns) way (content (list cs)) c e = absurd (not_absent ns c e)
held_message w t (n ∷ ns) way (content (dictionary es)) c e = absurd (not_absent ns c e)
held_message w t (n ∷ ns) way (records ps) c e = absurd (not_absent ns c e)

module _ (w : Schema) (sound : HasSoundTypes w) (leads : Leads) where
  -- what a field that is set is written as
  pub field_payloads : (t : Name) (n : ℕ) (f : Field) → w.types t n ≡ Some f → (m : Message) (c : Content) → m n ≡ content c → payloads n (written w.types t m) ≡ payloads_in w.types f.part f.label c
  field_payloads t n f declared m c e =
      let range : (0 < n) × (n < 2 ^ 29) = sound.numbers t n f declared in
      let under : payloads n (written w.types t m) ≡ payloads_under w.types (w.types t n) (m n) = arranged_at (w.types t) (λ k. payloads_under w.types (w.types t k) (m k)) n (inr range) in
      under ∙ ap (λ (o : Option Field). payloads_under w.types o (m n)) declared ∙ ap (payloads_under w.types (Some f)) e

  -- the payload of one message of a field's type
  pub message_payload : (p : Part) (frame : Frame) (u : Name) → p.kind ≡ nested frame u → (x : Message) → payloads_in w.types p one (message x) ≡ framed frame (written w.types u x) ∷ []
  message_payload p frame u kind x =
      let of_kind : in_frame p.kind (written w.types (type_of p.kind) x) ≡ in_frame (nested frame u) (written w.types u x) =
      ap (λ (k : Kind). in_frame k (written w.types (type_of k) x)) kind in
      of_kind ∙ one_framed frame u (written w.types u x)

  -- the payload that the message in a field is written as
  one_payload : (t : Name) (part : NameContent) (n : ℕ) (u : Name) (into : LeadsInto w leads t part n u) (m inner : Message) → m n ≡ content (message inner)
      → payloads n (written w.types t m) ≡ framed into.frame (written w.types u inner) ∷ []
  one_payload t part n u into m inner e =
      let f : Field = into.field in
      field_payloads t n f into.declared m (message inner) e ∙ ap (λ (l : Label). payloads_in w.types f.part l (message inner)) into.alone ∙ message_payload f.part into.frame u into.kind inner

  -- one field further out
  pub one_out : (t : Name) (part : NameContent) (n : ℕ) (u : Name) → LeadsInto w leads t part n u → (m inner : Message) → m n ≡ content (message inner) → (ns : List ℕ) (out : List ℕ)
      → LieAlong ns (bytes_of w.types u inner) out → LieAlong (n ∷ ns) (bytes_of w.types t m) out
  one_out t part n u into m inner e ns out lie = (
    written w.types t m,
    framed into.frame (written w.types u inner),
    bytes_of w.types u inner,
    refl,
    one_payload t part n u into m inner e,
    framed_holds into.frame (written w.types u inner),
    lie,
  )

  pub lie_along : (parts : List NameContent) (t : Name) (ns : List ℕ) (u : Name) → LeadsAlong w leads t parts ns u → (m inner : Message) → held_along ns m ≡ content (message inner)
      → LieAlong ns (bytes_of w.types t m) (bytes_of w.types u inner)
  lie_along [] t ns u along m inner held = absurd along
  lie_along (part ∷ []) t ns u (n, into, is) m inner held =
      let here : m n ≡ content (message inner) = subst (λ ks. held_along ks m ≡ content (message inner)) is held in
      subst (λ ks. LieAlong ks (bytes_of w.types t m) (bytes_of w.types u inner)) (sym is) (one_out t part n u into m inner here [] (bytes_of w.types u inner) refl)
  lie_along (part ∷ next ∷ parts) t ns u (n, v, rest, into, more, is) m inner held =
      let way : AreThrough w v rest = are_through w leads (λ x part k. LeadsInto w leads x part k u) (next ∷ parts) v rest more in
      let inside : held_inside rest (m n) ≡ content (message inner) = subst (λ ks. held_along ks m ≡ content (message inner)) is held in
      let around = held_message w v rest way (m n) (message inner) inside in
      let further : held_along rest around.0 ≡ content (message inner) = ap (held_inside rest) (sym around.1) ∙ inside in
      subst (λ ks. LieAlong ks (bytes_of w.types t m) (bytes_of w.types u inner)) (sym is)
      (one_out t part n v into m around.0 around.1 rest (bytes_of w.types u inner) (lie_along (next ∷ parts) v rest u more around.0 inner further))
