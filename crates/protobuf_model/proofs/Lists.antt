-- Lists: what they are written as, packed or not, is accepted and means them.
use Rattle.std.proofs.Common.{◌≡◌, inl, inr, ℕ, ◌&&◌, Bool, true, false, cond, List, [], ◌∷◌, ◌++◌, map, refl, sym, ap, ◌∙◌, subst, append-nil}
use Rattle.std.specs.List.{flat_map, AllByRecursion}
use Rattle.reflect_wire.specs.Records.{Payload, delimited}
use Rattle.reflect_wire.specs.Written.{FitsPayload}
use Rattle.protobuf_model.specs.Values.{Single, Content, single, message, list, dictionary, Contents, no_contents, more_contents, content, Message, absent, list_of, chain_of}
use Rattle.protobuf_model.specs.Types.{Name, Scalar, Kind, scalar, nested, Part, Label, one, many, Types}
use Rattle.protobuf_model.specs.Scalars.{meant, packs, wire_type}
use Rattle.protobuf_model.specs.Reader.{row}
use Rattle.protobuf_model.specs.Meaning.{elements, if_any, held_by}
use Rattle.protobuf_model.specs.Accepts.{Acceptable, IsScalar, AcceptsPart, AcceptsField, SpellsRow}
use Rattle.protobuf_model.specs.Typed.{IsOf, IsFieldOf}
use Rattle.protobuf_model.specs.Bytes.{is_packable, bare, payloads_in, each_payload}
use Rattle.protobuf_model.proofs.Pieces.{Inner}
use Rattle.protobuf_model.proofs.Singles.{IsSized, value_written}
use Rattle.protobuf_model.proofs.Rows.{IsPlain, row_spelled, bare_spelled}
use Rattle.protobuf_model.proofs.Putting.{AreBack, put_content, part, numeric_sized}

pub chained : (cs : Contents) → chain_of (list_of cs) ≡ cs
chained no_contents = refl
chained (more_contents c cs) = ap (more_contents c) (chained cs)

-- a list that holds something
any_held : (c : Content) (cs : Contents) (ds : List Content) → ds ≡ c ∷ list_of cs → if_any ds ≡ content (list (more_contents c cs))
any_held c cs ds e = ap if_any e ∙ ap (λ ds. content (list (more_contents c ds))) (chained cs)

pub all_map : {X : Type 0} (P Q : X → Type 0) (xs : List X) → ((x : X) → P x → Q x) → AllByRecursion P xs → AllByRecursion Q xs
all_map P Q [] f h = tt
all_map P Q (x ∷ xs) f h = (f x h.0, all_map P Q xs f h.1)

module _ (types : Types) (accept : Acceptable) (inner : Inner) (typed : Name → Message → Type 0) (levels : ℕ) (each : AreBack types accept inner typed levels) where
  abbrev pub AreTaken : Part → Label → Content → List Payload → Type 0
  AreTaken part l c ps = AllByRecursion IsSized ps → AllByRecursion (λ p. FitsPayload levels p × AcceptsField accept levels part l p) ps × (held_by inner part l absent ps ≡ content c)

  abbrev AreElements : Part → List Content → List Payload → Type 0
  AreElements part cs ps = AllByRecursion IsSized ps → AllByRecursion (λ p. FitsPayload levels p × AcceptsPart accept part.kind p) ps × (flat_map (elements inner part.kind) ps ≡ cs)

  one_by_one : (part : Part) (cs : Contents) → AllByRecursion (IsOf typed part.kind) (list_of cs) → AreElements part (list_of cs) (each_payload types part cs)
  one_by_one part no_contents h = λ z. (tt, refl)
  one_by_one part (more_contents c cs) h =
      let u = put_content types accept inner typed levels each part c h.0 in
      let later = one_by_one part cs h.1 in
      subst (λ ps. AreElements part (c ∷ list_of cs) (ps ++ each_payload types part cs)) (sym u.alone) (λ z.
      let a = u.accepted z.0 in
      let more = later z.1 in
      (((a.1, a.0), more.0), ap (λ ds. ds ++ flat_map (elements inner part.kind) (each_payload types part cs)) (u.element z.0) ∙ ap (λ ds. c ∷ ds) more.1))

  abbrev ArePacked : Scalar → List Content → List Payload → Type 0
  ArePacked k cs ps = AllByRecursion (IsPlain (wire_type k)) ps × AllByRecursion (IsScalar k) ps × (map single (flat_map (meant k) ps) ≡ cs)

  packed_each : (k : Scalar) (b : Bool) (d : Single) (cs : Contents) → packs k ≡ true → AllByRecursion (IsOf typed (scalar k)) (list_of cs) → ArePacked k (list_of cs) (each_payload types (part (scalar k) b d) cs)
  packed_each k b d no_contents t h = (tt, tt, refl)
  packed_each k b d (more_contents (single v) cs) t h =
      let w = value_written k v h.0 in
      let later = packed_each k b d cs t h.1 in
      subst (λ ps. ArePacked k (single v ∷ list_of cs) (ps ++ each_payload types (part (scalar k) b d) cs)) (sym w.alone) (
        ((w.form, w.fits 0 (numeric_sized k w.payload w.form t)), later.0),
        ((v, w.means, h.0), later.1),
        ap (λ vs. map single (vs ++ flat_map (meant k) (each_payload types (part (scalar k) b d) cs))) w.means ∙ ap (λ ds. single v ∷ ds) later.2,
      )
  packed_each k b d (more_contents (message m) cs) t h = absurd h.0
  packed_each k b d (more_contents (list m) cs) t h = absurd h.0
  packed_each k b d (more_contents (dictionary m) cs) t h = absurd h.0

  packs_then : (k : Scalar) (body : List ℕ) (vs ws : List Single) → packs k ≡ true → cond (packs k) vs ws ≡ vs
  packs_then k body vs ws t = ap (λ b. cond b vs ws) t

  packed_list : (k : Scalar) (b packed : Bool) (d : Single) (c : Content) (cs : Contents) → packs k ≡ true → AllByRecursion (IsOf typed (scalar k)) (c ∷ list_of cs)
      → AreTaken (part (scalar k) b d) (many packed) (list (more_contents c cs)) (delimited (bare (each_payload types (part (scalar k) b d) (more_contents c cs))) ∷ [])
  packed_list k b packed d c cs t h z =
      let ps = each_payload types (part (scalar k) b d) (more_contents c cs) in
      let w = wire_type k in
      let all = packed_each k b d (more_contents c cs) t h in
      let spelled = bare_spelled w ps all.0 in
      let read : row w (bare ps) ≡ ps = row_spelled w (bare ps) ps spelled in
      let values : elements inner (scalar k) (delimited (bare ps)) ≡ c ∷ list_of cs =
      ap (map single) (packs_then k (bare ps) (flat_map (meant k) (row w (bare ps))) (meant k (delimited (bare ps))) t ∙ ap (flat_map (meant k)) read) ∙ all.2 in (
        ((z.0, inr (t, subst (SpellsRow w (bare ps)) (sym read) spelled, subst (AllByRecursion (IsScalar k)) (sym read) all.1)), tt),
        any_held c cs _ (append-nil (elements inner (scalar k) (delimited (bare ps))) ∙ values),
      )

  unpacked_list : (part : Part) (packed : Bool) (c : Content) (cs : Contents) → AllByRecursion (IsOf typed part.kind) (c ∷ list_of cs) → AreTaken part (many packed) (list (more_contents c cs)) (each_payload types part (more_contents c cs))
  unpacked_list part packed c cs h z =
      let all = one_by_one part (more_contents c cs) h z in (
        all_map (λ p. FitsPayload levels p × AcceptsPart accept part.kind p) (λ p. FitsPayload levels p × AcceptsField accept levels part (many packed) p) (each_payload types part (more_contents c cs)) (λ p a. (a.0, inl a.1)) all.0,
        any_held c cs _ all.1,
      )

  list_at : (k : Kind) (b packed : Bool) (d : Single) (c : Content) (cs : Contents) → AllByRecursion (IsOf typed k) (c ∷ list_of cs) → (t : Bool) → (packed && is_packable k) ≡ t
      → AreTaken (part k b d) (many packed) (list (more_contents c cs)) (cond t (delimited (bare (each_payload types (part k b d) (more_contents c cs))) ∷ []) (each_payload types (part k b d) (more_contents c cs)))
  list_at k b packed d c cs h false e = unpacked_list (part k b d) packed c cs h
  list_at (scalar k) b true d c cs h true e = packed_list k b true d c cs e h
  list_at (scalar k) b false d c cs h true e = cc
  list_at (nested frame j) b true d c cs h true e = cc
  list_at (nested frame j) b false d c cs h true e = cc

  pub list_taken : (part : Part) (packed : Bool) (c : Content) (cs : Contents) → AllByRecursion (IsOf typed part.kind) (c ∷ list_of cs) → AreTaken part (many packed) (list (more_contents c cs)) (payloads_in types part (many packed) (list (more_contents c cs)))
  list_taken part packed c cs h = list_at part.kind part.presence packed part.default c cs h (packed && is_packable part.kind) refl

  pub one_taken : (part : Part) (c : Content) → IsFieldOf typed part one c → AreTaken part one c (payloads_in types part one c)
  one_taken part c h =
      let u = put_content types accept inner typed levels each part c h.0 in
      subst (AreTaken part one c) (sym u.alone) (λ z. let a = u.accepted z.0 in (((a.1, a.0), tt), u.field z.0 h.1))
