-- Where a list of messages is held along numbers, their bytes lie along them, one message behind the
-- other, in those of the message around it.
use Rattle.std.proofs.Common.{◌≡◌, ℕ, ◌&&◌, Bool, true, false, cond, List, [], ◌∷◌, ◌++◌, map, refl, sym, ap, ◌∙◌, subst}
use Rattle.descriptor_records.specs.Content.{NameContent}
use Rattle.print_parts.specs.Pairwise.{Pairwise}
use Rattle.protobuf_model.specs.Bytes.{bare, bytes_of, each_payload, is_packable, payloads_in, written}
use Rattle.protobuf_model.specs.Meaning.{payloads}
use Rattle.protobuf_model.specs.Types.{Field, Frame, Kind, Label, Name, Part, nested}
use Rattle.protobuf_model.specs.Values.{Content, Contents, Message, chain_of, content, list, message}
use Rattle.reflect_wire.specs.Records.{Payload, delimited}
use Rattle.stored_options.specs.Braces.{ListsAlong, ListsInto, held_along, held_inside}
use Rattle.stored_options.specs.SetOptions.{Leads}
use Rattle.stored_options.proofs.BracesKept.{AreThrough, are_through}
use Rattle.text_laws.specs.SoundTypes.{HasSoundTypes}
use Rattle.text_model.specs.Schemas.{Schema}
use Rattle.schema_laws.specs.LyingBytes.{AllLieAlong, HoldsBytes, LieAlong}
use Rattle.schema_laws.proofs.Lying.{field_payloads, framed, framed_holds, held_message, message_payload, one_out}

never_packed : (packed : Bool) → (packed && false) ≡ false
never_packed true = refl
never_packed false = refl

-- a list of messages, as what a field holds
abbrev listing : List Message → Content
listing xs = list (chain_of (map message xs))

-- there are bytes between the first numbers and the last
all_further : (n : ℕ) (ns : List ℕ) (bytes next : List ℕ) (inners : List (List ℕ)) → LieAlong (n ∷ []) bytes next → AllLieAlong ns next inners → AllLieAlong (n ∷ ns) bytes inners
all_further n [] bytes next inners lie further = absurd further
all_further n (q ∷ ns) bytes next inners lie further = (next, lie, further)

module _ (w : Schema) (sound : HasSoundTypes w) (leads : Leads) where
  -- ---- the payloads of a list

  abbrev each_framed : Frame → Name → List Message → List Payload
  each_framed frame u xs = map (λ x. framed frame (written w.types u x)) xs

  each_held : (frame : Frame) (u : Name) (xs : List Message) → Pairwise HoldsBytes (each_framed frame u xs) (map (bytes_of w.types u) xs)
  each_held frame u [] = refl
  each_held frame u (x ∷ xs) = (bytes_of w.types u x, map (bytes_of w.types u) xs, framed_holds frame (written w.types u x), each_held frame u xs, refl)

  each_written : (p : Part) (frame : Frame) (u : Name) → p.kind ≡ nested frame u → (xs : List Message) → each_payload w.types p (chain_of (map message xs)) ≡ each_framed frame u xs
  each_written p frame u kind [] = refl
  each_written p frame u kind (x ∷ xs) =
      ap (λ (ps : List Payload). ps ++ each_payload w.types p (chain_of (map message xs))) (message_payload w sound leads p frame u kind x)
      ∙ ap (λ (ps : List Payload). framed frame (written w.types u x) ∷ ps) (each_written p frame u kind xs)

  -- messages are never packed into one record
  list_payloads : (t : Name) (part : NameContent) (n : ℕ) (u : Name) (into : ListsInto w leads t part n u) (m : Message) (xs : List Message) → m n ≡ content (listing xs)
      → payloads n (written w.types t m) ≡ each_framed into.frame u xs
  list_payloads t part n u into m xs e =
      let f : Field = into.field in
      let cs : Contents = chain_of (map message xs) in
      let each : List Payload = each_payload w.types f.part cs in
      let packed_too : List Payload = delimited (bare each) ∷ [] in
      let as_list : payloads_in w.types f.part f.label (list cs) ≡ cond (into.packed && is_packable f.part.kind) packed_too each =
      ap (λ (l : Label). payloads_in w.types f.part l (list cs)) into.listed in
      let of_messages : cond (into.packed && is_packable f.part.kind) packed_too each ≡ cond (into.packed && false) packed_too each =
      ap (λ (k : Kind). cond (into.packed && is_packable k) packed_too each) into.kind in
      let apart : cond (into.packed && false) packed_too each ≡ each = ap (λ (b : Bool). cond b packed_too each) (never_packed into.packed) in
      field_payloads w sound leads t n f into.declared m (list cs) e ∙ as_list ∙ of_messages ∙ apart ∙ each_written f.part into.frame u into.kind xs

  -- ---- along the name

  list_lies : (t : Name) (part : NameContent) (n : ℕ) (u : Name) → ListsInto w leads t part n u → (m : Message) (xs : List Message) → m n ≡ content (listing xs)
      → AllLieAlong (n ∷ []) (bytes_of w.types t m) (map (bytes_of w.types u) xs)
  list_lies t part n u into m xs e = (
    written w.types t m,
    refl,
    subst (λ (ps : List Payload). Pairwise HoldsBytes ps (map (bytes_of w.types u) xs)) (sym (list_payloads t part n u into m xs e)) (each_held into.frame u xs),
  )

  pub all_lie_along : (parts : List NameContent) (t : Name) (ns : List ℕ) (u : Name) → ListsAlong w leads t parts ns u → (m : Message) (xs : List Message) → held_along ns m ≡ content (listing xs)
      → AllLieAlong ns (bytes_of w.types t m) (map (bytes_of w.types u) xs)
  all_lie_along [] t ns u along m xs held = absurd along
  all_lie_along (part ∷ []) t ns u (n, into, is) m xs held =
      let here : m n ≡ content (listing xs) = subst (λ ks. held_along ks m ≡ content (listing xs)) is held in
      subst (λ ks. AllLieAlong ks (bytes_of w.types t m) (map (bytes_of w.types u) xs)) (sym is) (list_lies t part n u into m xs here)
  all_lie_along (part ∷ next ∷ parts) t ns u (n, v, rest, into, more, is) m xs held =
      let way : AreThrough w v rest = are_through w leads (λ x part k. ListsInto w leads x part k u) (next ∷ parts) v rest more in
      let inside : held_inside rest (m n) ≡ content (listing xs) = subst (λ ks. held_along ks m ≡ content (listing xs)) is held in
      let around = held_message w v rest way (m n) (listing xs) inside in
      let further : held_along rest around.0 ≡ content (listing xs) = ap (held_inside rest) (sym around.1) ∙ inside in
      let step : LieAlong (n ∷ []) (bytes_of w.types t m) (bytes_of w.types v around.0) = one_out w sound leads t part n v into m around.0 around.1 [] (bytes_of w.types v around.0) refl in
      subst (λ ks. AllLieAlong ks (bytes_of w.types t m) (map (bytes_of w.types u) xs)) (sym is)
      (all_further n rest (bytes_of w.types t m) (bytes_of w.types v around.0) (map (bytes_of w.types u) xs) step (all_lie_along (next ∷ parts) v rest u more around.0 xs further))
