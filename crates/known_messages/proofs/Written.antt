-- A message of which the older of two types knows all is written alike by the newer one, whether it
-- suits them or not.
use Rattle.std.proofs.Common.{◌≡◌, ℕ, ◌&&◌, not, Bool, true, false, cond, List, [], ◌∷◌, ◌++◌, Option, Some, None, refl, sym, ap, ◌∙◌}
use mathlib.Core.Path.{fun_ext}
use Rattle.reflect_wire.specs.Records.{Payload, delimited}
use Rattle.reflect_wire.specs.Views.{records_of}
use Rattle.reflect_wire.specs.Encoding.{records_bytes}
use Rattle.protobuf_model.specs.Values.{Single, Content, single, message, list, dictionary, Contents, no_contents, more_contents, Entries, no_entries, more_entries, Held, content, records, Message}
use Rattle.protobuf_model.specs.Types.{Name, Frame, sized, tagged, Kind, scalar, nested, Key, Label, one, many, keyed, Field, Types}
use Rattle.protobuf_model.specs.Bytes.{field_numbers, run, is_declared, arranged, in_kind, in_frame, is_packable, bare, entry_records, payloads_in, payloads_under, each_payload, entry_payloads, written, bytes_of}
use Rattle.protobuf_model.specs.Older.{AreKinds, AnswersTo, AreOlder}
use Rattle.protobuf_model.proofs.Putting.{part}
use Rattle.known_messages.specs.KnownMessages.{KnowsContent, KnowsContents, KnowsEntries, KnowsHeld, KnowsAll}

-- ---- the order of what is written

abbrev IsPlacedAlike : Option Field → Option Field → List Payload → Type 0
IsPlacedAlike o q ps = (cond (is_declared q) ps [] ≡ cond (is_declared o) ps []) × (cond (is_declared q) [] ps ≡ cond (is_declared o) [] ps)

nothing_placed : (a b : Bool) (ps : List Payload) → ps ≡ [] → (cond b ps [] ≡ cond a ps []) × (cond b [] ps ≡ cond a [] ps)
nothing_placed true true ps e = (refl, refl)
nothing_placed true false ps e = (sym e, e)
nothing_placed false true ps e = (e, sym e)
nothing_placed false false ps e = (refl, refl)

-- a number that the newer type alone has holds nothing
placed_alike : (old : Types) (Pair : Name → Name → Type 0) (o q : Option Field) (h : Held) → AnswersTo Pair o q → KnowsHeld old o h
    → IsPlacedAlike o q (payloads_under old o h)
placed_alike old Pair None q (records ps) e a = nothing_placed false (is_declared q) ps a
placed_alike old Pair (Some f) (Some g) h e a =
    let ps = payloads_under old (Some f) h in
    (ap (λ x. cond (not x) ps []) (sym e.extension), ap (λ x. cond (not x) [] ps) (sym e.extension))
placed_alike old Pair (Some f) None h e a = absurd e
placed_alike old Pair None q (content c) e a = absurd a

arranged_alike : (older newer : ℕ → Option Field) (under : ℕ → List Payload) → ((n : ℕ) → IsPlacedAlike (older n) (newer n) (under n))
    → arranged newer under ≡ arranged older under
arranged_alike older newer under alike =
    ap (λ first. run first field_numbers ++ run (λ n. cond (is_declared (newer n)) [] (under n)) field_numbers) (fun_ext (λ n. (alike n).0))
    ∙ ap (λ second. run (λ n. cond (is_declared (older n)) (under n) []) field_numbers ++ run second field_numbers) (fun_ext (λ n. (alike n).1))

module _ (old new : Types) (Pair : Name → Name → Type 0) (older : AreOlder old new Pair) where
  -- a message, where what it holds is written alike
  all_alike : (t u : Name) → Pair t u → (m : Message) → KnowsAll old t m
      → ((n : ℕ) → payloads_under new (new u n) (m n) ≡ payloads_under old (old t n) (m n)) → written new u m ≡ written old t m
  all_alike t u pair m a alike =
      ap (arranged (new u)) (fun_ext alike)
      ∙ arranged_alike (old t) (new u) (λ n. payloads_under old (old t n) (m n))
      (λ n. placed_alike old Pair (old t n) (new u n) (m n) (older.fields t u pair n) (a n))

  framed_alike : (f : Frame) (t u : Name) (rs : List (ℕ × Payload)) → in_frame (nested f u) rs ≡ in_frame (nested f t) rs
  framed_alike sized t u rs = refl
  framed_alike tagged t u rs = refl

  packable_alike : (k l : Kind) → AreKinds Pair k l → is_packable l ≡ is_packable k
  packable_alike (scalar k) (scalar l) e = ap (λ l. is_packable (scalar l)) (sym e)
  packable_alike (nested f t) (nested g u) e = refl
  packable_alike k l e = absurd e

  single_alike : (k l : Kind) (v : Single) → AreKinds Pair k l → in_kind l v ≡ in_kind k v
  single_alike (scalar k) (scalar l) v e = ap (λ l. in_kind (scalar l) v) (sym e)
  single_alike (nested f t) (nested g u) v e = refl
  single_alike k l v e = absurd e

  -- a part without its kind, and a field without what both types have alike
  abbrev Alike : Kind → Kind → Bool → Single → Label → Content → Type 0
  Alike k l b d label c = payloads_in new (part l b d) label c ≡ payloads_in old (part k b d) label c

  -- ---- contents

  mutual
    field_alike : (k l : Kind) (b : Bool) (d : Single) (label : Label) (c : Content) → AreKinds Pair k l → KnowsContent old k c → Alike k l b d label c
    field_alike k l b d one (single v) e a = single_alike k l v e
    field_alike (nested f t) (nested g u) b d one (message m) e a =
        ap (λ g. in_frame (nested g u) (written new u m)) (sym e.0)
        ∙ framed_alike f t u (written new u m)
        ∙ ap (in_frame (nested f t)) (all_alike t u e.1 m a (λ n. held_alike (old t n) (new u n) (m n) (older.fields t u e.1 n) (a n)))
    field_alike (scalar k) (scalar l) b d one (message m) e a = refl
    field_alike (scalar k) (nested g u) b d one (message m) e a = absurd e
    field_alike (nested f t) (scalar l) b d one (message m) e a = absurd e
    field_alike k l b d (many packed) (list cs) e a =
        let folded : List Payload → Bool → List Payload = λ ps packs. cond (packed && packs) (delimited (bare ps) ∷ []) ps in
        ap (λ ps. folded ps (is_packable l)) (each_alike k l b d cs e a) ∙ ap (folded (each_payload old (part k b d) cs)) (packable_alike k l e)
    field_alike k l b d (keyed key) (dictionary es) e a = entries_alike key k l b d es e a
    field_alike k l b d label c e a = refl

    each_alike : (k l : Kind) (b : Bool) (d : Single) (cs : Contents) → AreKinds Pair k l → KnowsContents old k cs
        → each_payload new (part l b d) cs ≡ each_payload old (part k b d) cs
    each_alike k l b d no_contents e a = refl
    each_alike k l b d (more_contents c cs) e a =
        ap (λ ps. ps ++ each_payload new (part l b d) cs) (field_alike k l b d one c e a.0)
        ∙ ap (λ ps. payloads_in old (part k b d) one c ++ ps) (each_alike k l b d cs e a.1)

    entries_alike : (key : Key) (k l : Kind) (b : Bool) (d : Single) (es : Entries) → AreKinds Pair k l → KnowsEntries old k es
        → entry_payloads new key (part l b d) es ≡ entry_payloads old key (part k b d) es
    entries_alike key k l b d no_entries e a = refl
    entries_alike key k l b d (more_entries x c es) e a =
        ap (λ ps. delimited (records_bytes (records_of (entry_records key (part k b d) x c ps))) ∷ entry_payloads new key (part l b d) es) (field_alike k l b d one c e a.0)
        ∙ ap (λ ps. delimited (records_bytes (records_of (entry_records key (part k b d) x c (payloads_in old (part k b d) one c)))) ∷ ps) (entries_alike key k l b d es e a.1)

    held_alike : (o q : Option Field) (h : Held) → AnswersTo Pair o q → KnowsHeld old o h → payloads_under new q h ≡ payloads_under old o h
    held_alike o q (records ps) e a = refl
    held_alike (Some f) (Some g) (content c) e a =
        ap (λ p. payloads_in new (record { kind = g.part.kind; presence = p; default = g.part.default }) g.label c) (sym e.presence)
        ∙ ap (λ d. payloads_in new (record { kind = g.part.kind; presence = f.part.presence; default = d }) g.label c) (sym e.default)
        ∙ ap (λ l. payloads_in new (record { kind = g.part.kind; presence = f.part.presence; default = f.part.default }) l c) (sym e.label)
        ∙ field_alike f.part.kind g.part.kind f.part.presence f.part.default f.label c e.kind a
    held_alike (Some f) None (content c) e a = absurd e
    held_alike None q (content c) e a = absurd a

  -- ---- a message

  pub known_alike : (t u : Name) → Pair t u → (m : Message) → KnowsAll old t m → bytes_of new u m ≡ bytes_of old t m
  known_alike t u pair m a =
      ap (λ rs. records_bytes (records_of rs)) (all_alike t u pair m a (λ n. held_alike (old t n) (new u n) (m n) (older.fields t u pair n) (a n)))
