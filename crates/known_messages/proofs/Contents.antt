-- A content of which the older of two types knows all suits the newer too, which knows all of it.
use Rattle.std.proofs.Common.{ℕ, Bool, Option, Some, None, subst}
use Rattle.std.specs.List.{AllByRecursion}
use Rattle.protobuf_model.specs.Values.{Single, Content, single, message, list, dictionary, Contents, no_contents, more_contents, Entries, no_entries, more_entries, Held, content, records, Message, list_of, pairs_of}
use Rattle.protobuf_model.specs.Types.{Name, Kind, scalar, nested, Key, Label, one, many, keyed, Field, Types}
use Rattle.protobuf_model.specs.Typed.{IsOf, IsSet, IsEntryOf, IsFieldOf, IsHeldOf}
use Rattle.protobuf_model.specs.Older.{AreKinds, AnswersTo}
use Rattle.protobuf_model.proofs.Putting.{part}
use Rattle.known_messages.specs.KnownMessages.{KnowsContent, KnowsContents, KnowsEntries, KnowsHeld, KnowsAll}

module _ (old new : Types) (Pair : Name → Name → Type 0) (before after : Name → Message → Type 0) where
  -- messages one level down of which the older type knows all
  abbrev pub Grows : Type 0
  Grows = (t u : Name) → Pair t u → (m : Message) → before t m → KnowsAll old t m → after u m × KnowsAll new u m

  module _ (grows : Grows) where
    one_kept : (k l : Kind) (c : Content) → AreKinds Pair k l → IsOf before k c → KnowsContent old k c → IsOf after l c × KnowsContent new l c
    one_kept (scalar k) (scalar l) (single v) e h a = subst (λ l. IsOf after (scalar l) (single v) × KnowsContent new (scalar l) (single v)) e (h, tt)
    one_kept (nested f t) (nested g u) (message m) e h a = grows t u e.1 m h a
    one_kept (scalar k) (nested g u) c e h a = absurd e
    one_kept (nested f t) (scalar l) c e h a = absurd e
    one_kept k l c e h a = absurd h

    each_kept : (k l : Kind) (cs : Contents) → AreKinds Pair k l → AllByRecursion (IsOf before k) (list_of cs) → KnowsContents old k cs
        → AllByRecursion (IsOf after l) (list_of cs) × KnowsContents new l cs
    each_kept k l no_contents e h a = (tt, tt)
    each_kept k l (more_contents c cs) e h a =
        let here = one_kept k l c e h.0 a.0 in
        let later = each_kept k l cs e h.1 a.1 in
        ((here.0, later.0), (here.1, later.1))

    entries_kept : (key : Key) (k l : Kind) (b : Bool) (d : Single) (es : Entries) → AreKinds Pair k l
        → AllByRecursion (IsEntryOf before key (part k b d)) (pairs_of es) → KnowsEntries old k es
        → AllByRecursion (IsEntryOf after key (part l b d)) (pairs_of es) × KnowsEntries new l es
    entries_kept key k l b d no_entries e h a = (tt, tt)
    entries_kept key k l b d (more_entries x c es) e h a =
        let here = one_kept k l c e h.0.1 a.0 in
        let later = entries_kept key k l b d es e h.1 a.1 in
        (((h.0.0, here.0), later.0), (here.1, later.1))

    set_kept : (k l : Kind) (b : Bool) (d : Single) (c : Content) → IsSet (part k b d) c → IsSet (part l b d) c
    set_kept k l b d (single v) h = h
    set_kept k l b d c h = h

    field_kept : (k l : Kind) (b : Bool) (d : Single) (label : Label) (c : Content) → AreKinds Pair k l → IsFieldOf before (part k b d) label c
        → KnowsContent old k c → IsFieldOf after (part l b d) label c × KnowsContent new l c
    field_kept k l b d one c e h a =
        let here = one_kept k l c e h.0 a in
        ((here.0, set_kept k l b d c h.1), here.1)
    field_kept k l b d (many packed) (list (more_contents c cs)) e h a = each_kept k l (more_contents c cs) e h a
    field_kept k l b d (keyed key) (dictionary (more_entries x c es)) e h a =
        let all = entries_kept key k l b d (more_entries x c es) e h.0 a in
        ((all.0, h.1), all.1)
    field_kept k l b d label c e h a = absurd h

    -- ---- what stands under a number

    abbrev pub IsKept : ℕ → Option Field → Held → Type 0
    IsKept levels q h = IsHeldOf after levels q h × KnowsHeld new q h

    abbrev by_parts : Kind → Bool → Single → Label → Content → Type 0
    by_parts k b d label c = IsFieldOf after (part k b d) label c × KnowsContent new k c

    content_kept : (levels : ℕ) (f g : Field) (c : Content) → AnswersTo Pair (Some f) (Some g) → IsFieldOf before f.part f.label c
        → KnowsContent old f.part.kind c → IsKept levels (Some g) (content c)
    content_kept levels f g c e h a =
        subst (λ p. by_parts g.part.kind p g.part.default g.label c) e.presence
        (subst (λ d. by_parts g.part.kind f.part.presence d g.label c) e.default
        (subst (λ l. by_parts g.part.kind f.part.presence f.part.default l c) e.label
        (field_kept f.part.kind g.part.kind f.part.presence f.part.default f.label c e.kind h a)))

    pub held_kept : (levels : ℕ) (o q : Option Field) (h : Held) → AnswersTo Pair o q → IsHeldOf before levels o h → KnowsHeld old o h → IsKept levels q h
    held_kept levels None None (records ps) e h a = (h, a)
    held_kept levels None (Some g) (records ps) e h a = (a, a)
    held_kept levels (Some f) (Some g) (records ps) e h a = (h, a)
    held_kept levels (Some f) (Some g) (content c) e h a = content_kept levels f g c e h a
    held_kept levels (Some f) None h e t a = absurd e
    held_kept levels None q (content c) e h a = absurd a
