-- Of a message in which options are set the type knows all, if it did before.
use Rattle.std.proofs.Common.{◌≡◌, ℕ, ℤ, zero, suc, Bool, List, [], ◌∷◌, Option, Some, refl, sym, ap, subst}
use Rattle.descriptor_records.specs.Content.{NameContent, OptionContent}
use Rattle.texts_view.specs.SaysAll.{HaveEntryValues}
use Rattle.texts_view.proofs.Given.{given_known}
use Rattle.texts_view.proofs.Wanted.{mapped}
use Rattle.texts_view.proofs.Known.{IsKnownIn, add_all_known, set_known, settled_known}
use Rattle.known_messages.specs.KnownMessages.{KnowsAll, KnowsContent, KnowsHeld}
use Rattle.stored_options.specs.SetOptions.{Gets, Leads, Says, SetsAll, SetsLast, SetsParts}
use Rattle.option_setter.specs.OptionValues.{scalar_said}
use Rattle.protobuf_model.specs.Meaning.{message_in}
use Rattle.protobuf_model.specs.Types.{Name, Frame, Kind, scalar, nested, Part, Label, one, many, keyed, Field, Types}
use Rattle.protobuf_model.specs.Values.{Content, single, message, list, dictionary, Held, content, records, Message}
use Rattle.text_laws.proofs.Assigned.{field}
use Rattle.text_model.specs.Schemas.{Schema, shape_of}
use Rattle.text_model.specs.Value.{default_of, of_message, settled, value_of, wanted_in, wanted_of}

-- the value of an entry, or its default
value_known : (types : Types) (part : Part) (o : Option ℕ) (e : Bool) (h : Held) → KnowsHeld types (Some (field part one o e)) h → KnowsContent types part.kind (value_of part h)
value_known types part o e (content c) k = k
value_known types part o e (records ps) k = by part.kind where
  by : (k : Kind) → KnowsContent types k (default_of part k)
  by (scalar k) = tt
  by (nested frame u) = λ n. refl

-- the message that a field holds, or an empty one
inner_known : (types : Types) (f : Field) (frame : Frame) (u : Name) → f.part.kind ≡ nested frame u → (h : Held) → KnowsHeld types (Some f) h → KnowsAll types u (message_in h)
inner_known types f frame u is (content (message m)) k = subst (λ k. KnowsContent types k (message m)) is k
inner_known types f frame u is (content (single v)) k = λ n. refl
inner_known types f frame u is (content (list cs)) k = λ n. refl
inner_known types f frame u is (content (dictionary es)) k = λ n. refl
inner_known types f frame u is (records ps) k = λ n. refl

module _ (w : Schema) (leads : Leads) (values : HaveEntryValues w) where
  -- ---- what an option says to a field

  text_known : (o : OptionContent) (u : Name) (c : Content) → Says w o (of_message (shape_of w u)) c → (m : Message) × (c ≡ message m) × KnowsAll w.types u m
  text_known o u c (z, tree, m, at, text, gives, is) = (m, is, given_known w values u z m (tree, text, gives))

  kind_known : (o : OptionContent) (t : Name) (n : ℕ) (k : Kind) (c : Content) → Says w o (wanted_in w ((w.names t).enum_number n) k) c → KnowsContent w.types k c
  kind_known o t n (scalar k) c says =
      mapped single (scalar_said ((w.names t).enum_number n) k o) c says (λ v here same. subst (KnowsContent w.types (scalar k)) same tt)
  kind_known o t n (nested frame u) c says =
      let r = text_known o u c says in subst (KnowsContent w.types (nested frame u)) (sym r.1) r.2

  in_known : (o : OptionContent) (t : Name) (n : ℕ) (f : Field) → w.types t n ≡ Some f → (l : Label) → f.label ≡ l → (c : Content)
      → Says w o (wanted_of w (w.names t) n f.part l) c → IsKnownIn w.types f.part l c
  in_known o t n f has one is c says = kind_known o t n f.part.kind c says
  in_known o t n f has (many packed) is c says = kind_known o t n f.part.kind c says
  in_known o t n f has (keyed key) is c says =
      let v = values t n f key has is in
      let r = text_known o ((w.names t).entry n) c says in
      subst (IsKnownIn w.types f.part (keyed key)) (sym r.1)
      (value_known w.types f.part v.0 v.1 (r.0 2) (subst (λ o. KnowsHeld w.types o (r.0 2)) v.2 (r.2 2)))

  gets_known : (t : Name) (n : ℕ) (f : Field) → w.types t n ≡ Some f → (l : Label) (c : Content) → IsKnownIn w.types f.part l c → (old new : Message) → KnowsAll w.types t old
      → Gets (w.types t) n f l c old new → KnowsAll w.types t new
  gets_known t n f has one c in_field old new all gets = set_known w.types t n f has old new all (settled f.part c) (settled_known w.types f c in_field) (ap Some (sym gets.1))
  gets_known t n f has (many packed) c in_field old new all gets = add_all_known w.types t n f has old new all (many packed) (c ∷ []) (in_field, tt) gets
  gets_known t n f has (keyed key) c in_field old new all gets = add_all_known w.types t n f has old new all (keyed key) (c ∷ []) (in_field, tt) gets

  -- ---- along a name, and one option after another

  last_known : (o : OptionContent) (t : Name) (part : NameContent) (old new : Message) (path : List ℤ) → KnowsAll w.types t old → SetsLast w leads o t part old new path
      → KnowsAll w.types t new
  last_known o t part old new path all (n, f, c, led, has, says, gets, is) = gets_known t n f has f.label c (in_known o t n f has f.label refl c says) old new all gets

  parts_known : (o : OptionContent) (levels : ℕ) (parts : List NameContent) (t : Name) (old new : Message) (path : List ℤ) → KnowsAll w.types t old
      → SetsParts w leads o levels t parts old new path → KnowsAll w.types t new
  parts_known o levels [] t old new path all sets = subst (KnowsAll w.types t) (sym sets.0) all
  parts_known o levels (part ∷ []) t old new path all sets = last_known o t part old new path all sets
  parts_known o zero (part ∷ next ∷ parts) t old new path all sets = absurd sets
  parts_known o (suc levels) (part ∷ next ∷ parts) t old new path all (n, u, into, inner, rest, sets, is, along) =
      let f : Field = into.field in
      let held : KnowsHeld w.types (Some f) (old n) = subst (λ x. KnowsHeld w.types x (old n)) into.declared (all n) in
      let below = parts_known o levels (next ∷ parts) u (message_in (old n)) inner rest (inner_known w.types f into.frame u into.kind (old n) held) sets in
      set_known w.types t n f into.declared old new all (content (message inner)) (subst (λ k. KnowsContent w.types k (message inner)) (sym into.kind) below) (ap Some (sym is))

  pub all_known : (t : Name) (os : List OptionContent) (old new : Message) (paths : List (List ℤ)) → KnowsAll w.types t old → SetsAll w leads t os old new paths
      → KnowsAll w.types t new
  all_known t [] old new paths all sets = subst (KnowsAll w.types t) (sym sets.0) all
  all_known t (o ∷ os) old new paths all (next, path, rest, sets, more, is) = all_known t os next new rest (parts_known o 100 o.name t old next path all sets) more
