-- Options set one message, along one path, by the numbers that their names lead to.
use Rattle.std.proofs.Common.{◌≡◌, ℕ, zero, suc, ℤ, List, [], ◌∷◌, Option, Some, sym, ap, ◌∙◌, subst}
use Rattle.std.proofs.lemmas.Option.{same_Some}
use Rattle.descriptor_records.specs.Content.{NameContent, OptionContent}
use Rattle.protobuf_model.specs.Meaning.{message_in}
use Rattle.protobuf_model.specs.Types.{Name, Frame, Kind, nested, Label, one, many, keyed, Field}
use Rattle.protobuf_model.specs.Values.{Content, message, content, Message, nothing}
use Rattle.text_model.specs.Schemas.{Schema}
use Rattle.text_model.specs.Texts.{IsText}
use Rattle.text_model.specs.Value.{Wanted, of_scalar, of_message, assign, wanted_of}
use Rattle.text_model.proofs.Merging.{one_text}
use Rattle.stored_options.specs.SetOptions.{Gets, LeadAlike, Leads, Says, SetsAll, SetsLast, SetsParts, leads_by, number, place_in}
use Rattle.text_model.specs.Tree.{Fields}
use Rattle.text_model.specs.Value.{value}

-- ---- what an option says, and what a field gets

pub says_one : (w : Schema) (o : OptionContent) (wanted : Wanted) (c d : Content) → Says w o wanted c → Says w o wanted d → c ≡ d
says_one w o (of_scalar enum k) c d a b = same_Some c d (sym a ∙ b)
says_one w o (of_message s) c d (z, tree, m, at, text, gives, is) (y, other, n, also, reads, given, same) =
    let one_z : z ≡ y = same_Some z y (sym at ∙ also) in
    let trees : tree ≡ other = one_text y tree other (subst (λ x. IsText x tree) one_z text).spelled reads.spelled in
    let messages : m ≡ n = same_Some m n (sym gives ∙ ap (λ (fs : Fields). value w s fs nothing) trees ∙ given) in
    is ∙ ap message messages ∙ sym same

pub gets_one : (type : ℕ → Option Field) (n : ℕ) (f : Field) (l : Label) (c : Content) (old new other : Message) → Gets type n f l c old new → Gets type n f l c old other → new ≡ other
gets_one type n f one c old new other a b = a.1 ∙ sym b.1
gets_one type n f (many packed) c old new other a b = same_Some new other (sym a ∙ b)
gets_one type n f (keyed key) c old new other a b = same_Some new other (sym a ∙ b)

pub one_lead : (lead : Name → NameContent → Option ℕ) → LeadAlike (leads_by lead) (leads_by lead)
one_lead lead t part n k a b = same_Some n k (sym a ∙ b)

module _ (w : Schema) (a b : Leads) (alike : LeadAlike a b) where
  -- ---- the last part

  -- what is set under a number, in its field
  abbrev InField : OptionContent → Name → (old new : Message) → List ℤ → ℕ → Field → Type 0
  InField o t old new path n f = (c : Content) × Says w o (wanted_of w (w.names t) n f.part f.label) c × Gets (w.types t) n f f.label c old new
      × (path ≡ number n ∷ place_in f.label n old)

  abbrev Under : OptionContent → Name → (old new : Message) → List ℤ → ℕ → Type 0
  Under o t old new path n = (f : Field) × (w.types t n ≡ Some f) × InField o t old new path n f

  under : (leads : Leads) (o : OptionContent) (t : Name) (part : NameContent) (old new : Message) (path : List ℤ) (sets : SetsLast w leads o t part old new path) → Under o t old new path sets.0
  under leads o t part old new path (n, f, c, led, has, says, gets, is) = (f, has, (c, says, gets, is))

  under_one : (o : OptionContent) (t : Name) (n : ℕ) (old new other : Message) (path also : List ℤ) → Under o t old new path n → Under o t old other also n → (new ≡ other) × (path ≡ also)
  under_one o t n old new other path also (f, has, (c, says, gets, is)) (g, too, rest) =
      let fields : g ≡ f = same_Some g f (sym too ∙ has) in
      let r = subst (InField o t old other also n) fields rest in
      let contents : r.0 ≡ c = says_one w o (wanted_of w (w.names t) n f.part f.label) r.0 c r.1 says in (
        gets_one (w.types t) n f f.label c old new other gets (subst (λ d. Gets (w.types t) n f f.label d old other) contents r.2),
        is ∙ sym r.3,
      )

  last_one : (o : OptionContent) (t : Name) (part : NameContent) (old new other : Message) (path also : List ℤ) → SetsLast w a o t part old new path
      → SetsLast w b o t part old other also → (new ≡ other) × (path ≡ also)
  last_one o t part old new other path also first second =
      let numbers : second.0 ≡ first.0 = sym (alike t part first.0 second.0 first.3 second.3) in
      under_one o t first.0 old new other path also (under a o t part old new path first) (subst (Under o t old other also) numbers (under b o t part old other also second))

  -- ---- along a name

  -- what is set inside the message that a field holds
  abbrev Inside : Leads → OptionContent → ℕ → List NameContent → Name → (old new : Message) → List ℤ → ℕ → Kind → Type 0
  Inside leads o levels parts t old new path n k = (frame : Frame) × (u : Name) × (inner : Message) × (rest : List ℤ) × (k ≡ nested frame u)
      × SetsParts w leads o levels u parts (message_in (old n)) inner rest
      × (new ≡ assign (w.types t) n (content (message inner)) old) × (path ≡ number n ∷ rest)

  abbrev Through : Leads → OptionContent → ℕ → List NameContent → Name → (old new : Message) → List ℤ → ℕ → Type 0
  Through leads o levels parts t old new path n = (f : Field) × (w.types t n ≡ Some f) × Inside leads o levels parts t old new path n f.part.kind

  abbrev OneBelow : OptionContent → ℕ → List NameContent → Type 0
  OneBelow o levels parts = (u : Name) (old new other : Message) (path also : List ℤ) → SetsParts w a o levels u parts old new path
      → SetsParts w b o levels u parts old other also → (new ≡ other) × (path ≡ also)

  inside_one : (o : OptionContent) (levels : ℕ) (parts : List NameContent) → OneBelow o levels parts → (t : Name) (n : ℕ) (k : Kind) (old new other : Message) (path also : List ℤ)
      → Inside a o levels parts t old new path n k → Inside b o levels parts t old other also n k → (new ≡ other) × (path ≡ also)
  inside_one o levels parts below t n k old new other path also (frame, u, inner, rest, kind, sets, is, along) (tag, v, deep, more, too, also_sets, same, way) =
      let kinds : nested frame u ≡ nested tag v = sym kind ∙ too in
      let names : v ≡ u = cc kinds in
      let r = below u (message_in (old n)) inner deep rest more sets (subst (λ x. SetsParts w b o levels x parts (message_in (old n)) deep more) names also_sets) in (
        is ∙ ap (λ m. assign (w.types t) n (content (message m)) old) r.0 ∙ sym same,
        along ∙ ap (λ p. number n ∷ p) r.1 ∙ sym way,
      )

  through_one : (o : OptionContent) (levels : ℕ) (parts : List NameContent) → OneBelow o levels parts → (t : Name) (n : ℕ) (old new other : Message) (path also : List ℤ)
      → Through a o levels parts t old new path n → Through b o levels parts t old other also n → (new ≡ other) × (path ≡ also)
  through_one o levels parts below t n old new other path also (f, has, first) (g, too, second) =
      let fields : g ≡ f = same_Some g f (sym too ∙ has) in
      inside_one o levels parts below t n f.part.kind old new other path also first (subst (λ (x : Field). Inside b o levels parts t old other also n x.part.kind) fields second)

  pub parts_one : (o : OptionContent) (levels : ℕ) (parts : List NameContent) → OneBelow o levels parts
  parts_one o levels [] t old new other path also first second = (first.0 ∙ sym second.0, first.1 ∙ sym second.1)
  parts_one o levels (part ∷ []) t old new other path also first second = last_one o t part old new other path also first second
  parts_one o zero (part ∷ next ∷ parts) t old new other path also first second = absurd first
  parts_one o (suc levels) (part ∷ next ∷ parts) t old new other path also (n, u, into, inner, rest, sets, is, along) (k, v, into_too, deep, more, also_sets, same, way) =
      let numbers : k ≡ n = sym (alike t part n k into.led into_too.led) in
      through_one o levels (next ∷ parts) (parts_one o levels (next ∷ parts)) t n old new other path also (into.field, into.declared, (into.frame, u, inner, rest, into.kind, sets, is, along))
      (subst (Through b o levels (next ∷ parts) t old other also) numbers (into_too.field, into_too.declared, (into_too.frame, v, deep, more, into_too.kind, also_sets, same, way)))

  -- ---- one option after another

  pub all_one : (t : Name) (os : List OptionContent) (old new other : Message) (paths others : List (List ℤ)) → SetsAll w a t os old new paths
      → SetsAll w b t os old other others → (new ≡ other) × (paths ≡ others)
  all_one t [] old new other paths others first second = (first.0 ∙ sym second.0, first.1 ∙ sym second.1)
  all_one t (o ∷ os) old new other paths others (next, path, rest, sets, more, is) (then, way, others_rest, also, further, same) =
      let r = parts_one o 100 o.name t old next then path way sets also in
      let s = all_one t os next new other rest others_rest more (subst (λ m. SetsAll w b t os m other others_rest) (sym r.0) further) in
      (s.0, is ∙ ap (λ p. p ∷ rest) r.1 ∙ ap (λ ps. way ∷ ps) s.1 ∙ sym same)
