-- What an option in braces leaves along its name's numbers is what its text gives, and it stays
-- where the options behind it keep off.
use Rattle.std.proofs.Common.{◌≡◌, ℕ, zero, suc, ℤ, List, [], ◌∷◌, ◌++◌, Some, refl, sym, ap, ◌∙◌, subst}
use Rattle.std.proofs.lemmas.Option.{same_Some}
use Rattle.std.specs.List.{AllByRecursion}
use Rattle.descriptor_records.specs.Content.{NameContent, OptionContent}
use Rattle.protobuf_model.specs.Meaning.{if_any, items, message_in}
use Rattle.protobuf_model.specs.Types.{Name, Frame, nested, Label, one, many, Field}
use Rattle.protobuf_model.specs.Values.{Content, list, message, Held, content, Message, chain_of}
use Rattle.protox_lex.specs.Class.{Text}
use Rattle.stored_options.specs.Braces.{KeepsOff, LeadsAlong, LeadsThrough, ListsInto, held_along, held_inside, with_messages}
use Rattle.stored_options.specs.SetOptions.{Gets, LeadAlike, Leads, LeadsInto, Says, SetsAll, SetsLast, SetsParts}
use Rattle.stored_options.proofs.BracesKept.{AreThrough, all_kept, are_through, assign_here, one_type}
use Rattle.text_model.specs.Schemas.{Schema, shape_of}
use Rattle.text_model.specs.Texts.{Gives, IsText}
use Rattle.text_model.specs.Value.{assign, is_set, of_message, wanted_in, wanted_of}

-- ---- an option among others

-- what is there before it and behind it
record SetsAmong (w : Schema) (leads : Leads) (t : Name) (front back : List OptionContent) (o : OptionContent) (old m : Message) : Type 0 where
  pub before : Message
  pub next : Message
  pub path : List ℤ
  pub ways : List (List ℤ)
  pub rest : List (List ℤ)
  pub first : SetsAll w leads t front old before ways
  pub set : SetsParts w leads o 100 t o.name before next path
  pub later : SetsAll w leads t back next m rest

sets_among : (w : Schema) (leads : Leads) (t : Name) (front back : List OptionContent) (o : OptionContent) (old m : Message) (paths : List (List ℤ))
    → SetsAll w leads t (front ++ (o ∷ back)) old m paths → SetsAmong w leads t front back o old m
sets_among w leads t [] back o old m paths (next, path, rest, set, later, is) = record {
  before = old;
  next = next;
  path = path;
  ways = [];
  rest = rest;
  first = (refl, refl);
  set = set;
  later = later;
}
sets_among w leads t (x ∷ front) back o old m paths (then, path, rest, here, more, is) =
    let r : SetsAmong w leads t front back o then m = sets_among w leads t front back o then m rest more in
    record {
      before = r.before;
      next = r.next;
      path = r.path;
      ways = path ∷ r.ways;
      rest = r.rest;
      first = (then, path, r.ways, here, r.first, refl);
      set = r.set;
      later = r.later;
    }

-- a list with one message more is set
one_more : (cs : List Content) (x : Message) → if_any (cs ++ (message x ∷ [])) ≡ content (list (chain_of (cs ++ (message x ∷ []))))
one_more [] x = refl
one_more (c ∷ cs) x = refl

module _ (w : Schema) (leads : Leads) (alike : LeadAlike leads leads) (o : OptionContent) (z : Text) (has : o.aggregate_value ≡ Some z) (u : Name) where
  -- ---- what the text gives is what a field gets

  text_said : (c : Content) → Says w o (of_message (shape_of w u)) c → (x : Message) × Gives w u z x × (c ≡ message x)
  text_said c (y, tree, x, at, text, gives, is) =
      let same : y ≡ z = same_Some y z (sym at ∙ has) in
      (x, (tree, subst (λ v. IsText v tree) same text, gives), is)

  -- what the last part of the name gives to a field of a number
  abbrev Given : Name → (old new : Message) → ℕ → Field → Type 0
  Given t old new n f = (c : Content) × Says w o (wanted_of w (w.names t) n f.part f.label) c × Gets (w.types t) n f f.label c old new

  -- of a field that is no map's
  got : (t : Name) (part : NameContent) (n : ℕ) (f : Field) (frame : Frame) (l : Label) → leads t part n → w.types t n ≡ Some f → f.label ≡ l → f.part.kind ≡ nested frame u
      → wanted_of w (w.names t) n f.part l ≡ wanted_in w ((w.names t).enum_number n) f.part.kind → (old new : Message) (path : List ℤ) → SetsLast w leads o t part old new path
      → (x : Message) × Gives w u z x × Gets (w.types t) n f l (message x) old new
  got t part n f frame l led declared label kind plain old new path (k, g, c, led_too, declared_too, says, gets, is) =
      let same : k ≡ n = alike t part k n led_too led in
      let fields : g ≡ f = same_Some g f (sym declared_too ∙ ap (w.types t) same ∙ declared) in
      let moved : Given t old new n g = subst (λ j. Given t old new j g) same (c, says, gets) in
      let given : Given t old new n f = subst (Given t old new n) fields moved in
      let wanted : wanted_of w (w.names t) n f.part f.label ≡ of_message (shape_of w u) =
      ap (wanted_of w (w.names t) n f.part) label ∙ plain ∙ ap (wanted_in w ((w.names t).enum_number n)) kind in
      let said = text_said given.0 (subst (λ x. Says w o x given.0) wanted given.1) in
      (said.0, said.1, subst (λ d. Gets (w.types t) n f l d old new) said.2 (subst (λ x. Gets (w.types t) n f x given.0 old new) label given.2))

  got_one : (t : Name) (part : NameContent) (n : ℕ) → LeadsInto w leads t part n u → (old new : Message) (path : List ℤ) → SetsLast w leads o t part old new path
      → (x : Message) × Gives w u z x × (new n ≡ content (message x))
  got_one t part n into old new path sets =
      let r = got t part n into.field into.frame one into.led into.declared into.alone into.kind refl old new path sets in
      let gets : Gets (w.types t) n into.field one (message r.0) old new = r.2 in
      (r.0, r.1, ap (λ (m : Message). m n) gets.1 ∙ assign_here (w.types t) n (content (message r.0)) old)

  pub got_listed : (t : Name) (part : NameContent) (n : ℕ) → ListsInto w leads t part n u → (old new : Message) (path : List ℤ) → SetsLast w leads o t part old new path
      → (x : Message) × Gives w u z x × (new n ≡ with_messages (old n) (x ∷ []))
  got_listed t part n into old new path sets =
      let r = got t part n into.field into.frame (many into.packed) into.led into.declared into.listed into.kind refl old new path sets in
      let gets : Gets (w.types t) n into.field (many into.packed) (message r.0) old new = r.2 in
      let h : Held = if_any (items (old n) ++ (message r.0 ∷ [])) in
      let is : assign (w.types t) n h old ≡ new = same_Some (assign (w.types t) n h old) new gets in
      (r.0, r.1, ap (λ (m : Message). m n) (sym is) ∙ assign_here (w.types t) n h old ∙ one_more (items (old n)) r.0)

  -- ---- along the name

  -- where the numbers go on, a message that is not there yet is an empty one
  empty_inside : (t : Name) (ns : List ℕ) → AreThrough w t ns → (h : Held) → held_along ns (message_in h) ≡ held_inside ns h
  empty_inside t [] way h = absurd way
  empty_inside t (n ∷ ns) way h = refl

  module _ (ends : Leads) (result : Held → Message → Held)
      (last : (t : Name) (part : NameContent) (n : ℕ) → ends t part n → (old new : Message) (path : List ℤ) → SetsLast w leads o t part old new path → (x : Message) × Gives w u z x × (new n ≡ result (old n) x)) where
    pub set_along : (levels : ℕ) (t : Name) (parts : List NameContent) (ns : List ℕ) → LeadsThrough w leads ends t parts ns → (old new : Message) (path : List ℤ) → SetsParts w leads o levels t parts old new path
        → (x : Message) × Gives w u z x × (held_along ns new ≡ result (held_along ns old) x)
    set_along levels t [] ns along old new path sets = absurd along
    set_along levels t (part ∷ []) ns (n, ending, is) old new path sets =
        let r = last t part n ending old new path sets in
        (r.0, r.1, subst (λ ks. held_along ks new ≡ result (held_along ks old) r.0) (sym is) r.2)
    set_along zero t (part ∷ next ∷ parts) ns along old new path sets = absurd sets
    set_along (suc levels) t (part ∷ next ∷ parts) ns (n, v, rest, into, more, is) old new path (k, v_too, into_too, inner, way, sets, made, path_is) =
        let same : k ≡ n = alike t part k n into_too.led into.led in
        let names : v_too ≡ v = one_type w leads t part part n v_too v (subst (λ j. LeadsInto w leads t part j v_too) same into_too) into in
        let moved : SetsParts w leads o levels v (next ∷ parts) (message_in (old n)) inner way =
        subst (λ j. SetsParts w leads o levels v (next ∷ parts) (message_in (old j)) inner way) same (subst (λ x. SetsParts w leads o levels x (next ∷ parts) (message_in (old k)) inner way) names sets) in
        let r = set_along levels v (next ∷ parts) rest more (message_in (old n)) inner way moved in
        let here : new n ≡ content (message inner) =
        ap (λ (m : Message). m n) made ∙ subst (λ j. assign (w.types t) k (content (message inner)) old j ≡ content (message inner)) same (assign_here (w.types t) k (content (message inner)) old) in
        let there : held_along (n ∷ rest) new ≡ result (held_along (n ∷ rest) old) r.0 =
        ap (held_inside rest) here ∙ r.2 ∙ ap (λ h. result h r.0) (empty_inside v rest (are_through w leads ends (next ∷ parts) v rest more) (old n)) in
        (r.0, r.1, subst (λ ks. held_along ks new ≡ result (held_along ks old) r.0) (sym is) there)

-- ---- behind all options

pub message_held : (w : Schema) (leads : Leads) → LeadAlike leads leads → (t u : Name) (front back : List OptionContent) (o : OptionContent) (old m : Message) (paths : List (List ℤ)) (ns : List ℕ) (z : Text)
    → SetsAll w leads t (front ++ (o ∷ back)) old m paths → LeadsAlong w leads t o.name ns u → o.aggregate_value ≡ Some z → AllByRecursion (λ (x : OptionContent). KeepsOff w leads t ns x.name) back
    → (x : Message) × Gives w u z x × (held_along ns m ≡ content (message x))
message_held w leads alike t u front back o old m paths ns z sets along has off =
    let among : SetsAmong w leads t front back o old m = sets_among w leads t front back o old m paths sets in
    let r = set_along w leads alike o z has u (λ v part n. LeadsInto w leads v part n u) (λ h x. content (message x)) (got_one w leads alike o z has u) 100 t o.name ns along among.before among.next among.path among.set in
    let way : AreThrough w t ns = are_through w leads (λ v part n. LeadsInto w leads v part n u) o.name t ns along in
    (r.0, r.1, all_kept w leads ns t way back among.next m among.rest off (ap is_set r.2) among.later ∙ r.2)
