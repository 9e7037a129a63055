-- What stands along numbers stays there where options keep off.
use Rattle.std.proofs.Common.{◌≡◌, ◌⊎◌, inl, inr, ℕ, zero, suc, ℤ, true, false, cond, List, [], ◌∷◌, ◌++◌, map, Option, Some, refl, sym, ap, ◌∙◌, subst}
use Rattle.std.proofs.lemmas.Bool.Decides.{eqb_tells}
use Rattle.std.proofs.lemmas.Option.{same_Some}
use Rattle.std.specs.List.{AllByRecursion}
use Rattle.descriptor_records.specs.Content.{NameContent, OptionContent}
use Rattle.protobuf_model.specs.Meaning.{if_any, if_some, items, message_in, pairs, put_all}
use Rattle.protobuf_model.specs.Types.{Name, Frame, nested, Label, one, many, keyed, Field, rival}
use Rattle.protobuf_model.specs.Values.{Content, message, Held, content, records, Message, absent}
use Rattle.stored_options.specs.Braces.{IsApart, KeepsOff, LeadsAround, LeadsThrough, held_along, held_inside}
use Rattle.stored_options.specs.SetOptions.{Gets, Leads, LeadsInto, SetsAll, SetsParts}
use Rattle.text_model.specs.Schemas.{Schema}
use Rattle.text_model.specs.Value.{assign, entry_of, is_set, settled}

-- ---- one number

pub assign_here : (type : ℕ → Option Field) (n : ℕ) (h : Held) (m : Message) → assign type n h m n ≡ h
assign_here type n h m = elim (eqb_tells n n) [
  | inl e ↦ ap (λ b. cond b h (cond (rival type n n) absent (m n))) e.0
  | inr e ↦ absurd (e.1 refl)
]

left_there : (type : ℕ → Option Field) (k n : ℕ) (h : Held) (m : Message) → IsApart type k n → assign type k h m n ≡ m n
left_there type k n h m apart = elim (eqb_tells n k) [
  | inl e ↦ absurd (apart.0 (sym e.1))
  | inr e ↦ ap (λ b. cond b h (cond (rival type k n) absent (m n))) e.0 ∙ ap (λ b. cond b absent (m n)) apart.1
]

-- whatever a field gets is put under its number
abbrev Assigns : (ℕ → Option Field) → ℕ → (old new : Message) → Type 0
Assigns type k old new = (h : Held) × (new ≡ assign type k h old)

pub gets_assigns : (type : ℕ → Option Field) (k : ℕ) (f : Field) (l : Label) (c : Content) (old new : Message) → Gets type k f l c old new → Assigns type k old new
gets_assigns type k f one c old new gets = (settled f.part c, gets.1)
gets_assigns type k f (many packed) c old new gets =
    let h : Held = if_any (items (old k) ++ (c ∷ [])) in
    (h, sym (same_Some (assign type k h old) new gets))
gets_assigns type k f (keyed key) c old new gets =
    let h : Held = if_some (put_all (pairs (old k)) (map (entry_of key f.part) (c ∷ []))) in
    (h, sym (same_Some (assign type k h old) new gets))

apart_kept : (type : ℕ → Option Field) (k n : ℕ) (old new : Message) → Assigns type k old new → IsApart type k n → new n ≡ old n
apart_kept type k n old new (h, is) apart = ap (λ (m : Message). m n) is ∙ left_there type k n h old apart

-- ---- inside what is not set nothing is

pub absent_inside : (ns : List ℕ) → held_inside ns absent ≡ absent
absent_inside [] = refl
absent_inside (n ∷ ns) = absent_inside ns

none_inside : (q : ℕ) (ns : List ℕ) (h : Held) → is_set h ≡ false → is_set (held_inside (q ∷ ns) h) ≡ false
none_inside q ns (content c) e = let clash : true ≡ false = e in absurd (cc clash)
none_inside q ns (records ps) e = ap is_set (absent_inside ns)

-- ---- the fields on the way

-- the field of the number holds one message of the type
pub record HoldsMessage (w : Schema) (t : Name) (n : ℕ) (u : Name) : Type 0 where
  pub field : Field
  pub frame : Frame
  pub declared : w.types t n ≡ Some field
  pub alone : field.label ≡ one
  pub kind : field.part.kind ≡ nested frame u

-- all numbers but the last are those of fields that hold one message each
abbrev pub AreThrough : Schema → Name → List ℕ → Type 0
AreThrough w t [] = ⊥
AreThrough w t (n ∷ []) = Unit {0}
AreThrough w t (n ∷ q ∷ ns) = (u : Name) × HoldsMessage w t n u × AreThrough w u (q ∷ ns)

one_further : (w : Schema) (t : Name) (n : ℕ) (u : Name) → HoldsMessage w t n u → (ns : List ℕ) → AreThrough w u ns → AreThrough w t (n ∷ ns)
one_further w t n u holds [] way = absurd way
one_further w t n u holds (q ∷ ns) way = (u, holds, way)

holds_message : (w : Schema) (leads : Leads) (t : Name) (part : NameContent) (n : ℕ) (u : Name) → LeadsInto w leads t part n u → HoldsMessage w t n u
holds_message w leads t part n u into = record {
  field = into.field;
  frame = into.frame;
  declared = into.declared;
  alone = into.alone;
  kind = into.kind;
}

pub are_through : (w : Schema) (leads ends : Leads) (parts : List NameContent) (t : Name) (ns : List ℕ) → LeadsThrough w leads ends t parts ns → AreThrough w t ns
are_through w leads ends [] t ns h = absurd h
are_through w leads ends (part ∷ []) t ns (n, last, is) = subst (AreThrough w t) (sym is) tt
are_through w leads ends (part ∷ next ∷ parts) t ns (n, u, rest, into, more, is) =
    subst (AreThrough w t) (sym is) (one_further w t n u (holds_message w leads t part n u into) rest (are_through w leads ends (next ∷ parts) u rest more))

-- the type inside a field is one
one_inside : (w : Schema) (t : Name) (n : ℕ) (u v : Name) → HoldsMessage w t n u → HoldsMessage w t n v → u ≡ v
one_inside w t n u v a b =
    let fields : a.field ≡ b.field = same_Some a.field b.field (sym a.declared ∙ b.declared) in
    let kinds : nested a.frame u ≡ nested b.frame v = sym a.kind ∙ ap (λ (f : Field). f.part.kind) fields ∙ b.kind in
    cc kinds

-- two parts that lead into the same field lead into messages of one type
pub one_type : (w : Schema) (leads : Leads) (t : Name) (a b : NameContent) (n : ℕ) (u v : Name) → LeadsInto w leads t a n u → LeadsInto w leads t b n v → u ≡ v
one_type w leads t a b n u v first second = one_inside w t n u v (holds_message w leads t a n u first) (holds_message w leads t b n v second)

-- something stands there, in fields that hold one message each
abbrev pub Stands : Schema → Name → List ℕ → Message → Type 0
Stands w t ns m = AreThrough w t ns × (is_set (held_along ns m) ≡ true)

-- and so it does in the message of the first of them
stands_inside : (w : Schema) (t : Name) (n q : ℕ) (ns : List ℕ) (u : Name) → HoldsMessage w t n u → (m : Message) → Stands w t (n ∷ q ∷ ns) m → Stands w u (q ∷ ns) (message_in (m n))
stands_inside w t n q ns u holds m ((v, other, way), set) = (subst (λ x. AreThrough w x (q ∷ ns)) (one_inside w t n v u other holds) way, set)

module _ (w : Schema) (leads : Leads) where
  -- ---- along a name that keeps off

  -- what is set along a name that leads into a message on the way
  inner_kept : (t : Name) (n q : ℕ) (ns : List ℕ) (part next : NameContent) (parts : List NameContent) (old new inner : Message) (k : ℕ) (u : Name)
      → LeadsInto w leads t part k u → KeepsOff w leads t (n ∷ q ∷ ns) (part ∷ next ∷ parts)
      → (LeadsAround w leads t (n ∷ q ∷ ns) (part ∷ next ∷ parts) → Stands w t (n ∷ q ∷ ns) old)
      → new ≡ assign (w.types t) k (content (message inner)) old
      → (KeepsOff w leads u (q ∷ ns) (next ∷ parts) → (LeadsAround w leads u (q ∷ ns) (next ∷ parts) → Stands w u (q ∷ ns) (message_in (old k)))
      → held_along (q ∷ ns) inner ≡ held_along (q ∷ ns) (message_in (old k)))
      → held_along (n ∷ q ∷ ns) new ≡ held_along (n ∷ q ∷ ns) old
  inner_kept t n q ns part next parts old new inner k u into off set is below = by (off k into.led) where
    by : IsApart (w.types t) k n ⊎ ((k ≡ n) × ((x : Name) → LeadsInto w leads t part k x → KeepsOff w leads x (q ∷ ns) (next ∷ parts))) → held_along (n ∷ q ∷ ns) new ≡ held_along (n ∷ q ∷ ns) old
    by (inl apart) = ap (held_inside (q ∷ ns)) (apart_kept (w.types t) k n old new (content (message inner), is) apart)
    by (inr (same, inside)) =
        let there : LeadsInto w leads t part n u = subst (λ j. LeadsInto w leads t part j u) same into in
        let around : LeadsAround w leads u (q ∷ ns) (next ∷ parts) → Stands w u (q ∷ ns) (message_in (old k)) =
        λ a. subst (λ j. Stands w u (q ∷ ns) (message_in (old j))) (sym same) (stands_inside w t n q ns u (holds_message w leads t part n u there) old (set (u, there, a))) in
        let here : new n ≡ content (message inner) =
        ap (λ (m : Message). m n) is ∙ subst (λ j. assign (w.types t) k (content (message inner)) old j ≡ content (message inner)) same (assign_here (w.types t) k (content (message inner)) old) in
        ap (held_inside (q ∷ ns)) here ∙ below (inside u into) around ∙ ap (λ j. held_along (q ∷ ns) (message_in (old j))) same

  -- what is set at the end of a name that leads to a message on the way: it is not, where something
  -- stands inside already
  whole_kept : (t : Name) (n q : ℕ) (ns : List ℕ) (part : NameContent) (old new : Message) (k : ℕ) (f : Field) (c : Content)
      → leads t part k → w.types t k ≡ Some f → Gets (w.types t) k f f.label c old new → KeepsOff w leads t (n ∷ q ∷ ns) (part ∷ [])
      → (LeadsAround w leads t (n ∷ q ∷ ns) (part ∷ []) → Stands w t (n ∷ q ∷ ns) old) → held_along (n ∷ q ∷ ns) new ≡ held_along (n ∷ q ∷ ns) old
  whole_kept t n q ns part old new k f c led has gets off set = by (off k led) where
    by : IsApart (w.types t) k n ⊎ (k ≡ n) → held_along (n ∷ q ∷ ns) new ≡ held_along (n ∷ q ∷ ns) old
    by (inl apart) = ap (held_inside (q ∷ ns)) (apart_kept (w.types t) k n old new (gets_assigns (w.types t) k f f.label c old new gets) apart)
    by (inr same) =
        let stands : Stands w t (n ∷ q ∷ ns) old = set (subst (leads t part) same led) in
        let holds : HoldsMessage w t n stands.0.0 = stands.0.1 in
        let fields : f ≡ holds.field = same_Some f holds.field (sym has ∙ ap (w.types t) same ∙ holds.declared) in
        let label : f.label ≡ one = ap (λ (x : Field). x.label) fields ∙ holds.alone in
        let single : Gets (w.types t) k f one c old new = subst (λ l. Gets (w.types t) k f l c old new) label gets in
        let unset : is_set (held_along (n ∷ q ∷ ns) old) ≡ false = none_inside q ns (old n) (subst (λ j. is_set (old j) ≡ false) same single.0) in
        let clash : true ≡ false = sym stands.1 ∙ unset in
        absurd (cc clash)

  -- an option that leads around what stands there has to find it set
  pub parts_kept : (ns : List ℕ) (t : Name) (o : OptionContent) (levels : ℕ) (parts : List NameContent) (old new : Message) (path : List ℤ) → KeepsOff w leads t ns parts
      → (LeadsAround w leads t ns parts → Stands w t ns old) → SetsParts w leads o levels t parts old new path → held_along ns new ≡ held_along ns old
  parts_kept [] t o levels parts old new path off set sets = absurd off
  parts_kept (n ∷ ns) t o levels [] old new path off set sets = ap (held_along (n ∷ ns)) sets.0
  parts_kept (n ∷ []) t o levels (part ∷ []) old new path off set (k, f, c, led, has, says, gets, is) =
      apart_kept (w.types t) k n old new (gets_assigns (w.types t) k f f.label c old new gets) (off k led)
  parts_kept (n ∷ q ∷ ns) t o levels (part ∷ []) old new path off set (k, f, c, led, has, says, gets, is) = whole_kept t n q ns part old new k f c led has gets off set
  parts_kept (n ∷ ns) t o zero (part ∷ next ∷ parts) old new path off set sets = absurd sets
  parts_kept (n ∷ []) t o (suc levels) (part ∷ next ∷ parts) old new path off set (k, u, into, inner, rest, sets, is, along) =
      apart_kept (w.types t) k n old new (content (message inner), is) (off k into.led)
  parts_kept (n ∷ q ∷ ns) t o (suc levels) (part ∷ next ∷ parts) old new path off set (k, u, into, inner, rest, sets, is, along) =
      inner_kept t n q ns part next parts old new inner k u into off set is
      (λ away around. parts_kept (q ∷ ns) u o levels (next ∷ parts) (message_in (old k)) inner rest away around sets)

  -- one option after another leaves what is set where they keep off
  pub all_kept : (ns : List ℕ) (t : Name) → AreThrough w t ns → (os : List OptionContent) (old new : Message) (paths : List (List ℤ))
      → AllByRecursion (λ (x : OptionContent). KeepsOff w leads t ns x.name) os → is_set (held_along ns old) ≡ true → SetsAll w leads t os old new paths → held_along ns new ≡ held_along ns old
  all_kept ns t way [] old new paths off set sets = ap (held_along ns) sets.0
  all_kept ns t way (o ∷ os) old new paths off set (next, path, rest, sets, more, is) =
      let here : held_along ns next ≡ held_along ns old = parts_kept ns t o 100 o.name old next path off.0 (λ around. (way, set)) sets in
      all_kept ns t way os next new rest off.1 (ap is_set here ∙ set) more ∙ here
