-- Types of messages stay what they are when files come: each is older than the same type afterwards.
use Rattle.std.proofs.Common.{◌≡◌, ℕ, pos, List, [], ◌⊎◌, inl, inr, map, Bool, true, false, cond, ◌&&◌, not, ◌==◌, Option, Some, None, refl, sym, ap, ◌∙◌, subst}
use Rattle.std.specs.List.{Contains, flat_map}
use Rattle.std.specs.Option.{option_and_then, option_map, option_or}
use Rattle.descriptor_records.specs.Content.{Text, FieldContent, FileContent}
use Rattle.protobuf_model.specs.Types.{Name, Frame, Kind, scalar, nested, Part, Key, one, many, keyed, Field, oneof_of, same_oneof, rival}
use Rattle.protobuf_model.specs.Older.{AreKinds, AnswersTo, IsOlder}
use Rattle.schema_view.specs.Files.{file_name}
use Rattle.schema_view.specs.Declarations.{MessageFacts, of_message, Declaration, declarations}
use Rattle.schema_view.specs.Rules.{is_number, HasType}
use Rattle.schema_view.specs.Lawful.{AddsLawful, Builds}
use Rattle.schema_view.specs.Views.{FileFacts, Held, View, Grows, view_of}
use Rattle.schema_view.specs.Fields.{is_repeated, is_packed, has_presence}
use Rattle.schema_view.specs.Types.{undotted, type_name, message_in, field_in, body_at, message_at, field_at, type_at, says_proto3, is_proto3_at, kind_of, values_of, default_of, part_of, named_in, name_of_field, is_entry, names_entry, entry_part, key_of, map_field, oneof_in, plain_field, held_field, field_named, own_named, extension_named, types_of}
use Rattle.schema_view.proofs.Lists.{contains_map, contains_map_cases, contains_flat, contains_flat_cases}
use Rattle.schema_view.proofs.Road.{AreLinked, built_linked}
use Rattle.schema_view.proofs.Orders.{views_stay}
use Rattle.schema_view.proofs.Looking.{held_by, Declared, looked_up, file_there}
use Rattle.schema_view.proofs.Standing.{StandsIn, type_declared, and_false, named_none, IsMessageType, nested_name, no_message_type, field_sound, NamesField, stands, found, message_there, field_there, extension_there}

module _ (fs gs : List FileContent) (l : AreLinked fs) (grow : Grows (view_of fs) (view_of gs)) where
  abbrev V : View
  V = view_of fs

  abbrev W : View
  W = view_of gs

  same_at : (n : Text) → Declared fs n → V.declared n ≡ W.declared n
  same_at n (f, d, i, j, e) =
      let here = looked_up fs l f d i j in
      subst (λ m. V.declared m ≡ W.declared m) e (here ∙ sym (grow.declared d.name (held_by f d) here))

  pub body_same : (n : Text) → Declared fs n → body_at V n ≡ body_at W n
  body_same n h = ap (option_map (λ (x : Held). x.body)) (same_at n h)

  abbrev proto3_in : Option FileFacts → Bool
  proto3_in o = elim o [ None ↦ false | Some f ↦ says_proto3 f ]

  proto3_same : (n : Text) → Declared fs n → is_proto3_at V n ≡ is_proto3_at W n
  proto3_same n (f, d, i, j, e) =
      let here = looked_up fs l f d i j in
      let later = grow.declared d.name (held_by f d) here in
      let x = file_there fs f i in
      let y = grow.files (file_name f) x.0 x.1 in
      subst (λ m. is_proto3_at V m ≡ is_proto3_at W m) e
      (ap (λ o. proto3_in (option_and_then (λ (h : Held). V.files h.file) o)) here ∙ ap proto3_in x.1
      ∙ sym (ap (λ o. proto3_in (option_and_then (λ (h : Held). W.files h.file) o)) later ∙ ap proto3_in y))

  pub type_same : (c : FieldContent) → StandsIn fs c → type_at V c ≡ type_at W c
  type_same c s = by c.type_name refl where
    by : (o : Option Text) → c.type_name ≡ o → option_and_then (λ t. body_at V (undotted t)) o ≡ option_and_then (λ t. body_at W (undotted t)) o
    by None e = refl
    by (Some t) e = body_same (undotted t) (type_declared fs l c s t e)

  part_same : (p x : Bool) (c : FieldContent) → StandsIn fs c → part_of V p x c ≡ part_of W p x c
  part_same p x c s = ap (λ b. option_map (λ k. record { kind = k; presence = has_presence p x c; default = default_of (values_of b) c.default_value k }) (kind_of c)) (type_same c s)

  named : (n : Text) (c : FieldContent) → NamesField fs n c → Declared fs n
  named n c (f, d, i, j, e, is) = (f, d, i, j, e)

  pub name_same : (t : Text) (n : ℕ) → Declared fs t → name_of_field V t n ≡ name_of_field W t n
  name_same t n h = ap (λ b. option_and_then (named_in t n) (option_and_then message_in b)) (body_same t h)

  -- what stands under a field's name, as a part of an entry and as a field
  abbrev part_in : View → Text → Option Part
  part_in v name = option_and_then (part_of v (is_proto3_at v name) false) (field_at v name)

  part_in_same : (name : Text) (c : FieldContent) → NamesField fs name c → part_in V name ≡ part_in W name
  part_in_same name c s =
      let here = found fs l name c s in
      let there : field_at W name ≡ Some c = sym (ap (option_and_then field_in) (body_same name (named name c s))) ∙ here in
      ap (option_and_then (part_of V (is_proto3_at V name) false)) here
      ∙ ap (λ p. part_of V p false c) (proto3_same name (named name c s))
      ∙ part_same (is_proto3_at W name) false c (stands fs name c s)
      ∙ sym (ap (option_and_then (part_of W (is_proto3_at W name) false)) there)

  entry_part_same : (t : Text) (n : ℕ) → Declared fs t → entry_part V t n ≡ entry_part W t n
  entry_part_same t n h = by (name_of_field V t n) refl ∙ ap (option_and_then (part_in W)) (name_same t n h) where
    by : (o : Option Text) → name_of_field V t n ≡ o → option_and_then (part_in V) (name_of_field V t n) ≡ option_and_then (part_in W) (name_of_field V t n)
    by None e = ap (option_and_then (part_in V)) e ∙ sym (ap (option_and_then (part_in W)) e)
    by (Some name) e =
        let c = field_there fs l t n name e in
        ap (option_and_then (part_in V)) e ∙ part_in_same name c.0 c.1 ∙ sym (ap (option_and_then (part_in W)) e)

  abbrev map_by : Bool → Option ℕ → Option Part → Option Part → Option Field
  map_by x g key value =
      option_and_then (λ part. option_map (λ k. record { part = part; label = keyed k; oneof = g; extension = x }) (option_and_then key_of key)) value

  abbrev plain_by : Bool → Bool → Option ℕ → FieldContent → Option Part → Option Field
  plain_by p x g c part = option_map (λ q. record { part = q; label = cond (is_repeated c) (many (is_packed p c)) one; oneof = g; extension = x }) part

  pub names_same : (c : FieldContent) → StandsIn fs c → names_entry V c ≡ names_entry W c
  names_same c s = ap (λ b. is_number (pos 11) c.field_type && elim (option_and_then message_in b) [ None ↦ false | Some m ↦ is_entry m ]) (type_same c s)

  -- without a name for its type a field is no map
  no_map : (v : View) (p x : Bool) (g : Option ℕ) (c : FieldContent) → c.type_name ≡ None → held_field v p x g c ≡ plain_field v p x g c
  no_map v p x g c e =
      let type : type_at v c ≡ None = ap (option_and_then (λ t. body_at v (undotted t))) e in
      let entry : names_entry v c ≡ false = ap (λ b. is_number (pos 11) c.field_type && elim (option_and_then message_in b) [ None ↦ false | Some m ↦ is_entry m ]) type ∙ and_false (is_number (pos 11) c.field_type) in
      ap (λ b. cond (is_repeated c && b) (map_field v x g c) (plain_field v p x g c)) entry ∙ ap (λ b. cond b (map_field v x g c) (plain_field v p x g c)) (and_false (is_repeated c))

  plain_same : (p x : Bool) (g : Option ℕ) (c : FieldContent) → StandsIn fs c → plain_field V p x g c ≡ plain_field W p x g c
  plain_same p x g c s = ap (plain_by p x g c) (part_same p x c s)

  map_same : (x : Bool) (g : Option ℕ) (c : FieldContent) → Declared fs (type_name c) → map_field V x g c ≡ map_field W x g c
  map_same x g c h =
      ap (λ k. map_by x g k (entry_part V (type_name c) 2)) (entry_part_same (type_name c) 1 h)
      ∙ ap (map_by x g (entry_part W (type_name c) 1)) (entry_part_same (type_name c) 2 h)

  held_same : (p x : Bool) (g : Option ℕ) (c : FieldContent) → StandsIn fs c → held_field V p x g c ≡ held_field W p x g c
  held_same p x g c s = by c.type_name refl where
    by : (o : Option Text) → c.type_name ≡ o → held_field V p x g c ≡ held_field W p x g c
    by None e = no_map V p x g c e ∙ plain_same p x g c s ∙ sym (no_map W p x g c e)
    by (Some t) e =
        let there : Declared fs (type_name c) = subst (λ o. Declared fs (elim o [ None ↦ [] | Some t ↦ undotted t ])) (sym e) (type_declared fs l c s t e) in
        ap (λ b. cond (is_repeated c && b) (map_field V x g c) (plain_field V p x g c)) (names_same c s)
        ∙ ap (λ f. cond (is_repeated c && names_entry W c) f (plain_field V p x g c)) (map_same x g c there)
        ∙ ap (λ f. cond (is_repeated c && names_entry W c) (map_field W x g c) f) (plain_same p x g c s)

  pub field_named_same : (x : Bool) (g : FieldContent → Option ℕ) (name : Text) (c : FieldContent) → NamesField fs name c → field_named V x g name ≡ field_named W x g name
  field_named_same x g name c s =
      let here = found fs l name c s in
      let there : field_at W name ≡ Some c = sym (ap (option_and_then field_in) (body_same name (named name c s))) ∙ here in
      ap (option_and_then (λ f. held_field V (is_proto3_at V name) x (g f) f)) here
      ∙ ap (λ p. held_field V p x (g c) c) (proto3_same name (named name c s))
      ∙ held_same (is_proto3_at W name) x (g c) c (stands fs name c s)
      ∙ sym (ap (option_and_then (λ f. held_field W (is_proto3_at W name) x (g f) f)) there)

  -- the fields that a declared message has itself
  pub own_same : (t : Text) (n : ℕ) → Declared fs t → option_and_then (own_named V t) (name_of_field V t n) ≡ option_and_then (own_named W t) (name_of_field W t n)
  own_same t n h = by (name_of_field V t n) refl ∙ ap (option_and_then (own_named W t)) (name_same t n h) where
    by : (o : Option Text) → name_of_field V t n ≡ o → option_and_then (own_named V t) (name_of_field V t n) ≡ option_and_then (own_named W t) (name_of_field V t n)
    by None e = ap (option_and_then (own_named V t)) e ∙ sym (ap (option_and_then (own_named W t)) e)
    by (Some name) e =
        let c = field_there fs l t n name e in
        ap (option_and_then (own_named V t)) e
        ∙ field_named_same false (oneof_in (message_at V t)) name c.0 c.1
        ∙ ap (λ b. field_named W false (oneof_in (option_and_then message_in b)) name) (body_same t h)
        ∙ sym (ap (option_and_then (own_named W t)) e)

  -- a field that a declared message has it keeps
  pub kept : (t : Text) (n : ℕ) → Declared fs t → (types_of V t n ≡ None) ⊎ (types_of V t n ≡ types_of W t n)
  kept t n h = by (option_and_then (own_named V t) (name_of_field V t n)) refl where
    rest : (o : Option Text) → V.extensions (t, pos n) ≡ o → (option_and_then (extension_named V) o ≡ None) ⊎ (option_and_then (extension_named V) o ≡ option_and_then (extension_named W) (W.extensions (t, pos n)))
    rest None e = inl refl
    rest (Some name) e =
        let c = extension_there fs l t (pos n) name e in
        inr (field_named_same true (λ f. None) name c.0 c.1 ∙ sym (ap (option_and_then (extension_named W)) (grow.extensions (t, pos n) name e)))

    by : (o : Option Field) → option_and_then (own_named V t) (name_of_field V t n) ≡ o → (types_of V t n ≡ None) ⊎ (types_of V t n ≡ types_of W t n)
    by (Some f) e =
        inr (ap (λ o. option_or o (option_and_then (extension_named V) (V.extensions (t, pos n)))) e
        ∙ sym (ap (λ o. option_or o (option_and_then (extension_named W) (W.extensions (t, pos n)))) (sym (own_same t n h) ∙ e)))
    by None e =
        let old : types_of V t n ≡ option_and_then (extension_named V) (V.extensions (t, pos n)) = ap (λ o. option_or o (option_and_then (extension_named V) (V.extensions (t, pos n)))) e in
        let new : types_of W t n ≡ option_and_then (extension_named W) (W.extensions (t, pos n)) = ap (λ o. option_or o (option_and_then (extension_named W) (W.extensions (t, pos n)))) (sym (own_same t n h) ∙ e) in
        elim (rest (V.extensions (t, pos n)) refl) [ inl k ↦ inl (old ∙ k) | inr k ↦ inr (old ∙ k ∙ sym new) ]

  -- one that it has not is in no oneof later
  pub joins_no_oneof : (t : Text) (n : ℕ) → Declared fs t → types_of V t n ≡ None → oneof_of (types_of W t n) ≡ None
  joins_no_oneof t n h e =
      let own : option_and_then (own_named V t) (name_of_field V t n) ≡ None = first_none (option_and_then (own_named V t) (name_of_field V t n)) (option_and_then (extension_named V) (V.extensions (t, pos n))) e in
      let new : types_of W t n ≡ option_and_then (extension_named W) (W.extensions (t, pos n)) = ap (λ o. option_or o (option_and_then (extension_named W) (W.extensions (t, pos n)))) (sym (own_same t n h) ∙ own) in
      ap oneof_of new ∙ by (W.extensions (t, pos n)) where
        first_none : (a b : Option Field) → option_or a b ≡ None → a ≡ None
        first_none None b e = refl
        first_none (Some f) b e = let no : Some f ≡ None = e in absurd (cc)

        by : (o : Option Text) → oneof_of (option_and_then (extension_named W) o) ≡ None
        by None = refl
        by (Some name) = named_none W name

  -- the messages that a field of a declared one holds are declared
  kind_declared : (c : FieldContent) → StandsIn fs c → (frame : Frame) (u : Text) → kind_of c ≡ Some (nested frame u) → Declared fs u
  kind_declared c s frame u e = by c.type_name refl (nested_name c.field_type (type_name c) frame u e) where
    by : (o : Option Text) → c.type_name ≡ o → (type_name c ≡ u) × IsMessageType c.field_type → Declared fs u
    by (Some t) h n = subst (Declared fs) (ap (λ o. elim o [ None ↦ [] | Some t ↦ undotted t ]) (sym h) ∙ n.0) (type_declared fs l c s t h)
    by None h n = absurd (no_message_type c.field_type n.1 (subst (HasType c.field_type) h (field_sound fs l c s).type))

  part_declared : (p x : Bool) (c : FieldContent) → StandsIn fs c → (q : Part) → part_of V p x c ≡ Some q → (frame : Frame) (u : Text) → q.kind ≡ nested frame u → Declared fs u
  part_declared p x c s q e frame u h = by (kind_of c) refl e where
    by : (o : Option Kind) → kind_of c ≡ o → option_map (λ k. record { kind = k; presence = has_presence p x c; default = default_of (values_of (type_at V c)) c.default_value k }) o ≡ Some q → Declared fs u
    by None i j = let no : None ≡ Some q = j in absurd (cc)
    by (Some k) i j = let same : k ≡ q.kind = kind_is k q j in kind_declared c s frame u (i ∙ ap Some (same ∙ h)) where
      kind_is : (k : Kind) (q : Part) → Some (record { kind = k; presence = has_presence p x c; default = default_of (values_of (type_at V c)) c.default_value k }) ≡ Some q → k ≡ q.kind
      kind_is k q e = ap (λ (o : Option Part). elim o [ None ↦ k | Some r ↦ r.kind ]) e

  entry_declared : (t : Text) (n : ℕ) (q : Part) → entry_part V t n ≡ Some q → (frame : Frame) (u : Text) → q.kind ≡ nested frame u → Declared fs u
  entry_declared t n q e frame u h = by (name_of_field V t n) refl e where
    by : (o : Option Text) → name_of_field V t n ≡ o → option_and_then (part_in V) o ≡ Some q → Declared fs u
    by None i j = let no : None ≡ Some q = j in absurd (cc)
    by (Some name) i j =
        let c = field_there fs l t n name i in
        part_declared (is_proto3_at V name) false c.0 (stands fs name c.0 c.1) q (sym (ap (option_and_then (part_of V (is_proto3_at V name) false)) (found fs l name c.0 c.1)) ∙ j) frame u h

  held_declared : (p x : Bool) (g : Option ℕ) (c : FieldContent) → StandsIn fs c → (f : Field) → held_field V p x g c ≡ Some f → (frame : Frame) (u : Text) → f.part.kind ≡ nested frame u → Declared fs u
  held_declared p x g c s f e frame u h = by (is_repeated c && names_entry V c) e where
    plain : (o : Option Part) → part_of V p x c ≡ o → plain_by p x g c o ≡ Some f → Declared fs u
    plain None i j = let no : None ≡ Some f = j in absurd (cc)
    plain (Some q) i j = part_declared p x c s q i frame u (ap (λ (o : Option Field). elim o [ None ↦ q.kind | Some y ↦ y.part.kind ]) j ∙ h)

    under : (q : Part) (o : Option Key) → option_map (λ k. record { part = q; label = keyed k; oneof = g; extension = x }) o ≡ Some f → q ≡ f.part
    under q None j = let no : None ≡ Some f = j in absurd (cc)
    under q (Some k) j = ap (λ (o : Option Field). elim o [ None ↦ q | Some y ↦ y.part ]) j

    mapped : (o : Option Part) → entry_part V (type_name c) 2 ≡ o → map_by x g (entry_part V (type_name c) 1) o ≡ Some f → Declared fs u
    mapped None i j = let no : None ≡ Some f = j in absurd (cc)
    mapped (Some q) i j = entry_declared (type_name c) 2 q i frame u (ap (λ (r : Part). r.kind) (under q (option_and_then key_of (entry_part V (type_name c) 1)) j) ∙ h)

    by : (b : Bool) → cond b (map_field V x g c) (plain_field V p x g c) ≡ Some f → Declared fs u
    by true j = mapped (entry_part V (type_name c) 2) refl j
    by false j = plain (part_of V p x c) refl j

  named_declared : (x : Bool) (g : FieldContent → Option ℕ) (name : Text) (c : FieldContent) → NamesField fs name c → (f : Field) → field_named V x g name ≡ Some f → (frame : Frame) (u : Text) → f.part.kind ≡ nested frame u → Declared fs u
  named_declared x g name c s f e frame u h =
      held_declared (is_proto3_at V name) x (g c) c (stands fs name c s) f (sym (ap (option_and_then (λ f. held_field V (is_proto3_at V name) x (g f) f)) (found fs l name c s)) ∙ e) frame u h

  pub kinds_declared : (t : Text) (n : ℕ) (f : Field) → types_of V t n ≡ Some f → (frame : Frame) (u : Text) → f.part.kind ≡ nested frame u → Declared fs u
  kinds_declared t n f e frame u h = by (option_and_then (own_named V t) (name_of_field V t n)) refl e where
    own : (o : Option Text) → name_of_field V t n ≡ o → option_and_then (own_named V t) o ≡ Some f → Declared fs u
    own None i j = let no : None ≡ Some f = j in absurd (cc)
    own (Some name) i j = let c = field_there fs l t n name i in named_declared false (oneof_in (message_at V t)) name c.0 c.1 f j frame u h

    other : (o : Option Text) → V.extensions (t, pos n) ≡ o → option_and_then (extension_named V) o ≡ Some f → Declared fs u
    other None i j = let no : None ≡ Some f = j in absurd (cc)
    other (Some name) i j = let c = extension_there fs l t (pos n) name i in named_declared true (λ f. None) name c.0 c.1 f j frame u h

    by : (o : Option Field) → option_and_then (own_named V t) (name_of_field V t n) ≡ o → option_or o (option_and_then (extension_named V) (V.extensions (t, pos n))) ≡ Some f → Declared fs u
    by None i j = other (V.extensions (t, pos n)) refl j
    by (Some g) i j = own (name_of_field V t n) refl (i ∙ j)

  -- pairs of each declared name with itself
  abbrev pairs : List (Name × Name)
  pairs = map (λ (d : Declaration). (d.name, d.name)) (flat_map declarations fs)

  abbrev Pair : Name → Name → Type 0
  Pair = λ t u. Contains pairs (t, u)

  pair_there : (u : Text) → Declared fs u → Pair u u
  pair_there u (f, d, i, j, e) =
      subst (λ m. Contains pairs (m, m)) e (contains_map (λ (d : Declaration). (d.name, d.name)) (flat_map declarations fs) d (contains_flat declarations fs f d i j))

  pair_is : (t u : Name) → Pair t u → (n : Text) × Declared fs n × (n ≡ t) × (n ≡ u)
  pair_is t u h =
      let d = contains_map_cases (λ (d : Declaration). (d.name, d.name)) (flat_map declarations fs) (t, u) h in
      let f = contains_flat_cases declarations fs d.0 d.1 in
      (d.0.name, (f.0, d.0, f.1, f.2, refl), ap (λ (p : Name × Name). p.0) d.2, ap (λ (p : Name × Name). p.1) d.2)

  alike : (t : Text) (n : ℕ) (o : Option Field) → types_of V t n ≡ o → AnswersTo Pair o o
  alike t n None e = tt
  alike t n (Some f) e = record { kind = kinds f.part.kind refl; presence = refl; default = refl; label = refl; extension = refl } where
    kinds : (k : Kind) → f.part.kind ≡ k → AreKinds Pair k k
    kinds (scalar k) h = refl
    kinds (nested frame u) h = (refl, pair_there u (kinds_declared t n f e frame u h))

  answers : (t : Text) → Declared fs t → (n : ℕ) → AnswersTo Pair (types_of V t n) (types_of W t n)
  answers t h n = elim (kept t n h) [
    | inl none ↦ subst (λ o. AnswersTo Pair o (types_of W t n)) (sym none) tt
    | inr same ↦ subst (AnswersTo Pair (types_of V t n)) same (alike t n (types_of V t n) refl)
  ]

  oneof_same : (t : Text) (n : ℕ) → Declared fs t → oneof_of (types_of V t n) ≡ oneof_of (types_of W t n)
  oneof_same t n h = elim (kept t n h) [
    | inl none ↦ ap oneof_of none ∙ sym (joins_no_oneof t n h none)
    | inr same ↦ ap oneof_of same
  ]

  pub stays_older : (t : Text) → Declared fs t → IsOlder (types_of V) t (types_of W) t
  stays_older t h = (
    pairs,
    record {
      fields = λ t u p n. let d = pair_is t u p in
          subst (λ x. AnswersTo Pair (types_of V x n) (types_of W u n)) d.2 (subst (λ x. AnswersTo Pair (types_of V d.0 n) (types_of W x n)) d.3 (answers d.0 d.1 n));
      oneofs = λ t u p n q. let d = pair_is t u p in
          subst (λ x. rival (types_of V x) n q ≡ rival (types_of W u) n q) d.2 (subst (λ x. rival (types_of V d.0) n q ≡ rival (types_of W x) n q) d.3
          (ap (λ o. not (q == n) && same_oneof o (oneof_of (types_of V d.0 q))) (oneof_same d.0 n d.1) ∙ ap (λ o. not (q == n) && same_oneof (oneof_of (types_of W d.0 n)) o) (oneof_same d.0 q d.1)));
    },
    pair_there t h,
  )

pub grown_types : (earlier : List (List FileContent)) (old new after : List FileContent) → Builds earlier old → AddsLawful old new after → (t : Text) (m : MessageFacts) → message_at (view_of old) t ≡ Some m
    → IsOlder (types_of (view_of old)) t (types_of (view_of after)) t
grown_types earlier old new after built adds t m e =
    let l = built_linked earlier old built in
    let grow = views_stay old new after adds in
    let at = message_there old l t m e in
    stays_older old after l grow t (at.0, record { name = t; body = of_message m }, at.1, at.2, refl)
