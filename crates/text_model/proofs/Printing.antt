-- The fields that a message is printed as give the message.
use Rattle.std.proofs.Common.{not, ◌≡◌, ◌⊎◌, inl, inr, ℕ, ◌==◌, ◌||◌, ◌&&◌, Bool, true, false, cond, List, [], ◌∷◌, ◌++◌, Option, None, Some, option_and_then, refl, sym, ap, ◌∙◌, subst}
use Rattle.std.specs.List.{flat_map}
use Rattle.std.proofs.lemmas.Bool.Decides.{eqb_tells}
use Rattle.std.proofs.lemmas.Bool.{and_parts, eq-eqb, ne_eqb, not-true, or_from}
use mathlib.Core.Path.{fun_ext}
use Rattle.protox_lex.specs.Class.{Text}
use Rattle.reflect_wire.specs.Records.{Payload}
use Rattle.protobuf_model.specs.Values.{Content, Held, content, records, Message, absent, nothing}
use Rattle.protobuf_model.specs.Types.{Name, Key, keyed, Field, oneof_of, rival}
use Rattle.protobuf_model.specs.Typed.{IsHeldOf, IsTypedBy}
use Rattle.text_model.specs.Tree.{FieldName, plain, extension, Given, Separator}
use Rattle.text_model.specs.Forms.{Form, between}
use Rattle.text_model.specs.Schemas.{Schema, Shape, shape_of, Finds, AreNames, IsEntryType}
use Rattle.text_model.specs.Value.{assign, written, with_field, named_value, value, body_value, field_value}
use Rattle.text_model.specs.Printed.{Inner, lacks_presence, default_given, unset, joined, parts, field_name, printing_order, printed_content, printed_held, printed_fields, printed_by}
use Rattle.text_model.specs.Plain.{IsPlainHeld, IsPlain}
use Rattle.text_model.specs.Unset.{HaveReadDefaults}
use Rattle.text_model.proofs.Orders.{has, has_here, AreApart, true_false, order_has, order_apart}
use Rattle.text_model.proofs.Contents.{field_back}
use Rattle.text_model.proofs.Rivals.{no_rival}
use Rattle.text_model.proofs.Unset.{unset_back}

-- the value of fields, whatever stands between them
abbrev pub entries_value : Schema → Shape → List (FieldName × Given) → Message → Option Message
entries_value w s [] m = Some m
entries_value w s (e ∷ es) m = option_and_then (entries_value w s es) (named_value w s e.0 m (field_value w s e.1 m) (λ t. body_value w t e.1))

pub last_value : (o : Option Message) → option_and_then (λ m. Some m) o ≡ o
last_value (Some m) = refl
last_value None = refl

more_value : (o : Option Message) (f g : Message → Option Message) → ((m : Message) → f m ≡ g m) → option_and_then f o ≡ option_and_then g o
more_value (Some m) f g e = e m
more_value None f g e = refl

joined_value : (w : Schema) (s : Shape) (sep : Separator) (es : List (FieldName × Given)) (m : Message) → value w s (joined sep es) m ≡ entries_value w s es m
joined_value w s sep [] m = refl
joined_value w s sep (e ∷ []) m = refl
joined_value w s sep (e ∷ d ∷ es) m = more_value (named_value w s e.0 m (field_value w s e.1 m) (λ t. body_value w t e.1)) (value w s (joined sep (d ∷ es))) (entries_value w s (d ∷ es)) (λ m. joined_value w s sep (d ∷ es) m)

-- the identifiers of a full name are it
pub parts_written : (t : Text) → written (parts t) ≡ t
parts_written [] = refl
parts_written (b ∷ bs) = by (eqb_tells b 46) (parts_written bs) where
  by : (((b == 46) ≡ true) × (b ≡ 46)) ⊎ (((b == 46) ≡ false) × (b ≡ 46 → ⊥)) → written (parts bs) ≡ bs → written (parts (b ∷ bs)) ≡ b ∷ bs
  by (inl h) e =
      ap (λ t. written (cond t (record { first = []; others = (parts bs).first ∷ (parts bs).others }) (record { first = b ∷ (parts bs).first; others = (parts bs).others }))) h.0
      ∙ ap (λ s. 46 ∷ s) e ∙ ap (λ c. c ∷ bs) (sym h.1)
  by (inr h) e =
      ap (λ t. written (cond t (record { first = []; others = (parts bs).first ∷ (parts bs).others }) (record { first = b ∷ (parts bs).first; others = (parts bs).others }))) h.0
      ∙ ap (λ s. b ∷ s) e

-- a field is found by the name that it is printed under
found : (w : Schema) (s : Shape) (n : ℕ) (f : Field) (m : Message) (give : ℕ → Field → Option Message) (fill : Name → Option Message) → Finds s.names n f → s.fields n ≡ Some f → named_value w s (field_name s.names n f) m give fill ≡ give n f
found w s n f m give fill finds has = by (f.extension) refl where
  behind : (o : Option ℕ) → o ≡ Some n → with_field s o give ≡ give n f
  behind o e = ap (λ o. with_field s o give) e ∙ ap (option_and_then (give n)) has

  by : (b : Bool) → f.extension ≡ b → named_value w s (field_name s.names n f) m give fill ≡ give n f
  by false e =
      ap (λ b. named_value w s (cond b (extension (parts (s.names.name n))) (plain (s.names.name n))) m give fill) e
      ∙ behind (s.names.field (s.names.name n)) (subst (λ b. cond b (s.names.extension (s.names.name n)) (s.names.field (s.names.name n)) ≡ Some n) e finds)
  by true e =
      ap (λ b. named_value w s (cond b (extension (parts (s.names.name n))) (plain (s.names.name n))) m give fill) e
      ∙ behind (s.names.extension (written (parts (s.names.name n))))
      (ap s.names.extension (parts_written (s.names.name n)) ∙ subst (λ b. cond b (s.names.extension (s.names.name n)) (s.names.field (s.names.name n)) ≡ Some n) e finds)

-- of what the message holds, all but what these numbers hold
record IsPart (left : List ℕ) (m x : Message) : Type 0 where
  done : (q : ℕ) → has left q ≡ false → x q ≡ m q
  todo : (q : ℕ) → has left q ≡ true → x q ≡ absent

-- one number less is left
part_on : (n : ℕ) (ns : List ℕ) (m x y : Message) → has ns n ≡ false → IsPart (n ∷ ns) m x → y n ≡ m n → ((q : ℕ) → (q ≡ n → ⊥) → y q ≡ x q) → IsPart ns m y
part_on n ns m x y apart p here there = record {
  done = λ q e. elim (eqb_tells n q) [
    | inl h ↦ subst (λ q. y q ≡ m q) h.1 here
    | inr h ↦ there q (λ t. h.1 (sym t)) ∙ p.done q (or_from (n == q) (has ns q) h.0 e)
  ];
  todo = λ q e. elim (eqb_tells n q) [
    | inl h ↦ absurd (true_false (has ns q) e (ap (has ns) (sym h.1) ∙ apart))
    | inr h ↦ there q (λ t. h.1 (sym t)) ∙ p.todo q (ap (λ b. b || has ns q) h.0 ∙ e)
  ];
}

module _ (form : Form) (w : Schema) (told : form.defaults ≡ true → HaveReadDefaults w.types) (inner : Inner) (t : Name) (names : AreNames (w.types t) (w.names t))
    (entries : (n : ℕ) (f : Field) (key : Key) → w.types t n ≡ Some f → f.label ≡ keyed key → IsEntryType w ((w.names t).entry n) key f.part ((w.names t).enum_name n)) (typed : Name → Message → Type 0) (levels : ℕ)
    (back : (u : Name) (m : Message) → typed u m → IsPlain w.types u m → value w (shape_of w u) (printed_by form w inner u m) nothing ≡ Some m)
    (m : Message) (h : IsTypedBy typed levels (w.types t) m) (b : IsPlain w.types t m) where
  abbrev type : ℕ → Option Field
  type = w.types t

  abbrev under : ℕ → List (FieldName × Given)
  under = λ n. printed_held form w inner (w.names t) n (type n) (m n)

  -- what is held of a part is held of the whole
  part_of : (left : List ℕ) (x : Message) (q : ℕ) → IsPart left m x → m q ≡ absent → x q ≡ absent
  part_of left x q p e = by (has left q) refl where
    by : (b : Bool) → has left q ≡ b → x q ≡ absent
    by true i = p.todo q i
    by false i = p.done q i ∙ e

  abbrev Goes : List ℕ → Type 0
  Goes ns = (x : Message) → IsPart ns m x → entries_value w (shape_of w t) (flat_map under ns) x ≡ Some m

  set_absent : (c : Content) → content c ≡ absent → ⊥
  set_absent c e = cc

  -- what is printed of a field that is not set leaves what there is
  unset_left : (n : ℕ) (rest : List (FieldName × Given)) (x : Message) → x n ≡ absent → (o : Option Field) → type n ≡ o
      → entries_value w (shape_of w t) (unset form (w.names t) n o ++ rest) x ≡ entries_value w (shape_of w t) rest x
  unset_left n rest x here None e = refl
  unset_left n rest x here (Some f) e = by (form.defaults && (not f.extension && lacks_presence f.part f.label)) refl where
    standing : Given
    standing = default_given ((w.names t).enum_name n) f.part f.label

    here_left : Bool → Type 0
    here_left b = entries_value w (shape_of w t) (cond b ((field_name (w.names t) n f, standing) ∷ []) [] ++ rest) x ≡ entries_value w (shape_of w t) rest x

    by : (b : Bool) → (form.defaults && (not f.extension && lacks_presence f.part f.label)) ≡ b → here_left (form.defaults && (not f.extension && lacks_presence f.part f.label))
    by false is = subst here_left (sym is) refl
    by true is =
        let both = and_parts form.defaults (not f.extension && lacks_presence f.part f.label) is in
        let field = and_parts (not f.extension) (lacks_presence f.part f.label) both.1 in
        let fit = told both.0 t n f e (not-true f.extension field.0) field.1 in
        subst here_left (sym is)
        (ap (option_and_then (entries_value w (shape_of w t) rest))
        (found w (shape_of w t) n f x (field_value w (shape_of w t) standing x) (λ u. body_value w u standing) (names.fields n f e) e
        ∙ unset_back w (shape_of w t) n (ap oneof_of e ∙ fit.0) (names.enums n) f.oneof f.extension x here f.part f.label field.1 fit.1))

  step : (n : ℕ) (ns : List ℕ) → has ns n ≡ false → Goes ns → (x : Message) → IsPart (n ∷ ns) m x → (o : Option Field) → type n ≡ o → (i : Held) → m n ≡ i
      → entries_value w (shape_of w t) (printed_held form w inner (w.names t) n o i ++ flat_map under ns) x ≡ Some m
  step n ns apart goes x p o e (records ps) f =
      let none : ps ≡ [] = plain_records o ps (subst (λ i. IsPlainHeld w.types o i) f (subst (λ o. IsPlainHeld w.types o (m n)) e (b n))) in
      unset_left n (flat_map under ns) x (p.todo n (has_here n ns)) o e
      ∙ goes x (part_on n ns m x x apart p (p.todo n (has_here n ns) ∙ sym (f ∙ ap records none)) (λ q d. refl)) where
        plain_records : (o : Option Field) (ps : List Payload) → IsPlainHeld w.types o (records ps) → ps ≡ []
        plain_records None ps h = h
        plain_records (Some f) ps h = h
  step n ns apart goes x p None e (content c) f = absurd (subst (λ i. IsHeldOf typed levels None i) f (subst (λ o. IsHeldOf typed levels o (m n)) e (h.contents n)))
  step n ns apart goes x p (Some f) e (content c) i =
      let suits = subst (λ i. IsHeldOf typed levels (Some f) i) i (subst (λ o. IsHeldOf typed levels o (m n)) e (h.contents n)) in
      let plain_one = subst (λ i. IsPlainHeld w.types (Some f) i) i (subst (λ o. IsPlainHeld w.types o (m n)) e (b n)) in
      let here = p.todo n (has_here n ns) in
      let others : (q : ℕ) → rival type n q ≡ true → x q ≡ absent = λ q r. part_of (n ∷ ns) x q p (elim (h.exclusive n q r) [ inl a ↦ absurd (set_absent c (sym i ∙ a)) | inr a ↦ a ]) in
      ap (option_and_then (entries_value w (shape_of w t) (flat_map under ns)))
      (found w (shape_of w t) n f x (field_value w (shape_of w t) (printed_content form w inner ((w.names t).enum_name n) f.part.kind c) x) (λ u. body_value w u (printed_content form w inner ((w.names t).enum_name n) f.part.kind c)) (names.fields n f e) e
      ∙ field_back form w inner typed back (shape_of w t) n (names.enums n) f.part f.label (λ key is. entries n f key e is) f.oneof f.extension x c suits plain_one here (no_rival type n x others))
      ∙ goes (assign type n (content c) x) (part_on n ns m x (assign type n (content c) x) apart p (assigned_here ∙ sym i) (λ q d. assigned_there q d (rival type n q) refl others)) where
        assigned_here : assign type n (content c) x n ≡ content c
        assigned_here = ap (λ b. cond b (content c) (cond (rival type n n) absent (x n))) (eq-eqb n n refl)

        apart_number : (q : ℕ) → (q ≡ n → ⊥) → assign type n (content c) x q ≡ cond (rival type n q) absent (x q)
        apart_number q d = ap (λ b. cond b (content c) (cond (rival type n q) absent (x q))) (ne_eqb q n d)

        assigned_there : (q : ℕ) → (q ≡ n → ⊥) → (r : Bool) → rival type n q ≡ r → ((q : ℕ) → rival type n q ≡ true → x q ≡ absent) → assign type n (content c) x q ≡ x q
        assigned_there q d true r others = apart_number q d ∙ ap (λ b. cond b absent (x q)) r ∙ sym (others q r)
        assigned_there q d false r others = apart_number q d ∙ ap (λ b. cond b absent (x q)) r

  entries_go : (ns : List ℕ) → AreApart ns → Goes ns
  entries_go [] apart x p = ap Some (fun_ext (λ q. p.done q refl))
  entries_go (n ∷ ns) apart x p = step n ns apart.0 (entries_go ns apart.1) x p (type n) refl (m n) refl

  -- all of its fields give it
  pub fields_back : value w (shape_of w t) (joined (between form.pretty) (printed_fields form w inner t m)) nothing ≡ Some m
  fields_back =
      joined_value w (shape_of w t) (between form.pretty) (printed_fields form w inner t m) nothing
      ∙ entries_go (printing_order form (w.names t) type) (order_apart form (w.names t) type names.declared) nothing (record {
        done = λ q e. elim (h.numbers q) [ inl a ↦ sym a | inr r ↦ absurd (true_false (has (printing_order form (w.names t) type) q) (order_has form (w.names t) type names.declared q r) e) ];
        todo = λ q e. refl;
      })
