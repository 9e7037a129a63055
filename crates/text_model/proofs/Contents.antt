-- What contents are printed as gives them, where messages inside are given back.
use Rattle.std.proofs.Common.{arith, ◌≡◌, ℕ, ℤ, ◌==◌, ◌||◌, not, Bool, true, false, cond, List, [], ◌∷◌, ◌++◌, map, Option, None, Some, option_map, option_and_then, refl, sym, ap, ap₂, ◌∙◌, subst, codes}
use Rattle.std.specs.List.{AllByRecursion}
use Rattle.protox_lex.specs.Class.{Text}
use Rattle.protobuf_model.specs.Values.{Single, Content, single, message, list, dictionary, Contents, no_contents, more_contents, Entries, no_entries, more_entries, content, Message, absent, nothing, list_of, pairs_of}
use Rattle.protobuf_model.specs.Types.{Name, Kind, scalar, nested, Part, Key, Label, one, many, keyed, Field, rival}
use Rattle.protobuf_model.specs.Scalars.{Suits, same}
use Rattle.protobuf_model.specs.Keys.{Ascend}
use Rattle.protobuf_model.specs.Typed.{IsOf, IsSet, IsEntryOf, IsFieldOf}
use Rattle.protobuf_model.specs.Meaning.{items, if_any, pairs, if_some, put_all}
use Rattle.protobuf_model.proofs.KeyOrder.{same_true}
use Rattle.protobuf_model.proofs.Lists.{chained}
use Rattle.protobuf_model.proofs.Maps.{put_in_order, entries_back}
use Rattle.text_model.specs.Forms.{Form, between}
use Rattle.text_model.specs.Schemas.{Schema, Shape, shape_of, key_part, IsEntryType}
use Rattle.text_model.specs.Value.{of_message, of_scalar, scalar_content, with_field, wanted_in, key_of, value_of, entry_of, is_set, has_rival, assign, settled, set_one, add_all, value, value_content, values_contents, field_value}
use Rattle.text_model.specs.Printed.{Inner, printed_by, printed_single, value_in, printed_content, printed_list, printed_entry, printed_entries}
use Rattle.text_model.specs.Plain.{AreBytes, IsPlainContent, ArePlainContents, ArePlainEntries, IsPlain}
use Rattle.text_model.specs.Tree.{one_scalar}
use Rattle.text_model.proofs.Orders.{true_false}
use Rattle.text_model.proofs.Rivals.{no_rival}
use Rattle.text_model.proofs.Singles.{AreFound, single_back, unnamed_back}

-- a content with presence or no default is held
kept : (part : Part) (c : Content) → IsSet part c → settled part c ≡ content c
kept part (single v) h = ap (λ b. cond b (content (single v)) absent) h
kept part (message m) h = refl
kept part (list cs) h = refl
kept part (dictionary es) h = refl

pub set_back : (type : ℕ → Option Field) (n : ℕ) (part : Part) (x : Message) (c : Content) → x n ≡ absent → has_rival type n x ≡ false → set_one type n part x c ≡ Some (assign type n (settled part c) x)
set_back type n part x c here none =
    ap (λ h. cond (is_set h || has_rival type n x) None (Some (assign type n (settled part c) x))) here
    ∙ ap (λ b. cond b None (Some (assign type n (settled part c) x))) none

module _ (form : Form) (w : Schema) (inner : Inner) (typed : Name → Message → Type 0)
    (back : (u : Name) (m : Message) → typed u m → IsPlain w.types u m → value w (shape_of w u) (printed_by form w inner u m) nothing ≡ Some m) where
  -- a value of a list
  element_back : (number : Text → Option ℤ) (name : ℤ → Option Text) → AreFound number name → (k : Kind) (c : Content) → IsOf typed k c → IsPlainContent w.types k c
      → value_content w (wanted_in w number k) (value_in (printed_content form w inner name k c)) ≡ Some c
  element_back number name f (scalar k) (single v) h b = ap (option_map single) (single_back number name k v f b h)
  element_back number name f (nested frame u) (message m) h b = ap (option_map message) (back u m h b)
  element_back number name f k c h b = absurd h

  pub elements_back : (number : Text → Option ℤ) (name : ℤ → Option Text) → AreFound number name → (k : Kind) (cs : Contents) → AllByRecursion (IsOf typed k) (list_of cs) → ArePlainContents w.types k cs
      → values_contents w (wanted_in w number k) (printed_list form w inner name k cs) ≡ Some (list_of cs)
  elements_back number name f k no_contents h b = refl
  elements_back number name f k (more_contents c cs) h b =
      ap (option_and_then (λ c. option_map (λ cs. c ∷ cs) (values_contents w (wanted_in w number k) (printed_list form w inner name k cs)))) (element_back number name f k c h.0 b.0)
      ∙ ap (option_map (λ cs. c ∷ cs)) (elements_back number name f k cs h.1 b.1)

  -- a value by itself
  alone_back : (shape : Shape) (n : ℕ) (name : ℤ → Option Text) → AreFound (shape.names.enum_number n) name → (k : Kind) (p : Bool) (d : Single) (o : Option ℕ) (e : Bool) (x : Message) (c : Content) → IsOf typed k c → IsPlainContent w.types k c
      → field_value w shape (printed_content form w inner name k c) x n (record { part = record { kind = k; presence = p; default = d }; label = one; oneof = o; extension = e })
      ≡ set_one shape.fields n (record { kind = k; presence = p; default = d }) x c
  alone_back shape n name f (scalar k) p d o e x (single v) h b =
      ap (λ y. option_and_then (set_one shape.fields n (record { kind = scalar k; presence = p; default = d }) x) (option_map single y)) (single_back (shape.names.enum_number n) name k v f b h)
  alone_back shape n name f (nested frame u) p d o e x (message m) h b =
      ap (λ y. option_and_then (set_one shape.fields n (record { kind = nested frame u; presence = p; default = d }) x) (option_map message y)) (back u m h b)
  alone_back shape n name f k p d o e x c h b = absurd h

  -- ---- entries

  key_again : (key : Key) (k : Single) → key_of key (settled (key_part key) (single k)) ≡ k
  key_again key k = by (key.presence) (same k key.default) refl where
    by : (p t : Bool) → same k key.default ≡ t → key_of key (cond (p || not (same k key.default)) (content (single k)) absent) ≡ k
    by true t e = refl
    by false false e = ap (λ t. key_of key (cond (not t) (content (single k)) absent)) e
    by false true e = ap (λ t. key_of key (cond (not t) (content (single k)) absent)) e ∙ sym (same_true k key.default e)

  value_again : (k : Kind) (p : Bool) (d : Single) (c : Content) → IsOf typed k c → value_of (record { kind = k; presence = p; default = d }) (settled (record { kind = k; presence = p; default = d }) c) ≡ c
  value_again (scalar k) p d (single v) h = by p (same v d) refl where
    by : (p t : Bool) → same v d ≡ t → value_of (record { kind = scalar k; presence = p; default = d }) (cond (p || not (same v d)) (content (single v)) absent) ≡ single v
    by true t e = refl
    by false false e = ap (λ t. value_of (record { kind = scalar k; presence = false; default = d }) (cond (not t) (content (single v)) absent)) e
    by false true e = ap (λ t. value_of (record { kind = scalar k; presence = false; default = d }) (cond (not t) (content (single v)) absent)) e ∙ ap single (sym (same_true v d e))
  value_again (nested frame u) p d (message m) h = refl
  value_again k p d c h = absurd h

  module _ (t : Name) (key : Key) (k : Kind) (p : Bool) (d : Single) (name : ℤ → Option Text) (type : IsEntryType w t key (record { kind = k; presence = p; default = d }) name) where
    abbrev the_part : Part
    the_part = record { kind = k; presence = p; default = d }

    -- the key's message, and the entry's
    abbrev with_key : Single → Message
    with_key v = assign (w.types t) 1 (settled (key_part key) (single v)) nothing

    abbrev entry_message : Single → Content → Message
    entry_message v c = assign (w.types t) 2 (settled the_part c) (with_key v)

    no_value_yet : (v : Single) (q : ℕ) → (q == 1) ≡ false → with_key v q ≡ absent
    no_value_yet v q e = ap (λ b. cond b (settled (key_part key) (single v)) (cond (rival (w.types t) 1 q) absent absent)) e ∙ either (rival (w.types t) 1 q) where
      either : (b : Bool) → cond b absent absent ≡ absent
      either true = refl
      either false = refl

    key_no_rival : (v : Single) → has_rival (w.types t) 2 (with_key v) ≡ false
    key_no_rival v = no_rival (w.types t) 2 (with_key v) (λ q r. by q (q == 1) refl r) where
      by : (q : ℕ) (b : Bool) → (q == 1) ≡ b → rival (w.types t) 2 q ≡ true → with_key v q ≡ absent
      by q false e r = no_value_yet v q e
      by q true e r =
          let same : q ≡ 1 = grind (arith, e) in
          absurd (true_false (rival (w.types t) 2 1) (subst (λ q. rival (w.types t) 2 q ≡ true) same r) type.apart)

    key_given : (v : Single) (g : ℕ → Field → Option Message) → ((o : Option ℕ) (e : Bool) → g 1 (record { part = key_part key; label = one; oneof = o; extension = e }) ≡ set_one (w.types t) 1 (key_part key) nothing (single v))
        → with_field (shape_of w t) ((w.names t).field (codes "key")) g ≡ Some (with_key v)
    key_given v g each =
        ap (λ o. with_field (shape_of w t) o g) type.key_named
        ∙ ap (option_and_then (g 1)) type.holds_key.2
        ∙ each type.holds_key.0 type.holds_key.1
        ∙ set_back (w.types t) 1 (key_part key) nothing (single v) refl (no_rival (w.types t) 1 nothing (λ q r. refl))

    key_read : (v : Single) → Suits key.kind v → AreBytes v → scalar_content (of_scalar ((w.names t).enum_number 1) key.kind) (printed_single name v) ≡ Some (single v)
    key_read v h b = ap (option_map single) (unnamed_back ((w.names t).enum_number 1) name key.kind v type.no_enum b h)

    value_given : (v : Single) (c : Content) → IsOf typed k c → IsPlainContent w.types k c
        → with_field (shape_of w t) ((w.names t).field (codes "value")) (field_value w (shape_of w t) (printed_content form w inner name k c) (with_key v)) ≡ Some (entry_message v c)
    value_given v c h b =
        ap (λ o. with_field (shape_of w t) o (field_value w (shape_of w t) (printed_content form w inner name k c) (with_key v))) type.value_named
        ∙ ap (option_and_then (field_value w (shape_of w t) (printed_content form w inner name k c) (with_key v) 2)) type.holds_value.2
        ∙ alone_back (shape_of w t) 2 name type.enums k p d type.holds_value.0 type.holds_value.1 (with_key v) c h b
        ∙ set_back (w.types t) 2 the_part (with_key v) c (no_value_yet v 2 refl) (key_no_rival v)

    entry_back : (v : Single) (c : Content) → Suits key.kind v → AreBytes v → IsOf typed k c → IsPlainContent w.types k c
        → value_content w (of_message (shape_of w t)) (printed_entry (between form.pretty) (printed_single name v) (printed_content form w inner name k c)) ≡ Some (message (entry_message v c))
    entry_back v c h b i q =
        ap (λ y. option_map message (option_and_then (λ x. option_and_then (λ z. Some z) (with_field (shape_of w t) ((w.names t).field (codes "value")) (field_value w (shape_of w t) (printed_content form w inner name k c) x))) y))
        (key_given v (field_value w (shape_of w t) (one_scalar (printed_single name v)) nothing) (λ o e. ap (option_and_then (set_one (w.types t) 1 (key_part key) nothing)) (key_read v h b)))
        ∙ ap (λ y. option_map message (option_and_then (λ z. Some z) y)) (value_given v c i q)

    abbrev messages : Entries → List Content
    messages no_entries = []
    messages (more_entries v c es) = message (entry_message v c) ∷ messages es

    entries_read : (es : Entries) → AllByRecursion (IsEntryOf typed key the_part) (pairs_of es) → ArePlainEntries w.types k es
        → values_contents w (of_message (shape_of w t)) (printed_entries form w inner name k es) ≡ Some (messages es)
    entries_read no_entries h b = refl
    entries_read (more_entries v c es) h b =
        ap (option_and_then (λ c. option_map (λ cs. c ∷ cs) (values_contents w (of_message (shape_of w t)) (printed_entries form w inner name k es)))) (entry_back v c h.0.0 b.0 h.0.1 b.1)
        ∙ ap (option_map (λ cs. message (entry_message v c) ∷ cs)) (entries_read es h.1 b.2)

    key_stays : (v : Single) (c : Content) → entry_message v c 1 ≡ settled (key_part key) (single v)
    key_stays v c = ap (λ b. cond b absent (settled (key_part key) (single v))) type.apart

    entries_again : (es : Entries) → AllByRecursion (IsEntryOf typed key the_part) (pairs_of es) → map (entry_of key the_part) (messages es) ≡ pairs_of es
    entries_again no_entries h = refl
    entries_again (more_entries v c es) h =
        ap₂ (λ (a : Single) (b : Content). (a, b) ∷ map (entry_of key the_part) (messages es)) (ap (key_of key) (key_stays v c) ∙ key_again key v) (value_again k p d c h.0.1)
        ∙ ap (λ ps. (v, c) ∷ ps) (entries_again es h.1)

  -- a map, where nothing stands before
  map_back : (shape : Shape) (n : ℕ) (key : Key) (k : Kind) (p : Bool) (d : Single) → IsEntryType w (shape.names.entry n) key (record { kind = k; presence = p; default = d }) (shape.names.enum_name n)
      → (o : Option ℕ) (e : Bool) (x : Message) (v : Single) (c : Content) (es : Entries)
      → AllByRecursion (IsEntryOf typed key (record { kind = k; presence = p; default = d })) (pairs_of (more_entries v c es)) → Ascend (pairs_of (more_entries v c es)) → ArePlainEntries w.types k (more_entries v c es) → x n ≡ absent
      → field_value w shape (printed_content form w inner (shape.names.enum_name n) k (dictionary (more_entries v c es))) x n (record { part = record { kind = k; presence = p; default = d }; label = keyed key; oneof = o; extension = e })
      ≡ Some (assign shape.fields n (content (dictionary (more_entries v c es))) x)
  map_back shape n key k p d type o e x v c es h a b here =
      let all = more_entries v c es in
      let part : Part = record { kind = k; presence = p; default = d } in
      let its = messages (shape.names.entry n) key k p d (shape.names.enum_name n) type all in
      ap (option_and_then (add_all shape.fields n part (keyed key) x)) (entries_read (shape.names.entry n) key k p d (shape.names.enum_name n) type all h b)
      ∙ ap (λ i. Some (assign shape.fields n (if_some (put_all (pairs i) (map (entry_of key part) its))) x)) here
      ∙ ap (λ ps. Some (assign shape.fields n (if_some (put_all [] ps)) x)) (entries_again (shape.names.entry n) key k p d (shape.names.enum_name n) type all h)
      ∙ ap (λ ps. Some (assign shape.fields n (if_some ps) x)) (put_in_order (pairs_of all) a)
      ∙ ap (λ ds. Some (assign shape.fields n (content (dictionary (more_entries v c ds))) x)) (entries_back es)

  list_back : (shape : Shape) (n : ℕ) → AreFound (shape.names.enum_number n) (shape.names.enum_name n) → (part : Part) (packed : Bool) (o : Option ℕ) (e : Bool) (x : Message) (c : Content) (cs : Contents)
      → AllByRecursion (IsOf typed part.kind) (list_of (more_contents c cs)) → ArePlainContents w.types part.kind (more_contents c cs) → x n ≡ absent
      → field_value w shape (printed_content form w inner (shape.names.enum_name n) part.kind (list (more_contents c cs))) x n (record { part = part; label = many packed; oneof = o; extension = e })
      ≡ Some (assign shape.fields n (content (list (more_contents c cs))) x)
  list_back shape n f part packed o e x c cs h b here =
      ap (option_and_then (add_all shape.fields n part (many packed) x)) (elements_back (shape.names.enum_number n) (shape.names.enum_name n) f part.kind (more_contents c cs) h b)
      ∙ ap (λ i. Some (assign shape.fields n (if_any (items i ++ list_of (more_contents c cs))) x)) here
      ∙ ap (λ ds. Some (assign shape.fields n (content (list (more_contents c ds))) x)) (chained cs)

  -- what a field holds, given to it where neither it nor another member of its oneof is set
  pub field_back : (shape : Shape) (n : ℕ) → AreFound (shape.names.enum_number n) (shape.names.enum_name n) → (part : Part) (l : Label) → ((key : Key) → l ≡ keyed key → IsEntryType w (shape.names.entry n) key part (shape.names.enum_name n))
      → (o : Option ℕ) (e : Bool) (x : Message) (c : Content)
      → IsFieldOf typed part l c → IsPlainContent w.types part.kind c → x n ≡ absent → has_rival shape.fields n x ≡ false
      → field_value w shape (printed_content form w inner (shape.names.enum_name n) part.kind c) x n (record { part = part; label = l; oneof = o; extension = e }) ≡ Some (assign shape.fields n (content c) x)
  field_back shape n f part one entries o e x c h b here none =
      alone_back shape n (shape.names.enum_name n) f part.kind part.presence part.default o e x c h.0 b
      ∙ set_back shape.fields n part x c here none
      ∙ ap (λ i. Some (assign shape.fields n i x)) (kept part c h.1)
  field_back shape n f part (many packed) entries o e x (list (more_contents c cs)) h b here none = list_back shape n f part packed o e x c cs h b here
  field_back shape n f part (keyed key) entries o e x (dictionary (more_entries v c es)) h b here none =
      map_back shape n key part.kind part.presence part.default (entries key refl) o e x v c es h.0 h.1 b here
  field_back shape n f part l entries o e x c h b here none = absurd h
