-- The fields and extensions that a text names, by a pool and by the view of its records.
use Rattle.std.proofs.Common.{◌≡◌, ◌∙◌, ◌⊎◌, inl, inr, ℕ, ℤ, pos, negsuc, Bool, true, false, not, ◌&&◌, ◌==◌, cond, List, ◌∷◌, Option, Some, None, bytes_eq, is_some, length, map, slice_get, ap, sym, subst, refl, arith}
use Rattle.std.proofs.lemmas.Bool.{and_parts}
use Rattle.std.specs.Char.{to_ascii_lowercase}
use Rattle.std.specs.List.{Contains, find}
use Rattle.std.specs.Option.{option_and_then, option_map}
use Rattle.std.proofs.lemmas.Slice.Eq.{bytes_eq-Decides}
use Rattle.descriptor_records.specs.Content.{Text, FieldContent, FileContent, file_view}
use Rattle.protobuf_model.specs.Types.{Name}
use Rattle.reflect_tables.specs.Types.{ExtensionType, FieldType, MessageType, PoolType}
use Rattle.schema_view.specs.Declarations.{Body, Declaration, FieldFacts, declarations, facts_of, of_extension}
use Rattle.schema_view.specs.Fields.{is_group}
use Rattle.schema_view.specs.Files.{text_of}
use Rattle.schema_view.specs.Lawful.{is_dotted}
use Rattle.schema_view.specs.Rules.{HasFieldNumber}
use Rattle.schema_view.specs.Types.{body_at, extension_named, field_number, own_named}
use Rattle.schema_view.specs.Views.{Held, View, view_of, when}
use Rattle.schema_view.proofs.Looking.{from_there}
use Rattle.schema_view.proofs.Road.{AreLinked}
use Rattle.schema_view.proofs.Standing.{field_sound}
use Rattle.linked_view.specs.Entries.{HasDeclaredEntries, TellsEntries}
use Rattle.linked_view.specs.Extended.{TellsExtensions}
use Rattle.linked_view.specs.Valued.{TellsValues}
use Rattle.linked_view.proofs.Extended.{dotted_is}
use Rattle.linked_view.proofs.Places.{get_contains, get_less}
use Rattle.reflect_message.specs.Known.{holds_floats, if_held}
use Rattle.message_view.specs.Sound.{HaveNames}
use Rattle.text_view.specs.Names as pool
use Rattle.types_view.specs.Fields.{TellsFields}
use Rattle.types_view.proofs.Extended as extended
use Rattle.types_view.proofs.Extended.{called, extendee_there, extends, found_there, has_extension, is_key, key_found, none_found}
use Rattle.types_view.proofs.Found.{body_found}
use Rattle.types_view.proofs.Held.{NoField, OwnField, first_field, same_type}
use Rattle.types_view.proofs.Listed.{Agree}
use Rattle.texts_view.specs.Named.{extension_called, extension_in, first_called, if_group_called, if_plain, is_type_called, number_at, number_called, plain_or_group}
use Rattle.texts_view.proofs.Fields.{IsKnown, extended_held, facts, full, known_extended, known_number, number_known, own_held, own_known}
use Rattle.texts_view.proofs.FieldKinds.{called_same, kind_is}

plain_from : (e f : FieldType) → pool.if_plain e ≡ Some f → e ≡ f
plain_from e f = by e.group where
  by : (b : Bool) → cond b None (Some e) ≡ Some f → e ≡ f
  by true h = absurd (cc h)
  by false h = cc h

group_from : (p : PoolType) (w : Text) (e f : FieldType) → pool.if_group_called p w e ≡ Some f
    → e ≡ f
group_from p w e f = by (e.group && pool.is_type_called p w e.kind) where
  by : (b : Bool) → cond b (Some e) None ≡ Some f → e ≡ f
  by true h = cc h
  by false h = absurd (cc h)

when_plain : (b : Bool) (e : FieldType) → when (not b) e.full_name ≡ option_map full (cond b None (Some e))
when_plain true e = refl
when_plain false e = refl

when_group : (b : Bool) (e : FieldType) → when b e.full_name ≡ option_map full (cond b (Some e) None)
when_group true e = refl
when_group false e = refl

-- what comes of an option comes of what it has
some_from : {X Y : Type 0} (h : X → Option Y) (o : Option X) (y : Y) → option_and_then h o ≡ Some y
    → (x : X) × (o ≡ Some x) × (h x ≡ Some y)
some_from h None y e = absurd (cc e)
some_from h (Some x) y e = (x, refl, e)

module _ (p : PoolType) (l : AreLinked (map file_view p.records)) (tells : TellsFields p)
    (values : TellsValues p) (entries : TellsEntries p) (declared : HasDeclaredEntries p)
    (names : HaveNames p) (extensions : TellsExtensions p) where
  abbrev V : View
  V = view_of (map file_view p.records)

  -- ---- the fields of a message

  module _ (i : ℕ) (m : MessageType) (at : slice_get p.messages i ≡ Some m) where
    abbrev t : Name
    t = m.full_name

    abbrev is_called : Text → FieldFacts → Bool
    is_called w f = bytes_eq (text_of f.name) w

    abbrev bears : Text → FieldType → Bool
    bears w e = bytes_eq e.name w

    abbrev Facts : List FieldFacts
    Facts = (facts p l tells values entries declared names extensions i m at).fields

    abbrev Called : Text → Type 0
    Called w = OwnField p l tells values i m Facts (is_called w) (bears w)

    abbrev NoneCalled : Text → Type 0
    NoneCalled w = NoField p l tells values i m (is_called w) (bears w)

    agree : (w : Text) → Agree t (is_called w) (bears w) Facts m.fields
    agree w f e inside there stands = ap (λ n. bytes_eq n w) stands.name

    first_named : (w : Text) → Called w ⊎ NoneCalled w
    first_named w = first_field p l tells values i m at (is_called w) (bears w) (agree w)

    -- what is called so is known, and is held where it is no float
    record IsOwn (e : FieldType) : Type 0 where
      known : IsKnown p l tells values entries declared names extensions false e
      held : is_some (own_named V t e.full_name) ≡ not (holds_floats p e)

    own_called : (w : Text) (e : FieldType) → pool.first_called p i w ≡ Some e → IsOwn e
    own_called w e is = by (first_named w) where
      by : Called w ⊎ NoneCalled w → IsOwn e
      by (inr none) = absurd (cc (sym none.found ∙ is))
      by (inl o) =
          let same : o.entry ≡ e = cc (sym o.found ∙ is) in
          subst IsOwn same (record {
            known = own_known p l tells values entries declared names extensions i m at
                (is_called w) (bears w) o;
            held = own_held p l tells values entries declared names extensions i m at
                (is_called w) (bears w) o;
          })

    plain_same : (w : Text) → option_and_then (if_plain V) (first_called V t w)
        ≡ option_map full (option_and_then pool.if_plain (pool.first_called p i w))
    plain_same w = by (first_named w) where
      by : Called w ⊎ NoneCalled w → option_and_then (if_plain V) (first_called V t w)
          ≡ option_map full (option_and_then pool.if_plain (pool.first_called p i w))
      by (inr none) =
          ap (option_and_then (if_plain V)) none.called
          ∙ sym (ap (λ o. option_map full (option_and_then pool.if_plain o)) none.found)
      by (inl o) =
          ap (option_and_then (if_plain V)) o.called
          ∙ ap (option_and_then (λ c. when (not (is_group c)) o.entry.full_name)) o.at
          ∙ ap (λ b. when (not b) o.entry.full_name) (sym o.both.entry.group)
          ∙ when_plain o.entry.group o.entry
          ∙ sym (ap (λ x. option_map full (option_and_then pool.if_plain x)) o.found)

    group_same : (w v : Text) → option_and_then (if_group_called V v) (first_called V t w)
        ≡ option_map full (option_and_then (pool.if_group_called p v) (pool.first_called p i w))
    group_same w v = by (first_named w) where
      by : Called w ⊎ NoneCalled w → option_and_then (if_group_called V v) (first_called V t w)
          ≡ option_map full (option_and_then (pool.if_group_called p v) (pool.first_called p i w))
      by (inr none) =
          ap (option_and_then (if_group_called V v)) none.called
          ∙ sym (ap (λ o. option_map full (option_and_then (pool.if_group_called p v) o)) none.found)
      by (inl o) =
          let e = o.entry in
          let typed = called_same p l tells values o.content v e.kind
          (kind_is p l tells values o.content e.kind o.both.entry.holds) in
          ap (option_and_then (if_group_called V v)) o.called
          ∙ ap (option_and_then (λ c. when (is_group c && is_type_called V v c) e.full_name)) o.at
          ∙ ap (λ b. when (b && is_type_called V v o.content) e.full_name) (sym o.both.entry.group)
          ∙ ap (λ b. when (e.group && b) e.full_name) typed
          ∙ when_group (e.group && pool.is_type_called p v e.kind) e
          ∙ sym (ap (λ x. option_map full (option_and_then (pool.if_group_called p v) x)) o.found)

    number_held : (b : Bool) (e : FieldType)
        → cond (not b) (Some e.number) None ≡ option_map (λ f. f.number) (cond b None (Some e))
    number_held true e = refl
    number_held false e = refl

    pub number_same : (w : Text) → number_called V t w
        ≡ option_map (λ f. f.number) (pool.field_called p i w)
    number_same w =
        ap (λ o. plain_or_group V t o (option_and_then (if_group_called V w) (first_called V t low)))
        (plain_same w)
        ∙ ap (plain_or_group V t (option_map full plain)) (group_same low w)
        ∙ by plain refl group refl where
          low : Text
          low = map to_ascii_lowercase w

          plain : Option FieldType
          plain = option_and_then pool.if_plain (pool.first_called p i w)

          group : Option FieldType
          group = option_and_then (pool.if_group_called p w) (pool.first_called p i low)

          by : (a : Option FieldType) → plain ≡ a → (b : Option FieldType) → group ≡ b
              → plain_or_group V t (option_map full a) (option_map full b)
              ≡ option_map (λ f. f.number) (pool.held_or p a b)
          by (Some e) is b other =
              let f = some_from pool.if_plain (pool.first_called p i w) e is in
              let o = own_called w e (f.1 ∙ ap Some (plain_from f.0 e f.2)) in
              ap (λ b. cond b (number_at V e.full_name) None) o.held
              ∙ ap (λ n. cond (not (holds_floats p e)) n None)
              (number_known p l tells values entries declared names extensions false e o.known)
              ∙ number_held (holds_floats p e) e
          by None is (Some e) other =
              let f = some_from (pool.if_group_called p w) (pool.first_called p i low) e other in
              let o = own_called low e (f.1 ∙ ap Some (group_from p w f.0 e f.2)) in
              number_known p l tells values entries declared names extensions false e o.known
          by None is None other = refl

  -- ---- extensions

  abbrev bears_full : ℕ → Text → ExtensionType → Bool
  bears_full i w x = (x.extendee == i) && bytes_eq x.field.full_name w

  -- a declared extension of a message is that of an entry of its full name
  record HasEntry (s w : Text) : Type 0 where
    entry : ExtensionType
    there : Contains p.extensions entry
    type : MessageType
    at : slice_get p.messages entry.extendee ≡ Some type
    name : type.full_name ≡ s
    full_name : entry.field.full_name ≡ w

  extension_body : (b : Body) (c : FieldContent) → extension_in b ≡ Some c → b ≡ of_extension c
  extension_body (of_extension x) c e = ap of_extension (cc e)
  extension_body b c e = absurd (cc e)

  has_entry : (s w : Text) (c : FieldContent) → option_and_then extension_in (body_at V w) ≡ Some c
      → is_dotted s c.extendee ≡ true → HasEntry s w
  has_entry s w c e dotted = by (V.declared w) refl e where
    by : (o : Option Held) → V.declared w ≡ o
        → option_and_then extension_in (option_map (λ (h : Held). h.body) o) ≡ Some c → HasEntry s w
    by None is h = absurd (cc h)
    by (Some g) is h =
        let x = from_there fs_here w g is in
        let body : x.1.body ≡ of_extension c =
        extension_body x.1.body c (ap (λ (y : Held). extension_in y.body) (sym x.5) ∙ h) in
        let d : Declaration = record { name = w; body = of_extension c } in
        let inside : Contains (declarations x.0) d =
        subst (λ b. Contains (declarations x.0) (record { name = w; body = b })) body
        (subst (λ n. Contains (declarations x.0) (record { name = n; body = x.1.body })) x.4 x.3) in
        let number = (field_sound fs_here l c (record {
          file = x.0;
          declaration = d;
          there = x.2;
          inside = inside;
          is = refl;
        })).number in
        found x.0 x.2 inside c.number number refl
      where
        fs_here : List FileContent
        fs_here = map file_view p.records

        found : (f : FileContent) → Contains fs_here f
            → Contains (declarations f) (record { name = w; body = of_extension c })
            → (o : Option ℤ) → HasFieldNumber o → c.number ≡ o → HasEntry s w
        found f there inside o (negsuc k, e, good) is = absurd (search good.least)
        found f there inside o (pos k, e, good) is =
            let key = key_found fs_here l (s, pos k) f (record { name = w; body = of_extension c })
            there inside (is_key (s, pos k) c (dotted_is s c.extendee dotted) (is ∙ e)) in
            let x = has_extension p l tells values entries declared names extensions s k w key in
            let own = called p l tells values entries declared names extensions x.entry x.there
            x.entry.extendee x.type k x.at refl x.number in
            let name : x.entry.field.full_name ≡ w =
            cc (sym (subst (λ n. V.extensions (n, pos k) ≡ Some x.entry.field.full_name) x.name own)
            ∙ key) in
            record {
              entry = x.entry;
              there = x.there;
              type = x.type;
              at = x.at;
              name = x.name;
              full_name = name;
            }

  bears_both : (i : ℕ) (w : Text) (x : ExtensionType) → x.extendee ≡ i → x.field.full_name ≡ w
      → bears_full i w x ≡ true
  bears_both i w x a b =
      let first : (x.extendee == i) ≡ true = grind (arith, a) in
      ap (λ c. c && bytes_eq x.field.full_name w) first ∙ (bytes_eq-Decides x.field.full_name w).1 b

  abbrev if_extends : Text → Text → FieldContent → Option ℕ
  if_extends s w c =
      when (is_dotted s c.extendee && is_some (extension_named V w)) (field_number (facts_of c))

  abbrev numbered : Option ExtensionType → Option ℕ
  numbered o =
      option_map (λ (f : FieldType). f.number)
      (option_and_then (λ (x : ExtensionType). if_held p x.field) o)

  number_of_held : (b : Bool) (e : FieldType) (n : ℕ) → e.number ≡ n
      → when (true && not b) n ≡ option_map (λ (f : FieldType). f.number) (cond b None (Some e))
  number_of_held true e n is = refl
  number_of_held false e n is = ap Some (sym is)

  module _ (s : Name) (i : ℕ) where
    -- where an entry is found, it is that of the record
    entry_found : (w : Text) (x : ExtensionType) → Contains p.extensions x
        → x.field.full_name ≡ w → (m : MessageType) → slice_get p.messages i ≡ Some m
        → m.full_name ≡ s → x.extendee ≡ i
        → extension_called V s w ≡ numbered (Some x)
    entry_found w x there name m at full_name place =
        let k = known_extended p l tells values entries declared names extensions x there in
        let o = extended.own p l tells values entries declared names extensions x there in
        let d = extended.declaration p l tells values entries declared names extensions x there in
        let body = ap (option_and_then extension_in)
        (body_found (map file_view p.records) l o.field.file d o.field.there o.field.inside) in
        let extendee : o.field.content.extendee ≡ Some (46 ∷ s) =
        extends p l tells values entries declared names extensions x there i m at place
        ∙ ap (λ n. Some (46 ∷ n)) full_name in
        let dotted : is_dotted s o.field.content.extendee ≡ true =
        ap (is_dotted s) extendee ∙ (bytes_eq-Decides (46 ∷ s) (46 ∷ s)).1 refl in
        subst (λ v. extension_called V s v ≡ numbered (Some x)) name
        (ap (option_and_then (if_extends s x.field.full_name)) body
        ∙ ap (λ b. when (b && is_some (extension_named V x.field.full_name))
        (field_number (facts_of o.field.content))) dotted
        ∙ ap (λ b. when (true && b) (field_number (facts_of o.field.content)))
        (extended_held p l tells values entries declared names extensions x there)
        ∙ number_of_held (holds_floats p x.field) x.field (field_number (facts_of o.field.content))
        (known_number p l tells values entries declared names extensions true x.field k))

    -- and where none is, no record is
    none_extends : (w : Text) → (HasEntry s w → ⊥) → extension_called V s w ≡ None
    none_extends w none = by (option_and_then extension_in (body_at V w)) refl where
      lacks : (c : FieldContent) → option_and_then extension_in (body_at V w) ≡ Some c
          → (b : Bool) → is_dotted s c.extendee ≡ b → if_extends s w c ≡ None
      lacks c e true is = absurd (none (has_entry s w c e is))
      lacks c e false is =
          ap (λ b. when (b && is_some (extension_named V w)) (field_number (facts_of c))) is

      by : (o : Option FieldContent) → option_and_then extension_in (body_at V w) ≡ o
          → extension_called V s w ≡ None
      by None e = ap (option_and_then (if_extends s w)) e
      by (Some c) e =
          ap (option_and_then (if_extends s w)) e ∙ lacks c e (is_dotted s c.extendee) refl

  pub extension_number : (i : ℕ) (m : MessageType) → slice_get p.messages i ≡ Some m → (w : Text)
      → extension_called V m.full_name w
      ≡ option_map (λ f. f.number) (pool.extension_called p i w)
  extension_number i m at w = by (find (bears_full i w) p.extensions) refl where
    by : (o : Option ExtensionType) → find (bears_full i w) p.extensions ≡ o
        → extension_called V m.full_name w
        ≡ option_map (λ f. f.number) (pool.extension_called p i w)
    by (Some x) e =
        let h = found_there (bears_full i w) p.extensions x e in
        let both = and_parts (x.extendee == i) (bytes_eq x.field.full_name w) h.1 in
        let a = both.0 in
        let place : x.extendee ≡ i = grind (arith, a) in
        entry_found m.full_name i w x h.0 ((bytes_eq-Decides x.field.full_name w).0 both.1) m at refl
        place
        ∙ sym (ap numbered e)
    by None e =
        none_extends m.full_name i w (λ x.
        none_found (bears_full i w) p.extensions x.entry e x.there
        (bears_both i w x.entry (same_type p l tells values entries declared names
        x.entry.extendee i x.type m x.at at x.name) x.full_name))
        ∙ sym (ap numbered e)

  -- what is no message has no extensions
  pub no_extension_number : (s : Name) (i : ℕ) → i ≡ length p.messages
      → ((m : MessageType) → Contains p.messages m → m.full_name ≡ s → ⊥) → (w : Text)
      → extension_called V s w ≡ option_map (λ f. f.number) (pool.extension_called p i w)
  no_extension_number s i end other w = by (find (bears_full i w) p.extensions) refl where
    by : (o : Option ExtensionType) → find (bears_full i w) p.extensions ≡ o
        → extension_called V s w ≡ option_map (λ f. f.number) (pool.extension_called p i w)
    by (Some x) e =
        let h = found_there (bears_full i w) p.extensions x e in
        let both = and_parts (x.extendee == i) (bytes_eq x.field.full_name w) h.1 in
        let a = both.0 in
        let place : x.extendee ≡ i = grind (arith, a) in
        let m = extendee_there p l tells values entries declared names extensions x h.0 in
        let less = get_less p.messages x.extendee m.0 m.1 in
        absurd (omega (arith, less, place, end))
    by None e =
        none_extends s i w (λ x. other x.type (get_contains p.messages x.entry.extendee x.type x.at)
        x.name)
        ∙ sym (ap numbered e)
