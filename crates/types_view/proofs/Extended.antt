-- The extensions of a message and a number, by the view of records and by a pool's entries.
use Rattle.std.proofs.Common.{◌≡◌, ◌≤◌, ◌∙◌, ◌⊎◌, inl, inr, ℕ, ℤ, pos, negsuc, Bool, true, false, ◌&&◌, ◌==◌, cond, List, [], ◌∷◌, Option, Some, None, length, map, slice_get, sum_by, unwrap_or, ap, sym, subst, refl, arith}
use Rattle.std.proofs.lemmas.Bool.{and_parts}
use Rattle.std.specs.List.{Contains, find, flat_map}
use Rattle.std.specs.Option.{option_and_then, option_map}
use Rattle.std.proofs.lemmas.Bool.Decides.{Decides-int_eq}
use Rattle.std.proofs.lemmas.Slice.Eq.{bytes_eq-Decides}
use Rattle.descriptor_records.specs.Content.{Text, FieldContent, FileContent, file_view}
use Rattle.reflect_fields.specs.Fields.{natural}
use Rattle.reflect_index.proofs.Among.{of_find, got_map}
use Rattle.reflect_tables.specs.Names.{FullName, enums, message_name, messages, names_of}
use Rattle.reflect_tables.specs.Types.{ExtensionType, FieldType, MessageType, PoolType}
use Rattle.schema_view.specs.Declarations.{Body, Declaration, declarations, of_extension}
use Rattle.schema_view.specs.Files.{is_proto3}
use Rattle.schema_view.specs.Lawful.{Key, has_key, is_dotted}
use Rattle.schema_view.specs.Rules.{HasFieldNumber, is_number}
use Rattle.schema_view.specs.Types.{extension_named, field_in, held_field, is_proto3_at}
use Rattle.schema_view.specs.Views.{View, extension_at, first, when, view_of}
use Rattle.schema_view.proofs.Lists.{contains_cases, contains_flat, contains_here, contains_none, first_from, first_some, one_of, sum_some}
use Rattle.schema_view.proofs.Orders.{when_true}
use Rattle.schema_view.proofs.Road.{AreLinked}
use Rattle.schema_view.proofs.Standing.{StandsIn, field_sound}
use Rattle.linked_view.specs.Entries.{HasDeclaredEntries, TellsEntries}
use Rattle.linked_view.specs.Extended.{HasWritten, TellsExtensions, WrittenKey, keys_of, written_keys}
use Rattle.reflect_message.specs.Known.{if_held, known_extension}
use Rattle.message_view.specs.Sound.{HaveNames}
use Rattle.message_view.specs.Types.{field_of}
use Rattle.linked_view.specs.Valued.{TellsValues}
use Rattle.linked_view.proofs.Extended.{dotted_is, number_is, zip_at}
use Rattle.linked_view.proofs.Places.{contains_get, get_contains, get_less}
use Rattle.types_view.specs.Fields.{IsToldExtension, TellsFields}
use Rattle.types_view.proofs.Found.{body_found, proto3_found}
use Rattle.types_view.proofs.Held.{held_same, same_type}
use Rattle.types_view.proofs.Told.{message_at}
use Rattle.types_view.proofs.Walk.{contains_among}

-- ---- lists

-- what is found stands there and passes, and where nothing is found nothing passes
pub found_there : {X : Type 0} (test : X → Bool) (xs : List X) (x : X) → find test xs ≡ Some x
    → Contains xs x × (test x ≡ true)
found_there test xs x e = let r = of_find test x xs e in (contains_among xs x r.0, r.1)

pub none_found : {X : Type 0} (test : X → Bool) (xs : List X) (x : X) → find test xs ≡ None
    → Contains xs x → test x ≡ true → ⊥
none_found test [] x e h is = contains_none x h
none_found test (y ∷ xs) x e h is =
    by (test y) refl (contains_cases y xs x h) (λ f j. none_found test xs x f j is) where
      by : (b : Bool) → test y ≡ b → (y ≡ x) ⊎ Contains xs x
          → (find test xs ≡ None → Contains xs x → ⊥) → ⊥
      by true own k later = cc (sym (ap (λ b. cond b (Some y) (find test xs)) own) ∙ e)
      by false own (inl same) later = cc (sym own ∙ ap test same ∙ is)
      by false own (inr j) later =
          later (sym (ap (λ b. cond b (Some y) (find test xs)) own) ∙ e) j

-- ---- keys

pub record HasKey (k : Key) (b : Body) : Type 0 where
  pub content : FieldContent
  pub body : b ≡ of_extension content
  pub extendee : content.extendee ≡ Some (46 ∷ k.0)
  pub number : content.number ≡ Some k.1

key_is : (k : Key) (b : Body) → has_key k b ≡ true → HasKey k b
key_is k (of_extension x) e =
    let both = and_parts (is_dotted k.0 x.extendee) (is_number k.1 x.number) e in
    record {
      content = x;
      body = refl;
      extendee = dotted_is k.0 x.extendee both.0;
      number = number_is k.1 x.number both.1;
    }
key_is k b e = absurd (cc e)

pub is_key : (k : Key) (x : FieldContent) → x.extendee ≡ Some (46 ∷ k.0) → x.number ≡ Some k.1
    → has_key k (of_extension x) ≡ true
is_key k x e n =
    let dotted : is_dotted k.0 x.extendee ≡ true =
    ap (is_dotted k.0) e ∙ (bytes_eq-Decides (46 ∷ k.0) (46 ∷ k.0)).1 refl in
    let number : is_number k.1 x.number ≡ true =
    ap (is_number k.1) n ∙ (Decides-int_eq k.1 k.1).1 refl in
    ap (λ b. b && is_number k.1 x.number) dotted ∙ number

module _ (fs : List FileContent) (l : AreLinked fs) (k : Key) where
  abbrev weight : Declaration → ℕ
  weight d = cond (has_key k d.body) 1 0

  one_weight : (b : Bool) → b ≡ true → 1 ≤ cond b 1 0
  one_weight true e = omega arith
  one_weight false e = absurd (cc e)

  abbrev all : FileContent → ℕ
  all f = sum_by weight (declarations f)

  -- the extension of a key is one
  one_key : (f g : FileContent) (d e : Declaration) → Contains fs f → Contains fs g
      → Contains (declarations f) d → Contains (declarations g) e → has_key k d.body ≡ true
      → has_key k e.body ≡ true → d ≡ e
  one_key f g d e i j m n first second =
      let few = l.together.extended k in
      let a = sum_some weight (declarations f) d m in
      let b = sum_some weight (declarations g) e n in
      let x = one_weight (has_key k d.body) first in
      let y = one_weight (has_key k e.body) second in
      let more : 1 ≤ all f = omega (arith, a, x) in
      let also : 1 ≤ all g = omega (arith, b, y) in
      let file : f ≡ g = one_of all fs f g few i j more also in
      let here : Contains (declarations f) e =
      subst (λ (h : FileContent). Contains (declarations h) e) (sym file) n in
      let own = sum_some all fs f i in
      let once : all f ≤ 1 = omega (arith, own, few) in
      one_of weight (declarations f) d e once m here x y

  name_is : (b : Bool) (x y : Text) → when b x ≡ Some y → x ≡ y
  name_is true x y e = cc e
  name_is false x y e = absurd (cc e)

  abbrev name_by : Declaration → Option Text
  name_by d = when (has_key k d.body) d.name

  pub key_found : (f : FileContent) (d : Declaration) → Contains fs f → Contains (declarations f) d
      → has_key k d.body ≡ true → (view_of fs).extensions k ≡ Some d.name
  key_found f d i j is =
      let inside = first_some name_by (declarations f) d d.name j (ap (λ b. when b d.name) is) in
      let found = first_some (extension_at k) fs f inside.0 i inside.1 in
      let g = first_from (extension_at k) fs found.0 found.1 in
      let e = first_from name_by (declarations g.0) found.0 g.2 in
      let also = when_true (has_key k e.0.body) e.0.name found.0 e.2 in
      let same = one_key f g.0 d e.0 i g.1 j e.1 is also in
      found.1
      ∙ ap Some (sym (ap (λ (x : Declaration). x.name) same
      ∙ name_is (has_key k e.0.body) e.0.name found.0 e.2))

  pub record KeyThere (name : Text) : Type 0 where
    pub file : FileContent
    pub declaration : Declaration
    pub there : Contains fs file
    pub inside : Contains (declarations file) declaration
    pub has : HasKey k declaration.body

  key_there : (name : Text) → (view_of fs).extensions k ≡ Some name → KeyThere name
  key_there name e =
      let f = first_from (extension_at k) fs name e in
      let d = first_from name_by (declarations f.0) name f.2 in
      record {
        file = f.0;
        declaration = d.0;
        there = f.1;
        inside = d.1;
        has = key_is k d.0.body (when_true (has_key k d.0.body) d.0.name name d.2);
      }

-- ---- and entries

written_there : (n : Text) (b : Body) (k : Key) → (h : HasKey k b)
    → Contains (keys_of (record { name = n; body = b })) (h.content.extendee, h.content.number)
written_there n b k h =
    subst (λ x. Contains (keys_of (record { name = n; body = x }))
    (h.content.extendee, h.content.number)) (sym h.body)
    (contains_here (h.content.extendee, h.content.number) [])

module _ (p : PoolType) (l : AreLinked (map file_view p.records)) (tells : TellsFields p)
    (values : TellsValues p) (entries : TellsEntries p) (declared : HasDeclaredEntries p)
    (names : HaveNames p) (extensions : TellsExtensions p) where
  abbrev fs : List FileContent
  fs = map file_view p.records

  abbrev W : View
  W = view_of fs

  abbrev ms : List FullName
  ms = names_of p messages

  -- an entry of a message of the name, under the number
  pub record HasExtension (t : Text) (n : ℕ) : Type 0 where
    pub entry : ExtensionType
    pub there : Contains p.extensions entry
    pub type : MessageType
    pub at : slice_get p.messages entry.extendee ≡ Some type
    pub name : type.full_name ≡ t
    pub number : entry.field.number ≡ n

  pub has_extension : (t : Text) (n : ℕ) (name : Text) → W.extensions (t, pos n) ≡ Some name
      → HasExtension t n
  has_extension t n name e =
      let k = key_there fs l (t, pos n) name e in
      let c = k.has.content in
      let w : WrittenKey = (c.extendee, c.number) in
      let there = contains_flat (λ f. flat_map keys_of (declarations f)) fs k.file w k.there
      (contains_flat keys_of (declarations k.file) k.declaration w k.inside
      (written_there k.declaration.name k.declaration.body (t, pos n) k.has)) in
      let j = contains_get (written_keys fs) w there in
      let z = zip_at (HasWritten ms) (written_keys fs) p.extensions j.0 w extensions j.1 in
      let m = got_map message_name p.messages z.0.extendee (z.2.full, z.2.file) z.2.message in
      let full : z.2.full ≡ t = cc (sym z.2.extendee ∙ k.has.extendee) in
      record {
        entry = z.0;
        there = get_contains p.extensions j.0 z.0 z.1;
        type = m.0;
        at = m.1;
        name = ap (λ (x : FullName). x.0) m.2 ∙ full;
        number = z.2.number ∙ ap (λ o. unwrap_or (natural o) 0) k.has.number;
      }

  abbrev is_sought : ℕ → ℕ → ExtensionType → Bool
  is_sought i n x = (x.extendee == i) && (x.field.number == n)

  field_number : (o : Option ℤ) (n : ℕ) → HasFieldNumber o → unwrap_or (natural o) 0 ≡ n
      → o ≡ Some (pos n)
  field_number o n (pos k, e, good) is =
      e ∙ ap (λ j. Some (pos j)) (sym (ap (λ x. unwrap_or (natural x) 0) e) ∙ is)
  field_number o n (negsuc k, e, good) is = absurd (search good.least)

  -- an entry's extension stands under its name
  module _ (x : ExtensionType) (there : Contains p.extensions x) where
    pub own : IsToldExtension ms (names_of p enums) fs x
    own = tells.extensions x there

    abbrev pub content : FieldContent
    content = own.field.content

    abbrev pub declaration : Declaration
    declaration = record { name = x.field.full_name; body = of_extension content }

    pub stands : StandsIn fs content
    stands = record {
      file = own.field.file;
      declaration = declaration;
      there = own.field.there;
      inside = own.field.inside;
      is = refl;
    }

    pub extends : (i : ℕ) (m : MessageType) → slice_get p.messages i ≡ Some m → x.extendee ≡ i
        → content.extendee ≡ Some (46 ∷ m.full_name)
    extends i m at is =
        let w = message_at p content.extendee x.extendee own.extendee in
        let same : w.type ≡ m = cc (sym w.at ∙ ap (slice_get p.messages) is ∙ at) in
        w.written ∙ ap (λ (q : MessageType). Some (46 ∷ q.full_name)) same

    pub called : (i : ℕ) (m : MessageType) (n : ℕ) → slice_get p.messages i ≡ Some m
        → x.extendee ≡ i → x.field.number ≡ n
        → W.extensions (m.full_name, pos n) ≡ Some x.field.full_name
    called i m n at is number =
        key_found fs l (m.full_name, pos n) own.field.file declaration own.field.there
        own.field.inside (is_key (m.full_name, pos n) content (extends i m at is)
        (field_number content.number n (field_sound fs l content stands).number
        (sym own.field.entry.number ∙ number)))

    pub named_same : extension_named W x.field.full_name
        ≡ option_map (field_of p None true) (if_held p x.field)
    named_same =
        let name = x.field.full_name in
        let f = own.field.file in
        ap (option_and_then (λ c. held_field W (is_proto3_at W name) true None c))
        (ap (option_and_then field_in) (body_found fs l f declaration own.field.there own.field.inside))
        ∙ ap (λ b. held_field W b true None content)
        (proto3_found fs l f declaration own.field.there own.field.inside)
        ∙ held_same p l tells values entries declared names (is_proto3 f) true content x.field
        (record { stands = stands; entry = own.field.entry }) None

    pub extendee_there : (m : MessageType) × (slice_get p.messages x.extendee ≡ Some m)
    extendee_there =
        let w = message_at p content.extendee x.extendee own.extendee in (w.type, w.at)

  parts : (i n : ℕ) (x : ExtensionType) → is_sought i n x ≡ true
      → (x.extendee ≡ i) × (x.field.number ≡ n)
  parts i n x is =
      let both = and_parts (x.extendee == i) (x.field.number == n) is in
      let a = both.0 in
      let b = both.1 in
      (grind (arith, a), grind (arith, b))

  sought : (i n : ℕ) (x : ExtensionType) → x.extendee ≡ i → x.field.number ≡ n
      → is_sought i n x ≡ true
  sought i n x a b =
      let first : (x.extendee == i) ≡ true = grind (arith, a) in
      let second : (x.field.number == n) ≡ true = grind (arith, b) in
      ap (λ c. c && (x.field.number == n)) first ∙ second

  -- what is so of each extension by its full name and by its entry is so of the extension of a
  -- message and a number
  module _ {Y : Type 0} (by_name : Text → Option Y) (by_entry : FieldType → Y)
      (each : (x : ExtensionType) → Contains p.extensions x
      → by_name x.field.full_name ≡ option_map by_entry (if_held p x.field)) where
    abbrev IsSame : Text → ℕ → ℕ → Type 0
    IsSame t i n = option_and_then by_name (W.extensions (t, pos n))
        ≡ option_map by_entry (known_extension p i n)

    abbrev held_of : Option ExtensionType → Option Y
    held_of o = option_map by_entry (option_and_then (λ (x : ExtensionType). if_held p x.field) o)

    pub extension_same : (i : ℕ) (m : MessageType) (n : ℕ) → slice_get p.messages i ≡ Some m
        → IsSame m.full_name i n
    extension_same i m n at = by (find (is_sought i n) p.extensions) refl where
      none : find (is_sought i n) p.extensions ≡ None → (o : Option Text)
          → W.extensions (m.full_name, pos n) ≡ o → o ≡ None
      none e None is = refl
      none e (Some name) is =
          let x = has_extension m.full_name n name is in
          let place = same_type p l tells values entries declared names x.entry.extendee i x.type m x.at
          at x.name in
          absurd (none_found (is_sought i n) p.extensions x.entry e x.there
          (sought i n x.entry place x.number))

      by : (o : Option ExtensionType) → find (is_sought i n) p.extensions ≡ o
          → IsSame m.full_name i n
      by (Some x) e =
          let h = found_there (is_sought i n) p.extensions x e in
          let s = parts i n x h.1 in
          ap (option_and_then by_name) (called x h.0 i m n at s.0 s.1)
          ∙ each x h.0
          ∙ sym (ap held_of e)
      by None e =
          ap (option_and_then by_name) (none e (W.extensions (m.full_name, pos n)) refl)
          ∙ sym (ap held_of e)

    -- what is no message has no extensions
    pub no_extension_same : (t : Text) (i n : ℕ) → i ≡ length p.messages
        → ((m : MessageType) → Contains p.messages m → m.full_name ≡ t → ⊥) → IsSame t i n
    no_extension_same t i n end other = by (find (is_sought i n) p.extensions) refl where
      none : (o : Option Text) → W.extensions (t, pos n) ≡ o → o ≡ None
      none None is = refl
      none (Some name) is =
          let x = has_extension t n name is in
          absurd (other x.type (get_contains p.messages x.entry.extendee x.type x.at) x.name)

      by : (o : Option ExtensionType) → find (is_sought i n) p.extensions ≡ o → IsSame t i n
      by (Some x) e =
          let h = found_there (is_sought i n) p.extensions x e in
          let s = parts i n x h.1 in
          let m = extendee_there x h.0 in
          let less = get_less p.messages x.extendee m.0 m.1 in
          let place = s.0 in
          absurd (omega (arith, less, place, end))
      by None e =
          ap (option_and_then by_name) (none (W.extensions (t, pos n)) refl)
          ∙ sym (ap held_of e)
