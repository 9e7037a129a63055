-- What is printed of a message, number by number, and entry by entry.
use Rattle.std.proofs.Common.{◌≡◌, ◌<◌, inl, inr, ℕ, length, ◌-◌, ◌^◌, ◌==◌, ◌&&◌, ◌||◌, Bool, true, false, true≢false, cond, not, List, [], ◌∷◌, ◌++◌, map, Option, Some, None, option_map, refl, sym, ap, ◌∙◌, subst, arith, ◌≤◌, append-nil}
use Rattle.std.proofs.lemmas.Bool.{and_parts}
use Rattle.std.specs.List.{AllByRecursion, cons_option, find, filter, filter_map, flat_map}
use Rattle.std.specs.Option.{option_and_then}
use Rattle.std.proofs.lemmas.Grind.{flat_map-append}
use Rattle.std.proofs.lemmas.List.{map-append}
use Rattle.protox_lex.specs.Class.{Text}
use Rattle.reflect_tables.specs.Types.{PoolType, FieldType, ExtensionType, no_field, type_at, type_of_field}
use Rattle.reflect_wire.specs.Records.{Payload, varint}
use Rattle.reflect_pool.specs.Shapes.{is_repeated, holds_list, holds_map}
use Rattle.reflect_entries.specs.Entries.{value_at}
use Rattle.reflect_contents.specs.Walked.{Holding, if_set, set_field, set_extension}
use Rattle.reflect_message.proofs.Known.{numbered as numbered_at}
use Rattle.reflect_message.specs.Bytes as forms
use Rattle.reflect_message.specs.Contents.{content_of}
use Rattle.reflect_message.specs.Held.{fields_of, extensions_of, unknown_of}
use Rattle.reflect_message.specs.Known.{is_float, has_floats, holds_floats, if_held, numbered_field, known_field, known_extension}
use Rattle.reflect_message.specs.Present.{is_held}
use Rattle.reflect_message.specs.Shown.{IsHeldOrDefault}
use Rattle.reflect_message.specs.Names.{DynamicMessage, Value}
use Rattle.print_parts.specs.Entries.{Entry, field, extension, undeclared, number_of, set_entry, set_entries, known_entry, extension_entries, AreChosen, AreDeclared, IsFieldOf, is_printed}
use Rattle.print_parts.specs.Pairwise.{Pairwise}
use Rattle.reflect_print.specs.Named.{label_of}
use Rattle.protobuf_model.specs.Types.{Name, Field}
use Rattle.protobuf_model.specs.Values as model
use Rattle.protobuf_model.specs.Values.{Held, content, records, Message, absent}
use Rattle.protobuf_model.specs.Meaning.{payloads}
use Rattle.protobuf_model.specs.Bytes.{field_numbers, is_declared}
use Rattle.text_lines.specs.declared.options.FormatOptions.{FormatOptions}
use Rattle.text_model.specs.Forms.{Form}
use Rattle.text_model.specs.Printed.{Inner, parts, printed_content, printed_held, printing_order, default_given, lacks_presence}
use Rattle.text_model.specs.Schemas.{Schema}
use Rattle.text_model.specs.Tree as tree
use Rattle.text_model.specs.Tree.{Given}
use Rattle.message_view.specs.Sound.{AreApart, HaveFieldNumbers, HaveNames, HaveEntryFields, HaveLists}
use Rattle.message_view.specs.Types.{field_of, field_at, either_field, oneof_at, values_of, part_of}
use Rattle.message_view.specs.Types as described
use Rattle.message_view.specs.Views as views
use Rattle.message_view.specs.Views.{held_either, content_view, contents_view, view, view_of}
use Rattle.message_view.proofs.Entries.{Sort, plain, floating, message_type, sort_of}
use Rattle.message_view.proofs.Forms.{single_form_seen, message_form_seen}
use Rattle.message_view.proofs.Ordering.{rises}
use Rattle.message_view.proofs.Seen.{single_seen, message_seen, value_at-view, view_opened}
use Rattle.message_view.proofs.Written.{default_same}
use Rattle.message_view.specs.Shaped.{FitsAs, FitsOne, IsShaped, Shaped}
use Rattle.text_view.specs.Names.{name_in, names_of, printed_name, value_kind}
use Rattle.text_view.specs.Schemas.{schema_of}
use Rattle.text_view.proofs.Apart.{only_one}
use Rattle.text_view.proofs.Numbered.{listed, numbered_once}
use Rattle.message_view.proofs.Sound.{found_at as placed}
use Rattle.text_view.proofs.Set.{list_repeats, list_set, map_repeats, map_set}
use Rattle.print_view.specs.Forms.{form_of, HaveMessagePresence}
use Rattle.print_view.proofs.Chosen.{Found, all_set, field_fits, found_fields, is_known}
use Rattle.print_view.proofs.Extending.{all_extensions, extension_fits, found_extensions, no_field_too}
use Rattle.print_view.proofs.Sorting.{all_at, of_number, all_sorted, sorted_is}
use Rattle.print_view.proofs.Defaults.{standing, lacks_same, default_stands, unset_stands}
use Rattle.print_view.proofs.Parts.{HaveValues}
use Rattle.print_view.proofs.Counting.{same_numbers, filtered, shown, under, each, all_numbers}
use Rattle.print_view.proofs.Pieces.{Pair}
use Rattle.print_view.proofs.Printer.{Printer, own_options}
use Rattle.print_view.proofs.Values.{given, pairs_in, EntryFits, pair_of}

-- ---- which fields are set

or_true : (b : Bool) → (b || true) ≡ true
or_true true = refl
or_true false = refl

or_false : (b : Bool) → (b || false) ≡ b
or_false true = refl
or_false false = refl

module _ (pool : PoolType) (inner : DynamicMessage → Type 0) where
  abbrev Set : FieldType → Value → Type 0
  Set f v = forms.is_set pool f (forms.form_of v) ≡ views.is_set pool f (content_view v)

  set_one : (f : FieldType) (v : Value) → is_float f.kind ≡ false → FitsOne inner pool f v → Set f v
  set_one f v whole fits = by (sort_of f.kind) where
    by : Sort f.kind → Set f v
    by (floating e) = absurd (true≢false (sym e ∙ whole))
    by (plain type) =
        let w = fits.plain type in
        ap (forms.is_set pool f) (single_form_seen v w.0 w.1) ∙ ap (λ b. f.presence || not b) (default_same pool f w.0 type) ∙ sym (ap (views.is_set pool f) (single_seen v w.0 w.1))
    by (message_type type) =
        let m = fits.nested type in
        ap (forms.is_set pool f) (message_form_seen v m.0 m.1) ∙ or_true f.presence ∙ sym (ap (views.is_set pool f) (message_seen v m.0 m.1))

  -- a field is set by the program's test exactly if it is by the model's
  pub set_same : (f : FieldType) (v : Value) → holds_floats pool f ≡ false → (is_repeated f.cardinality ≡ true → f.presence ≡ false) → FitsAs inner pool f (holds_map pool f) (holds_list pool f) v → Set f v
  set_same f v whole repeats fits = by (holds_map pool f) refl (holds_list pool f) refl fits where
    by : (b : Bool) → holds_map pool f ≡ b → (c : Bool) → holds_list pool f ≡ c → FitsAs inner pool f b c v → Set f v
    by true e c k h = map_set pool f v h.0 (repeats (map_repeats pool f e)) h.1
    by false e true k h = list_set pool f v h.0 (repeats (list_repeats pool f k)) h.1
    by false e false k h = set_one f v (one (is_float f.kind) refl) h where
      one : (x : Bool) → is_float f.kind ≡ x → is_float f.kind ≡ false
      one false is = is
      one true is = absurd (true≢false (sym (ap (λ a. a || (holds_map pool f && has_floats pool f.kind)) is) ∙ whole))

-- ---- the fields of a type

-- no two of which have one number, so that each is found under its own
module _ (pool : PoolType) (i : ℕ) (apart : AreApart pool) where
  abbrev IsFound : FieldType → Type 0
  IsFound f = numbered_field pool i f.number ≡ Some f

  pub found_at : (k : ℕ) → k < length (type_at pool i).fields → IsFound (type_of_field pool i k)
  found_at k lt =
      let n = (type_of_field pool i k).number in
      only_one (λ (f : FieldType). f.number ≡ n) (λ f. f.number == n) (numbered_at n) (type_at pool i).fields no_field k lt refl
      (λ j less same. apart.fields i j k less lt same)

-- ---- a message

pub passes : {X : Type 0} (test : X → Bool) (xs : List X) (x : X) → find test xs ≡ Some x → test x ≡ true
passes test [] x e = absurd (cc e)
passes test (y ∷ ys) x e = by (test y) refl (passes test ys x) where
  by : (b : Bool) → test y ≡ b → (find test ys ≡ Some x → test x ≡ true) → test x ≡ true
  by true is later = let same : y ≡ x = cc (sym (ap (λ b. cond b (Some y) (find test ys)) is) ∙ e) in ap test (sym same) ∙ is
  by false is later = later (sym (ap (λ b. cond b (Some y) (find test ys)) is) ∙ e)

module _ (p skip as_declared expand : Bool) (m : DynamicMessage) (present : skip ≡ false → HaveMessagePresence m.descriptor.pool.now) (apart : AreApart m.descriptor.pool.now) (ranged : HaveFieldNumbers m.descriptor.pool.now) (fields_have : HaveEntryFields m.descriptor.pool.now) (values : HaveValues m.descriptor.pool.now) (lists : HaveLists m.descriptor.pool.now) (names : HaveNames m.descriptor.pool.now)
    (decoded : Name → Text → Option Message) (inner : Inner) (rounds levels : ℕ) (shaped : IsShaped (Shaped levels) m.descriptor (content_of m)) where
  abbrev pool : PoolType
  pool = m.descriptor.pool.now

  abbrev i : ℕ
  i = m.descriptor.index

  abbrev options : FormatOptions
  options = own_options p skip as_declared expand

  abbrev printer : Printer
  printer = record { pretty = p; skip = skip; as_declared = as_declared; expand = expand; pool = pool; fields_of = fields_have; values = values; decoded = decoded; inner = inner; payloads = rounds }

  abbrev own : Form
  own = form_of options

  abbrev schema : Schema
  schema = schema_of pool decoded

  abbrev give : FieldType → Value → Given
  give f v = given printer (values_of pool f) v

  abbrev pair : Entry → Pair
  pair e = pair_of printer e

  abbrev fits : ℕ → Entry → Type 0
  fits n e = EntryFits printer n e

  -- ---- what stands there suits

  abbrev Suits : FieldType → Value → Type 0
  Suits f v = (holds_floats pool f ≡ false) × FitsAs (Shaped levels) pool f (holds_map pool f) (holds_list pool f) v × (forms.is_set pool f (forms.form_of v) ≡ views.is_set pool f (content_view v))

  field_suits : (n : ℕ) (v : Value) (f : FieldType) → value_at (fields_of m) n ≡ Some v → known_field pool i n ≡ Some f → Suits f v
  field_suits n v f at is =
      let fit = field_fits m levels shaped n v f at is in
      (fit.0, fit.1, set_same pool (Shaped levels) f v fit.0 (lists.unset i n f (inl is)) fit.1)

  extension_suits : (n : ℕ) (v : Value) (f : FieldType) → value_at (extensions_of m) n ≡ Some v → known_field pool i n ≡ None → known_extension pool i n ≡ Some f → Suits f v
  extension_suits n v f at none is =
      let fit = extension_fits m levels shaped n v f at none is in
      (fit.0, fit.1, set_same pool (Shaped levels) f v fit.0 (lists.unset i n f (inr is)) fit.1)

  -- ---- fields

  abbrev of_field : Option FieldType → Value → List Pair
  of_field None v = []
  of_field (Some f) v = cond (views.is_set pool f (content_view v)) ((tree.plain (label_of pool f), give f v) ∷ []) []

  abbrev first : ℕ → Value → List Pair
  first n v = of_field (known_field pool i n) v

  abbrev entries : List (ℕ × Value) → List Entry
  entries es = map (set_entry m) (filter_map (set_field pool i) es)

  field_entry : (n : ℕ) (v : Value) (rest : List Holding) → value_at (fields_of m) n ≡ Some v
      → map pair (map (set_entry m) (cons_option (set_field pool i (n, v)) rest)) ≡ first n v ++ map pair (map (set_entry m) rest)
  field_entry n v rest at = by (numbered_field pool i n) refl where
    put : Option Holding → List Pair
    put o = map pair (map (set_entry m) (cons_option o rest))

    by : (o : Option FieldType) → numbered_field pool i n ≡ o → put (set_field pool i (n, v)) ≡ first n v ++ map pair (map (set_entry m) rest)
    by None is =
        ap (λ o. put (option_and_then (if_set pool v) o)) is
        ∙ sym (ap (λ o. of_field (option_and_then (if_held pool) o) v ++ map pair (map (set_entry m) rest)) is)
    by (Some f) is =
        let there = is_known m levels shaped n v f at is in
        let suits = field_suits n v f at there in
        ap (λ o. put (option_and_then (if_set pool v) o)) is
        ∙ ap (λ b. put (cond b (Some (f, v)) None)) suits.2
        ∙ shown_so (views.is_set pool f (content_view v))
        ∙ sym (ap (λ o. of_field o v ++ map pair (map (set_entry m) rest)) there) where
          shown_so : (b : Bool) → put (cond b (Some (f, v)) None) ≡ cond b ((tree.plain (label_of pool f), give f v) ∷ []) [] ++ map pair (map (set_entry m) rest)
          shown_so true = refl
          shown_so false = refl

  fields_said : (es : List (ℕ × Value)) → Found (fields_of m) es → map pair (entries es) ≡ each first es
  fields_said [] all = refl
  fields_said (e ∷ es) all = field_entry e.0 e.1 (filter_map (set_field pool i) es) all.0 ∙ ap (λ l. first e.0 e.1 ++ l) (fields_said es all.1)

  -- ---- extensions

  abbrev of_extension : (f x : Option FieldType) → Value → List Pair
  of_extension (Some f) x v = []
  of_extension None None v = []
  of_extension None (Some x) v = cond (views.is_set pool x (content_view v)) ((tree.extension (parts x.full_name), give x v) ∷ []) []

  abbrev second : ℕ → Value → List Pair
  second n v = of_extension (known_field pool i n) (known_extension pool i n) v

  abbrev known_one : Holding → Option Entry
  known_one h = known_entry m h.0.number h.1

  abbrev others : List (ℕ × Value) → List Entry
  others es = filter_map known_one (filter_map (set_extension pool i) es)

  abbrev extends : ℕ → ExtensionType → Bool
  extends n x = (x.extendee == i) && (x.field.number == n)

  extension_entry : (n : ℕ) (v : Value) (rest : List Holding) → value_at (extensions_of m) n ≡ Some v
      → map pair (filter_map known_one (cons_option (set_extension pool i (n, v)) rest)) ≡ second n v ++ map pair (filter_map known_one rest)
  extension_entry n v rest at = by (known_field pool i n) refl (find (extends n) pool.extensions) refl where
    put : Option Holding → List Pair
    put o = map pair (filter_map known_one (cons_option o rest))

    by : (o : Option FieldType) → known_field pool i n ≡ o → (x : Option ExtensionType) → find (extends n) pool.extensions ≡ x → put (set_extension pool i (n, v)) ≡ second n v ++ map pair (filter_map known_one rest)
    by (Some f) there x is = absurd (no_field_too m levels shaped n v f at there)
    by None none None is =
        ap (λ o. put (option_and_then (if_set pool v) (option_map (λ (x : ExtensionType). x.field) o))) is
        ∙ sym (ap (λ o. of_extension o (known_extension pool i n) v ++ map pair (filter_map known_one rest)) none
        ∙ ap (λ o. of_extension None (option_and_then (λ (x : ExtensionType). if_held pool x.field) o) v ++ map pair (filter_map known_one rest)) is)
    by None none (Some y) is =
        ap (λ o. put (option_and_then (if_set pool v) (option_map (λ (x : ExtensionType). x.field) o))) is
        ∙ within (holds_floats pool y.field) refl
        ∙ sym (ap (λ o. of_extension o (known_extension pool i n) v ++ map pair (filter_map known_one rest)) none) where
          number : y.field.number ≡ n
          number = let two = and_parts (y.extendee == i) (y.field.number == n) (passes (extends n) pool.extensions y is) in grind (arith, two.1)

          known_as : known_extension pool i n ≡ if_held pool y.field
          known_as = ap (option_and_then (λ (x : ExtensionType). if_held pool x.field)) is

          told : (b : Bool) (o : Option FieldType) → known_extension pool i n ≡ o
              → put (cond b (Some (y.field, v)) None) ≡ map pair (cons_option (cond b (option_map (λ f. extension pool f v) o) None) (filter_map known_one rest))
          told false o e = refl
          told true o e = ap (λ o. map pair (cons_option (option_map (λ f. extension pool f v) o) (filter_map known_one rest))) (ap (known_extension pool i) number ∙ e)

          within : (b : Bool) → holds_floats pool y.field ≡ b → put (if_set pool v y.field) ≡ of_extension None (known_extension pool i n) v ++ map pair (filter_map known_one rest)
          within true e =
              let nothing : known_extension pool i n ≡ None = known_as ∙ ap (λ b. cond b None (Some y.field)) e in
              told (forms.is_set pool y.field (forms.form_of v)) None nothing ∙ drops (forms.is_set pool y.field (forms.form_of v))
              ∙ sym (ap (λ o. of_extension None o v ++ map pair (filter_map known_one rest)) nothing) where
                drops : (b : Bool) → map pair (cons_option (cond b None None) (filter_map known_one rest)) ≡ map pair (filter_map known_one rest)
                drops true = refl
                drops false = refl
          within false e =
              let there : known_extension pool i n ≡ Some y.field = known_as ∙ ap (λ b. cond b None (Some y.field)) e in
              let suits = extension_suits n v y.field at none there in
              told (forms.is_set pool y.field (forms.form_of v)) (Some y.field) there
              ∙ ap (λ b. map pair (cons_option (cond b (Some (extension pool y.field v)) None) (filter_map known_one rest))) suits.2
              ∙ shown_so (views.is_set pool y.field (content_view v))
              ∙ sym (ap (λ o. of_extension None o v ++ map pair (filter_map known_one rest)) there) where
                shown_so : (b : Bool) → map pair (cons_option (cond b (Some (extension pool y.field v)) None) (filter_map known_one rest))
                    ≡ cond b ((tree.extension (parts y.field.full_name), give y.field v) ∷ []) [] ++ map pair (filter_map known_one rest)
                shown_so true = refl
                shown_so false = refl

  extensions_said : (es : List (ℕ × Value)) → Found (extensions_of m) es → map pair (others es) ≡ each second es
  extensions_said [] all = refl
  extensions_said (e ∷ es) all = extension_entry e.0 e.1 (filter_map (set_extension pool i) es) all.0 ∙ ap (λ l. second e.0 e.1 ++ l) (extensions_said es all.1)

  -- ---- by numbers

  -- what is printed under a number, by the field and the extension that have it
  abbrev by_names : (f x : Option FieldType) → Option Field → Held → List Pair
  by_names f x None h = []
  by_names f x (Some g) (records ps) =
      cond (not skip && (not g.extension && lacks_presence g.part g.label))
      ((cond g.extension (tree.extension (parts (printed_name pool f x))) (tree.plain (printed_name pool f x)), default_given (λ z. option_and_then (λ k. name_in pool k z) (value_kind pool f x)) g.part g.label) ∷ []) []
  by_names f x (Some g) (content c) =
      (cond g.extension (tree.extension (parts (printed_name pool f x))) (tree.plain (printed_name pool f x)), printed_content own schema inner (λ z. option_and_then (λ k. name_in pool k z) (value_kind pool f x)) g.part.kind c) ∷ []

  held_names : (n : ℕ) (o : Option Field) (h : Held) → printed_held own schema inner (names_of pool i) n o h ≡ by_names (known_field pool i n) (known_extension pool i n) o h
  held_names n None (records ps) = refl
  held_names n None (content c) = refl
  held_names n (Some g) (records ps) = refl
  held_names n (Some g) (content c) = refl

  abbrev under_either : (f x : Option FieldType) → (a b : Option model.Content) → List Payload → List Pair
  under_either f x a b ps = by_names f x (either_field pool i f x) (held_either pool f x a b ps)

  -- what is printed of a field that is not set
  abbrev stand : FieldType → Given
  stand f = standing printer f

  abbrev filled : FieldType → Pair
  filled f = (tree.plain (label_of pool f), stand f)

  abbrev fill : FieldType → List Pair
  fill f = cond (not skip && lacks_presence (part_of pool (values_of pool f)) (described.label_of pool f)) (filled f ∷ []) []

  -- and of one by what it holds
  abbrev pairs_at : Option FieldType → Option Value → List Pair
  pairs_at None v = []
  pairs_at (Some f) None = fill f
  pairs_at (Some f) (Some v) = cond (views.is_set pool f (content_view v)) ((tree.plain (label_of pool f), give f v) ∷ []) (fill f)

  fields_at : (f x : Option FieldType) (v : Option Value) (b : Option model.Content) (ps : List Payload)
      → cond (is_declared (either_field pool i f x)) (under_either f x (option_map content_view v) b ps) [] ≡ pairs_at f v
  fields_at (Some f) x None b ps = refl
  fields_at (Some f) x (Some v) b ps = by (views.is_set pool f (content_view v)) where
    by : (s : Bool) → by_names (Some f) x (Some (field_of pool (oneof_at pool i f) false f)) (cond s (content (content_view v)) absent) ≡ cond s ((tree.plain (label_of pool f), give f v) ∷ []) (fill f)
    by true = refl
    by false = refl
  fields_at None (Some y) None b ps = refl
  fields_at None (Some y) (Some v) b ps = refl
  fields_at None None None b ps = refl
  fields_at None None (Some v) b ps = refl

  -- no extension is printed that is not set
  unfilled : (b : Bool) (l : List Pair) → cond (b && false) l [] ≡ []
  unfilled true l = refl
  unfilled false l = refl

  extensions_at : (n : ℕ) (f x : Option FieldType) (v : Option Value) (a : Option model.Content) (ps : List Payload)
      → cond (not (is_declared (either_field pool i f x))) (under_either f x a (option_map content_view v) ps) [] ≡ shown (λ n v. of_extension f x v) v n
  extensions_at n (Some f) x None a ps = refl
  extensions_at n (Some f) x (Some v) a ps = refl
  extensions_at n None (Some y) None a ps = unfilled (not skip) _
  extensions_at n None (Some y) (Some v) a ps = by (views.is_set pool y (content_view v)) where
    by : (s : Bool) → by_names None (Some y) (Some (field_of pool None true y)) (cond s (content (content_view v)) absent) ≡ cond s ((tree.extension (parts y.full_name), give y v) ∷ []) []
    by true = refl
    by false = unfilled (not skip) _
  extensions_at n None None None a ps = refl
  extensions_at n None None (Some v) a ps = refl

  abbrev printed_at : ℕ → List Pair
  printed_at n = printed_held own schema inner (names_of pool i) n (field_at pool i n) (view m n)

  seen_at : (n : ℕ) → printed_at n ≡ under_either (known_field pool i n) (known_extension pool i n) (option_map content_view (value_at (fields_of m) n)) (option_map content_view (value_at (extensions_of m) n)) (payloads n (unknown_of m))
  seen_at n =
      ap (λ (s : Message). printed_held own schema inner (names_of pool i) n (field_at pool i n) (s n)) (view_opened m)
      ∙ held_names n (field_at pool i n) (view_of pool i (content_of m) n)
      ∙ ap (λ a. under_either (known_field pool i n) (known_extension pool i n) a (value_at (contents_view (extensions_of m)) n) (payloads n (unknown_of m))) (value_at-view (fields_of m) n)
      ∙ ap (λ b. under_either (known_field pool i n) (known_extension pool i n) (option_map content_view (value_at (fields_of m) n)) b (payloads n (unknown_of m))) (value_at-view (extensions_of m) n)

  first_at : (n : ℕ) → cond (is_declared (field_at pool i n)) (printed_at n) [] ≡ pairs_at (known_field pool i n) (value_at (fields_of m) n)
  first_at n =
      ap (λ l. cond (is_declared (field_at pool i n)) l []) (seen_at n)
      ∙ fields_at (known_field pool i n) (known_extension pool i n) (value_at (fields_of m) n) (option_map content_view (value_at (extensions_of m) n)) (payloads n (unknown_of m))

  -- without defaults
  set_at : skip ≡ true → (n : ℕ) (v : Option Value) → pairs_at (known_field pool i n) v ≡ shown first v n
  set_at is n v = by (known_field pool i n) v ∙ same_shown v where
    unfills : (f : FieldType) → fill f ≡ []
    unfills f = ap (λ b. cond (not b && lacks_presence (part_of pool (values_of pool f)) (described.label_of pool f)) (filled f ∷ []) []) is

    by : (o : Option FieldType) (v : Option Value) → pairs_at o v ≡ shown (λ k v. of_field o v) v n
    by None None = refl
    by None (Some v) = refl
    by (Some f) None = unfills f
    by (Some f) (Some v) = ap (λ l. cond (views.is_set pool f (content_view v)) ((tree.plain (label_of pool f), give f v) ∷ []) l) (unfills f)

    same_shown : (v : Option Value) → shown (λ k v. of_field (known_field pool i n) v) v n ≡ shown first v n
    same_shown None = refl
    same_shown (Some v) = refl

  second_at : (n : ℕ) → cond (not (is_declared (field_at pool i n))) (printed_at n) [] ≡ under second (extensions_of m) n
  second_at n =
      ap (λ l. cond (not (is_declared (field_at pool i n))) l []) (seen_at n)
      ∙ extensions_at n (known_field pool i n) (known_extension pool i n) (value_at (extensions_of m) n) (option_map content_view (value_at (fields_of m) n)) (payloads n (unknown_of m))
      ∙ same_shown (value_at (extensions_of m) n) where
        same_shown : (v : Option Value) → shown (λ k v. of_extension (known_field pool i n) (known_extension pool i n) v) v n ≡ shown second v n
        same_shown None = refl
        same_shown (Some v) = refl

  abbrev placed_at : ℕ → List Pair
  placed_at k = flat_map (λ n. printed_held own schema inner (names_of pool k) n (field_at pool k n) (view m n)) (printing_order own (names_of pool k) (λ n. field_at pool k n))

  -- ---- as they are declared

  abbrev InRange : ℕ → Type 0
  InRange n = (1 ≤ n) × (n ≤ 2 ^ 29 - 1)

  -- each field of the type is found under its number, which is one that fields may have
  abbrev Numbered : List FieldType → Type 0
  Numbered fs = AllByRecursion (λ (f : FieldType). (numbered_field pool i f.number ≡ Some f) × InRange f.number) fs

  numbered : Numbered (type_at pool i).fields
  numbered = all_at (λ (f : FieldType). (numbered_field pool i f.number ≡ Some f) × InRange f.number) no_field (type_at pool i).fields (λ k lt. (found_at pool i apart k lt, within k lt)) where
    within : (k : ℕ) → k < length (type_at pool i).fields → InRange (type_of_field pool i k).number
    within k lt = let h = ranged.fields i k lt in let low = h.0 in let high = h.1 in (omega (arith, low), omega (arith, high))

  abbrev numbers : List FieldType → List ℕ
  numbers fs = map (λ (f : FieldType). f.number) (filter (λ f. not (holds_floats pool f)) fs)

  abbrev Printed : List FieldType → List Entry → Type 0
  Printed fs es = Pairwise (IsFieldOf m) (filter (is_printed options m) (filter_map (λ (f : FieldType). known_field pool i f.number) fs)) es

  -- what is printed under the number of a field that messages hold
  under_field : (f : FieldType) → known_field pool i f.number ≡ Some f → printed_at f.number ≡ pairs_at (Some f) (value_at (fields_of m) f.number)
  under_field f there =
      let declared : is_declared (field_at pool i f.number) ≡ true = ap (λ o. is_declared (either_field pool i o (known_extension pool i f.number))) there in
      sym (ap (λ b. cond b (printed_at f.number) []) declared) ∙ first_at f.number
      ∙ ap (λ o. pairs_at o (value_at (fields_of m) f.number)) there

  -- of the numbers that pass a test
  module _ (test : ℕ → Bool) where
    abbrev tested : ℕ → List Pair
    tested q = cond (test q) (printed_at q) []

    abbrev passing : List Entry → List Entry
    passing es = filter (λ (e : Entry). test (number_of e)) es

    abbrev Told : List FieldType → List Entry → Type 0
    Told fs es = (flat_map tested (numbers fs) ≡ map pair (passing es)) × AllByRecursion (fits levels) es × AllByRecursion (λ (e : Entry). InRange (number_of e)) es

    declared_told : (fs : List FieldType) → Numbered fs → (es : List Entry) → Printed fs es → Told fs es
    declared_told [] every es printed = subst (λ es. Told [] es) (sym printed) (refl, tt, tt)
    declared_told (f ∷ fs) every es printed = by (holds_floats pool f) refl (declared_told fs every.1) where
      behind : List FieldType
      behind = filter_map (λ (f : FieldType). known_field pool i f.number) fs

      Puts : Option FieldType → List Entry → Type 0
      Puts o es = Pairwise (IsFieldOf m) (filter (is_printed options m) (cons_option o behind)) es

      Put : Bool → List Entry → Type 0
      Put b es = Pairwise (IsFieldOf m) (cond b (f ∷ filter (is_printed options m) behind) (filter (is_printed options m) behind)) es

      Behind : Type 0
      Behind = (es : List Entry) → Printed fs es → Told fs es

      Ends : List Pair → Type 0
      Ends l = (cond (test f.number) l [] ++ flat_map tested (numbers fs) ≡ map pair (passing es)) × AllByRecursion (fits levels) es × AllByRecursion (λ (e : Entry). InRange (number_of e)) es

      known_as : known_field pool i f.number ≡ if_held pool f
      known_as = ap (option_and_then (if_held pool)) every.0.0

      begins : (b : Bool) → holds_floats pool f ≡ b → flat_map tested (numbers (f ∷ fs)) ≡ cond b [] (tested f.number) ++ flat_map tested (numbers fs)
      begins true is = ap (λ b. flat_map tested (map (λ (f : FieldType). f.number) (cond (not b) (f ∷ filter (λ f. not (holds_floats pool f)) fs) (filter (λ f. not (holds_floats pool f)) fs)))) is
      begins false is = ap (λ b. flat_map tested (map (λ (f : FieldType). f.number) (cond (not b) (f ∷ filter (λ f. not (holds_floats pool f)) fs) (filter (λ f. not (holds_floats pool f)) fs)))) is

      -- the field is not printed
      skips : (l : List Pair) → l ≡ [] → Behind → Put false es → Ends l
      skips l none rest puts =
          let done = rest es puts in
          (ap (λ l. cond (test f.number) l [] ++ flat_map tested (numbers fs)) none ∙ empty (test f.number) ∙ done.0, done.1, done.2) where
            empty : (c : Bool) → cond c [] [] ++ flat_map tested (numbers fs) ≡ flat_map tested (numbers fs)
            empty true = refl
            empty false = refl

      -- or it is, as what is given
      puts : holds_floats pool f ≡ false → (l : List Pair) (g : Given) → l ≡ (tree.plain (label_of pool f), g) ∷ []
          → ((w : Value) → IsHeldOrDefault pool f (value_at (fields_of m) f.number) w → (give f w ≡ g) × FitsAs (Shaped levels) pool f (holds_map pool f) (holds_list pool f) w)
          → Behind → Put true es → Ends l
      puts whole l g is gives rest (e, es', (w, held, entry), more, all) =
          let done = rest es' more in
          let one = gives w held in
          let same : es ≡ field pool f w ∷ es' = all ∙ ap (λ e. e ∷ es') entry in (
            ap (λ l. cond (test f.number) l [] ++ flat_map tested (numbers fs)) (is ∙ ap (λ g. (tree.plain (label_of pool f), g) ∷ []) (sym one.0))
                ∙ ap (λ l. cond (test f.number) ((tree.plain (label_of pool f), give f w) ∷ []) [] ++ l) done.0
                ∙ both_ways w es' (test f.number) ∙ sym (ap (λ es. map pair (passing es)) same),
            subst (AllByRecursion (fits levels)) (sym same) ((refl, whole, one.1), done.1),
            subst (AllByRecursion (λ (e : Entry). InRange (number_of e))) (sym same) (every.0.1, done.2),
          ) where
            both_ways : (w : Value) (es' : List Entry) (c : Bool) → cond c ((tree.plain (label_of pool f), give f w) ∷ []) [] ++ map pair (passing es') ≡ map pair (cond c (field pool f w ∷ passing es') (passing es'))
            both_ways w es' true = refl
            both_ways w es' false = refl

      -- a field that is not set, by whether its default is printed
      unset : known_field pool i f.number ≡ Some f → holds_floats pool f ≡ false → (l : List Pair) → l ≡ fill f
          → (f.presence ≡ false → skip ≡ false → (w : Value) → IsHeldOrDefault pool f (value_at (fields_of m) f.number) w → (give f w ≡ stand f) × FitsAs (Shaped levels) pool f (holds_map pool f) (holds_list pool f) w)
          → Behind → Put (not skip && not f.presence) es → Ends l
      unset there whole l is gives rest put = by (not skip && not f.presence) refl put where
        filled_so : l ≡ cond (not skip && not f.presence) (filled f ∷ []) []
        filled_so = is ∙ ap (λ b. cond (not skip && b) (filled f ∷ []) []) (lacks_same printer f (lists.unset i f.number f (inl there)))

        off : (b : Bool) → not b ≡ true → b ≡ false
        off true e = absurd (cc e)
        off false e = refl

        by : (b : Bool) → not skip && not f.presence ≡ b → Put b es → Ends l
        by false e put = skips l (filled_so ∙ ap (λ b. cond b (filled f ∷ []) []) e) rest put
        by true e put =
            let two = and_parts (not skip) (not f.presence) e in
            puts whole l (stand f) (filled_so ∙ ap (λ b. cond b (filled f ∷ []) []) e) (gives (off f.presence two.1) (off skip two.0)) rest put

      first_off : (a b : Bool) → a || b ≡ false → a ≡ false
      first_off true b e = absurd (cc e)
      first_off false b e = refl

      within : known_field pool i f.number ≡ Some f → holds_floats pool f ≡ false → (v : Option Value) → value_at (fields_of m) f.number ≡ v → Behind
          → Put ((not skip && not f.presence) || is_held pool f v) es → Ends (pairs_at (Some f) v)
      within there whole None at rest put =
          unset there whole (fill f) refl
          (λ absent shows w held. default_stands printer levels f w (first_off (is_float f.kind) (holds_map pool f && has_floats pool f.kind) whole)
          (λ type single. true≢false (sym (present shows i f.number f there type single) ∙ absent))
          (subst (λ o. IsHeldOrDefault pool f o w) at held))
          rest (subst (λ b. Put b es) (or_false (not skip && not f.presence)) put)
      within there whole (Some v) at rest put =
          let suits = field_suits f.number v f at there in
          by (views.is_set pool f (content_view v)) refl (subst (λ b. Put ((not skip && not f.presence) || b) es) suits.2 put) where
            held_one : (w : Value) → IsHeldOrDefault pool f (value_at (fields_of m) f.number) w → w ≡ v
            held_one w held = subst (λ o. IsHeldOrDefault pool f o w) at held

            fit : FitsAs (Shaped levels) pool f (holds_map pool f) (holds_list pool f) v
            fit = (field_suits f.number v f at there).1

            by : (b : Bool) → views.is_set pool f (content_view v) ≡ b → Put ((not skip && not f.presence) || b) es → Ends (pairs_at (Some f) (Some v))
            by true set put =
                puts whole (pairs_at (Some f) (Some v)) (give f v) (ap (λ b. cond b ((tree.plain (label_of pool f), give f v) ∷ []) (fill f)) set)
                (λ w held. (ap (give f) (held_one w held), subst (FitsAs (Shaped levels) pool f (holds_map pool f) (holds_list pool f)) (sym (held_one w held)) fit))
                rest (subst (λ b. Put b es) (or_true (not skip && not f.presence)) put)
            by false set put =
                unset there whole (pairs_at (Some f) (Some v)) (ap (λ b. cond b ((tree.plain (label_of pool f), give f v) ∷ []) (fill f)) set)
                (λ absent shows w held. (
                  ap (give f) (held_one w held) ∙ unset_stands printer levels f v (first_off (is_float f.kind) (holds_map pool f && has_floats pool f.kind) whole) set fit,
                  subst (FitsAs (Shaped levels) pool f (holds_map pool f) (holds_list pool f)) (sym (held_one w held)) fit,
                ))
                rest (subst (λ b. Put b es) (or_false (not skip && not f.presence)) put)

      by : (b : Bool) → holds_floats pool f ≡ b → Behind → Told (f ∷ fs) es
      by true is rest =
          let none : known_field pool i f.number ≡ None = known_as ∙ ap (λ b. cond b None (Some f)) is in
          let done = rest es (subst (λ o. Puts o es) none printed) in
          (begins true is ∙ done.0, done.1, done.2)
      by false is rest =
          let there : known_field pool i f.number ≡ Some f = known_as ∙ ap (λ b. cond b None (Some f)) is in
          let done = within there is (value_at (fields_of m) f.number) refl rest (subst (λ o. Puts o es) there printed) in
          (begins false is ∙ ap (λ l. cond (test f.number) l [] ++ flat_map tested (numbers fs)) (under_field f there) ∙ done.0, done.1, done.2)

  -- ---- all of them

  abbrev declared : ℕ → Bool
  declared n = is_declared (field_at pool i n)

  abbrev Arranged : Bool → List Entry → Type 0
  Arranged by_place ds =
      (flat_map printed_at (cond by_place (numbers (type_at pool i).fields) (filter declared field_numbers)) ≡ map pair ds)
      × AllByRecursion (fits levels) ds

  passing_all : (es : List Entry) → filter (λ (e : Entry). true) es ≡ es
  passing_all [] = refl
  passing_all (e ∷ es) = ap (λ l. e ∷ l) (passing_all es)

  mapped : (g : ℕ → List Entry) (ns : List ℕ) → flat_map (λ n. map pair (g n)) ns ≡ map pair (flat_map g ns)
  mapped g [] = refl
  mapped g (n ∷ ns) = ap (λ l. map pair (g n) ++ l) (mapped g ns) ∙ sym (map-append pair (g n) (flat_map g ns))

  -- what is printed under a number is what was found of it
  under_number : (found : List Entry) → Printed (type_at pool i).fields found → (n : ℕ) → cond (declared n) (printed_at n) [] ≡ map pair (of_number number_of n found)
  under_number found printed n =
      by (known_field pool i n) (known_extension pool i n)
      ∙ sym (ap (flat_map printed_at) (numbered_once pool n (type_at pool i).fields (apart.fields i)))
      ∙ filtered (λ q. q == n) printed_at (numbers (type_at pool i).fields)
      ∙ (declared_told (λ q. q == n) (type_at pool i).fields numbered found printed).0 where
        by : (o x : Option FieldType) → cond (is_declared (either_field pool i o x)) (printed_at n) [] ≡ flat_map printed_at (listed pool n o)
        by None None = refl
        by None (Some y) = refl
        by (Some f) x = sym (append-nil (printed_at n))

  arranged : (by_place skips : Bool) → skip ≡ skips → (ds : List Entry) → cond (skips && not by_place) (ds ≡ set_entries m) (AreChosen (own_options p skip by_place expand) m ds) → Arranged by_place ds
  arranged false true is ds are =
      subst (Arranged false) (sym are) (
        filtered declared printed_at field_numbers ∙ same_numbers (λ n. cond (declared n) (printed_at n) []) (under first (fields_of m)) (λ n le. first_at n ∙ set_at is n (value_at (fields_of m) n))
            ∙ all_numbers first (fields_of m) (rises (fields_of m) shaped.ordered.fields) ∙ sym (fields_said (fields_of m) (found_fields m levels shaped)),
        all_set m levels shaped (fits levels) (λ f v there at. let suits = field_suits f.number v f at there in (refl, suits.0, suits.1)),
      )
  arranged false false is ds (found, printed, sorted) =
      let done = declared_told (λ q. true) (type_at pool i).fields numbered found printed in
      let at : ℕ → Entry = λ n. undeclared (n, varint 0) in (
        filtered declared printed_at field_numbers
            ∙ same_numbers (λ n. cond (declared n) (printed_at n) []) (λ n. map pair (of_number number_of n found)) (λ n le. under_number found printed n)
            ∙ mapped (λ n. of_number number_of n found) field_numbers
            ∙ ap (map pair) (sorted_is number_of at (λ n. refl) found ds sorted.ascend sorted.same done.2),
        all_sorted number_of at (λ n. refl) found ds sorted.ascend sorted.same (fits levels) done.1,
      )
  arranged true true is ds (found, printed, same) =
      let done = declared_told (λ q. true) (type_at pool i).fields numbered found printed in
      subst (Arranged true) (sym same) (done.0 ∙ ap (map pair) (passing_all found), done.1)
  arranged true false is ds (found, printed, same) =
      let done = declared_told (λ q. true) (type_at pool i).fields numbered found printed in
      subst (Arranged true) (sym same) (done.0 ∙ ap (map pair) (passing_all found), done.1)

  pub all_printed : (ds : List Entry) → AreDeclared options m ds → AllByRecursion (fits levels) ds × AllByRecursion (fits levels) (extension_entries m)
      × (pairs_in printer m ≡ map pair ds ++ map pair (extension_entries m))
  all_printed ds are =
      let all = arranged as_declared skip refl ds are in (
        all.1,
        all_extensions m levels shaped (fits levels) (λ n f v none there at. let suits = extension_suits n v f at none there in (refl, suits.0, suits.1)),
        ap placed_at (placed pool.messages i m.descriptor.in_range (λ k less e. names i k m.descriptor.in_range less e))
            ∙ flat_map-append printed_at (cond as_declared (numbers (type_at pool i).fields) (filter declared field_numbers)) (filter (λ n. not (declared n)) field_numbers)
            ∙ ap (λ l. l ++ flat_map printed_at (filter (λ n. not (declared n)) field_numbers)) all.0
            ∙ ap (λ l. map pair ds ++ l)
            (filtered (λ n. not (declared n)) printed_at field_numbers ∙ same_numbers (λ n. cond (not (declared n)) (printed_at n) []) (under second (extensions_of m)) (λ n le. second_at n)
            ∙ all_numbers second (extensions_of m) (rises (extensions_of m) shaped.ordered.extensions) ∙ sym (extensions_said (extensions_of m) (found_extensions m levels shaped))),
      )
