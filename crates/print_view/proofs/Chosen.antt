-- Which fields of a message are printed: those that messages hold, with what stands under their numbers or their defaults.
use Rattle.std.proofs.Common.{◌≡◌, ◌⊎◌, inl, inr, ◌-◌, ◌^◌, ℕ, ◌&&◌, ◌||◌, Bool, true, false, cond, not, List, [], ◌∷◌, map, Option, Some, None, refl, sym, ap, ◌∙◌, subst}
use Rattle.std.proofs.lemmas.Bool.{and_parts, not-true}
use Rattle.std.specs.List.{AllByRecursion, cons_option, filter, filter_map}
use Rattle.std.specs.Option.{option_and_then}
use Rattle.reflect_tables.specs.Types.{PoolType, FieldType, type_at}
use Rattle.reflect_wire.specs.Records.{varint}
use Rattle.reflect_pool.specs.Shapes.{holds_list, holds_map}
use Rattle.reflect_entries.specs.Entries.{value_at}
use Rattle.reflect_contents.specs.Walked.{Holding, if_set, set_field}
use Rattle.reflect_message.specs.Bytes as forms
use Rattle.reflect_message.specs.Contents.{content_of}
use Rattle.reflect_message.specs.Defaults.{IsDefault}
use Rattle.reflect_message.specs.Held.{fields_of}
use Rattle.reflect_message.specs.Known.{holds_floats, if_held, numbered_field, known_field}
use Rattle.reflect_message.specs.Names.{DynamicMessage, Value}
use Rattle.reflect_message.specs.Present.{is_held}
use Rattle.reflect_message.specs.Shown.{IsHeldOrDefault}
use Rattle.print_parts.specs.Entries.{Entry, field, undeclared, number_of, set_entry, AreChosen, AreDeclared, IsArranged, IsFieldOf, is_printed}
use Rattle.print_parts.specs.Pairwise.{Pairwise}
use Rattle.text_lines.specs.declared.options.FormatOptions.{FormatOptions}
use Rattle.message_view.specs.Shaped.{FitsAs, IsShaped, Shaped}
use Rattle.message_view.proofs.Accepting.{known_whole}
use Rattle.message_view.proofs.Fields.{known, none_owned}
use Rattle.message_view.proofs.Ordering.{found_each, rises}
use Rattle.print_view.proofs.Sorting.{all_sorted}

-- what passes a test passes it
all_passing : {X : Type 0} (P : X → Type 0) (test : X → Bool) (xs : List X) → AllByRecursion P xs → AllByRecursion (λ x. (test x ≡ true) × P x) (filter test xs)
all_passing P test [] h = tt
all_passing {X} P test (x ∷ xs) h = by (test x) refl (all_passing P test xs h.1) where
  by : (b : Bool) → test x ≡ b → AllByRecursion (λ x. (test x ≡ true) × P x) (filter test xs) → AllByRecursion (λ x. (test x ≡ true) × P x) (cond b (x ∷ filter test xs) (filter test xs))
  by true is rest = ((is, h.0), rest)
  by false is rest = rest

all_pairwise : {X Y : Type 0} (R : X → Y → Type 0) (P : X → Type 0) (Q : Y → Type 0) → ((x : X) (y : Y) → P x → R x y → Q y) → (xs : List X) (ys : List Y) → AllByRecursion P xs → Pairwise R xs ys → AllByRecursion Q ys
all_pairwise R P Q step [] ys h none = subst (AllByRecursion Q) (sym none) tt
all_pairwise R P Q step (x ∷ xs) ys h (y, rest, one, more, is) = subst (AllByRecursion Q) (sym is) (step x y h.0 one, all_pairwise R P Q step xs rest h.1 more)

or_true : (b : Bool) → b || false ≡ true → b ≡ true
or_true true e = refl
or_true false e = absurd (cc e)

-- each is found under its number
abbrev pub Found : List (ℕ × Value) → List (ℕ × Value) → Type 0
Found all es = AllByRecursion (λ (e : ℕ × Value). value_at all e.0 ≡ Some e.1) es

module _ (m : DynamicMessage) (levels : ℕ) (shaped : IsShaped (Shaped levels) m.descriptor (content_of m)) where
  abbrev pool : PoolType
  pool = m.descriptor.pool.now

  abbrev i : ℕ
  i = m.descriptor.index

  pub found_fields : Found (fields_of m) (fields_of m)
  found_fields = found_each 1 (2 ^ 29 - 1) (fields_of m) (rises (fields_of m) shaped.ordered.fields)

  -- a field that is there is known
  pub is_known : (n : ℕ) (v : Value) (f : FieldType) → value_at (fields_of m) n ≡ Some v → numbered_field pool i n ≡ Some f → known_field pool i n ≡ Some f
  is_known n v f at is = ap (option_and_then (if_held pool)) is ∙ by (holds_floats pool f) refl where
    by : (b : Bool) → holds_floats pool f ≡ b → cond b None (Some f) ≡ Some f
    by false e = refl
    by true e =
        let none : known_field pool i n ≡ None = ap (option_and_then (if_held pool)) is ∙ ap (λ b. cond b None (Some f)) e in
        absurd (cc (sym at ∙ shaped.unowned n (none_owned m.descriptor n none)))

  -- what it holds suits it
  pub field_fits : (n : ℕ) (v : Value) (f : FieldType) → value_at (fields_of m) n ≡ Some v → known_field pool i n ≡ Some f
      → (holds_floats pool f ≡ false) × FitsAs (Shaped levels) pool f (holds_map pool f) (holds_list pool f) v
  field_fits n v f at is =
      let g = known m.descriptor n f is in (
        known_whole m.descriptor n f is,
        subst (λ t. FitsAs (Shaped levels) pool t (holds_map pool t) (holds_list pool t) v) g.2
            (shaped.fields g.0 g.1 v (ap (λ (t : FieldType). value_at (fields_of m) t.number) g.2 ∙ ap (value_at (fields_of m)) g.3 ∙ at)),
      )

  -- ---- fields that are set

  abbrev pub entries : List (ℕ × Value) → List Entry
  entries es = map (set_entry m) (filter_map (set_field pool i) es)

  -- an entry more is that of the field of its number, if there is one more
  abbrev OneField : ℕ × Value → List (ℕ × Value) → Type 0
  OneField e es = (entries (e ∷ es) ≡ entries es) ⊎ ((f : FieldType) × (numbered_field pool i e.0 ≡ Some f) × (entries (e ∷ es) ≡ field pool f e.1 ∷ entries es))

  one_field : (e : ℕ × Value) (es : List (ℕ × Value)) → OneField e es
  one_field e es = by (numbered_field pool i e.0) refl where
    put : Option Holding → List Entry
    put o = map (set_entry m) (cons_option o (filter_map (set_field pool i) es))

    by : (o : Option FieldType) → numbered_field pool i e.0 ≡ o → OneField e es
    by None is = inl (ap (λ o. put (option_and_then (if_set pool e.1) o)) is)
    by (Some f) is = within (forms.is_set pool f (forms.form_of e.1)) (ap (λ o. put (option_and_then (if_set pool e.1) o)) is) where
      within : (b : Bool) → entries (e ∷ es) ≡ put (cond b (Some (f, e.1)) None) → OneField e es
      within false opened = inl opened
      within true opened = inr (f, is, opened)

  abbrev EachField : (Entry → Type 0) → Type 0
  EachField P = (f : FieldType) (v : Value) → known_field pool i f.number ≡ Some f → value_at (fields_of m) f.number ≡ Some v → P (field pool f v)

  all_fields : (P : Entry → Type 0) → EachField P → (es : List (ℕ × Value)) → Found (fields_of m) es → AllByRecursion P (entries es)
  all_fields P each [] all = tt
  all_fields P each (e ∷ es) all = elim (one_field e es) [
    | inl none ↦ subst (AllByRecursion P) (sym none) (all_fields P each es all.1)
    | inr (f, is, more) ↦ (
        let there = is_known e.0 e.1 f all.0 is in
        let number = (known m.descriptor e.0 f there).3 in
        subst (AllByRecursion P) (sym more) (
          each f e.1 (ap (known_field pool i) number ∙ there) (ap (value_at (fields_of m)) number ∙ all.0),
          all_fields P each es all.1,
        ))
  ]

  -- what is so of each field that is set
  pub all_set : (P : Entry → Type 0) → EachField P → AllByRecursion P (entries (fields_of m))
  all_set P each = all_fields P each (fields_of m) found_fields

  -- ---- fields that are printed

  -- a field that messages hold, by its own number
  abbrev IsHeld : FieldType → Type 0
  IsHeld f = known_field pool i f.number ≡ Some f

  all_held : (fs : List FieldType) → AllByRecursion IsHeld (filter_map (λ (f : FieldType). known_field pool i f.number) fs)
  all_held [] = tt
  all_held (f ∷ fs) = by (known_field pool i f.number) refl (all_held fs) where
    by : (o : Option FieldType) → known_field pool i f.number ≡ o → AllByRecursion IsHeld (filter_map (λ (f : FieldType). known_field pool i f.number) fs)
        → AllByRecursion IsHeld (cons_option o (filter_map (λ (f : FieldType). known_field pool i f.number) fs))
    by None is rest = rest
    by (Some g) is rest = (ap (known_field pool i) (known m.descriptor f.number g is).3 ∙ is, rest)

  module _ (options : FormatOptions) (P : Entry → Type 0) (set : EachField P)
      (unset : (f : FieldType) (v : Value) → known_field pool i f.number ≡ Some f → f.presence ≡ false → options.skip_default_fields ≡ false → IsDefault pool f v → P (field pool f v)) where
    one_printed : (f : FieldType) (e : Entry) → (is_printed options m f ≡ true) × IsHeld f → IsFieldOf m f e → P e
    one_printed f e (printed, there) (v, held, is) = subst P (sym is) (by (value_at (fields_of m) f.number) refl printed held) where
      shows : Bool
      shows = not options.skip_default_fields && not f.presence

      by : (o : Option Value) → value_at (fields_of m) f.number ≡ o → shows || is_held pool f o ≡ true → IsHeldOrDefault pool f o v → P (field pool f v)
      by None at printed held =
          let two = and_parts (not options.skip_default_fields) (not f.presence) (or_true shows printed) in
          unset f v there (not-true f.presence two.1) (not-true options.skip_default_fields two.0) held
      by (Some w) at printed held = subst (λ u. P (field pool f u)) (sym held) (set f w there at)

    all_chosen : (ds : List Entry) → AreChosen options m ds → AllByRecursion P ds
    all_chosen ds (found, printed, arranged) = by options.in_index_order arranged where
      all : AllByRecursion P found
      all =
          let fs = filter_map (λ (f : FieldType). known_field pool i f.number) (type_at pool i).fields in
          all_pairwise (IsFieldOf m) (λ f. (is_printed options m f ≡ true) × IsHeld f) P one_printed (filter (is_printed options m) fs) found
          (all_passing IsHeld (is_printed options m) fs (all_held (type_at pool i).fields)) printed

      by : (b : Bool) → IsArranged b found ds → AllByRecursion P ds
      by true same = subst (AllByRecursion P) (sym same) all
      by false sorted = all_sorted number_of (λ n. undeclared (n, varint 0)) (λ n. refl) found ds sorted.ascend sorted.same P all

    -- what is so of each field that is set, and of each default, is so of what is printed
    pub all_declared : (ds : List Entry) → AreDeclared options m ds → AllByRecursion P ds
    all_declared ds = by (options.skip_default_fields && not options.in_index_order) where
      by : (b : Bool) → cond b (ds ≡ entries (fields_of m)) (AreChosen options m ds) → AllByRecursion P ds
      by true is = subst (AllByRecursion P) (sym is) (all_set P set)
      by false chosen = all_chosen ds chosen
