-- Nothing that a message holds is left out where it is printed: what is so of all that is printed is so of each field and each extension that is set.
use Rattle.std.proofs.Common.{◌≡◌, ℕ, ◌==◌, ◌&&◌, ◌||◌, Bool, true, false, true≢false, cond, not, List, [], ◌∷◌, map, Option, Some, None, option_map, unwrap_or, refl, sym, ap, ◌∙◌, subst}
use Rattle.std.proofs.lemmas.Bool.{eqb-true}
use Rattle.std.specs.List.{AllByRecursion, cons_option, find, filter, filter_map}
use Rattle.std.specs.Option.{option_and_then}
use Rattle.reflect_tables.specs.Types.{PoolType, FieldType, ExtensionType, type_at}
use Rattle.reflect_wire.specs.Records.{varint}
use Rattle.reflect_entries.specs.Entries.{value_at}
use Rattle.reflect_contents.specs.Walked.{Holding, if_set, set_field, set_extension, numbered_extension}
use Rattle.reflect_message.specs.Bytes as forms
use Rattle.reflect_message.specs.Held.{fields_of, extensions_of}
use Rattle.reflect_message.specs.Known.{if_held, numbered_field, known_field, known_extension}
use Rattle.reflect_message.specs.Names.{DynamicMessage, Value}
use Rattle.reflect_message.specs.Present.{is_held}
use Rattle.reflect_message.specs.Shown.{IsHeldOrDefault}
use Rattle.print_parts.specs.Entries.{Entry, field, extension, undeclared, number_of, set_entry, set_entries, known_entry, extension_entries, AreChosen, AreDeclared, IsArranged, IsFieldOf, is_printed}
use Rattle.print_parts.specs.Pairwise.{Pairwise}
use Rattle.text_lines.specs.declared.options.FormatOptions.{FormatOptions}
use Rattle.message_view.proofs.Fields.{held_is, known_extension_is}
use Rattle.print_view.proofs.Sorting.{all_found}

-- ---- what is so of the elements that a list is made of

all_kept : {X Y : Type 0} (g : X → Option Y) (P : Y → Type 0) (xs : List X) → AllByRecursion P (filter_map g xs) → AllByRecursion (λ x. (y : Y) → g x ≡ Some y → P y) xs
all_kept g P [] h = tt
all_kept {X} {Y} g P (x ∷ xs) h = by (all_kept g P xs) (g x) refl h where
  by : (AllByRecursion P (filter_map g xs) → AllByRecursion (λ x. (y : Y) → g x ≡ Some y → P y) xs)
      → (o : Option Y) → g x ≡ o → AllByRecursion P (cons_option o (filter_map g xs)) → AllByRecursion (λ x. (y : Y) → g x ≡ Some y → P y) (x ∷ xs)
  by later None is h = ((λ y there. absurd (cc (sym is ∙ there))), later h)
  by later (Some z) is h = ((λ y there. subst P (ap (λ o. unwrap_or o y) (sym is ∙ there)) h.0), later h.1)

all_tested : {X : Type 0} (test : X → Bool) (P : X → Type 0) (xs : List X) → AllByRecursion P (filter test xs) → AllByRecursion (λ x. test x ≡ true → P x) xs
all_tested test P [] h = tt
all_tested {X} test P (x ∷ xs) h = by (all_tested test P xs) (test x) refl h where
  by : (AllByRecursion P (filter test xs) → AllByRecursion (λ x. test x ≡ true → P x) xs)
      → (b : Bool) → test x ≡ b → AllByRecursion P (cond b (x ∷ filter test xs) (filter test xs)) → AllByRecursion (λ x. test x ≡ true → P x) (x ∷ xs)
  by later true is h = ((λ passes. h.0), later h.1)
  by later false is h = ((λ passes. absurd (true≢false (sym passes ∙ is))), later h)

all_mapped : {X Y : Type 0} (f : X → Y) (P : Y → Type 0) (xs : List X) → AllByRecursion P (map f xs) → AllByRecursion (λ x. P (f x)) xs
all_mapped f P [] h = tt
all_mapped f P (x ∷ xs) h = (h.0, all_mapped f P xs h.1)

all_paired : {X Y : Type 0} (R : X → Y → Type 0) (P : Y → Type 0) (xs : List X) (ys : List Y) → Pairwise R xs ys → AllByRecursion P ys → AllByRecursion (λ x. (y : Y) × R x y × P y) xs
all_paired R P [] ys none h = tt
all_paired R P (x ∷ xs) ys (y, rest, one, more, is) h = let its = subst (AllByRecursion P) is h in ((y, one, its.0), all_paired R P xs rest more its.1)

-- and so of the one that is found
of_found : {X : Type 0} (test : X → Bool) (P : X → Type 0) (xs : List X) (x : X) → AllByRecursion P xs → find test xs ≡ Some x → P x
of_found test P [] x h e = absurd (cc e)
of_found test P (y ∷ ys) x h e = by (of_found test P ys x h.1) (test y) refl where
  by : (find test ys ≡ Some x → P x) → (b : Bool) → test y ≡ b → P x
  by later true is = let same : y ≡ x = cc (sym (ap (λ b. cond b (Some y) (find test ys)) is) ∙ e) in subst P same h.0
  by later false is = later (sym (ap (λ b. cond b (Some y) (find test ys)) is) ∙ e)

of_number : {V : Type 0} (P : ℕ → V → Type 0) (es : List (ℕ × V)) (n : ℕ) (v : V) → AllByRecursion (λ (e : ℕ × V). P e.0 e.1) es → value_at es n ≡ Some v → P n v
of_number P [] n v h at = absurd (cc at)
of_number P (e ∷ es) n v h at = by (of_number P es n v h.1) (n == e.0) refl where
  by : (value_at es n ≡ Some v → P n v) → (b : Bool) → (n == e.0) ≡ b → P n v
  by later true is =
      let same : e.1 ≡ v = ap (λ o. unwrap_or o v) (sym (ap (λ b. cond b (Some e.1) (value_at es n)) is) ∙ at) in
      subst (λ k. P k v) (sym (eqb-true n e.0 is)) (subst (P e.0) same h.0)
  by later false is = later (sym (ap (λ b. cond b (Some e.1) (value_at es n)) is) ∙ at)

or_true : (b : Bool) → (b || true) ≡ true
or_true true = refl
or_true false = refl

-- ---- a message

module _ (options : FormatOptions) (m : DynamicMessage) (P : Entry → Type 0) where
  abbrev pool : PoolType
  pool = m.descriptor.pool.now

  abbrev i : ℕ
  i = m.descriptor.index

  module _ (f : FieldType) (v : Value) (there : known_field m.descriptor.pool.now m.descriptor.index f.number ≡ Some f) (at : value_at (fields_of m) f.number ≡ Some v) (set : forms.is_set m.descriptor.pool.now f (forms.form_of v) ≡ true) where
    numbered : numbered_field pool i f.number ≡ Some f
    numbered = by (numbered_field pool i f.number) refl where
      by : (o : Option FieldType) → numbered_field pool i f.number ≡ o → numbered_field pool i f.number ≡ Some f
      by None is = absurd (cc (sym (ap (option_and_then (if_held pool)) is) ∙ there))
      by (Some h) is = is ∙ ap Some (held_is pool h f (sym (ap (option_and_then (if_held pool)) is) ∙ there)).1

    -- by ascending number
    of_set : AllByRecursion P (set_entries m) → P (field pool f v)
    of_set all =
        let each = all_kept (set_field pool i) (λ (h : Holding). P (set_entry m h)) (fields_of m) (all_mapped (set_entry m) P (filter_map (set_field pool i) (fields_of m)) all) in
        of_number (λ (n : ℕ) (v : Value). (h : Holding) → set_field pool i (n, v) ≡ Some h → P (set_entry m h)) (fields_of m) f.number v each at
        (f, v) (ap (option_and_then (if_set pool v)) numbered ∙ ap (λ b. cond b (Some (f, v)) None) set)

    -- with defaults, or as they are declared
    abbrev HasEntry : FieldType → Type 0
    HasEntry g = (e : Entry) × IsFieldOf m g e × P e

    abbrev fields : List FieldType
    fields = (type_at pool i).fields

    chosen : (found : List Entry) → Pairwise (IsFieldOf m) (filter (is_printed options m) (filter_map (λ (g : FieldType). known_field pool i g.number) fields)) found → AllByRecursion P found → HasEntry f
    chosen found printed all =
        let known = filter_map (λ (g : FieldType). known_field pool i g.number) fields in
        let paired = all_paired (IsFieldOf m) P (filter (is_printed options m) known) found printed all in
        let each = all_kept (λ (g : FieldType). known_field pool i g.number) (λ (g : FieldType). is_printed options m g ≡ true → HasEntry g) fields (all_tested (is_printed options m) HasEntry known paired) in
        of_found (λ (g : FieldType). g.number == f.number) (λ (h : FieldType). (g : FieldType) → known_field pool i h.number ≡ Some g → is_printed options m g ≡ true → HasEntry g) fields f each numbered f there
        (ap (λ o. shows || is_held pool f o) at ∙ ap (λ b. shows || b) set ∙ or_true shows) where
          shows : Bool
          shows = not options.skip_default_fields && not f.presence

    its_entry : HasEntry f → P (field pool f v)
    its_entry (e, (w, held, is), all) =
        let same : w ≡ v = subst (λ o. IsHeldOrDefault pool f o w) at held in
        subst P (is ∙ ap (λ u. field pool f u) same) all

    found_all : (b : Bool) (found ds : List Entry) → IsArranged b found ds → AllByRecursion P ds → AllByRecursion P found
    found_all true found ds same all = subst (AllByRecursion P) same all
    found_all false found ds sorted all = all_found number_of (λ n. undeclared (n, varint 0)) (λ n. refl) found ds sorted.ascend sorted.same P all

    pub of_field : (ds : List Entry) → AreDeclared options m ds → AllByRecursion P ds → P (field pool f v)
    of_field ds declared all = by (options.skip_default_fields && not options.in_index_order) declared where
      by : (b : Bool) → cond b (ds ≡ set_entries m) (AreChosen options m ds) → P (field pool f v)
      by true is = of_set (subst (AllByRecursion P) is all)
      by false (found, printed, arranged) = its_entry (chosen found printed (found_all options.in_index_order found ds arranged all))

  pub of_extension : (n : ℕ) (f : FieldType) (v : Value) → known_extension pool i n ≡ Some f → value_at (extensions_of m) n ≡ Some v → forms.is_set pool f (forms.form_of v) ≡ true → AllByRecursion P (extension_entries m) → P (extension pool f v)
  of_extension n f v there at set all =
      let each = all_kept (set_extension pool i) (λ (h : Holding). (e : Entry) → known_entry m h.0.number h.1 ≡ Some e → P e) (extensions_of m)
      (all_kept (λ (h : Holding). known_entry m h.0.number h.1) P (filter_map (set_extension pool i) (extensions_of m)) all) in
      of_number (λ (n : ℕ) (v : Value). (h : Holding) → set_extension pool i (n, v) ≡ Some h → (e : Entry) → known_entry m h.0.number h.1 ≡ Some e → P e) (extensions_of m) n v each at
      (f, v) (ap (option_and_then (if_set pool v)) (by (find extends pool.extensions) refl) ∙ ap (λ b. cond b (Some (f, v)) None) set)
      (extension pool f v) (ap (λ o. option_map (λ (g : FieldType). extension pool g v) o) (ap (known_extension pool i) number ∙ there)) where
        extends : ExtensionType → Bool
        extends x = (x.extendee == i) && (x.field.number == n)

        number : f.number ≡ n
        number = (known_extension_is m.descriptor n f there).3

        by : (o : Option ExtensionType) → find extends pool.extensions ≡ o → numbered_extension pool i n ≡ Some f
        by None is = absurd (cc (sym (ap (option_and_then (λ (x : ExtensionType). if_held pool x.field)) is) ∙ there))
        by (Some y) is = ap (option_map (λ (x : ExtensionType). x.field)) is ∙ ap Some (held_is pool y.field f (sym (ap (option_and_then (λ (x : ExtensionType). if_held pool x.field)) is) ∙ there)).1
