-- Rows of entries that belong together one by one: what is set in messages of one type, where under each number what is printed is alike.
use Rattle.std.proofs.Common.{◌≡◌, ◌&&◌, ◌++◌, ℕ, ◌==◌, Bool, true, false, cond, List, [], ◌∷◌, map, Option, Some, None, option_map, refl, sym, ap, ◌∙◌, subst, arith}
use Rattle.std.proofs.lemmas.Bool.{and_parts}
use Rattle.std.specs.List.{cons_option, filter_map, find, flat_map}
use Rattle.std.specs.Option.{option_and_then}
use Rattle.std.proofs.lemmas.List.Sorted.{IsNonDecreasingBy-from_sort}
use Rattle.reflect_wire.specs.Records.{Payload, varint}
use Rattle.reflect_tables.specs.Types.{ExtensionType, FieldType, PoolType}
use Rattle.reflect_contents.specs.Walked.{Holding, if_set, set_extension, set_extensions, set_field, set_fields}
use Rattle.reflect_decode.specs.Ordered.{AreNumbered}
use Rattle.reflect_entries.specs.Entries.{value_at}
use Rattle.reflect_message.specs.Bytes.{form_of, is_set}
use Rattle.reflect_message.specs.Known.{holds_floats, if_held, known_extension, known_field, numbered_field}
use Rattle.reflect_message.specs.Names.{Value}
use Rattle.print_parts.specs.Entries.{Entry, IsByNumber, extension, field, number_of, undeclared}
use Rattle.print_parts.specs.Pairwise.{Pairwise}
use Rattle.protobuf_model.specs.Bytes.{field_numbers}
use Rattle.message_view.proofs.Ordering as ordering
use Rattle.print_view.proofs.Alike.{AlikeValues, FieldAlike, Likeness}
use Rattle.print_view.proofs.Counting.{all_numbers, each, shown, under}
use Rattle.print_view.proofs.Entries.{passes}
use Rattle.print_view.proofs.OneOrder.{of_each, sorted_each}
use Rattle.print_view.proofs.Sorting.{as_found, of_number, rises}

pub data AlikeEntries (A : Likeness) (d e : Entry) : Type 0 where
  one_record : (r : ℕ × Payload) → d ≡ undeclared r → e ≡ undeclared r → AlikeEntries A d e
  one_field : (pool : PoolType) (f : FieldType) (v w : Value) → d ≡ field pool f v → e ≡ field pool f w → AlikeValues A v w → AlikeEntries A d e
  one_extension : (pool : PoolType) (f : FieldType) (v w : Value) → d ≡ extension pool f v → e ≡ extension pool f w → AlikeValues A v w → AlikeEntries A d e

abbrev pub AreAlike : Likeness → List Entry → List Entry → Type 0
AreAlike A ds es = Pairwise (AlikeEntries A) ds es

-- ---- rows
module _ (A : Likeness) where
  one_number : (d e : Entry) → AlikeEntries A d e → number_of d ≡ number_of e
  one_number d e (one_record r is also) = ap number_of is ∙ sym (ap number_of also)
  one_number d e (one_field pool f v w is also alike) = ap number_of is ∙ sym (ap number_of also)
  one_number d e (one_extension pool f v w is also alike) = ap number_of is ∙ sym (ap number_of also)

  pub records_alike : (us : List (ℕ × Payload)) → AreAlike A (map undeclared us) (map undeclared us)
  records_alike [] = refl
  records_alike (u ∷ us) = (undeclared u, map undeclared us, one_record u refl refl, records_alike us, refl)

  pub both_rows : (ds es us vs : List Entry) → AreAlike A ds es → AreAlike A us vs → AreAlike A (ds ++ us) (es ++ vs)
  both_rows [] es us vs none same = subst (λ l. AreAlike A us (l ++ vs)) (sym none) same
  both_rows (d ∷ ds) es us vs (e, rest, one, more, is) same = (e, rest ++ vs, one, both_rows ds rest us vs more same, ap (λ l. l ++ vs) is)

  -- what is sorted by number
  pub by_number : (found ds others es : List Entry) → AreAlike A found others → IsByNumber found ds → IsByNumber others es → AreAlike A ds es
  by_number found ds others es alike one two =
      sorted_each number_of (AlikeEntries A) one_number ds es
      (rises number_of ds (IsNonDecreasingBy-from_sort number_of ds one.ascend)) (rises number_of es (IsNonDecreasingBy-from_sort number_of es two.ascend)) of_one where
        at : ℕ → Entry
        at n = undeclared (n, varint 0)

        of_one : (n : ℕ) → AreAlike A (of_number number_of n ds) (of_number number_of n es)
        of_one n =
            subst (λ l. AreAlike A l (of_number number_of n es)) (sym (as_found number_of at (λ n. refl) found ds one.ascend one.same n))
            (subst (AreAlike A (of_number number_of n found)) (sym (as_found number_of at (λ n. refl) others es two.ascend two.same n))
            (of_each number_of (AlikeEntries A) one_number n found others alike))

-- ---- what is set of the fields and of the extensions, by a type and by what is held
abbrev pub sets : PoolType → ℕ → List (ℕ × Value) → List Entry
sets pool i es = map (λ (h : Holding). field pool h.0 h.1) (set_fields pool i es)

abbrev pub extended : PoolType → ℕ → Holding → Option Entry
extended pool i h = option_map (λ f. extension pool f h.1) (known_extension pool i h.0.number)

abbrev pub extends : PoolType → ℕ → List (ℕ × Value) → List Entry
extends pool i es = filter_map (extended pool i) (set_extensions pool i es)

module _ (A : Likeness) (pool : PoolType) (i : ℕ) where
  -- one number after another
  number_each : (g h : ℕ → List Entry) → ((n : ℕ) → AreAlike A (g n) (h n)) → (ns : List ℕ) → AreAlike A (flat_map g ns) (flat_map h ns)
  number_each g h alike [] = refl
  number_each g h alike (n ∷ ns) = both_rows A (g n) (h n) (flat_map g ns) (flat_map h ns) (alike n) (number_each g h alike ns)

  both_alike : (xs ys us bs : List Entry) → xs ≡ us → ys ≡ bs → AreAlike A us bs → AreAlike A xs ys
  both_alike xs ys us bs one two h = subst (λ l. AreAlike A l ys) (sym one) (subst (AreAlike A us) (sym two) h)

  -- what a value that may stand under a number gives
  abbrev rows : (Value → List Entry) → Option Value → List Entry
  rows row None = []
  rows row (Some v) = row v

  none_given : (row : Value → List Entry) → ((v : Value) → row v ≡ []) → (o p : Option Value) → AreAlike A (rows row o) (rows row p)
  none_given row none o p = both_alike (rows row o) (rows row p) [] [] (by o) (by p) refl where
    by : (o : Option Value) → rows row o ≡ []
    by None = refl
    by (Some v) = none v

  -- of a field: its entry, where it is set
  module _ (f : FieldType) (row : Value → List Entry) (make : Value → Entry) (set : (v : Value) → is_set pool f (form_of v) ≡ true → row v ≡ make v ∷ []) (unset : (v : Value) → is_set pool f (form_of v) ≡ false → row v ≡ [])
      (entry : (v w : Value) → AlikeValues A v w → AlikeEntries A (make v) (make w)) where
    row_given : (o p : Option Value) → FieldAlike A pool f o p → AreAlike A (rows row o) (rows row p)
    row_given None None h = refl
    row_given None (Some w) h = unset w (sym h.held)
    row_given (Some v) None h = both_alike (row v) [] [] [] (unset v h.held) refl refl
    row_given (Some v) (Some w) h = by (is_set pool f (form_of v)) refl where
      by : (b : Bool) → is_set pool f (form_of v) ≡ b → AreAlike A (row v) (row w)
      by true is = both_alike (row v) (row w) (make v ∷ []) (make w ∷ []) (set v is) (set w (sym h.held ∙ is)) (make w, [], entry v w (h.values v w refl refl), refl, refl)
      by false is = both_alike (row v) (row w) [] [] (unset v is) (unset w (sym h.held ∙ is)) refl

  -- all numbers, one after another
  module _ (put : ℕ → Value → List Entry) (es gs : List (ℕ × Value)) (up : AreNumbered es) (over : AreNumbered gs) (alike : (n : ℕ) → AreAlike A (rows (put n) (value_at es n)) (rows (put n) (value_at gs n))) where
    shown_is : (n : ℕ) (o : Option Value) → shown put o n ≡ rows (put n) o
    shown_is n None = refl
    shown_is n (Some v) = refl

    under_alike : (n : ℕ) → AreAlike A (under put es n) (under put gs n)
    under_alike n = both_alike (under put es n) (under put gs n) (rows (put n) (value_at es n)) (rows (put n) (value_at gs n)) (shown_is n (value_at es n)) (shown_is n (value_at gs n)) (alike n)

    all_given : AreAlike A (each put es) (each put gs)
    all_given =
        subst (λ l. AreAlike A l (each put gs)) (all_numbers put es (ordering.rises es up))
        (subst (AreAlike A (flat_map (under put es) field_numbers)) (all_numbers put gs (ordering.rises gs over))
        (number_each (under put es) (under put gs) under_alike field_numbers))

  -- ---- fields that are set
  abbrev set_row : Value → Option FieldType → List Entry
  set_row v o = map (λ (h : Holding). field pool h.0 h.1) (cons_option (option_and_then (if_set pool v) o) [])

  abbrev put_field : ℕ → Value → List Entry
  put_field n v = set_row v (numbered_field pool i n)

  sets_each : (es : List (ℕ × Value)) → each put_field es ≡ sets pool i es
  sets_each [] = refl
  sets_each (e ∷ es) = ap (λ l. put_field e.0 e.1 ++ l) (sets_each es) ∙ by (set_field pool i e) where
    by : (o : Option Holding) → map (λ (h : Holding). field pool h.0 h.1) (cons_option o []) ++ sets pool i es ≡ map (λ (h : Holding). field pool h.0 h.1) (cons_option o (set_fields pool i es))
    by None = refl
    by (Some h) = refl

  pub sets_alike : (es gs : List (ℕ × Value)) → AreNumbered es → AreNumbered gs → ((k : ℕ) (f : FieldType) → known_field pool i k ≡ Some f → FieldAlike A pool f (value_at es k) (value_at gs k))
      → ((k : ℕ) → known_field pool i k ≡ None → (value_at es k ≡ None) × (value_at gs k ≡ None)) → AreAlike A (sets pool i es) (sets pool i gs)
  sets_alike es gs up over alike unowned =
      subst (λ l. AreAlike A l (sets pool i gs)) (sets_each es) (subst (AreAlike A (each put_field es)) (sets_each gs) (all_given put_field es gs up over row)) where
        at : ℕ → Option FieldType → List (ℕ × Value) → List Entry
        at n o fs = rows (λ v. set_row v o) (value_at fs n)

        told : (n : ℕ) (f : FieldType) → numbered_field pool i n ≡ Some f → (b : Bool) → holds_floats pool f ≡ b → AreAlike A (at n (Some f) es) (at n (Some f) gs)
        told n f is true floats =
            let none : known_field pool i n ≡ None = ap (option_and_then (if_held pool)) is ∙ ap (λ b. cond b None (Some f)) floats in
            let empty = unowned n none in
            both_alike (at n (Some f) es) (at n (Some f) gs) [] [] (ap (rows (λ v. set_row v (Some f))) empty.0) (ap (rows (λ v. set_row v (Some f))) empty.1) refl
        told n f is false whole =
            row_given f (λ v. set_row v (Some f)) (field pool f)
            (λ v is. ap (λ b. map (λ (h : Holding). field pool h.0 h.1) (cons_option (cond b (Some (f, v)) None) [])) is)
            (λ v is. ap (λ b. map (λ (h : Holding). field pool h.0 h.1) (cons_option (cond b (Some (f, v)) None) [])) is)
            (λ v w h. one_field pool f v w refl refl h) (value_at es n) (value_at gs n)
            (alike n f (ap (option_and_then (if_held pool)) is ∙ ap (λ b. cond b None (Some f)) whole))

        row : (n : ℕ) → AreAlike A (rows (put_field n) (value_at es n)) (rows (put_field n) (value_at gs n))
        row n = by (numbered_field pool i n) refl where
          by : (o : Option FieldType) → numbered_field pool i n ≡ o → AreAlike A (at n o es) (at n o gs)
          by None is = none_given (λ v. set_row v None) (λ v. refl) (value_at es n) (value_at gs n)
          by (Some f) is = told n f is (holds_floats pool f) refl

  -- ---- extensions that are set
  abbrev is_of : ℕ → ExtensionType → Bool
  is_of n x = (x.extendee == i) && (x.field.number == n)

  abbrev extension_row : Value → Option ExtensionType → List Entry
  extension_row v o = filter_map (extended pool i) (cons_option (option_and_then (if_set pool v) (option_map (λ (x : ExtensionType). x.field) o)) [])

  abbrev put_extension : ℕ → Value → List Entry
  put_extension n v = extension_row v (find (is_of n) pool.extensions)

  extends_each : (es : List (ℕ × Value)) → each put_extension es ≡ extends pool i es
  extends_each [] = refl
  extends_each (e ∷ es) = ap (λ l. put_extension e.0 e.1 ++ l) (extends_each es) ∙ by (set_extension pool i e) where
    shown_one : (o : Option Entry) (rest : List Entry) → cons_option o [] ++ rest ≡ cons_option o rest
    shown_one None rest = refl
    shown_one (Some d) rest = refl

    by : (o : Option Holding) → filter_map (extended pool i) (cons_option o []) ++ extends pool i es ≡ filter_map (extended pool i) (cons_option o (set_extensions pool i es))
    by None = refl
    by (Some h) = shown_one (extended pool i h) (extends pool i es)

  pub extends_alike : (es gs : List (ℕ × Value)) → AreNumbered es → AreNumbered gs → ((k : ℕ) (f : FieldType) → known_extension pool i k ≡ Some f → FieldAlike A pool f (value_at es k) (value_at gs k)) → AreAlike A (extends pool i es) (extends pool i gs)
  extends_alike es gs up over alike =
      subst (λ l. AreAlike A l (extends pool i gs)) (extends_each es) (subst (AreAlike A (each put_extension es)) (extends_each gs) (all_given put_extension es gs up over row)) where
        at : ℕ → Option ExtensionType → List (ℕ × Value) → List Entry
        at n o fs = rows (λ v. extension_row v o) (value_at fs n)

        -- the entry that an extension of the number gives
        given : ExtensionType → Value → Bool → Option FieldType → List Entry
        given x v b o = cond b (cons_option (option_map (λ f. extension pool f v) o) []) []

        row_is : (x : ExtensionType) (v : Value) (b : Bool) → filter_map (extended pool i) (cons_option (cond b (Some (x.field, v)) None) []) ≡ given x v b (known_extension pool i x.field.number)
        row_is x v true = refl
        row_is x v false = refl

        told : (n : ℕ) (x : ExtensionType) → find (is_of n) pool.extensions ≡ Some x → (b : Bool) → holds_floats pool x.field ≡ b → AreAlike A (at n (Some x) es) (at n (Some x) gs)
        told n x is b floats = by b floats where
          number : x.field.number ≡ n
          number = let two = and_parts (x.extendee == i) (x.field.number == n) (passes (is_of n) pool.extensions x is) in grind (arith, two.1)

          known : known_extension pool i n ≡ cond (holds_floats pool x.field) None (Some x.field)
          known = ap (option_and_then (λ (x : ExtensionType). if_held pool x.field)) is

          shows : (c : Bool) (v : Value) → holds_floats pool x.field ≡ c → extension_row v (Some x) ≡ given x v (is_set pool x.field (form_of v)) (cond c None (Some x.field))
          shows c v e =
              row_is x v (is_set pool x.field (form_of v))
              ∙ ap (given x v (is_set pool x.field (form_of v))) (ap (known_extension pool i) number ∙ known ∙ ap (λ c. cond c None (Some x.field)) e)

          by : (c : Bool) → holds_floats pool x.field ≡ c → AreAlike A (at n (Some x) es) (at n (Some x) gs)
          by true e = none_given (λ v. extension_row v (Some x)) (λ v. shows true v e ∙ empty v (is_set pool x.field (form_of v))) (value_at es n) (value_at gs n) where
            empty : (v : Value) (b : Bool) → given x v b None ≡ []
            empty v true = refl
            empty v false = refl
          by false e =
              row_given x.field (λ v. extension_row v (Some x)) (extension pool x.field)
              (λ v set. shows false v e ∙ ap (λ b. given x v b (Some x.field)) set)
              (λ v unset. shows false v e ∙ ap (λ b. given x v b (Some x.field)) unset)
              (λ v w h. one_extension pool x.field v w refl refl h) (value_at es n) (value_at gs n)
              (alike n x.field (known ∙ ap (λ c. cond c None (Some x.field)) e))

        row : (n : ℕ) → AreAlike A (rows (put_extension n) (value_at es n)) (rows (put_extension n) (value_at gs n))
        row n = by (find (is_of n) pool.extensions) refl where
          by : (o : Option ExtensionType) → find (is_of n) pool.extensions ≡ o → AreAlike A (at n o es) (at n o gs)
          by None is = none_given (λ v. extension_row v None) (λ v. refl) (value_at es n) (value_at gs n)
          by (Some x) is = told n x is (holds_floats pool x.field) refl
