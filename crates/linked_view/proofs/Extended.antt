-- No two extensions of a pool's records extend one message under one number, where the pool's
-- entries are those of its records.
use Rattle.std.proofs.Common.{◌≡◌, ◌≤◌, ◌+◌, ◌∙◌, ℕ, zero, suc, ℤ, Bool, true, false, cond, ◌&&◌, List, [], ◌∷◌, Option, Some, None, map, slice_get, sum_by, unwrap_or, ap, sym, subst, refl, arith}
use Rattle.std.proofs.lemmas.Bool.{and_parts}
use Rattle.std.specs.List.{AllZip, flat_map}
use Rattle.std.proofs.lemmas.Bool.Decides.{Decides-int_eq}
use Rattle.std.proofs.lemmas.List.Sums.{sum_by-cons, sum_by-append}
use Rattle.descriptor_records.specs.Content.{Text, FileContent, file_view}
use Rattle.reflect_fields.specs.Fields.{natural}
use Rattle.reflect_pool.specs.Linked.{key_of}
use Rattle.reflect_tables.specs.Names.{FullName, names_of, messages}
use Rattle.reflect_tables.specs.Types.{PoolType, ExtensionType}
use Rattle.reflect_index.proofs.Among.{get_map}
use Rattle.schema_view.specs.Declarations.{declarations, Body, of_extension}
use Rattle.schema_view.specs.Lawful.{Key, is_dotted, has_key, times_by}
use Rattle.schema_view.specs.Rules.{is_number}
use Rattle.schema_view.proofs.Lists.{sum_same, sum_some}
use Rattle.linked_view.specs.Extended.{WrittenKey, keys_of, written_keys, IsIndexed, HasWritten, TellsExtensions}
use Rattle.linked_view.proofs.Counts.{one_if, bytes_same, some_weight, weighs, weighed}
use Rattle.linked_view.proofs.Places.{get_contains, contains_get}

-- what has its part on the right has it at its place
pub zip_at : {X Y : Type 0} (R : X → Y → Type 0) (xs : List X) (ys : List Y) (i : ℕ) (x : X)
    → AllZip R xs ys → slice_get xs i ≡ Some x → (y : Y) × (slice_get ys i ≡ Some y) × R x y
zip_at R [] ys i x h e = absurd (cc e)
zip_at R (z ∷ xs) [] i x h e = absurd h
zip_at R (z ∷ xs) (y ∷ ys) zero x h e =
    let same : z ≡ x = cc e in (y, refl, subst (λ a. R a y) same h.0)
zip_at R (z ∷ xs) (y ∷ ys) (suc i) x h e = zip_at R xs ys i x h.1 e

-- what passes a test at one place alone passes it once
once : {X : Type 0} (test : X → Bool) (xs : List X)
    → ((i j : ℕ) (x y : X) → slice_get xs i ≡ Some x → slice_get xs j ≡ Some y → test x ≡ true
    → test y ≡ true → i ≡ j)
    → sum_by (λ x. one_if (test x)) xs ≤ 1
once test [] one = omega arith
once {X} test (x ∷ xs) one = by (test x) refl (sum_by-cons (λ y. one_if (test y)) x xs)
    (once test xs (λ i j y z e f g h.
    let s : suc i ≡ suc j = one (suc i) (suc j) y z e f g h in omega (arith, s)))
  where
    none_more : (k : ℕ) → (1 ≤ k → ⊥) → k ≡ 0
    none_more zero other = refl
    none_more (suc k) other = absurd (other (omega arith))

    none : test x ≡ true → 1 ≤ sum_by (λ y. one_if (test y)) xs → ⊥
    none is le =
        let some = some_weight (λ y. one_if (test y)) xs le in
        let at = contains_get xs some.0 some.1 in
        let same : 0 ≡ suc at.0 =
        one 0 (suc at.0) x some.0 refl at.1 is (weighed (test some.0) some.2) in
        omega (arith, same)

    by : (b : Bool) → test x ≡ b
        → sum_by (λ y. one_if (test y)) (x ∷ xs)
        ≡ one_if (test x) + sum_by (λ y. one_if (test y)) xs
        → sum_by (λ y. one_if (test y)) xs ≤ 1 → sum_by (λ y. one_if (test y)) (x ∷ xs) ≤ 1
    by true is sum rest =
        let here : one_if (test x) ≡ 1 = ap one_if is in
        let no = none_more (sum_by (λ y. one_if (test y)) xs) (none is) in
        omega (arith, here, no, sum)
    by false is sum rest =
        let here : one_if (test x) ≡ 0 = ap one_if is in omega (arith, here, rest, sum)

-- and back: what passes a test once passes it at one place alone
twice : {X : Type 0} (test : X → Bool) (z : X) (xs : List X) (j : ℕ) (y : X)
    → sum_by (λ q. one_if (test q)) (z ∷ xs) ≤ 1 → test z ≡ true → slice_get xs j ≡ Some y
    → test y ≡ true → ⊥
twice test z xs j y le first e second =
    let here = weighs (test z) first in
    let there = weighs (test y) second in
    let some = sum_some (λ q. one_if (test q)) xs y (get_contains xs j y e) in
    let sum = sum_by-cons (λ q. one_if (test q)) z xs in
    omega (arith, le, here, there, some, sum)

pub one_place : {X : Type 0} (test : X → Bool) (xs : List X) (i j : ℕ) (x y : X)
    → sum_by (λ q. one_if (test q)) xs ≤ 1 → slice_get xs i ≡ Some x → slice_get xs j ≡ Some y
    → test x ≡ true → test y ≡ true → i ≡ j
one_place test [] i j x y le e f g h = absurd (cc e)
one_place test (z ∷ xs) zero zero x y le e f g h = refl
one_place test (z ∷ xs) zero (suc j) x y le e f g h =
    let same : z ≡ x = cc e in absurd (twice test z xs j y le (ap test same ∙ g) f h)
one_place test (z ∷ xs) (suc i) zero x y le e f g h =
    let same : z ≡ y = cc f in absurd (twice test z xs i x le (ap test same ∙ h) e g)
one_place test (z ∷ xs) (suc i) (suc j) x y le e f g h =
    let sum = sum_by-cons (λ q. one_if (test q)) z xs in
    ap suc (one_place test xs i j x y (omega (arith, le, sum)) e f g h)

pub dotted_is : (full : Text) (o : Option Text) → is_dotted full o ≡ true → o ≡ Some (46 ∷ full)
dotted_is full None e = absurd (cc e)
dotted_is full (Some t) e = ap Some (bytes_same t (46 ∷ full) e)

pub number_is : (n : ℤ) (o : Option ℤ) → is_number n o ≡ true → o ≡ Some n
number_is n None e = absurd (cc e)
number_is n (Some m) e = ap Some ((Decides-int_eq m n).0 e)

-- the key is written
abbrev pub writes_key : Key → WrittenKey → Bool
writes_key k w = is_dotted k.0 w.0 && is_number k.1 w.1

pub sum_flat : {X Y : Type 0} (w : Y → ℕ) (g : X → List Y) (xs : List X)
    → sum_by w (flat_map g xs) ≡ sum_by (λ x. sum_by w (g x)) xs
sum_flat w g [] = refl
sum_flat w g (x ∷ xs) =
    sum_by-append w (g x) (flat_map g xs) ∙ ap (λ n. sum_by w (g x) + n) (sum_flat w g xs)
    ∙ sym (sum_by-cons (λ y. sum_by w (g y)) x xs)

module _ (k : Key) where
  abbrev pub weight : WrittenKey → ℕ
  weight w = one_if (writes_key k w)

  body_weight : (n : Text) (b : Body) → sum_by weight (keys_of (record { name = n; body = b }))
      ≡ cond (has_key k b) 1 0
  body_weight n (of_extension x) =
      let sum = sum_by-cons weight (x.extendee, x.number) [] in omega (arith, sum)
  body_weight n b = refl

  -- a key is written as often as declarations have it
  pub times_written : (fs : List FileContent) → times_by (has_key k) fs
      ≡ sum_by weight (written_keys fs)
  times_written fs =
      sym (sum_flat weight (λ f. flat_map keys_of (declarations f)) fs
      ∙ sum_same (λ f. sum_by weight (flat_map keys_of (declarations f)))
      (λ f. sum_by (λ d. cond (has_key k d.body) 1 0) (declarations f))
      (λ f. sum_flat weight keys_of (declarations f)
      ∙ sum_same (λ d. sum_by weight (keys_of d)) (λ d. cond (has_key k d.body) 1 0)
      (λ d. body_weight d.name d.body) (declarations f)) fs)

  -- an entry with this key
  record IsAt (names : List FullName) (x : ExtensionType) : Type 0 where
    file : ℕ
    message : slice_get names x.extendee ≡ Some (k.0, file)
    number : x.field.number ≡ unwrap_or (natural (Some k.1)) 0

  is_at : (names : List FullName) (w : WrittenKey) (x : ExtensionType) → writes_key k w ≡ true
      → HasWritten names w x → IsAt names x
  is_at names w x e h =
      let parts = and_parts (is_dotted k.0 w.0) (is_number k.1 w.1) e in
      let same : h.full ≡ k.0 = cc (sym h.extendee ∙ dotted_is k.0 w.0 parts.0) in
      record {
        file = h.file;
        message = h.message ∙ ap (λ (t : Text). Some (t, h.file)) same;
        number = h.number ∙ ap (λ o. unwrap_or (natural o) 0) (number_is k.1 w.1 parts.1);
      }

  one_index : (i j f g : ℕ) → ◌≡◌ {A = Option (ℕ × ℕ)} (Some (i, f)) (Some (j, g)) → i ≡ j
  one_index i j f g e =
      let pair : ◌≡◌ {A = ℕ × ℕ} (i, f) (j, g) = cc e in ap (λ (p : ℕ × ℕ). p.0) pair

  pub key_once : (p : PoolType) → IsIndexed p → TellsExtensions p
      → times_by (has_key k) (map file_view p.records) ≤ 1
  key_once p index tells =
      let names = names_of p messages in
      let ws = written_keys (map file_view p.records) in
      let le : sum_by weight ws ≤ 1 = once (writes_key k) ws (λ i j v w e f g h.
      let x = zip_at (HasWritten names) ws p.extensions i v tells e in
      let y = zip_at (HasWritten names) ws p.extensions j w tells f in
      let a = is_at names v x.0 g x.2 in
      let b = is_at names w y.0 h y.2 in
      let found = index.named.found messages in
      let message : x.0.extendee ≡ y.0.extendee = one_index _ _ _ _
      (sym ((found k.0 x.0.extendee a.file).1 a.message)
      ∙ (found k.0 y.0.extendee b.file).1 b.message) in
      let number : x.0.field.number ≡ y.0.field.number = a.number ∙ sym b.number in
      let key : key_of y.0 ≡ key_of x.0 =
      ap (λ m. (m, y.0.field.number)) (sym message)
      ∙ ap (λ n. (x.0.extendee, n)) (sym number) in
      index.numbers (key_of x.0) i j (get_map key_of p.extensions i x.0 x.1)
      (get_map key_of p.extensions j y.0 y.1 ∙ ap Some key)) in
      subst (λ n. n ≤ 1) (sym (times_written (map file_view p.records))) le
