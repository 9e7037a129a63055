-- How often a list has a text, and what stands for something in a list of texts.
use Rattle.std.proofs.Common.{◌≡◌, ◌≤◌, ◌+◌, ◌∙◌, ℕ, zero, suc, Bool, true, false, cond, List, [], ◌∷◌, ◌++◌, Option, Some, None, is_some, bytes_eq, slice_get, map, sum_by, ap, sym, refl, arith}
use Rattle.std.proofs.lemmas.Option.{same_Some}
use Rattle.std.specs.List.{Contains}
use Rattle.std.specs.Cmp.Lexicographic.{bytes_decides}
use Rattle.std.proofs.lemmas.List.Sums.{sum_by-cons, sum_by-append}
use Rattle.descriptor_records.specs.Content.{Text, FileContent}
use Rattle.schema_view.specs.Files.{file_name}
use Rattle.schema_view.specs.Outlines.{Outline, outline_of, IsNamed, times, times_named}
use Rattle.schema_view.specs.Lawful.{outlines}
use Rattle.schema_view.proofs.Lists.{contains_here, contains_there, sum_map, sum_some}

abbrev pub one_if : Bool → ℕ
one_if b = cond b 1 0

pub bytes_same : (a b : Text) → bytes_eq a b ≡ true → a ≡ b
bytes_same a b e = (bytes_decides a b).0 e

pub bytes_refl : (a : Text) → bytes_eq a a ≡ true
bytes_refl a = (bytes_decides a a).1 refl

pub times-append : (n : Text) (xs ys : List Text) → times n (xs ++ ys) ≡ times n xs + times n ys
times-append n xs ys = sum_by-append (λ x. cond (bytes_eq x n) 1 0) xs ys

pub times-cons : (n x : Text) (xs : List Text) → times n (x ∷ xs) ≡ one_if (bytes_eq x n) + times n xs
times-cons n x xs = sum_by-cons (λ y. cond (bytes_eq y n) 1 0) x xs

-- where a sum is at least one, an element has weight
pub some_weight : {X : Type 0} (w : X → ℕ) (xs : List X) → 1 ≤ sum_by w xs
    → (x : X) × Contains xs x × (1 ≤ w x)
some_weight w [] le = absurd (omega (arith, le))
some_weight {X} w (a ∷ xs) le = by (w a) refl (sum_by-cons w a xs) (some_weight w xs) where
  by : (n : ℕ) → w a ≡ n → sum_by w (a ∷ xs) ≡ w a + sum_by w xs
      → (1 ≤ sum_by w xs → (x : X) × Contains xs x × (1 ≤ w x))
      → (x : X) × Contains (a ∷ xs) x × (1 ≤ w x)
  by zero is sum rest = let r = rest (omega (arith, le, is, sum)) in
      (r.0, contains_there a xs r.0 r.1, r.2)
  by (suc n) is sum rest = (a, contains_here a xs, omega (arith, is))

pub weighs : (b : Bool) → b ≡ true → 1 ≤ one_if b
weighs true e = omega arith
weighs false e = absurd (cc)

pub weighed : (b : Bool) → 1 ≤ one_if b → b ≡ true
weighed true le = refl
weighed false le = absurd (omega (arith, le))

pub named_often : (os : List Outline) (n : Text) → IsNamed os n → 1 ≤ times_named n os
named_often os n (o, h, is) =
    let some = sum_some (λ (p : Outline). cond (bytes_eq p.name n) 1 0) os o h in
    let one = weighs (bytes_eq o.name n) ((bytes_decides o.name n).1 is) in
    omega (arith, some, one)

pub often_named : (os : List Outline) (n : Text) → 1 ≤ times_named n os → IsNamed os n
often_named os n le =
    let some = some_weight (λ (p : Outline). cond (bytes_eq p.name n) 1 0) os le in
    (some.0, some.1, bytes_same some.0.name n (weighed (bytes_eq some.0.name n) some.2))

-- the files of outlines are counted by their names
pub times_outlined : (n : Text) (fs : List FileContent)
    → times_named n (outlines fs) ≡ times n (map file_name fs)
times_outlined n fs =
    sum_map (λ (o : Outline). cond (bytes_eq o.name n) 1 0) outline_of fs
    ∙ sym (sum_map (λ (x : Text). cond (bytes_eq x n) 1 0) file_name fs)

pub times_there : (n : Text) (xs : List Text) → Contains xs n → 1 ≤ times n xs
times_there n xs h =
    let some = sum_some (λ (x : Text). cond (bytes_eq x n) 1 0) xs n h in
    let one = weighs (bytes_eq n n) (bytes_refl n) in
    omega (arith, some, one)

-- a text that has a place there, and has it alone
place_there : (n : Text) (xs : List Text) (i : ℕ) → slice_get xs i ≡ Some n → 1 ≤ times n xs
place_there n [] i e = absurd (cc e)
place_there n (x ∷ xs) zero e =
    let is : x ≡ n = cc e in
    let one = weighs (bytes_eq x n) ((bytes_decides x n).1 is) in
    let sum = times-cons n x xs in
    omega (arith, one, sum)
place_there n (x ∷ xs) (suc i) e =
    let rest = place_there n xs i e in let sum = times-cons n x xs in omega (arith, rest, sum)

there_place : (n : Text) (xs : List Text) → 1 ≤ times n xs → (i : ℕ) × (slice_get xs i ≡ Some n)
there_place n [] le = absurd (omega (arith, le))
there_place n (x ∷ xs) le = by (bytes_eq x n) refl (times-cons n x xs) (there_place n xs) where
  by : (b : Bool) → bytes_eq x n ≡ b → times n (x ∷ xs) ≡ one_if (bytes_eq x n) + times n xs
      → (1 ≤ times n xs → (i : ℕ) × (slice_get xs i ≡ Some n))
      → (i : ℕ) × (slice_get (x ∷ xs) i ≡ Some n)
  by true is sum rest = (0, ap Some (bytes_same x n is))
  by false is sum rest =
      let none : one_if (bytes_eq x n) ≡ 0 = ap one_if is in
      let r = rest (omega (arith, le, none, sum)) in (suc r.0, r.1)

one_place : (n : Text) (xs : List Text)
    → ((i j : ℕ) → slice_get xs i ≡ Some n → slice_get xs j ≡ Some n → i ≡ j) → times n xs ≤ 1
one_place n [] one = omega arith
one_place n (x ∷ xs) one = by (bytes_eq x n) refl (times-cons n x xs)
    (one_place n xs (λ i j e f. let s : suc i ≡ suc j = one (suc i) (suc j) e f in omega (arith, s)))
  where
    none : x ≡ n → 1 ≤ times n xs → ⊥
    none is le =
        let r = there_place n xs le in
        let same : 0 ≡ suc r.0 = one 0 (suc r.0) (ap Some is) r.1 in
        omega (arith, same)

    none_more : (k : ℕ) → (1 ≤ k → ⊥) → k ≡ 0
    none_more zero other = refl
    none_more (suc k) other = absurd (other (omega arith))

    by : (b : Bool) → bytes_eq x n ≡ b → times n (x ∷ xs) ≡ one_if (bytes_eq x n) + times n xs
        → times n xs ≤ 1 → times n (x ∷ xs) ≤ 1
    by true is sum rest =
        let here : one_if (bytes_eq x n) ≡ 1 = ap one_if is in
        let no = none_more (times n xs) (none (bytes_same x n is)) in
        omega (arith, here, no, sum)
    by false is sum rest =
        let here : one_if (bytes_eq x n) ≡ 0 = ap one_if is in
        omega (arith, here, rest, sum)

abbrev pub IsPlaced : (Text → Option ℕ) → List Text → Type 0
IsPlaced indexes names = (t : Text) (i : ℕ) → (indexes t ≡ Some i → slice_get names i ≡ Some t)
    × (slice_get names i ≡ Some t → indexes t ≡ Some i)

-- a text stands for a place as often as it is there
pub placed_times : (indexes : Text → Option ℕ) (names : List Text) → IsPlaced indexes names
    → (n : Text) → one_if (is_some (indexes n)) ≡ times n names
placed_times indexes names placed n = by (indexes n) refl where
  le : times n names ≤ 1
  le = one_place n names (λ i j e f.
      same_Some i j (sym ((placed n i).1 e) ∙ (placed n j).1 f))

  by : (o : Option ℕ) → indexes n ≡ o → one_if (is_some (indexes n)) ≡ times n names
  by (Some i) is =
      let there = place_there n names i ((placed n i).0 is) in
      let here : one_if (is_some (indexes n)) ≡ 1 = ap (λ o. one_if (is_some o)) is in
      let most = le in
      omega (arith, here, there, most)
  by None is = here (times n names) refl where
    here : (k : ℕ) → times n names ≡ k → one_if (is_some (indexes n)) ≡ times n names
    here zero e = ap (λ o. one_if (is_some o)) is ∙ sym e
    here (suc k) e =
        let r = there_place n names (omega (arith, e)) in
        let no : None ≡ Some r.0 = sym is ∙ (placed n r.0).1 r.1 in
        absurd (cc no)
