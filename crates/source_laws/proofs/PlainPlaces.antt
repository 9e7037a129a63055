-- The locations of what is met in a source are plain where the paths of all of it are numbers of 32
-- bits, in the order in which they are met and in the order of their paths.
use Rattle.std.proofs.Common.{◌≡◌, ◌+◌, ◌-◌, ◌^◌, ◌<◌, ◌≤◌, ◌&&◌, ℕ, zero, suc, pos, Bool, true, false, cond, not, List, [], ◌∷◌, length, get_or, refl, sym, subst, arith}
use Rattle.std.specs.Prelude.{nat_lt, ◌==◌}
use Rattle.std.proofs.lemmas.Cmp.{int_cmp_total, lists_total}
use Rattle.std.proofs.lemmas.List.Sorted.{ranks_by}
use Rattle.std.proofs.lemmas.List.Sums.{sum_by-cons}
use Rattle.std.specs.Cmp.{IsStrictWeakOrder}
use Rattle.std.specs.List.{AllByRecursion, count_by, filter}
use Rattle.std.specs.List.Sorted.{IsStableBy, ties}
use Rattle.descriptor_records.specs.Content.{LocationContent}
use Rattle.memchr.specs.Find.{is_byte, places_from}
use Rattle.plain_records.specs.PlainRecords.{FitsInt32, IsInside, IsPlainLocation}
use Rattle.protox_lex.specs.Class.{Text}
use Rattle.protox_lex.specs.Lines.{column_at, feeds_of, line_at}
use Rattle.protox_lex.specs.declared.span.Span.{Span}
use Rattle.protox_locate.specs.Files.{AreLocations, file_events, is_before}
use Rattle.protox_locate.specs.Located.{Event, Path, closing, counted, empty, located, located_from, part, place_at, statement}
use Rattle.protox_tree.specs.FileTree.{File}
use Rattle.source_laws.proofs.Lists.{all_append}
use Rattle.source_laws.proofs.PlainParts.{small_fits}

-- ---- lines and columns

one_before : (offset i : ℕ) (later : List ℕ)
    → count_by (λ e. nat_lt e offset) later ≤ offset - (i + 1) → (b : Bool) → nat_lt i offset ≡ b
    → cond b 1 0 + count_by (λ e. nat_lt e offset) later ≤ offset - i
one_before offset i later h true is =
    let lt : i < offset = grind (arith, is) in omega (arith, lt, h)
one_before offset i later h false is = omega (arith, h)

one_more : (offset i : ℕ) (later : List ℕ)
    → count_by (λ e. nat_lt e offset) later ≤ offset - (i + 1) → (b : Bool)
    → count_by (λ e. nat_lt e offset) (cond b (i ∷ later) later) ≤ offset - i
one_more offset i later h true =
    rw (sum_by-cons (λ e. cond (nat_lt e offset) 1 0) i later)
    (one_before offset i later h (nat_lt i offset) refl)
one_more offset i later h false = omega (arith, h)

-- of the places from one on, no more lie before an offset than it is away
few_before : (test : ℕ → Bool) (z : Text) (offset i n : ℕ)
    → count_by (λ e. nat_lt e offset) (places_from test z i n) ≤ offset - i
unfolding places_from
few_before test z offset i zero = omega arith
few_before test z offset i (suc n) =
    one_more offset i (places_from test z (i + 1) n) (few_before test z offset (i + 1) n)
    (test (get_or z i 0))

pub line_before : (z : Text) (offset : ℕ) → line_at (feeds_of z) offset ≤ offset
line_before z offset =
    omega (arith, few_before (is_byte 10) z offset 0 (length z - 0))

pub counted_small : (n : ℕ) → counted n < 2 ^ 31
counted_small n = omega arith

span_fits : (z : Text) (span : Span) → AllByRecursion FitsInt32 (place_at (feeds_of z) span)
span_fits z span = (
  line (counted span.start) (counted_small span.start),
  (
    column (counted span.start)
        (counted_small span.start),
    by (line_at (feeds_of z) (counted span.start) == line_at (feeds_of z) (counted span.end)),
  ),
) where
  line : (n : ℕ) → n < 2 ^ 31 → FitsInt32 (pos (line_at (feeds_of z) n))
  line n lt = small_fits (line_at (feeds_of z) n) (omega (arith, lt, line_before z n))

  column : (n : ℕ) → n < 2 ^ 31 → FitsInt32 (pos (column_at (feeds_of z) n))
  column n lt = small_fits (column_at (feeds_of z) n) (omega (arith, lt))

  by : (b : Bool) → AllByRecursion FitsInt32
      (cond b (pos (column_at (feeds_of z) (counted span.end)) ∷ [])
      (pos (line_at (feeds_of z) (counted span.end)) ∷ pos (column_at (feeds_of z) (counted span.end)) ∷ []))
  by true = (column (counted span.end) (counted_small span.end), tt)
  by false = (
    line (counted span.end) (counted_small span.end),
    (
      column (counted span.end)
          (counted_small span.end),
      tt,
    ),
  )

-- ---- paths

abbrev pub Fits : Path → Type 0
Fits p = AllByRecursion FitsInt32 p

abbrev pub IsFitting : Event → Type 0
IsFitting (part path tail span) = Fits path × Fits tail
IsFitting (statement path tail span end) = Fits path × Fits tail
IsFitting (closing braces) = Unit {0}
IsFitting (empty span) = Unit {0}

abbrev pub AreFitting : List Event → Type 0
AreFitting es = AllByRecursion IsFitting es

module _ (z : Text) (levels : ℕ) (some : 0 < levels) where
  located_plain : (from : ℕ) (may_trail : Bool) (es : List Event) → AreFitting es
      → AllByRecursion (IsInside IsPlainLocation levels)
      (located_from z (feeds_of z) from may_trail es)
  located_plain from may_trail [] h = tt
  located_plain from may_trail (part path tail span ∷ es) h = (
    (some, (all_append FitsInt32 path tail h.0.0 h.0.1, span_fits z span)),
    located_plain from may_trail es h.1,
  )
  located_plain from may_trail (statement path tail span end ∷ es) h = (
    (some, (all_append FitsInt32 path tail h.0.0 h.0.1, span_fits z span)),
    located_plain end true es h.1,
  )
  located_plain from may_trail (closing braces ∷ es) h = located_plain braces.end false es h.1
  located_plain from may_trail (empty span ∷ es) h = located_plain span.end true es h.1

-- ---- the order of paths

module _ {X : Type 0} (P : X → Type 0) (less : X → X → Bool) (order : IsStrictWeakOrder less) where
  all_filtered : (p : X → Bool) (xs : List X) → AllByRecursion P xs
      → AllByRecursion P (filter p xs)
  all_filtered p [] h = tt
  all_filtered p (x ∷ xs) h = by (p x) (all_filtered p xs h.1) where
    by : (b : Bool) → AllByRecursion P (filter p xs)
        → AllByRecursion P (cond b (x ∷ filter p xs) (filter p xs))
    by true rest = (h.0, rest)
    by false rest = rest

  irreflexive : (x : X) → less x x ≡ false
  irreflexive x = by (less x x) refl where
    by : (b : Bool) → less x x ≡ b → less x x ≡ false
    by true e = order.one_way x x e
    by false e = e

  with_first : (x : X) (xs : List X)
      → filter (ties less x) (x ∷ xs) ≡ x ∷ filter (ties less x) xs
  with_first x xs = λ i.
      cond (not (irreflexive x i) && not (irreflexive x i)) (x ∷ filter (ties less x) xs) (filter (ties less x) xs)

  -- P holds of each, where it holds of those that tie with each
  from_ties : (xs : List X) → ((x : X) → AllByRecursion P (filter (ties less x) xs))
      → AllByRecursion P xs
  from_ties [] h = tt
  from_ties (x ∷ xs) h = (
    (subst (AllByRecursion P) (with_first x xs) (h x)).0,
    from_ties xs (λ y. rest (ties less y x) (filter (ties less y) xs) (h y)),
  ) where
    rest : (b : Bool) (ys : List X) → AllByRecursion P (cond b (x ∷ ys) ys) → AllByRecursion P ys
    rest true ys h = h.1
    rest false ys h = h

  pub all_sorted : (xs ys : List X) → IsStableBy less xs ys → AllByRecursion P xs
      → AllByRecursion P ys
  all_sorted xs ys stable h =
      from_ties ys (λ x. subst (AllByRecursion P) (sym (stable x)) (all_filtered (ties less x) xs h))

pub locations_plain : (z : Text) (levels : ℕ) → 0 < levels → (tree : File)
    (ls : List LocationContent) → AreFitting (file_events tree) → AreLocations z (feeds_of z) tree ls
    → AllByRecursion (IsInside IsPlainLocation levels) ls
locations_plain z levels some tree ls fits are =
    all_sorted (IsInside IsPlainLocation levels) is_before
    (ranks_by (lists_total int_cmp_total) (λ (l : LocationContent). l.path))
    (located z (feeds_of z) (file_events tree)) ls are.same
    (located_plain z levels some 0 false (file_events tree) fits)
