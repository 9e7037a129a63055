-- What searches of a gap find.
use Rattle.std.proofs.Common.{◌≡◌, ℕ, zero, suc, ◌+◌, ◌<◌, ◌≤◌, Bool, true, false, [], ◌∷◌, drop, length, get_or, ap, sym, ◌∙◌, arith, refl}
use Rattle.std.specs.Prelude.{◌==◌, slice_index}
use Rattle.std.specs.List.{position_or_len}
use Rattle.std.proofs.lemmas.Bool.{eqb-true, and_parts}
use Rattle.std.proofs.lemmas.List.{get_or-drop}
use Rattle.std.proofs.lemmas.List.Sums.{position_or_len_is}
use Rattle.memchr.specs.Find.{NoneBefore, Nowhere, OccursAt, Passes, is_byte}
use Rattle.protox_lex.specs.Class.{Text}
use Rattle.protox_locate.specs.Gap.{before_close, begins_with, is_feed}

not_true : (b : Bool) → ¬ (b ≡ true) → b ≡ false
not_true true h = absurd (h refl)
not_true false h = refl

-- ---- a byte

byte_at : (test : ℕ → Bool) (xs : Text) (k : ℕ) → NoneBefore (Passes test xs) 0 (length xs) k × Passes test xs k → position_or_len test xs ≡ k
byte_at test xs k h =
    position_or_len_is test xs k 0 (omega (arith, h.0.high)) (λ j lt. not_true (test (get_or xs j 0)) (h.0.before j (omega arith) lt)) (λ _. h.1)

no_byte : (test : ℕ → Bool) (xs : Text) → Nowhere (Passes test xs) 0 (length xs) → position_or_len test xs ≡ length xs
no_byte test xs h =
    position_or_len_is test xs (length xs) 0 (omega arith) (λ j lt. not_true (test (get_or xs j 0)) (h j (omega arith) lt)) (λ lt. absurd (omega (arith, lt)))

-- the same in a list that is another one, of a byte that is a line feed

pub feed_at : (wanted : ℕ) (xs ys : Text) (k : ℕ) → wanted ≡ 10 → xs ≡ ys → NoneBefore (Passes (is_byte wanted) xs) 0 (length xs) k × Passes (is_byte wanted) xs k → k ≡ position_or_len is_feed ys
feed_at wanted xs ys k feed same h =
    sym (byte_at (is_byte wanted) xs k h) ∙ ap (λ w. position_or_len (is_byte w) xs) feed ∙ ap (position_or_len is_feed) same

pub no_feed : (wanted : ℕ) (xs ys : Text) → wanted ≡ 10 → xs ≡ ys → Nowhere (Passes (is_byte wanted) xs) 0 (length xs) → length ys ≡ position_or_len is_feed ys
no_feed wanted xs ys feed same h =
    ap length (sym same) ∙ sym (no_byte (is_byte wanted) xs h) ∙ ap (λ w. position_or_len (is_byte w) xs) feed ∙ ap (position_or_len is_feed) same

-- ---- the end of a block comment

-- the first place at which `*/` stands, or the length
close_is : (z : Text) (k : ℕ) → k ≤ length z → ((j : ℕ) → j < k → begins_with 42 47 (drop j z) ≡ false) → (k < length z → begins_with 42 47 (drop k z) ≡ true) → before_close z ≡ k
close_is [] k le before here = omega (arith, le)
close_is (b ∷ z) zero le before here = rw (here (omega arith)) refl
close_is (b ∷ z) (suc k) le before here =
    rw (before 0 (omega arith)) (ap suc (close_is z k (omega (arith, le)) (λ j lt. before (suc j) (omega (arith, lt))) (λ lt. here (omega (arith, lt)))))

abbrev pub close : Text
close = 42 ∷ 47 ∷ []

byte_of : (z : Text) (j i n : ℕ) → (slice_index (drop j z) i == n) ≡ true → get_or z (j + i) 0 ≡ n
byte_of z j i n e = sym (get_or-drop j z i 0) ∙ eqb-true _ n e

-- a place whose byte is not 0 is one of the text
within : (z : Text) (k n : ℕ) → get_or z k 0 ≡ suc n → k < length z
within [] k n e = absurd (cc)
within (b ∷ z) zero n e = omega arith
within (b ∷ z) (suc k) n e = let r = within z k n e in omega (arith, r)

occurs : (z : Text) (j : ℕ) → begins_with 42 47 (drop j z) ≡ true → OccursAt z close j
occurs z j e =
    let parts = and_parts (slice_index (drop j z) 0 == 42) (slice_index (drop j z) 1 == 47) e in
    let a : get_or z (j + 0) 0 ≡ 42 = byte_of z j 0 42 parts.0 in
    let b : get_or z (j + 1) 0 ≡ 47 = byte_of z j 1 47 parts.1 in
    let lt : j + 1 < length z = within z (j + 1) 46 b in
    record { fits = omega (arith, lt); reads = each a b }
  where
    each : get_or z (j + 0) 0 ≡ 42 → get_or z (j + 1) 0 ≡ 47 → (i : ℕ) → i < 2 → slice_index z (j + i) ≡ slice_index close i
    each a b zero lt = a
    each a b (suc zero) lt = b
    each a b (suc (suc i)) lt = absurd (omega (arith, lt))

begins : (z : Text) (j : ℕ) → OccursAt z close j → begins_with 42 47 (drop j z) ≡ true
begins z j h =
    let a : slice_index (drop j z) 0 ≡ 42 = get_or-drop j z 0 0 ∙ h.reads 0 (omega arith) in
    let b : slice_index (drop j z) 1 ≡ 47 = get_or-drop j z 1 0 ∙ h.reads 1 (omega arith) in
    rw (a, b) refl

close_at : (z : Text) (k : ℕ) → NoneBefore (OccursAt z close) 0 (length z + 1) k × OccursAt z close k → before_close z ≡ k
close_at z k h =
    close_is z k (omega (arith, h.1.fits)) (λ j lt. not_true _ (λ e. h.0.before j (omega arith) lt (occurs z j e))) (λ _. begins z k h.1)

no_close : (z : Text) → Nowhere (OccursAt z close) 0 (length z + 1) → before_close z ≡ length z
no_close z h =
    close_is z (length z) (omega arith) (λ j lt. not_true _ (λ e. h j (omega arith) (omega (arith, lt)) (occurs z j e))) (λ lt. absurd (omega (arith, lt)))

pub close_in : (xs ys : Text) (k : ℕ) → xs ≡ ys → NoneBefore (OccursAt xs close) 0 (length xs + 1) k × OccursAt xs close k → k ≡ before_close ys
close_in xs ys k same h = sym (close_at xs k h) ∙ ap before_close same

pub none_in : (xs ys : Text) → xs ≡ ys → Nowhere (OccursAt xs close) 0 (length xs + 1) → length ys ≡ before_close ys
none_in xs ys same h = ap length (sym same) ∙ sym (no_close xs h) ∙ ap before_close same
