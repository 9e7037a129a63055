-- Numbers in groups of seven bits: one spelling at a front, and the steps of reading.
use Rattle.std.proofs.Common.{◌≡◌, ℕ, ◌<◌, ◌≤◌, ◌+◌, ◌-◌, ◌*◌, ◌^◌, List, [], ◌∷◌, ◌++◌, refl, inl, inr, arith}
use Rattle.reflect_wire.specs.Reads.{Fronts, NoFront}
use Rattle.reflect_wire.specs.Varint.{SpellsVarint, IsVarintWithin}

-- no spelling begins another, and each has one number; so the rest is one too
pub one_form : (a b x y : List ℕ) (m n : ℕ) → SpellsVarint a m → SpellsVarint b n → a ++ x ≡ b ++ y → (a ≡ b) × (m ≡ n) × (x ≡ y)
one_form [] b x y m n h k e = absurd h
one_form (c ∷ cs) [] x y m n h k e = absurd k
one_form (c ∷ cs) (d ∷ ds) x y m n (inl h) (inl k) e =
    let same : c ≡ d = cc in
    let front : c ∷ cs ≡ d ∷ ds = cc (h.1, k.1) in
    (front, cc (h.2, k.2), cc (h.1, k.1))
one_form (c ∷ cs) (d ∷ ds) x y m n (inl h) (inr k) e = let same : c ≡ d = cc in absurd (omega (arith, h.0, k.0))
one_form (c ∷ cs) (d ∷ ds) x y m n (inr h) (inl k) e = let same : c ≡ d = cc in absurd (omega (arith, h.0, k.0))
one_form (c ∷ cs) (d ∷ ds) x y m n (inr h) (inr k) e =
    let same : c ≡ d = cc in
    let tails : cs ++ x ≡ ds ++ y = cc in
    let inner = one_form cs ds x y h.1.0 k.1.0 h.1.2 k.1.2 tails in
    let front : c ∷ cs ≡ d ∷ ds = cc (inner.0, same) in
    (front, omega (arith, inner.1, h.1.1, k.1.1), inner.2)

pub last_byte : (left b : ℕ) (bytes rest : List ℕ) → bytes ≡ b ∷ rest → b < 128 → Fronts (IsVarintWithin (left + 1)) bytes b rest
last_byte left b bytes rest e lt = (b ∷ [], record { short = omega arith; fits = omega arith; spelled = inl (lt, refl, refl) }, e)

pub none_left : (b : ℕ) (bytes rest : List ℕ) → bytes ≡ b ∷ rest → 128 ≤ b → NoFront (IsVarintWithin 1) bytes
none_left b bytes rest e ge [] more n h f = absurd h.spelled
none_left b bytes rest e ge (c ∷ []) more n h f =
    let same : c ≡ b = cc in elim h.spelled [ inl k ↦ omega (arith, k.0) | inr k ↦ k.1.2 ]
none_left b bytes rest e ge (c ∷ d ∷ cs) more n h f = let s = h.short in omega arith

pub inner_refused : (left outer b : ℕ) (bytes rest : List ℕ) → outer ≡ left + 1 → bytes ≡ b ∷ rest → 128 ≤ b → NoFront (IsVarintWithin left) rest → NoFront (IsVarintWithin outer) bytes
inner_refused left outer b bytes rest next e ge none [] more n h f = absurd h.spelled
inner_refused left outer b bytes rest next e ge none (c ∷ cs) more n h f =
    let same : c ≡ b = cc in
    let tails : rest ≡ cs ++ more = cc in
    elim h.spelled [
      | inl k ↦ omega (arith, k.0)
      | inr k ↦ none cs more k.1.0 (record { short = let s = h.short in omega arith; fits = let s = h.fits in omega (arith, k.0, k.1.1); spelled = k.1.2 }) tails
    ]

pub too_large : (left outer b high : ℕ) (bytes rest behind : List ℕ) → outer ≡ left + 1 → bytes ≡ b ∷ rest → 128 ≤ b → Fronts (IsVarintWithin left) rest high behind → 2 ^ 57 ≤ high → NoFront (IsVarintWithin outer) bytes
too_large left outer b high bytes rest behind next e ge found large [] more n h f = absurd h.spelled
too_large left outer b high bytes rest behind next e ge found large (c ∷ cs) more n h f =
    let same : c ≡ b = cc in
    let tails : found.0 ++ behind ≡ cs ++ more = cc (found.2) in
    elim h.spelled [
      | inl k ↦ omega (arith, k.0)
      | inr k ↦ let one = one_form found.0 cs behind more high k.1.0 found.1.spelled k.1.2 tails in let s = h.fits in omega (arith, k.0, k.1.1, one.1)
    ]

pub joined : (left outer b high : ℕ) (bytes rest behind : List ℕ) → outer ≡ left + 1 → bytes ≡ b ∷ rest → 128 ≤ b → b < 256 → Fronts (IsVarintWithin left) rest high behind → high < 2 ^ 57 → Fronts (IsVarintWithin outer) bytes (high * 128 + (b - 128)) behind
joined left outer b high bytes rest behind next e ge lt found small =
    (b ∷ found.0, record { short = let s = found.1.short in omega arith; fits = omega arith; spelled = inr (ge, (high, omega arith, found.1.spelled)) }, cc (found.2))

-- what was read at the front is what any spelling at the front says
pub varint_then : (bytes front behind more : List ℕ) (n m most : ℕ) → Fronts (IsVarintWithin most) bytes n behind → IsVarintWithin most front m → bytes ≡ front ++ more → (n ≡ m) × (behind ≡ more)
varint_then bytes front behind more n m most found h e =
    let same : found.0 ++ behind ≡ front ++ more = cc (found.2) in
    let one = one_form found.0 front behind more n m found.1.spelled h.spelled same in
    (one.1, one.2)
