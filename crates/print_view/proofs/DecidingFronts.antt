-- Whether a front of bytes spells a number, a key, a length and its bytes, or a fixed number.
use Rattle.std.proofs.Common.{◌≡◌, ◌⊎◌, inl, inr, ℕ, ◌<◌, ◌≤◌, ◌+◌, ◌-◌, ◌*◌, ◌/◌, ◌^◌, List, [], ◌∷◌, ◌++◌, length, take, drop, refl, sym, ap, ◌∙◌, subst, append_assoc, length-append, length-take-le, take-append-drop, arith}
use Rattle.std.proofs.lemmas.Bool.{cases_lt, cases_eq}
use Rattle.reflect_wire.specs.declared.wire_key.WireKey.{WireKey}
use Rattle.reflect_wire.specs.Varint.{SpellsVarint, IsVarintWithin, IsVarint}
use Rattle.reflect_wire.specs.Key.{IsKey, IsDelimited, key_code}
use Rattle.reflect_wire.proofs.Varints.{one_form}
use Rattle.reflect_wire.proofs.Unique.{one_cut}
use Rattle.print_view.proofs.Deciding.{Decided, as_or_not, less_or_not}

-- a front of the bytes has it, before the rest
abbrev pub Front : (List ℕ → Type 0) → List ℕ → Type 0
Front R bytes = (front rest : List ℕ) × R front × (bytes ≡ front ++ rest)

-- the lowest group of seven bits tells the number of the others
high_is : (b n high : ℕ) → 128 ≤ b → n + 128 ≡ b + 128 * high → high ≡ (n + 128 - b) / 128
high_is b n high ge e = omega (arith, ge, e)

number_or_not : (bytes : List ℕ) (n : ℕ) → Decided (Front (λ f. SpellsVarint f n) bytes)
number_or_not [] n = inr none where
  none : Front (λ f. SpellsVarint f n) [] → ⊥
  none ([], rest, s, e) = s
  none (c ∷ cs, rest, s, e) = cc
number_or_not (b ∷ bs) n = by (cases_lt b 128) (cases_eq n b) (cases_eq (n + 128) (b + 128 * ((n + 128 - b) / 128))) (number_or_not bs ((n + 128 - b) / 128)) where
  last : b < 128 → (n ≡ b → ⊥) → Front (λ f. SpellsVarint f n) (b ∷ bs) → ⊥
  last lt other ([], rest, s, e) = s
  last lt other (c ∷ cs, rest, inl s, e) = let same : c ≡ b = cc in other (s.2 ∙ same)
  last lt other (c ∷ cs, rest, inr s, e) = let same : c ≡ b = cc in omega (arith, lt, same, s.0)

  uneven : 128 ≤ b → (n + 128 ≡ b + 128 * ((n + 128 - b) / 128) → ⊥) → Front (λ f. SpellsVarint f n) (b ∷ bs) → ⊥
  uneven ge other ([], rest, s, e) = s
  uneven ge other (c ∷ cs, rest, inl s, e) = let same : c ≡ b = cc in omega (arith, ge, same, s.0)
  uneven ge other (c ∷ cs, rest, inr s, e) =
      let same : c ≡ b = cc in
      let sum : n + 128 ≡ b + 128 * s.1.0 = s.1.1 ∙ ap (λ d. d + 128 * s.1.0) same in
      other (sum ∙ ap (λ m. b + 128 * m) (high_is b n s.1.0 ge sum))

  deeper : 128 ≤ b → (Front (λ f. SpellsVarint f ((n + 128 - b) / 128)) bs → ⊥) → Front (λ f. SpellsVarint f n) (b ∷ bs) → ⊥
  deeper ge never ([], rest, s, e) = s
  deeper ge never (c ∷ cs, rest, inl s, e) = let same : c ≡ b = cc in omega (arith, ge, same, s.0)
  deeper ge never (c ∷ cs, rest, inr s, e) =
      let same : c ≡ b = cc in
      let tails : bs ≡ cs ++ rest = cc in
      let sum : n + 128 ≡ b + 128 * s.1.0 = s.1.1 ∙ ap (λ d. d + 128 * s.1.0) same in
      never (cs, rest, subst (SpellsVarint cs) (high_is b n s.1.0 ge sum) s.1.2, tails)

  by : (b < 128) ⊎ (128 ≤ b) → Decided (n ≡ b) → Decided (n + 128 ≡ b + 128 * ((n + 128 - b) / 128)) → Decided (Front (λ f. SpellsVarint f ((n + 128 - b) / 128)) bs) → Decided (Front (λ f. SpellsVarint f n) (b ∷ bs))
  by (inl lt) (inl same) u d = inl (b ∷ [], bs, inl (lt, refl, same), refl)
  by (inl lt) (inr other) u d = inr (last lt other)
  by (inr ge) o (inl sum) (inl d) = inl (b ∷ d.0, d.1, inr (ge, ((n + 128 - b) / 128, sum, d.2)), ap (λ xs. b ∷ xs) d.3)
  by (inr ge) o (inl sum) (inr never) = inr (deeper ge never)
  by (inr ge) o (inr other) d = inr (uneven ge other)

pub varint_or_not : (most : ℕ) (bytes : List ℕ) (n : ℕ) → Decided (Front (λ f. IsVarintWithin most f n) bytes)
varint_or_not most bytes n = by (number_or_not bytes n) where
  within : (s : Front (λ f. SpellsVarint f n) bytes) → (length s.0 ≤ most) ⊎ (length s.0 ≤ most → ⊥) → Decided (n < 2 ^ 64) → Decided (Front (λ f. IsVarintWithin most f n) bytes)
  within s (inl short) (inl fits) = inl (s.0, s.1, record { short = short; fits = fits; spelled = s.2 }, s.3)
  within s (inl short) (inr big) = inr (λ h. big h.2.fits)
  within s (inr long) d = inr (λ h. let one = one_form h.0 s.0 h.1 s.1 n n h.2.spelled s.2 (sym h.3 ∙ s.3) in long (subst (λ f. length f ≤ most) one.0 h.2.short))

  by : Decided (Front (λ f. SpellsVarint f n) bytes) → Decided (Front (λ f. IsVarintWithin most f n) bytes)
  by (inl s) = within s (as_or_not (λ (lt : length s.0 < most + 1). omega (arith, lt)) (λ (le : length s.0 ≤ most). omega (arith, le)) (less_or_not (length s.0) (most + 1))) (less_or_not n (2 ^ 64))
  by (inr never) = inr (λ h. never (h.0, h.1, h.2.spelled, h.3))

pub key_or_not : (bytes : List ℕ) (k : WireKey) → Decided (Front (λ f. IsKey f k) bytes)
key_or_not bytes k = by (less_or_not 0 k.number) (less_or_not k.number (2 ^ 29)) (varint_or_not 10 bytes (key_code k)) where
  by : Decided (0 < k.number) → Decided (k.number < 2 ^ 29) → Decided (Front (λ f. IsVarint f (key_code k)) bytes) → Decided (Front (λ f. IsKey f k) bytes)
  by (inl some) (inl small) (inl v) = inl (v.0, v.1, record { some = some; small = small; spelled = v.2 }, v.3)
  by (inl some) (inl small) (inr never) = inr (λ h. never (h.0, h.1, h.2.spelled, h.3))
  by (inl some) (inr large) d = inr (λ h. large h.2.small)
  by (inr none) e d = inr (λ h. none h.2.some)

-- whether the bytes begin with these
begins_or_not : (p bytes : List ℕ) → Decided ((rest : List ℕ) × (bytes ≡ p ++ rest))
begins_or_not [] bytes = inl (bytes, refl)
begins_or_not (x ∷ p) [] = inr (λ h. let e = h.1 in cc)
begins_or_not (x ∷ p) (b ∷ bs) = by (cases_eq x b) (begins_or_not p bs) where
  by : Decided (x ≡ b) → Decided ((rest : List ℕ) × (bs ≡ p ++ rest)) → Decided ((rest : List ℕ) × (b ∷ bs ≡ x ∷ (p ++ rest)))
  by (inl same) (inl r) = inl (r.0, cc (same, r.1))
  by (inl same) (inr never) = inr (λ h. let e = h.1 in never (h.0, cc (e)))
  by (inr other) d = inr (λ h. let e = h.1 in other (cc (e)))

pub delimited_or_not : (bytes p : List ℕ) → Decided (Front (λ f. IsDelimited f p) bytes)
delimited_or_not bytes p = by (varint_or_not 10 bytes (length p)) where
  whole : (h : Front (λ f. IsDelimited f p) bytes) → bytes ≡ h.2.0 ++ (p ++ h.1)
  whole h = h.3 ∙ ap (λ f. f ++ h.1) h.2.2 ∙ append_assoc h.2.0 p h.1

  behind : (v : Front (λ f. IsVarint f (length p)) bytes) → Decided ((rest : List ℕ) × (v.1 ≡ p ++ rest)) → Decided (Front (λ f. IsDelimited f p) bytes)
  behind v (inl r) = inl (v.0 ++ p, r.0, (v.0, v.2, refl), v.3 ∙ ap (λ x. v.0 ++ x) r.1 ∙ sym (append_assoc v.0 p r.0))
  behind v (inr never) = inr (λ h. let one = one_form v.0 h.2.0 v.1 (p ++ h.1) (length p) (length p) v.2.spelled h.2.1.spelled (sym v.3 ∙ whole h) in never (h.1, one.2))

  by : Decided (Front (λ f. IsVarint f (length p)) bytes) → Decided (Front (λ f. IsDelimited f p) bytes)
  by (inl v) = behind v (begins_or_not p v.1)
  by (inr never) = inr (λ h. never (h.2.0, p ++ h.1, h.2.1, whole h))

-- so many bytes, and what they stand for
pub fixed_or_not : (k : ℕ) (value : List ℕ → ℕ) (bytes : List ℕ) (n : ℕ) → Decided (Front (λ f. (length f ≡ k) × (n ≡ value f)) bytes)
fixed_or_not k value bytes n = by (cases_lt (length bytes) k) (cases_eq n (value (take k bytes))) where
  by : (length bytes < k) ⊎ (k ≤ length bytes) → Decided (n ≡ value (take k bytes)) → Decided (Front (λ f. (length f ≡ k) × (n ≡ value f)) bytes)
  by (inl short) d = inr (λ h. omega (arith, short, ap length h.3, length-append h.0 h.1, h.2.0))
  by (inr le) (inl same) = inl (take k bytes, drop k bytes, (length-take-le k bytes le, same), sym (take-append-drop k bytes))
  by (inr le) (inr other) = inr (λ h.
      let one = one_cut h.0 (take k bytes) h.1 (drop k bytes) (h.2.0 ∙ sym (length-take-le k bytes le)) (sym h.3 ∙ sym (take-append-drop k bytes)) in
      other (h.2.1 ∙ ap value one.0))
