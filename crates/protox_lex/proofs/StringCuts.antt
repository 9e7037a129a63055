-- The string at the front is the longest that begins there, or it is not closed.
use Rattle.std.proofs.Common.{◌≡◌, ◌≢◌, ℕ, zero, suc, ◌+◌, ◌≤◌, ◌<◌, Bool, true, false, cond, eqb, leb, ◌&&◌, Option, Some, None, [], ◌∷◌, take, get_or, length, Ok, Err, ap, sym, subst, ◌∙◌, arith, refl, length-take, eq-eqb, ◌⊎◌, inl, inr}
use Rattle.std.specs.Prelude.{slice_index, ◌==◌, option_map}
use Rattle.std.proofs.lemmas.Bool.{cases_lt, eqb-true, eqb-false, leb-true, leb-false, and_parts}
use Rattle.std.proofs.lemmas.List.{get_or_past, get_or-take, take-take}
use Rattle.protox_lex.specs.Class.{Text}
use Rattle.protox_lex.specs.Token.{str, Piece, token}
use Rattle.protox_lex.specs.Lex.{Escaped, escape, escape_len, is_plain, after_unit, contents_from, contents_len, closed, quoted}
use Rattle.protox_lex.proofs.Pieces.{if_all, literal_of, piece_of, IsCut}
use Rattle.protox_lex.specs.Spelled.{is_quote}
use Rattle.protox_lex.proofs.Alike.{Alike, alike_rest, alike_head, alike_none, alike_at, alike-take, alike_back}
use Rattle.protox_lex.proofs.Escapes.{escape_alike}
use Rattle.protox_lex.proofs.Cuts.{IsRight, not_same}

-- ---- the contents of a string

-- contents that end at a byte pass over what is left of an escape
reaches : (q left : ℕ) (y : Text) → 0 < q → get_or y (contents_from q left y) 0 ≡ q → left ≤ contents_from q left y
unfolding contents_from
reaches q zero y some e = omega arith
reaches q (suc left) [] some e = absurd (let f : 0 ≡ q = sym (get_or_past [] (contents_from q (suc left) []) 0 (omega arith)) ∙ e in omega (arith, f))
reaches q (suc left) (b ∷ y) some e = omega (arith, reaches q left y some e)

abbrev unit_with : Bool → Escaped → Bool → ℕ
unit_with s o p = cond s (escape_len o) (cond p 1 0)

pub first_unit : (q b : ℕ) (y : Text) (s : Bool) (o : Escaped) (p : Bool) → (b == 92) ≡ s → escape y ≡ o → is_plain q b ≡ p → contents_from q zero (b ∷ y) ≡ after_unit (unit_with s o p) (λ n. contents_from q n y)
unfolding contents_from
first_unit q b y s o p slash esc plain = rw (plain, slash, esc) refl

abbrev Same : ℕ → ℕ → ℕ → Text → Text → Type 0
Same q m left u v = contents_from q left u < m → get_or u (contents_from q left u) 0 ≡ q → contents_from q left v ≡ contents_from q left u

first_same : (q b m : ℕ) (u v : Text) → 0 < q → q ≢ 92 → Alike m u v → ((left : ℕ) → Same q m left u v) → Same q (suc m) zero (b ∷ u) (b ∷ v)
first_same q b m u v some other a rest lt end = by (b == 92) refl (escape u) refl (is_plain q b) refl where
  by : (s : Bool) → (b == 92) ≡ s → (o : Escaped) → escape u ≡ o → (p : Bool) → is_plain q b ≡ p → contents_from q zero (b ∷ v) ≡ contents_from q zero (b ∷ u)
  by true slash (Ok x) esc p plain =
      let is : contents_from q zero (b ∷ u) ≡ suc (contents_from q x.1 u) = first_unit q b u true (Ok x) p slash esc plain in
      let there : get_or u (contents_from q x.1 u) 0 ≡ q = ap (λ k. get_or (b ∷ u) k 0) (sym is) ∙ end in
      let low : x.1 ≤ contents_from q x.1 u = reaches q x.1 u some there in
      first_unit q b v true (Ok x) p slash (escape_alike u v m x a esc (omega (arith, is))) plain ∙ ap suc (rest x.1 (omega (arith, is)) there) ∙ sym is
  by true slash (Err n) esc p plain =
      let is : contents_from q zero (b ∷ u) ≡ 0 = first_unit q b u true (Err n) p slash esc plain in
      let here : b ≡ q = ap (λ k. get_or (b ∷ u) k 0) (sym is) ∙ end in
      absurd (other (sym here ∙ eqb-true b 92 slash))
  by false slash o esc true plain =
      let is : contents_from q zero (b ∷ u) ≡ suc (contents_from q zero u) = first_unit q b u false o true slash esc plain in
      let there : get_or u (contents_from q zero u) 0 ≡ q = ap (λ k. get_or (b ∷ u) k 0) (sym is) ∙ end in
      first_unit q b v false (escape v) true slash refl plain ∙ ap suc (rest zero (omega (arith, is)) there) ∙ sym is
  by false slash o esc false plain = first_unit q b v false (escape v) false slash refl plain ∙ sym (first_unit q b u false o false slash esc plain)

-- contents that end at a quote are the same in a text that has the same bytes up to it
contents_alike : (q : ℕ) → 0 < q → q ≢ 92 → (left : ℕ) (u v : Text) (m : ℕ) → Alike m u v → Same q m left u v
unfolding contents_from
contents_alike q some other left [] v m a lt end = absurd (let f : 0 ≡ q = sym (get_or_past [] (contents_from q left []) 0 (omega arith)) ∙ end in omega (arith, f))
contents_alike q some other left (b ∷ u) v zero a lt end = absurd (omega arith)
contents_alike q some other left (b ∷ u) [] (suc m) a lt end = alike_none m b u a
contents_alike q some other (suc left) (b ∷ u) (c ∷ v) (suc m) a lt end = ap suc (contents_alike q some other left u v m (alike_rest m b c u v a) (omega arith) end)
contents_alike q some other zero (b ∷ u) (c ∷ v) (suc m) a lt end =
    let r = alike_rest m b c u v a in
    ap (λ k. contents_from q zero (k ∷ v)) (sym (alike_head m b c u v a)) ∙ first_same q b m u v some other r (λ left. contents_alike q some other left u v m r) lt end

-- ---- quotes

pub one_quote : (q : ℕ) → is_quote q ≡ true → (q ≡ 34) ⊎ (q ≡ 39)
one_quote q h = by (q == 34) refl (q == 39) refl where
  by : (u : Bool) → (q == 34) ≡ u → (v : Bool) → (q == 39) ≡ v → (q ≡ 34) ⊎ (q ≡ 39)
  by true e v _ = inl (eqb-true q 34 e)
  by false e true f = inr (eqb-true q 39 f)
  by false e false f = absurd (let g = rw (e, f) at h in cc)

pub same_contents : (q : ℕ) → is_quote q ≡ true → (u v : Text) (m : ℕ) → Alike m u v → contents_len q u < m → slice_index u (contents_len q u) ≡ q → contents_len q v ≡ contents_len q u
same_contents q is u v m a lt end = by (one_quote q is) where
  by : (q ≡ 34) ⊎ (q ≡ 39) → contents_len q v ≡ contents_len q u
  by (inl e) = contents_alike q (omega (arith, e)) (λ f. omega (arith, e, f)) 0 u v m a lt end
  by (inr e) = contents_alike q (omega (arith, e)) (λ f. omega (arith, e, f)) 0 u v m a lt end

piece_double : (y : Text) → piece_of (34 ∷ y) ≡ option_map (λ s. token (str s)) (literal_of 34 y)
unfolding piece_of
piece_double y = refl

piece_single : (y : Text) → piece_of (39 ∷ y) ≡ option_map (λ s. token (str s)) (literal_of 39 y)
unfolding piece_of
piece_single y = refl

pub piece_quote : (q : ℕ) (y : Text) → is_quote q ≡ true → piece_of (q ∷ y) ≡ option_map (λ s. token (str s)) (literal_of q y)
piece_quote q y is = by (one_quote q is) where
  by : (q ≡ 34) ⊎ (q ≡ 39) → piece_of (q ∷ y) ≡ option_map (λ s. token (str s)) (literal_of q y)
  by (inl e) = subst (λ k. piece_of (k ∷ y) ≡ option_map (λ s. token (str s)) (literal_of k y)) (sym e) (piece_double y)
  by (inr e) = subst (λ k. piece_of (k ∷ y) ≡ option_map (λ s. token (str s)) (literal_of k y)) (sym e) (piece_single y)

-- ---- a string that is closed

quoted_within : (q : ℕ) (y : Text) (k : ℕ) → is_quote q ≡ true → slice_index y k ≡ q → k < length y
quoted_within q y k is e = by (one_quote q is) (cases_lt k (length y)) where
  by : (q ≡ 34) ⊎ (q ≡ 39) → (k < length y) ⊎ (length y ≤ k) → k < length y
  by o (inl lt) = lt
  by (inl f) (inr le) = absurd (let g = sym (get_or_past y k 0 le) ∙ e in omega (arith, f, g))
  by (inr f) (inr le) = absurd (let g = sym (get_or_past y k 0 le) ∙ e in omega (arith, f, g))

pub literal_is : (q : ℕ) (x : Text) (k : ℕ) → contents_len q x ≡ k → length x ≡ suc k → slice_index x k ≡ q → literal_of q x ≡ Some (take k x)
literal_is q x k n l e =
    let same : eqb (k + 1) (suc k) ≡ true = eq-eqb (k + 1) (suc k) (omega arith) in
    let here : eqb q q ≡ true = eq-eqb q q refl in
    rw (n, l, e, same, here) refl

literal_is_not : (q : ℕ) (x : Text) (k : ℕ) → contents_len q x ≡ k → suc k < length x → literal_of q x ≡ None
literal_is_not q x k n lt = let other : eqb (k + 1) (length x) ≡ false = not_same (k + 1) (length x) (omega arith) in rw (n, other) refl

str_longest : (q : ℕ) (y : Text) → is_quote q ≡ true → slice_index y (contents_len q y) ≡ q → IsCut (q ∷ y) (token (str (take (contents_len q y) y))) (suc (suc (contents_len q y)))
str_longest q y quote e = by (contents_len q y) refl e where
  by : (k : ℕ) → contents_len q y ≡ k → slice_index y k ≡ q → IsCut (q ∷ y) (token (str (take k y))) (suc (suc k))
  by k is e = record {
    moves = omega arith;
    within = omega (arith, quoted_within q y k quote e);
    is = piece_quote q (take (suc k) y) quote ∙ ap (option_map (λ s. token (str s))) (whole (quoted_within q y k quote e));
    longest = longer;
  } where
    cut : (m : ℕ) → k < m → contents_len q (take m y) ≡ k
    cut m lt = same_contents q quote y (take m y) m (alike_back m (take m y) y (alike-take m y)) (omega (arith, is)) (ap (slice_index y) is ∙ e) ∙ is

    whole : k < length y → literal_of q (take (suc k) y) ≡ Some (take k y)
    whole lt = literal_is q (take (suc k) y) k (cut (suc k) (omega arith)) (omega (arith, length-take (suc k) y)) (get_or-take (suc k) y k 0 (omega arith) ∙ e) ∙ ap (λ x. Some x) (take-take k (suc k) y (omega arith))

    longer : (m : ℕ) → suc (suc k) < m → m ≤ length (q ∷ y) → piece_of (take m (q ∷ y)) ≡ None
    longer zero lt le = absurd (omega arith)
    longer (suc m) lt le = piece_quote q (take m y) quote ∙ ap (option_map (λ s. token (str s))) (literal_is_not q (take m y) k (cut m (omega arith)) (omega (arith, length-take m y)))

pub quoted_right : (q : ℕ) (y : Text) → is_quote q ≡ true → IsRight (q ∷ y) (quoted q y)
unfolding quoted
quoted_right q y is = ends (slice_index y (contents_len q y) == q) refl (leb (length y) (contents_len q y)) refl (slice_index y (contents_len q y) == 92) refl where
  ends : (u : Bool) → (slice_index y (contents_len q y) == q) ≡ u → (v : Bool) → leb (length y) (contents_len q y) ≡ v → (w : Bool) → (slice_index y (contents_len q y) == 92) ≡ w → IsRight (q ∷ y) (closed q y (contents_len q y))
  ends true quote v _ w _ = let two : contents_len q y + 2 ≡ suc (suc (contents_len q y)) = omega arith in rw (quote, two) (str_longest q y is (eqb-true _ q quote), tt)
  ends false quote true past w _ = rw (quote, past) (q, y, refl, is, (leb-true _ _ past, refl, omega arith), eqb-false _ q quote)
  ends false quote false inside true slash = rw (quote, inside, slash) (q, y, refl, is, (eqb-true _ 92 slash, refl, refl), eqb-false _ q quote)
  ends false quote false inside false slash = rw (quote, inside, slash) (q, y, refl, is, (leb-false _ _ inside, eqb-false _ 92 slash, refl, refl), eqb-false _ q quote)

-- ---- a piece that begins with a quote

closes : (q : ℕ) (x : Text) (s : Text) → literal_of q x ≡ Some s → (contents_len q x < length x) × (slice_index x (contents_len q x) ≡ q)
closes q x s e = by _ refl e where
  by : (v : Bool) → (eqb (contents_len q x + 1) (length x) && eqb (slice_index x (contents_len q x)) q) ≡ v → if_all v (take (contents_len q x) x) ≡ Some s → (contents_len q x < length x) × (slice_index x (contents_len q x) ≡ q)
  by true h e =
      let both = and_parts (eqb (contents_len q x + 1) (length x)) (eqb (slice_index x (contents_len q x)) q) h in
      (omega (arith, eqb-true (contents_len q x + 1) (length x) both.0), eqb-true _ q both.1)
  by false h e = absurd (cc)

-- a text that begins with a quote has no piece but a string, whose contents end at that quote
pub string_closed : (q : ℕ) (y : Text) (p : Piece) (n : ℕ) → is_quote q ≡ true → IsCut (q ∷ y) p n → (s : Text) × (p ≡ token (str s)) × (slice_index y (contents_len q y) ≡ q)
string_closed q y p zero is l = absurd (omega (arith, l.moves))
string_closed q y p (suc m) is l = by (literal_of q (take m y)) refl (sym (piece_quote q (take m y) is) ∙ l.is) where
  by : (o : Option Text) → literal_of q (take m y) ≡ o → option_map (λ s. token (str s)) o ≡ Some p → (s : Text) × (p ≡ token (str s)) × (slice_index y (contents_len q y) ≡ q)
  by None none e = absurd (cc)
  by (Some s) some e =
      let x = take m y in
      let end = closes q x s some in
      let less : contents_len q x < m = omega (arith, end.0, length-take m y) in
      let same : contents_len q y ≡ contents_len q x = same_contents q is x y m (alike-take m y) less end.1 in
      (s, cc, ap (slice_index y) same ∙ sym (alike_at (contents_len q x) m x y less (alike-take m y)) ∙ end.1)
