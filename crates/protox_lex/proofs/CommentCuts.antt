-- The comment at the front is the longest that begins there, or it does not end.
use Rattle.std.proofs.Common.{◌≡◌, ℕ, zero, suc, ◌+◌, ◌≤◌, ◌<◌, Bool, true, false, eqb, ◌&&◌, Some, None, [], ◌∷◌, take, get_or, length, ap, sym, subst, ◌∙◌, arith, refl, length-take, eq-eqb, ◌⊎◌, inl, inr}
use Rattle.std.specs.Prelude.{slice_index, ◌==◌}
use Rattle.std.specs.List.{prefix_len, list_all}
use Rattle.std.proofs.lemmas.Bool.{cases_lt, lt-ltb, le-ltb, eqb-true, and_parts}
use Rattle.std.proofs.lemmas.List.Sums.{prefix_len-le-length}
use Rattle.std.proofs.lemmas.List.{get_or_past, get_or-take}
use Rattle.protox_lex.specs.declared.class.Class.TheVariants as class
use Rattle.protox_lex.specs.declared.token.Sign.TheVariants as signs
use Rattle.protox_lex.specs.Class.{Text, is_in, past}
use Rattle.protox_lex.specs.Token.{sign, comment, Piece, gap, token}
use Rattle.protox_lex.specs.Lex.{is_comment_mark, comment_len, block_comment, past_line}
use Rattle.protox_lex.specs.Spelled.{is_empty, is_line}
use Rattle.protox_lex.proofs.Pieces.{if_all, is_block, piece_of, IsCut}
use Rattle.protox_lex.proofs.Alike.{Alike, alike_back, alike_rest, alike_head, alike_none, alike_at, alike-take}
use Rattle.protox_lex.proofs.Cuts.{IsRight, not_same}

pub piece_hash : (y : Text) → piece_of (35 ∷ y) ≡ if_all (is_line y) (token comment)
unfolding piece_of
piece_hash y = refl

pub piece_comment : (y : Text) → piece_of (47 ∷ 47 ∷ y) ≡ if_all (list_all (is_in class.Line) y) gap
unfolding piece_of
piece_comment y = refl

pub piece_block : (y : Text) → piece_of (47 ∷ 42 ∷ y) ≡ if_all (is_block y) gap
unfolding piece_of
piece_block y = refl

-- ---- comments to the end of a line

line_whole-step : (b : ℕ) (y : Text) (m : ℕ) (v : Bool) → is_in class.Line b ≡ v → suc m ≤ suc (prefix_len (is_in class.Line) (b ∷ y)) → (m ≤ suc (prefix_len (is_in class.Line) y) → is_line (take m y) ≡ true) → is_line (b ∷ take m y) ≡ true
line_whole-step b y m true line le later =
    let more : suc m ≤ suc (1 + prefix_len (is_in class.Line) y) = rw line at le in
    rw line (later (omega arith))
line_whole-step b y m false line le later =
    let none : suc m ≤ 1 = rw line at le in
    let e : m ≡ 0 = omega arith in
    rw (line, e) refl

line_whole : (y : Text) (m : ℕ) → m ≤ suc (prefix_len (is_in class.Line) y) → is_line (take m y) ≡ true
line_whole [] zero le = refl
line_whole [] (suc m) le = refl
line_whole (b ∷ y) zero le = refl
line_whole (b ∷ y) (suc m) le = line_whole-step b y m (is_in class.Line b) refl le (line_whole y m)

not_empty-take : (m : ℕ) (y : Text) → 0 < m → m ≤ length y → is_empty (take m y) ≡ false
not_empty-take zero y some le = absurd (omega arith)
not_empty-take (suc m) [] some le = absurd (omega arith)
not_empty-take (suc m) (c ∷ y) some le = refl

line_more-step : (b : ℕ) (y : Text) (m : ℕ) (v : Bool) → is_in class.Line b ≡ v → suc (prefix_len (is_in class.Line) (b ∷ y)) < suc m → m ≤ length y → (suc (prefix_len (is_in class.Line) y) < m → is_line (take m y) ≡ false) → is_line (b ∷ take m y) ≡ false
line_more-step b y m true line lt le later =
    let more : suc (1 + prefix_len (is_in class.Line) y) < suc m = rw line at lt in
    rw line (later (omega arith))
line_more-step b y m false line lt le later =
    let some : 1 < suc m = rw line at lt in
    rw line (not_empty-take m y (omega arith) le)

line_more : (y : Text) (m : ℕ) → suc (prefix_len (is_in class.Line) y) < m → m ≤ length y → is_line (take m y) ≡ false
line_more [] m lt le = absurd (omega arith)
line_more (b ∷ y) zero lt le = absurd (omega arith)
line_more (b ∷ y) (suc m) lt le = line_more-step b y m (is_in class.Line b) refl lt (omega arith) (λ h. line_more y m h (omega arith))

hash_to : (y : Text) (n : ℕ) → n ≤ length y → n ≤ suc (prefix_len (is_in class.Line) y) → ((m : ℕ) → n < m → m ≤ length y → suc (prefix_len (is_in class.Line) y) < m) → IsCut (35 ∷ y) (token comment) (suc n)
hash_to y n within whole past = record {
  moves = omega arith;
  within = omega arith;
  is = piece_hash (take n y) ∙ ap (λ v. if_all v (token comment)) (line_whole y n whole);
  longest = longer;
} where
  longer : (m : ℕ) → suc n < m → m ≤ length (35 ∷ y) → piece_of (take m (35 ∷ y)) ≡ None
  longer zero lt le = absurd (omega arith)
  longer (suc m) lt le = piece_hash (take m y) ∙ ap (λ v. if_all v (token comment)) (line_more y m (past m (omega arith) (omega arith)) (omega arith))

pub hash_longest : (y : Text) → IsCut (35 ∷ y) (token comment) (past_line (35 ∷ y))
hash_longest y = elim (cases_lt (1 + prefix_len (is_in class.Line) y) (length (35 ∷ y))) [
  | inl lt ↦
      let two : 1 + prefix_len (is_in class.Line) y + 1 ≡ suc (suc (prefix_len (is_in class.Line) y)) = omega arith in
      rw (lt-ltb (1 + prefix_len (is_in class.Line) y) (length (35 ∷ y)) lt, two) (hash_to y (suc (prefix_len (is_in class.Line) y)) (omega arith) (omega arith) (λ m h le. h))
  | inr le ↦
      let one : 1 + prefix_len (is_in class.Line) y ≡ suc (prefix_len (is_in class.Line) y) = omega arith in
      rw (le-ltb (1 + prefix_len (is_in class.Line) y) (length (35 ∷ y)) le, one) (hash_to y (prefix_len (is_in class.Line) y) (prefix_len-le-length (is_in class.Line) y) (omega arith) (λ m h l. absurd (omega arith)))
]

-- ---- block comments

comment_alike-step : (b c : ℕ) (u v : Text) (m : ℕ) (s : Bool) → is_comment_mark b (slice_index u 0) ≡ s → slice_index u 0 ≡ slice_index v 0 → comment_len (b ∷ u) + 1 < suc m → (comment_len u + 1 < m → comment_len v ≡ comment_len u) → comment_len (b ∷ v) ≡ comment_len (b ∷ u)
comment_alike-step b c u v m true mark next lt later = let same : is_comment_mark b (slice_index v 0) ≡ true = ap (is_comment_mark b) (sym next) ∙ mark in rw (mark, same) refl
comment_alike-step b c u v m false mark next lt later =
    let same : is_comment_mark b (slice_index v 0) ≡ false = ap (is_comment_mark b) (sym next) ∙ mark in
    let less : suc (comment_len u) + 1 < suc m = rw mark at lt in
    rw (mark, same) (ap suc (later (omega arith)))

-- the text of a block comment is the same in a text that has the same bytes up to the mark behind it
comment_alike : (u v : Text) (m : ℕ) → Alike m u v → comment_len u + 1 < m → comment_len v ≡ comment_len u
comment_alike u v zero a lt = absurd (omega arith)
comment_alike [] [] (suc m) a lt = refl
comment_alike [] (c ∷ v) (suc m) a lt = alike_none m c v (alike_back (suc m) [] (c ∷ v) a)
comment_alike (b ∷ u) [] (suc m) a lt = alike_none m b u a
comment_alike (b ∷ u) (c ∷ v) (suc m) a lt =
    let r = alike_rest m b c u v a in
    ap (λ k. comment_len (k ∷ v)) (sym (alike_head m b c u v a)) ∙ comment_alike-step b c u v m (is_comment_mark b (slice_index u 0)) refl (alike_at 0 m u v (omega arith) r) lt (comment_alike u v m r)

-- what stands where the text of a block comment ends
abbrev pub MarkAt : Text → ℕ → Type 0
MarkAt y k = is_comment_mark (get_or y k 0) (get_or y (suc k) 0) ≡ true

comment_mark-step : (b : ℕ) (y : Text) (v : Bool) → is_comment_mark b (slice_index y 0) ≡ v → comment_len (b ∷ y) < length (b ∷ y) → (comment_len y < length y → MarkAt y (comment_len y)) → MarkAt (b ∷ y) (comment_len (b ∷ y))
comment_mark-step b y true mark lt later = rw mark mark
comment_mark-step b y false mark lt later =
    let less : suc (comment_len y) < length (b ∷ y) = rw mark at lt in
    rw mark (later (omega arith))

pub comment_mark : (y : Text) → comment_len y < length y → MarkAt y (comment_len y)
comment_mark [] lt = absurd (omega arith)
comment_mark (b ∷ y) lt = comment_mark-step b y (is_comment_mark b (slice_index y 0)) refl lt (comment_mark y)

nonzero_within : (y : Text) (k c : ℕ) → get_or y k 0 ≡ suc c → k < length y
nonzero_within y k c e = elim (cases_lt k (length y)) [ inl lt ↦ lt | inr le ↦ absurd (let f = sym (get_or_past y k 0 le) ∙ e in omega (arith, f)) ]

pub block_is : (x : Text) (k : ℕ) → comment_len x ≡ k → length x ≡ suc (suc k) → get_or x k 0 ≡ 42 → is_block x ≡ true
block_is x k b l e = let same : eqb (k + 2) (suc (suc k)) ≡ true = eq-eqb (k + 2) (suc (suc k)) (omega arith) in rw (b, l, e, same) refl

block_is_not : (x : Text) (k : ℕ) → comment_len x ≡ k → suc (suc k) < length x → is_block x ≡ false
block_is_not x k b lt = let other : eqb (k + 2) (length x) ≡ false = not_same (k + 2) (length x) (omega arith) in rw (b, other) refl

-- `*` is followed by `/`, and the other way round
pub after_star : (b c : ℕ) → is_comment_mark b c ≡ true → b ≡ 42 → c ≡ 47
after_star b c mark e = by (eqb c 47) refl (rw e at mark) where
  by : (v : Bool) → eqb c 47 ≡ v → is_comment_mark 42 c ≡ true → c ≡ 47
  by true f mark = eqb-true c 47 f
  by false f mark = absurd (let g = rw f at mark in cc)

block_longest : (y : Text) (k : ℕ) → comment_len y ≡ k → get_or y k 0 ≡ 42 → IsCut (47 ∷ 42 ∷ y) gap (suc (suc (suc (suc k))))
block_longest y k is star = record {
  moves = omega arith;
  within = omega (arith, room);
  is = piece_block (take (suc (suc k)) y) ∙ ap (λ v. if_all v gap) (block_is (take (suc (suc k)) y) k (cut (suc (suc k)) (omega arith)) (omega (arith, length-take (suc (suc k)) y, room)) (get_or-take (suc (suc k)) y k 0 (omega arith) ∙ star));
  longest = longer;
} where
  here : k < length y
  here = nonzero_within y k 41 star

  room : suc k < length y
  room = nonzero_within y (suc k) 46 (after_star (get_or y k 0) (get_or y (suc k) 0) (subst (λ i. MarkAt y i) is (comment_mark y (omega (arith, is, here)))) star)

  cut : (m : ℕ) → suc k < m → comment_len (take m y) ≡ k
  cut m lt = comment_alike y (take m y) m (alike_back m (take m y) y (alike-take m y)) (omega (arith, is)) ∙ is

  longer : (m : ℕ) → suc (suc (suc (suc k))) < m → m ≤ length (47 ∷ 42 ∷ y) → piece_of (take m (47 ∷ 42 ∷ y)) ≡ None
  longer zero lt le = absurd (omega arith)
  longer (suc zero) lt le = absurd (omega arith)
  longer (suc (suc m)) lt le = piece_block (take m y) ∙ ap (λ v. if_all v gap) (block_is_not (take m y) k (cut m (omega arith)) (omega (arith, length-take m y)))

pub block_right : (y : Text) → IsRight (47 ∷ 42 ∷ y) (block_comment (47 ∷ 42 ∷ y))
unfolding block_comment
block_right y = by (eqb (get_or y (comment_len y) 0) 42) refl (eqb (get_or y (comment_len y) 0) 47) refl where
  two : 2 + comment_len y ≡ suc (suc (comment_len y))
  two = omega arith

  no_mark : (get_or y (comment_len y) 0 == 42) ≡ false → (get_or y (comment_len y) 0 == 47) ≡ false → length y ≤ comment_len y
  no_mark star slash = elim (cases_lt (comment_len y) (length y)) [ inl lt ↦ absurd (let mark = rw (star, slash) at (comment_mark y lt) in cc) | inr le ↦ le ]

  by : (u : Bool) → (get_or y (comment_len y) 0 == 42) ≡ u → (v : Bool) → (get_or y (comment_len y) 0 == 47) ≡ v → IsRight (47 ∷ 42 ∷ y) (block_comment (47 ∷ 42 ∷ y))
  by true star v _ =
      let four : suc (suc (comment_len y)) + 2 ≡ suc (suc (suc (suc (comment_len y)))) = omega arith in
      rw (two, star, four) (block_longest y (comment_len y) refl (eqb-true _ 42 star), tt)
  by false star true slash = rw (two, star, slash) (y, refl, (eqb-true _ 47 slash, omega arith, omega arith))
  by false star false slash = rw (two, star, slash) (y, refl, (no_mark star slash, refl, refl))

-- ---- a piece that begins with `/*`

pub slash_piece : (y : Text) → piece_of (take 1 (47 ∷ y)) ≡ Some (token (sign signs.ForwardSlash))
unfolding piece_of
slash_piece y = refl

-- such a piece is the sign alone, or a comment whose text ends at `*/`
pub block_closed : (y : Text) (p : Piece) (n : ℕ) → IsCut (47 ∷ 42 ∷ y) p n → (p ≡ token (sign signs.ForwardSlash)) ⊎ (p ≡ gap) × (slice_index y (comment_len y) ≡ 42)
block_closed y p zero l = absurd (omega (arith, l.moves))
block_closed y p (suc zero) l = inl (let e : Some (token (sign signs.ForwardSlash)) ≡ Some p = sym (slash_piece (42 ∷ y)) ∙ l.is in cc)
block_closed y p (suc (suc m)) l = by _ refl (sym (piece_block (take m y)) ∙ l.is) where
  by : (v : Bool) → (eqb (comment_len (take m y) + 2) (length (take m y)) && eqb (slice_index (take m y) (comment_len (take m y))) 42) ≡ v → if_all v gap ≡ Some p → (p ≡ token (sign signs.ForwardSlash)) ⊎ (p ≡ gap) × (slice_index y (comment_len y) ≡ 42)
  by false h e = absurd (cc)
  by true h e =
      let x = take m y in
      let both = and_parts (eqb (comment_len x + 2) (length x)) (eqb (slice_index x (comment_len x)) 42) h in
      let less : comment_len x + 1 < m = omega (arith, eqb-true (comment_len x + 2) (length x) both.0, length-take m y) in
      let same : comment_len y ≡ comment_len x = comment_alike x y m (alike-take m y) less in
      inr (cc, ap (slice_index y) same ∙ sym (alike_at (comment_len x) m x y (omega arith) (alike-take m y)) ∙ eqb-true _ 42 both.1)
