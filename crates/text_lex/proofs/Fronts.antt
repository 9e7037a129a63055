-- The piece at the front of a text is the longest that begins there, or there is a fault.
use Rattle.std.proofs.Common.{◌≡◌, ℕ, zero, suc, ◌≤◌, ◌<◌, Bool, true, false, Some, None, [], ◌∷◌, take, drop, length, Ok, Err, ap, sym, subst, ◌∙◌, arith, refl, min, inl, inr, length-take}
use Rattle.std.specs.List.{list_all}
use Rattle.std.proofs.lemmas.List.{take_all}
use Rattle.std.specs.Prelude.{slice_index, ◌==◌}
use Rattle.std.proofs.lemmas.Bool.{eqb-true, eqb-false, cases_lt}
use Rattle.protox_lex.specs.Class.{Text, is_in}
use Rattle.protox_lex.specs.Lex as source_lex
use Rattle.protox_lex.specs.Lex.{char_len}
use Rattle.protox_lex.specs.Longest as source
use Rattle.protox_lex.specs.Spelled.{is_quote, is_empty}
use Rattle.protox_lex.specs.Token as sources
use Rattle.protox_lex.specs.declared.class.Class.TheVariants as class
use Rattle.protox_lex.specs.declared.error.LexErrorKind.{LexErrorKind}
use Rattle.protox_lex.specs.declared.error.LexErrorKind.TheVariants as kinds
use Rattle.protox_lex.specs.declared.token.Sign.{Sign}
use Rattle.protox_lex.specs.declared.token.Sign.TheVariants as signs
use Rattle.text_lex.specs.declared.lexer.LexError.TheVariants as errors
use Rattle.protox_lex.proofs.CommentCuts.{hash_longest}
use Rattle.protox_lex.proofs.Cuts as source_cuts
use Rattle.protox_lex.proofs.Fronts as source_fronts
use Rattle.protox_lex.proofs.Pieces.{is_block, piece_of, IsCut, IsFlaw}
use Rattle.protox_lex.proofs.PieceSpelling.{piece_text, longest_of}
use Rattle.protox_lex.proofs.Faults as source_faults
use Rattle.text_lex.specs.Token.{sign, Piece, gap, token}
use Rattle.text_lex.specs.Longest.{is_sign, IsPiece, white_space, comment, word, hexadecimal, octal, decimal, floating, quoted, one_sign, IsLongest, IsAlone, from_to, IsFault}
use Rattle.text_lex.specs.Lex.{Cut, int_of, sign_byte, sign_at, token_in, taken, refused, as_text, front}
use Rattle.text_lex.proofs.Integers.{an_int, digits_begin}
use Rattle.text_lex.proofs.Signs.{byte_is}
use Rattle.text_lex.proofs.SamePieces.{InSource, piece_in, in_source, from_source, longest_in}

-- what is cut is the longest piece, or a fault that is there
abbrev pub IsRight : ℕ → Text → Cut → Type 0
IsRight at z (Ok x) = (1 ≤ x.1) × IsLongest z x.0 x.1 × IsAlone z x.0 x.1
IsRight at z (Err e) = IsFault at z e

-- ---- `/`

no_float : (y s : Text) → piece_of (47 ∷ y) ≡ Some (sources.token (sources.float s)) → ⊥
unfolding piece_of
no_float y s h = by (slice_index y 0 == 47) refl (slice_index y 0 == 42) refl (is_empty y) refl (list_all (is_in class.Line) (drop 1 y)) refl (is_block (drop 1 y)) refl where
  by : (t1 : Bool) → (slice_index y 0 == 47) ≡ t1 → (t2 : Bool) → (slice_index y 0 == 42) ≡ t2 → (t3 : Bool) → is_empty y ≡ t3
      → (t4 : Bool) → list_all (is_in class.Line) (drop 1 y) ≡ t4 → (t5 : Bool) → is_block (drop 1 y) ≡ t5 → ⊥
  by true e1 t2 _ t3 _ true e4 t5 _ = let f = rw (e1, e4) at h in cc
  by true e1 t2 _ t3 _ false e4 t5 _ = let f = rw (e1, e4) at h in cc
  by false e1 true e2 t3 _ t4 _ true e5 = let f = rw (e1, e2, e5) at h in cc
  by false e1 true e2 t3 _ t4 _ false e5 = let f = rw (e1, e2, e5) at h in cc
  by false e1 false e2 true e3 t4 _ t5 _ = let f = rw (e1, e2, e3) at h in cc
  by false e1 false e2 false e3 t4 _ t5 _ = let f = rw (e1, e2, e3) at h in cc

-- bytes of which the first has a property, or has it not
other_first : {P : Type 0} (p : ℕ → Bool) (z w : Text) → p (slice_index z 0) ≡ true → p (slice_index w 0) ≡ false → z ≡ w → P
other_first p z w is none e = absurd (let wrong : true ≡ false = sym is ∙ ap (λ v. p (slice_index v 0)) e ∙ none in cc)

abbrev is_slash : ℕ → Bool
is_slash b = b == 47

-- no longer front of a text that begins with `/` is a piece
no_longer : (y : Text) (p : Piece) → 0 < length y → IsPiece (47 ∷ y) p → ⊥
no_longer y p some (white_space more all) = let wrong : false ≡ true = all in cc
no_longer y p some (comment w e line) = other_first is_slash (47 ∷ y) (35 ∷ w) refl refl e
no_longer y p some (word b w e letter all) = other_first (is_in class.Letter) (b ∷ w) (47 ∷ y) letter refl (sym e)
no_longer y p some (hexadecimal x w e mark d) = other_first is_slash (47 ∷ y) (48 ∷ x ∷ w) refl refl e
no_longer y p some (octal w e d) = other_first is_slash (47 ∷ y) (48 ∷ w) refl refl e
no_longer y p some (decimal lit) = let wrong : false ≡ true = lit.decimals.digits in cc
no_longer y p some (floating f) = no_float y (47 ∷ y) (piece_text (47 ∷ y) _ (source.floating f))
no_longer y p some (quoted q w s e quote string) = other_first is_quote (q ∷ w) (47 ∷ y) quote refl (sym e)
no_longer y p some (one_sign b e is) = omega (arith, some, ap length e)

slash_right : (at : ℕ) (y : Text) → IsRight at (47 ∷ y) (Ok (token (sign 47), 1))
slash_right at y = (omega arith, record { within = omega arith; is = one_sign 47 refl refl; longest = longer }, tt) where
  longer : (m : ℕ) (q : Piece) → 1 < m → m ≤ length (47 ∷ y) → IsPiece (take m (47 ∷ y)) q → ⊥
  longer zero q lt le h = omega arith
  longer (suc m) q lt le h = no_longer (take m y) q (omega (arith, length-take m y)) h

-- ---- a piece of a source

pub same_span : (at start end start' end' : ℕ) → start ≡ start' → end ≡ end' → from_to at start end ≡ from_to at start' end'
same_span at start end start' end' e f = ap (λ k. from_to at k end) e ∙ ap (from_to at start') f

-- each sign is a byte below 128, and no quote
plain_byte : (s : Sign) → (char_len (sign_byte s) ≡ 1) × (is_quote (sign_byte s) ≡ false)
plain_byte signs.Dot = (refl, refl)
plain_byte signs.Minus = (refl, refl)
plain_byte signs.LeftParen = (refl, refl)
plain_byte signs.RightParen = (refl, refl)
plain_byte signs.LeftBrace = (refl, refl)
plain_byte signs.RightBrace = (refl, refl)
plain_byte signs.LeftBracket = (refl, refl)
plain_byte signs.RightBracket = (refl, refl)
plain_byte signs.LeftAngleBracket = (refl, refl)
plain_byte signs.RightAngleBracket = (refl, refl)
plain_byte signs.Comma = (refl, refl)
plain_byte signs.Equals = (refl, refl)
plain_byte signs.Colon = (refl, refl)
plain_byte signs.Semicolon = (refl, refl)
plain_byte signs.ForwardSlash = (refl, refl)

-- a front, by a size that is within the text
record FrontOf (m : ℕ) (z : Text) : Type 0 where
  size : ℕ
  within : size ≤ length z
  same : take m z ≡ take size z

front_of : (m : ℕ) (z : Text) → FrontOf m z
front_of m z = elim (cases_lt m (length z)) [
  | inl lt ↦ record { size = m; within = omega arith; same = refl }
  | inr le ↦ record { size = length z; within = omega arith; same = take_all m z le ∙ sym (take_all (length z) z (omega arith)) }
]

module _ (at b : ℕ) (y : Text) (none : (b == 47) ≡ false) where
  first : (n : ℕ) → 1 ≤ n → (slice_index (take n (b ∷ y)) 0 == 47) ≡ false
  first zero h = absurd (omega arith)
  first (suc n) h = none

  cut_in : (p : sources.Piece) (q : Piece) (n : ℕ) → 1 ≤ n → source.IsLongest (b ∷ y) p n → piece_in (take n (b ∷ y)) p ≡ Some q → IsLongest (b ∷ y) q n
  cut_in p q n moves l e = longest_in (b ∷ y) p q n l (from_source (take n (b ∷ y)) p q (first n moves) l.is e)

  int_alone : (w : Text) (n : ℕ) → is_in class.Letter (slice_index (b ∷ y) n) ≡ false → IsAlone (b ∷ y) (token (int_of w)) n
  int_alone w n h = let i = an_int w in subst (λ t. IsAlone (b ∷ y) (token t) n) (sym i.is) h

  -- an integer of a source is one of a text
  int_right : (i n : ℕ) → IsCut (b ∷ y) (sources.token (sources.int i)) n → is_in class.Letter (slice_index (b ∷ y) n) ≡ false → IsRight at (b ∷ y) (Ok (token (int_of (take n (b ∷ y))), n))
  int_right i n l letter = (l.moves, cut_in _ (token (int_of (take n (b ∷ y)))) n l.moves (longest_of (b ∷ y) _ n l) refl, int_alone (take n (b ∷ y)) n letter)

  -- a sign that no text has
  one_byte : (s : Sign) (n : ℕ) → n ≤ length (b ∷ y) → source.IsPiece (take n (b ∷ y)) (sources.token (sources.sign s)) → (n ≡ 1) × (sign_byte s ≡ b)
  one_byte s zero le (source.one_sign c t e known) = absurd (omega (arith, ap length e))
  one_byte s (suc n) le (source.one_sign c t e known) =
      let head : b ≡ c = ap (λ w. slice_index w 0) e in
      (omega (arith, ap length e, length-take n y), byte_is c s known ∙ sym head)

  nothing_no_piece : (p : sources.Piece) → source.IsPiece [] p → ⊥
  unfolding piece_of
  nothing_no_piece p h = let wrong : None ≡ Some p = piece_text [] p h in cc

  no_hash : (n : ℕ) → (b == 35) ≡ false → source.IsPiece (take n (b ∷ y)) (sources.token sources.comment) → ⊥
  no_hash zero hash (source.hash_comment w e line) = omega (arith, ap length e)
  no_hash (suc n) hash (source.hash_comment w e line) = let head : b ≡ 35 = ap (λ v. slice_index v 0) e in eqb-false b 35 hash head

  module _ (s : Sign) (n : ℕ) (l : IsCut (b ∷ y) (sources.token (sources.sign s)) n) (e : is_sign (sign_byte s) ≡ false) where
    one : (n ≡ 1) × (sign_byte s ≡ b)
    one = one_byte s n l.within (longest_of (b ∷ y) _ n l).is

    foreign_piece : (p : Piece) → InSource (take n (b ∷ y)) p → ⊥
    foreign_piece p i =
        let other : Some i.what ≡ Some (sources.token (sources.sign s)) = sym (piece_text (take n (b ∷ y)) i.what i.is) ∙ l.is in
        let same : i.what ≡ sources.token (sources.sign s) = cc in
        let none : Some p ≡ None = sym i.back ∙ ap (piece_in (take n (b ∷ y))) same ∙ rw e refl in
        cc

    -- no front is a piece
    this_sign : (m : ℕ) (p : Piece) → m ≤ length (b ∷ y) → InSource (take m (b ∷ y)) p → ⊥
    this_sign m p le i = elim (cases_lt n m) [
      | inl lt ↦ (let wrong : None ≡ Some i.what = sym (l.longest m lt le) ∙ piece_text (take m (b ∷ y)) i.what i.is in cc)
      | inr small ↦ elim (cases_lt m n) [
        | inl none ↦ (let nothing : m ≡ 0 = omega (arith, one.0) in nothing_no_piece i.what (subst (λ k. source.IsPiece (take k (b ∷ y)) i.what) nothing i.is))
        | inr all ↦ (let same : m ≡ n = omega arith in foreign_piece p (subst (λ k. InSource (take k (b ∷ y)) p) same i))
      ]
    ]

    foreign : IsFault at (b ∷ y) (errors.InvalidToken (from_to at 0 n))
    foreign = (
      same_span at 0 n 0 (min (length (b ∷ y)) (char_len b)) refl (omega (arith, one.0, ap char_len one.1, (plain_byte s).0)),
      subst (λ k. is_quote k ≡ false) one.1 (plain_byte s).1,
      λ m p i. let k = front_of m (b ∷ y) in this_sign k.size p k.within (in_source (take k.size (b ∷ y)) p (subst (λ w. IsPiece w p) k.same i)),
    )

  sign_right : (s : Sign) (n : ℕ) → IsCut (b ∷ y) (sources.token (sources.sign s)) n → IsRight at (b ∷ y) (taken at (sign_at (sign_byte s)) n)
  sign_right s n l = by (is_sign (sign_byte s)) refl where
    by : (v : Bool) → is_sign (sign_byte s) ≡ v → IsRight at (b ∷ y) (taken at (sign_at (sign_byte s)) n)
    by true e = rw e (l.moves, cut_in _ (token (sign (sign_byte s))) n l.moves (longest_of (b ∷ y) _ n l) (rw e refl), tt)
    by false e = rw e (foreign s n l e)

  token_right : (t : sources.Token) (n : ℕ) → (b == 35) ≡ false → IsCut (b ∷ y) (sources.token t) n → source.IsAlone (b ∷ y) (sources.token t) n → IsRight at (b ∷ y) (taken at (token_in (take n (b ∷ y)) t) n)
  token_right (sources.ident s) n hash l alone = (l.moves, cut_in _ _ n l.moves (longest_of (b ∷ y) _ n l) refl, tt)
  token_right (sources.int i) n hash l alone = int_right i n l alone.1
  token_right (sources.float s) n hash l alone = (l.moves, cut_in _ _ n l.moves (longest_of (b ∷ y) _ n l) refl, tt)
  token_right (sources.str s) n hash l alone = (l.moves, cut_in _ _ n l.moves (longest_of (b ∷ y) _ n l) refl, tt)
  token_right (sources.sign s) n hash l alone = sign_right s n l
  token_right sources.comment n hash l alone = absurd (no_hash n hash (longest_of (b ∷ y) _ n l).is)

  fault_right : (kind : LexErrorKind) (start end : ℕ) → IsFlaw (b ∷ y) kind start end → IsRight at (b ∷ y) (refused at (b ∷ y) kind start end)
  fault_right kinds.InvalidToken start end h =
      let f = source_faults.fault_of (b ∷ y) kinds.InvalidToken start end h in
      (same_span at start end _ _ f.0 f.1, f.2, λ m p i. let s = in_source (take m (b ∷ y)) p i in f.3 m s.what s.is)
  fault_right kinds.NoSpaceBetweenIntAndIdent start end h =
      let n = h.1 in
      let i = an_int (take n (b ∷ y)) in
      let l : IsLongest (b ∷ y) (token (int_of (take n (b ∷ y)))) n = cut_in _ _ n h.2.moves (longest_of (b ∷ y) _ n h.2) refl in
      (i.base, i.digits, n, subst (λ t. IsLongest (b ∷ y) (token t) n) i.is l, h.3, same_span at start end _ _ (h.4 ∙ digits_begin (b ∷ y) h.0 n (longest_of (b ∷ y) _ n h.2) i.base i.digits i.is) h.5)
  fault_right kinds.IntegerOutOfRange start end h = subst (λ n. IsRight at (b ∷ y) (Ok (token (int_of (take n (b ∷ y))), n))) (sym h.6) (int_right h.0 h.1 h.2 h.3)
  fault_right kinds.UnterminatedString start end h =
      let f = source_faults.fault_of (b ∷ y) kinds.UnterminatedString start end h in
      (f.0, f.1, f.2, f.3, f.4, f.5, f.6.0)
  fault_right kinds.InvalidStringEscape start end h = (start, end, source_faults.fault_of (b ∷ y) kinds.InvalidStringEscape start end h, refl)
  fault_right kinds.InvalidStringCharacters start end h = (start, end, source_faults.fault_of (b ∷ y) kinds.InvalidStringCharacters start end h, refl)
  fault_right kinds.NestedBlockComment start end h = other_first is_slash (47 ∷ 42 ∷ h.0) (b ∷ y) refl none (sym h.1)
  fault_right kinds.UnterminatedComment start end h = other_first is_slash (47 ∷ 42 ∷ h.0) (b ∷ y) refl none (sym h.1)
  fault_right kinds.HashCommentOutsideTextFormat start end h = absurd h
  fault_right kinds.FloatSuffixOutsideTextFormat start end h = absurd h

  source_right : (r : source_lex.Cut) → (b == 35) ≡ false → source_cuts.IsRight (b ∷ y) r → IsRight at (b ∷ y) (as_text at (b ∷ y) r)
  source_right (Ok (sources.gap, n)) hash l = (l.0.moves, cut_in sources.gap gap n l.0.moves (longest_of (b ∷ y) sources.gap n l.0) refl, tt)
  source_right (Ok (sources.token t, n)) hash l = token_right t n hash l.0 l.1
  source_right (Err f) hash h = fault_right f.kind f.start f.end h

-- ---- the cases

comment_right : (at : ℕ) (y : Text) → IsRight at (35 ∷ y) (Ok (gap, source_lex.past_line (35 ∷ y)))
comment_right at y =
    let l = hash_longest y in
    let n = source_lex.past_line (35 ∷ y) in
    (l.moves, longest_in (35 ∷ y) (sources.token sources.comment) gap n (longest_of (35 ∷ y) _ n l) (from_source (take n (35 ∷ y)) (sources.token sources.comment) gap (first at 35 y refl n l.moves) (longest_of (35 ∷ y) _ n l).is refl), tt)

pub front_right : (at b : ℕ) (y : Text) → IsRight at (b ∷ y) (front at (b ∷ y))
unfolding front
front_right at b y = by (b == 47) refl (b == 35) refl where
  by : (t1 : Bool) → (b == 47) ≡ t1 → (t2 : Bool) → (b == 35) ≡ t2 → IsRight at (b ∷ y) (front at (b ∷ y))
  by true slash t2 _ = rw slash (subst (λ k. IsRight at (k ∷ y) (Ok (token (sign 47), 1))) (sym (eqb-true b 47 slash)) (slash_right at y))
  by false slash true hash = rw (slash, hash) (subst (λ k. IsRight at (k ∷ y) (Ok (gap, source_lex.past_line (k ∷ y)))) (sym (eqb-true b 35 hash)) (comment_right at y))
  by false slash false hash = rw (slash, hash) (source_right at b y slash (source_lex.front (b ∷ y)) hash (source_fronts.front_right b y))

pub cut_within : (at : ℕ) (z : Text) (p : Piece) (n : ℕ) → 0 < length z → front at z ≡ Ok (p, n) → (1 ≤ n) × (n ≤ length z)
cut_within at [] p n some e = absurd (omega arith)
cut_within at (b ∷ y) p n some e = let r = subst (IsRight at (b ∷ y)) e (front_right at b y) in (r.0, r.1.within)
