-- A text has one list of tokens.
use Rattle.std.proofs.Common.{◌≡◌, ◌≢◌, ℕ, zero, suc, ◌+◌, ◌-◌, ◌≤◌, ◌<◌, true, false, Option, Some, None, List, [], ◌∷◌, take, drop, length, Err, ap, sym, subst, ◌∙◌, arith, refl, inl, inr, min}
use Rattle.std.specs.Prelude.{slice_index, option_map}
use Rattle.std.proofs.lemmas.Bool.{cases_lt}
use Rattle.protox_lex.specs.Class.{Text, is_in, past}
use Rattle.protox_lex.specs.Lex.{char_len, contents_len}
use Rattle.protox_lex.specs.Longest as source
use Rattle.protox_lex.specs.Spelled.{is_quote}
use Rattle.protox_lex.specs.Token as sources
use Rattle.protox_lex.specs.declared.class.Class.TheVariants as class
use Rattle.protox_lex.specs.declared.error.LexErrorKind.{LexErrorKind}
use Rattle.protox_lex.specs.declared.error.LexErrorKind.TheVariants as kinds
use Rattle.protox_lex.proofs.Pieces.{piece_of, literal_of, IsFlaw}
use Rattle.protox_lex.proofs.PieceSpelling.{piece_text, cut_of}
use Rattle.protox_lex.proofs.StringCuts.{one_quote, piece_quote, string_closed}
use Rattle.text_lex.specs.declared.lexer.LexError.{LexError}
use Rattle.text_lex.specs.declared.lexer.LexError.TheVariants as errors
use Rattle.text_lex.specs.declared.token.Radix.{Radix}
use Rattle.text_lex.specs.Token.{Token, int, str, Piece, gap, token, Lexeme, token_at, fault}
use Rattle.text_lex.specs.Lex.{Cut, refused, front}
use Rattle.text_lex.specs.Longest.{IsPiece, IsLongest, IsAlone, from_to, IsFault, Lexes, ends, passes, takes, stops}
use Rattle.text_lex.proofs.Integers.{same_digits}
use Rattle.text_lex.proofs.SamePieces.{piece_in, in_source, from_source}
use Rattle.text_lex.proofs.Sources.{BeginsToken, fault_found}

one_piece : (y : Text) (p q : Piece) → IsPiece y p → IsPiece y q → p ≡ q
one_piece y p q h k =
    let a = in_source y p h in
    let b = in_source y q k in
    let e : Some a.what ≡ Some b.what = sym (piece_text y a.what a.is) ∙ piece_text y b.what b.is in
    let same : a.what ≡ b.what = cc in
    let f : Some p ≡ Some q = sym a.back ∙ ap (piece_in y) same ∙ b.back in
    cc

one_longest : (z : Text) (p q : Piece) (n m : ℕ) → IsLongest z p n → IsLongest z q m → (n ≡ m) × (p ≡ q)
one_longest z p q n m a b = elim (cases_lt n m) [
  | inl lt ↦ absurd (a.longest m q lt b.within b.is)
  | inr le ↦ elim (cases_lt m n) [
    | inl lt ↦ absurd (b.longest n p lt a.within a.is)
    | inr ge ↦ let same : n ≡ m = omega arith in (same, one_piece (take m z) p q (subst (λ k. IsPiece (take k z) p) same a.is) b.is)
  ]
]

pub nothing_no_piece : (p : Piece) → IsPiece [] p → ⊥
unfolding piece_of
nothing_no_piece p h = let i = in_source [] p h in let wrong : None ≡ Some i.what = piece_text [] i.what i.is in cc

-- ---- strings

module _ (q : ℕ) (y : Text) (quote : is_quote q ≡ true) where
  begins : BeginsToken q
  begins = elim (one_quote q quote) [
    | inl e ↦ subst BeginsToken (sym e) (record { blank = refl; hash = refl; slash = refl })
    | inr e ↦ subst BeginsToken (sym e) (record { blank = refl; hash = refl; slash = refl })
  ]

  -- what begins with a quote is a string
  a_string : (w : Text) (p : sources.Piece) → source.IsPiece (q ∷ w) p → (s : Text) × (p ≡ sources.token (sources.str s))
  a_string w p h = by (literal_of q w) (sym (piece_quote q w quote) ∙ piece_text (q ∷ w) p h) where
    by : (o : Option Text) → option_map (λ s. sources.token (sources.str s)) o ≡ Some p → (s : Text) × (p ≡ sources.token (sources.str s))
    by (Some s) e = (s, cc)
    by None e = absurd (cc)

  longest_in_source : (p : Piece) (n : ℕ) → IsLongest (q ∷ y) p n → (s : Text) × source.IsLongest (q ∷ y) (sources.token (sources.str s)) n
  longest_in_source p zero l = absurd (nothing_no_piece p l.is)
  longest_in_source p (suc n) l =
      let i = in_source (q ∷ take n y) p l.is in
      let s = a_string (take n y) i.what i.is in
      (s.0, record { within = l.within; is = subst (source.IsPiece (q ∷ take n y)) s.1 i.is; longest = longer }) where
        longer : (m : ℕ) (r : sources.Piece) → suc n < m → m ≤ length (q ∷ y) → source.IsPiece (take m (q ∷ y)) r → ⊥
        longer zero r lt le h = omega arith
        longer (suc m) r lt le h =
            let t = a_string (take m y) r h in
            l.longest (suc m) (token (str t.0)) lt le (from_source (q ∷ take m y) (sources.token (sources.str t.0)) (token (str t.0)) begins.slash (subst (source.IsPiece (q ∷ take m y)) t.1 h) refl)

  -- a string that is closed nowhere is no piece
  no_string : slice_index y (contents_len q y) ≢ q → (p : Piece) (n : ℕ) → IsLongest (q ∷ y) p n → ⊥
  no_string unclosed p n l = let s = longest_in_source p n l in unclosed (string_closed q y (sources.token (sources.str s.0)) n quote (cut_of (q ∷ y) (sources.token (sources.str s.0)) n s.1)).2

  none : (n : ℕ) → 0 + n ≡ n
  none n = omega arith

  faults : (at : ℕ) (kind : LexErrorKind) (start end : ℕ) → source.IsFault (q ∷ y) kind start end → IsFlaw (q ∷ y) kind start end × (front at (q ∷ y) ≡ refused at (q ∷ y) kind start end)
  faults at kind start end h = fault_found (q ∷ y) (omega arith) begins at _ (source.stops kind start end (omega arith) h) kind start end (rw (none start, none end) refl)

-- ---- faults

abbrev no_token_fault : ℕ → Text → LexError
no_token_fault at z = errors.InvalidToken (from_to at 0 (min (length z) (char_len (slice_index z 0))))

abbrev number_fault : ℕ → Text → Text → ℕ → LexError
number_fault at z d n = errors.NoSpaceBetweenIntAndIdent (from_to at (n - length d) (past class.Alphabetic z (n + 1)))

-- what a fault is a fault of, and that it is the one there
data Blame (at : ℕ) (z : Text) (e : LexError) : Type 0 where
  of_nothing : ((m : ℕ) (p : Piece) → IsPiece (take m z) p → ⊥) → is_quote (slice_index z 0) ≡ false → e ≡ no_token_fault at z → Blame at z e
  of_number : (r : Radix) (d : Text) (n : ℕ) → IsLongest z (token (int r d)) n → is_in class.Letter (slice_index z n) ≡ true → e ≡ number_fault at z d n → Blame at z e
  of_string : (q : ℕ) (y : Text) → z ≡ q ∷ y → is_quote q ≡ true → ((p : Piece) (n : ℕ) → IsLongest z p n → ⊥) → front at z ≡ Err e → Blame at z e

string_blame : (at : ℕ) (z : Text) (e : LexError) (kind : LexErrorKind) (start end q : ℕ) (y : Text) → z ≡ q ∷ y → is_quote q ≡ true → source.IsFault z kind start end → refused at z kind start end ≡ Err e
    → ((q : ℕ) (y : Text) → IsFlaw (q ∷ y) kind start end → slice_index y (contents_len q y) ≢ q) → Blame at z e
string_blame at z e kind start end q y is quote h r unclosed =
    let f = faults q y quote at kind start end (subst (λ w. source.IsFault w kind start end) is h) in
    of_string q y is quote (λ p n l. no_string q y quote (unclosed q y f.0) p n (subst (λ w. IsLongest w p n) is l))
    (subst (λ w. front at w ≡ refused at w kind start end) (sym is) f.1 ∙ r)

-- the contents of an unclosed string end at no quote
still_unclosed : (q r : ℕ) (x y : Text) → q ∷ x ≡ r ∷ y → slice_index y (contents_len r y) ≢ r → slice_index x (contents_len q x) ≢ q
still_unclosed q r x y e unclosed =
    let same : q ≡ r = cc in
    let rest : x ≡ y = cc in
    subst (λ k. slice_index x (contents_len k x) ≢ k) (sym same) (subst (λ w. slice_index w (contents_len r w) ≢ r) (sym rest) unclosed)

blame : (at : ℕ) (z : Text) (e : LexError) → IsFault at z e → Blame at z e
blame at z (errors.InvalidToken s) h = of_nothing h.2 h.1 (ap (λ x. errors.InvalidToken x) h.0)
blame at z (errors.NoSpaceBetweenIntAndIdent s) h = of_number h.0 h.1 h.2 h.3 h.4 (ap (λ x. errors.NoSpaceBetweenIntAndIdent x) h.5)
blame at z (errors.InvalidStringCharacters s) h =
    let f = h.2 in
    string_blame at z (errors.InvalidStringCharacters s) kinds.InvalidStringCharacters h.0 h.1 f.0 f.1 f.3 f.4 f (ap (λ x. Err (errors.InvalidStringCharacters x)) (sym h.3)) (λ q y g. still_unclosed q g.0 y g.1 g.2 g.5)
blame at z (errors.InvalidStringEscape s) h =
    let f = h.2 in
    string_blame at z (errors.InvalidStringEscape s) kinds.InvalidStringEscape h.0 h.1 f.0 f.1 f.3 f.4 f (ap (λ x. Err (errors.InvalidStringEscape x)) (sym h.3)) (λ q y g. still_unclosed q g.0 y g.1 g.2 g.5)
blame at z errors.UnterminatedString h =
    string_blame at z errors.UnterminatedString kinds.UnterminatedString 0 (length z) h.0 h.1 h.3 h.4 (h.0, h.1, h.2, h.3, h.4, h.5, (h.6, refl, refl)) refl (λ q y g. still_unclosed q g.0 y g.1 g.2 g.5)

-- a text with a fault begins with no piece that is whole
fault_alone : (at : ℕ) (z : Text) (e : LexError) (p : Piece) (n : ℕ) → Blame at z e → IsLongest z p n → IsAlone z p n → ⊥
fault_alone at z e p n (of_nothing none quote is) l alone = none n p l.is
fault_alone at z e p n (of_number r d m k letter is) l alone =
    let s = one_longest z p (token (int r d)) n m l k in
    let a : is_in class.Letter (slice_index z m) ≡ false = subst (λ j. IsAlone z (token (int r d)) j) s.0 (subst (λ x. IsAlone z x n) s.1 alone) in
    let wrong : true ≡ false = sym letter ∙ a in
    cc
fault_alone at z e p n (of_string q y is quote none f) l alone = none p n l

no_quote : {P : Type 0} (z : Text) → is_quote (slice_index z 0) ≡ false → (q : ℕ) (y : Text) → z ≡ q ∷ y → is_quote q ≡ true → P
no_quote z none q y e quote = absurd (let wrong : false ≡ true = sym none ∙ ap (λ w. is_quote (slice_index w 0)) e ∙ quote in cc)

token_is : (t u : Token) → token t ≡ token u → t ≡ u
token_is t u e = cc

same_fault : (at : ℕ) (z : Text) (e f : LexError) → Blame at z e → Blame at z f → e ≡ f
same_fault at z e f (of_nothing none quote is) (of_nothing none' quote' is') = is ∙ sym is'
same_fault at z e f (of_nothing none quote is) (of_number r d n l letter is') = absurd (none n (token (int r d)) l.is)
same_fault at z e f (of_nothing none quote is) (of_string q y s quote' never w) = no_quote z quote q y s quote'
same_fault at z e f (of_number r d n l letter is) (of_nothing none quote is') = absurd (none n (token (int r d)) l.is)
same_fault at z e f (of_number r d n l letter is) (of_number r' d' m k letter' is') =
    let s = one_longest z (token (int r d)) (token (int r' d')) n m l k in
    is ∙ ap (number_fault at z d) s.0 ∙ ap (λ x. number_fault at z x m) (same_digits r r' d d' (token_is (int r d) (int r' d') s.1)) ∙ sym is'
same_fault at z e f (of_number r d n l letter is) (of_string q y s quote never w) = absurd (never (token (int r d)) n l)
same_fault at z e f (of_string q y s quote never w) (of_nothing none quote' is') = no_quote z quote' q y s quote
same_fault at z e f (of_string q y s quote never w) (of_number r d n l letter is) = absurd (never (token (int r d)) n l)
same_fault at z e f (of_string q y s quote never w) (of_string q' y' s' quote' never' w') = let g : ◌≡◌ {A = Cut} (Err e) (Err f) = sym w ∙ w' in cc

-- ---- readings

nothing : {P : Type 0} (p : Piece) (n : ℕ) → IsLongest [] p n → P
nothing p zero l = absurd (nothing_no_piece p l.is)
nothing p (suc n) l = absurd (omega (arith, l.within))

abbrev Later : ℕ → Text → ℕ → List Lexeme → Type 0
Later at z n ts = (vs : List Lexeme) → Lexes (at + n) (drop n z) vs → ts ≡ vs

at_same : (at : ℕ) (z : Text) (n m : ℕ) (us : List Lexeme) → n ≡ m → Lexes (at + m) (drop m z) us → Lexes (at + n) (drop n z) us
at_same at z n m us e r = subst (λ k. Lexes (at + k) (drop k z) us) (sym e) r

apart : {P : Type 0} (t : Token) → gap ≡ token t → P
apart t e = absurd (cc)

after_gap : (at : ℕ) (z : Text) (ts us : List Lexeme) (n : ℕ) → IsLongest z gap n → Later at z n ts → Lexes at z us → ts ≡ us
after_gap at z ts us n l later ends = nothing gap n l
after_gap at z ts us n l later (passes m k r) = later us (at_same at z n m us (one_longest z gap gap n m l k).0 r)
after_gap at z ts (u ∷ us) n l later (takes t m k a r) = apart t (one_longest z gap (token t) n m l k).1
after_gap at z ts (u ∷ us) n l later (stops e some h) = absurd (fault_alone at z e gap n (blame at z e h) l tt)

after_token : (at : ℕ) (z : Text) (ts us : List Lexeme) (t : Token) (n : ℕ) → IsLongest z (token t) n → IsAlone z (token t) n → Later at z n ts → Lexes at z us → token_at at (at + n) t ∷ ts ≡ us
after_token at z ts us t n l a later ends = nothing (token t) n l
after_token at z ts us t n l a later (passes m k r) = apart t (sym (one_longest z (token t) gap n m l k).1)
after_token at z ts (v ∷ us) t n l a later (takes u m k b r) =
    let s = one_longest z (token t) (token u) n m l k in
    ap (λ x. token_at at (at + n) x ∷ ts) (token_is t u s.1) ∙ ap (λ j. token_at at (at + j) u ∷ ts) s.0 ∙ ap (λ xs. token_at at (at + m) u ∷ xs) (later us (at_same at z n m us s.0 r))
after_token at z ts (v ∷ us) t n l a later (stops e some h) = absurd (fault_alone at z e (token t) n (blame at z e h) l a)

after_fault : (at : ℕ) (z : Text) (us : List Lexeme) (e : LexError) → 0 < length z → IsFault at z e → Lexes at z us → fault e ∷ [] ≡ us
after_fault at z us e some h ends = absurd (omega (arith, some))
after_fault at z us e some h (passes m k r) = absurd (fault_alone at z e gap m (blame at z e h) k tt)
after_fault at z (u ∷ us) e some h (takes t m k b r) = absurd (fault_alone at z e (token t) m (blame at z e h) k b)
after_fault at z (u ∷ us) e some h (stops f more i) = ap (λ x. fault x ∷ []) (same_fault at z e f (blame at z e h) (blame at z f i))

pub one_list : (at : ℕ) (z : Text) (ts us : List Lexeme) → Lexes at z ts → Lexes at z us → ts ≡ us
one_list at [] [] us ends b = at_end at us b where
  at_end : (at : ℕ) (us : List Lexeme) → Lexes at [] us → [] ≡ us
  at_end at us ends = refl
  at_end at us (passes n l r) = nothing gap n l
  at_end at us (takes t n l a r) = nothing (token t) n l
  at_end at us (stops e some h) = absurd (omega (arith, some))
one_list at z ts us (passes n l r) b = after_gap at z ts us n l (λ vs s. one_list (at + n) (drop n z) ts vs r s) b
one_list at z (t' ∷ ts) us (takes t n l a r) b = after_token at z ts us t n l a (λ vs s. one_list (at + n) (drop n z) ts vs r s) b
one_list at z (t' ∷ ts) us (stops e some h) b = after_fault at z us e some h b
