-- A text has one list of tokens.
use Rattle.std.proofs.Common.{◌≡◌, ◌≢◌, ℕ, ◌+◌, ◌^◌, ◌≤◌, ◌<◌, Bool, true, false, ◌||◌, cond, eqb, leb, eq-eqb, Some, None, List, [], ◌∷◌, take, drop, get_or, length, Err, ap, sym, subst, ◌∙◌, arith, refl, inl, inr, ◌⊎◌, min}
use Rattle.std.specs.Prelude.{slice_index, ◌==◌}
use Rattle.std.proofs.lemmas.Bool.{cases_lt, eqb-true, eqb-false, le-leb, lt-leb, ne_eqb}
use Rattle.std.proofs.lemmas.List.{get_or_past, get_or-drop, drop-drop}
use Rattle.protox_lex.specs.declared.class.Class.TheVariants as class
use Rattle.protox_lex.specs.declared.error.LexErrorKind.{LexErrorKind}
use Rattle.protox_lex.specs.declared.error.LexErrorKind.TheVariants as kinds
use Rattle.protox_lex.specs.declared.front.Flaw.{Flaw}
use Rattle.protox_lex.specs.declared.token.Sign.TheVariants as signs
use Rattle.protox_lex.specs.Class.{Text, is_in, past}
use Rattle.protox_lex.specs.Token.{Token, int, sign, Piece, gap, token, Lexeme, token_at, fault_at}
use Rattle.protox_lex.specs.Lex.{Cut, is_plain, unit_len, contents_len, unclosed, is_comment_mark, comment_len, char_len, escape, escape_len, fault_len}
use Rattle.protox_lex.specs.Longest.{prefix_of, IsLongest, IsAlone, IsFault, Lexes, ends, passes, takes, stops}
use Rattle.protox_lex.proofs.Pieces.{piece_of, IsCut}
use Rattle.protox_lex.specs.Spelled.{is_quote, Contents, Unmarked}
use Rattle.protox_lex.proofs.EscapeForms.{no_escape_of}
use Rattle.protox_lex.proofs.Numbers.{within_text}
use Rattle.protox_lex.proofs.StringCuts.{string_closed}
use Rattle.protox_lex.proofs.StringSpelling.{ReadTo, contents_read}
use Rattle.protox_lex.proofs.CommentSpelling.{text_ends}
use Rattle.protox_lex.proofs.PieceSpelling.{no_piece_none, cut_of}
use Rattle.protox_lex.proofs.CommentCuts.{block_closed, slash_piece}

no_piece : {P : Type 0} {A : Type 0} (x : A) → None ≡ Some x → P
no_piece x e = absurd (cc)

longest_one : (z : Text) (p q : Piece) (n m : ℕ) → IsCut z p n → IsCut z q m → (n ≡ m) × (p ≡ q)
longest_one z p q n m a b = elim (cases_lt n m) [
  | inl lt ↦ no_piece q (sym (a.longest m lt b.within) ∙ b.is)
  | inr le ↦ elim (cases_lt m n) [
    | inl lt ↦ no_piece p (sym (b.longest n lt a.within) ∙ a.is)
    | inr ge ↦ let same : n ≡ m = omega arith in (same, (let e : Some p ≡ Some q = sym a.is ∙ ap (λ k. piece_of (take k z)) same ∙ b.is in cc))
  ]
]

-- ---- faults

abbrev flaw_of : LexErrorKind → ℕ → ℕ → Flaw
flaw_of kind start end = record { kind = kind; start = start; end = end }

abbrev nothing_flaw : Text → Flaw
nothing_flaw z = flaw_of kinds.InvalidToken 0 (min (length z) (char_len (slice_index z 0)))

abbrev number_flaw : Text → ℕ → Flaw
number_flaw z n = cond (is_in class.Letter (slice_index z n)) (flaw_of kinds.NoSpaceBetweenIntAndIdent (prefix_of z n) (past class.Alphabetic z (n + 1))) (flaw_of kinds.IntegerOutOfRange 0 n)

abbrev block_flaw : Text → Flaw
block_flaw y = cond (slice_index y (comment_len y) == 47) (flaw_of kinds.NestedBlockComment (comment_len y + 2) (comment_len y + 4)) (flaw_of kinds.UnterminatedComment 0 (length y + 2))

-- what a fault is a fault of, and that it is the one there
data Blame (z : Text) (f : Flaw) : Type 0 where
  of_nothing : ((m : ℕ) → piece_of (take m z) ≡ None) → is_quote (slice_index z 0) ≡ false → f ≡ nothing_flaw z → Blame z f
  of_number : (i n : ℕ) → IsCut z (token (int i)) n → (is_in class.Letter (slice_index z n) ≡ true) ⊎ (2 ^ 64 ≤ i) → f ≡ number_flaw z n → Blame z f
  of_string : (q : ℕ) (y : Text) → z ≡ q ∷ y → is_quote q ≡ true → slice_index y (contents_len q y) ≢ q → unclosed y (contents_len q y) ≡ Err f → Blame z f
  of_block : (y : Text) → z ≡ 47 ∷ 42 ∷ y → slice_index y (comment_len y) ≢ 42 → f ≡ block_flaw y → Blame z f

same_flaw : (kind : LexErrorKind) (a b c d : ℕ) → a ≡ c → b ≡ d → flaw_of kind a b ≡ flaw_of kind c d
same_flaw kind a b c d e f = ap (λ k. flaw_of kind k b) e ∙ ap (flaw_of kind c) f

same_err : (kind : LexErrorKind) (a b c d : ℕ) → a ≡ c → b ≡ d → ◌≡◌ {A = Cut} (Err (flaw_of kind a b)) (Err (flaw_of kind c d))
same_err kind a b c d e f = ap (λ x. Err x) (same_flaw kind a b c d e f)

unterminated : (y : Text) (n : ℕ) → length y ≤ n → unclosed y n ≡ Err (flaw_of kinds.UnterminatedString 0 (length y + 1))
unterminated y n le = rw (le-leb _ _ le) refl

bad_escape : (y : Text) (n : ℕ) → slice_index y n ≡ 92 → unclosed y n ≡ Err (flaw_of kinds.InvalidStringEscape (n + 1) (n + 2 + fault_len (escape (drop (n + 1) y))))
bad_escape y n e =
    let inside : leb (length y) n ≡ false = lt-leb _ _ (within_text y n 91 e) in
    let slash : eqb (slice_index y n) 92 ≡ true = eq-eqb _ 92 e in
    rw (inside, slash) refl

bad_character : (y : Text) (n : ℕ) → n < length y → slice_index y n ≢ 92 → unclosed y n ≡ Err (flaw_of kinds.InvalidStringCharacters (n + 1) (n + 2))
bad_character y n lt other =
    let inside : leb (length y) n ≡ false = lt-leb _ _ lt in
    rw (inside, ne_eqb _ 92 other) refl

nested : (y : Text) → slice_index y (comment_len y) ≡ 47 → flaw_of kinds.NestedBlockComment (comment_len y + 2) (comment_len y + 4) ≡ block_flaw y
nested y e = let slash : eqb (slice_index y (comment_len y)) 47 ≡ true = eq-eqb _ 47 e in rw slash refl

unended : (y : Text) → length y ≤ comment_len y → flaw_of kinds.UnterminatedComment 0 (length y + 2) ≡ block_flaw y
unended y le = rw (get_or_past y (comment_len y) 0 le) refl

or_true : (b : Bool) → (b || true) ≡ true
or_true true = refl
or_true false = refl

-- contents of a string that end where no quote stands are unclosed there
module _ (z : Text) (q : ℕ) (y rest : Text) (is : z ≡ q ∷ y) (quote : is_quote q ≡ true) (contents : Contents q rest y) where
  module _ (none : unit_len q rest ≡ 0) where
    read : ReadTo q y rest
    read = contents_read q rest y none contents

    next : slice_index y (contents_len q y) ≡ slice_index rest 0
    next =
        let here : contents_len q y + 0 ≡ contents_len q y = omega arith in
        ap (λ k. get_or y k 0) (sym here) ∙ sym (get_or-drop (contents_len q y) y 0 0) ∙ ap (λ w. get_or w 0 0) read.left

    unclosed_at : (f : Flaw) → slice_index rest 0 ≢ q → unclosed y (contents_len q y) ≡ Err f → Blame z f
    unclosed_at f other e = of_string q y is quote (λ h. other (sym next ∙ h)) e

  no_quote_byte : (b : ℕ) → is_quote b ≡ false → b ≢ q
  no_quote_byte b none e = let wrong : false ≡ true = sym none ∙ ap is_quote e ∙ quote in cc

  open_end : (start end : ℕ) → rest ≡ [] → start ≡ 0 → end ≡ length z → Blame z (flaw_of kinds.UnterminatedString start end)
  open_end start end e s d =
      let none : unit_len q rest ≡ 0 = ap (unit_len q) e in
      let r = read none in
      let all : length y ≤ contents_len q y = omega (arith, r.sum, ap length e) in
      let more : length y + 1 ≡ end = omega (arith, d, ap length is) in
      unclosed_at none (flaw_of kinds.UnterminatedString start end) (λ h. no_quote_byte 0 refl (sym (ap (λ w. slice_index w 0) e) ∙ h)) (unterminated y (contents_len q y) all ∙ same_err _ _ _ _ _ (sym s) more)

  open_escape : (start end : ℕ) (w : Text) (n : ℕ) → rest ≡ 92 ∷ w → escape w ≡ Err n → start + length rest ≡ length z → end ≡ start + 1 + n → Blame z (flaw_of kinds.InvalidStringEscape start end)
  open_escape start end w n e esc s d =
      let none : unit_len q rest ≡ 0 = ap (unit_len q) e ∙ ap escape_len esc in
      let r = read none in
      let here : slice_index y (contents_len q y) ≡ 92 = next none ∙ ap (λ x. slice_index x 0) e in
      let behind : drop (contents_len q y + 1) y ≡ w = sym (drop-drop 1 (contents_len q y) y) ∙ ap (drop 1) (r.left ∙ e) in
      let len : fault_len (escape (drop (contents_len q y + 1) y)) ≡ n = ap (λ x. fault_len (escape x)) behind ∙ ap fault_len esc in
      let first : contents_len q y + 1 ≡ start = omega (arith, r.sum, s, ap length is) in
      unclosed_at none (flaw_of kinds.InvalidStringEscape start end) (λ h. no_quote_byte 92 refl (sym (ap (λ x. slice_index x 0) e) ∙ h))
      (bad_escape y (contents_len q y) here ∙ same_err _ _ _ _ _ first (omega (arith, first, len, d)))

  open_line : (start end b : ℕ) (w : Text) → rest ≡ b ∷ w → (b == 10 || b == 0) ≡ true → start + length rest ≡ length z → end ≡ start + 1 → Blame z (flaw_of kinds.InvalidStringCharacters start end)
  open_line start end b w e ends_here s d = by (b == 10) refl where
    at_byte : (b == 92) ≡ false → is_quote b ≡ false → is_plain q b ≡ false → Blame z (flaw_of kinds.InvalidStringCharacters start end)
    at_byte slash no_quotes no_plain =
        let none : unit_len q rest ≡ 0 = ap (unit_len q) e ∙ rw (no_plain, slash) refl in
        let r = read none in
        let here : slice_index y (contents_len q y) ≡ b = next none ∙ ap (λ x. slice_index x 0) e in
        let within : contents_len q y < length y = omega (arith, r.sum, ap length e) in
        let first : contents_len q y + 1 ≡ start = omega (arith, r.sum, s, ap length is) in
        unclosed_at none (flaw_of kinds.InvalidStringCharacters start end) (λ h. no_quote_byte b no_quotes (sym (ap (λ x. slice_index x 0) e) ∙ h))
        (bad_character y (contents_len q y) within (λ h. eqb-false b 92 slash (sym here ∙ h)) ∙ same_err _ _ _ _ _ first (omega (arith, first, d)))

    plain_none : (k : ℕ) → (k == 10 || k == 0) ≡ true → is_plain q k ≡ false
    plain_none k h = rw (h, or_true (k == 92), or_true (k == q)) refl

    by : (v : Bool) → (b == 10) ≡ v → Blame z (flaw_of kinds.InvalidStringCharacters start end)
    by true h = at_byte (rw (eqb-true b 10 h) refl) (rw (eqb-true b 10 h) refl) (plain_none b ends_here)
    by false h = let nul : b ≡ 0 = eqb-true b 0 (rw h at ends_here) in at_byte (rw nul refl) (rw nul refl) (plain_none b ends_here)

comment_blame : (z y : Text) (k start end : ℕ) → z ≡ 47 ∷ 42 ∷ y → Unmarked y k → slice_index y k ≡ 47 → slice_index y (k + 1) ≡ 42 → start ≡ k + 2 → end ≡ k + 4 → Blame z (flaw_of kinds.NestedBlockComment start end)
comment_blame z y k start end is none slash star s e =
    let mark : is_comment_mark (slice_index y k) (slice_index y (k + 1)) ≡ true = ap (λ b. is_comment_mark b (slice_index y (k + 1))) slash ∙ ap (is_comment_mark 47) star in
    let len : comment_len y ≡ k = text_ends y k none (inl mark) in
    let here : slice_index y (comment_len y) ≡ 47 = ap (slice_index y) len ∙ slash in
    of_block y is (λ h. let wrong : 47 ≡ 42 = sym here ∙ h in omega (arith, wrong)) (same_flaw _ _ _ _ _ (omega (arith, s, len)) (omega (arith, e, len)) ∙ nested y here)

unended_blame : (z y : Text) (start end : ℕ) → z ≡ 47 ∷ 42 ∷ y → Unmarked y (length y) → start ≡ 0 → end ≡ length z → Blame z (flaw_of kinds.UnterminatedComment start end)
unended_blame z y start end is none s e =
    let len : comment_len y ≡ length y = text_ends y (length y) none (inr refl) in
    let past : length y ≤ comment_len y = omega (arith, len) in
    of_block y is (λ h. let wrong : 0 ≡ 42 = sym (get_or_past y (comment_len y) 0 past) ∙ h in omega (arith, wrong)) (same_flaw _ _ _ _ _ s (omega (arith, e, ap length is)) ∙ unended y past)

blame : (z : Text) (kind : LexErrorKind) (start end : ℕ) → IsFault z kind start end → Blame z (flaw_of kind start end)
blame z kinds.InvalidToken start end h = of_nothing (λ m. no_piece_none (take m z) (h.3 m)) h.2 (same_flaw _ _ _ _ _ h.0 h.1)
blame z kinds.NoSpaceBetweenIntAndIdent start end h = of_number h.0 h.1 (cut_of z (token (int h.0)) h.1 h.2) (inl h.3) (same_flaw _ _ _ _ _ h.4 h.5 ∙ rw h.3 refl)
blame z kinds.IntegerOutOfRange start end h = of_number h.0 h.1 (cut_of z (token (int h.0)) h.1 h.2) (inr h.4) (same_flaw _ _ _ _ _ h.5 h.6 ∙ rw h.3 refl)
blame z kinds.UnterminatedString start end h = open_end z h.0 h.1 h.2 h.3 h.4 h.5 start end h.6.0 h.6.1 h.6.2
blame z kinds.InvalidStringEscape start end h = open_escape z h.0 h.1 h.2 h.3 h.4 h.5 start end h.6.0 h.6.1 h.6.2 (no_escape_of h.6.0 h.6.1 h.6.3) h.6.4 h.6.5
blame z kinds.InvalidStringCharacters start end h = open_line z h.0 h.1 h.2 h.3 h.4 h.5 start end h.6.0 h.6.1 h.6.2 h.6.3 h.6.4 h.6.5
blame z kinds.NestedBlockComment start end h = comment_blame z h.0 h.2.0 start end h.1 h.2.1 h.2.2 h.2.3 h.2.4 h.2.5
blame z kinds.UnterminatedComment start end h = unended_blame z h.0 start end h.1 h.2.0 h.2.1 h.2.2
blame z kinds.HashCommentOutsideTextFormat start end h = absurd h
blame z kinds.FloatSuffixOutsideTextFormat start end h = absurd h

-- a text with a fault begins with no piece that is whole
blame_alone : (z : Text) (f : Flaw) (p : Piece) (n : ℕ) → Blame z f → IsCut z p n → IsAlone z p n → ⊥
blame_alone z f p n (of_nothing none quote is) l alone = no_piece p (sym (none n) ∙ l.is)
blame_alone z f p n (of_number i m k wrong is) l alone =
    let s = longest_one z p (token (int i)) n m l k in
    let a = subst (λ j. IsAlone z (token (int i)) j) s.0 (subst (λ x. IsAlone z x n) s.1 alone) in
    elim wrong [ inl letter ↦ (let e : true ≡ false = sym letter ∙ a.1 in absurd (cc)) | inr long ↦ omega (arith, a.0, long) ]
blame_alone z f p n (of_string q y e quote none is) l alone = none (string_closed q y p n quote (subst (λ x. IsCut x p n) e l)).2
blame_alone z f p n (of_block y e none is) l alone = elim (block_closed y p n (subst (λ x. IsCut x p n) e l)) [
  | inl slash ↦ (let a : true ≡ false = subst (λ x. IsAlone x (token (sign signs.ForwardSlash)) n) e (subst (λ x. IsAlone z x n) slash alone) in absurd (cc))
  | inr closed ↦ none closed.1
]

not_number : {P : Type 0} (z : Text) (i n : ℕ) → IsCut z (token (int i)) n → (q : ℕ) (y : Text) → z ≡ q ∷ y → is_quote q ≡ true → P
not_number z i n l q y e quote = absurd (let c = (string_closed q y (token (int i)) n quote (subst (λ x. IsCut x (token (int i)) n) e l)).1 in cc)

no_comment_number : {P : Type 0} (z : Text) (i n : ℕ) → IsCut z (token (int i)) n → (y : Text) → z ≡ 47 ∷ 42 ∷ y → P
no_comment_number z i n l y e = elim (block_closed y (token (int i)) n (subst (λ x. IsCut x (token (int i)) n) e l)) [ inl c ↦ absurd (cc) | inr c ↦ absurd (let d = c.0 in cc) ]

head : (q : ℕ) (x y : Text) (r : ℕ) → q ∷ x ≡ r ∷ y → (q ≡ r) × (x ≡ y)
head q x y r e = (cc, cc)

-- a text without a piece begins with no quote and no comment
no_quote : {P : Type 0} (z : Text) → is_quote (slice_index z 0) ≡ false → (q : ℕ) (y : Text) → z ≡ q ∷ y → is_quote q ≡ true → P
no_quote z none q y e quote = absurd (let wrong : false ≡ true = sym none ∙ ap (λ w. is_quote (slice_index w 0)) e ∙ quote in cc)

no_comment : {P : Type 0} (z : Text) → ((m : ℕ) → piece_of (take m z) ≡ None) → (y : Text) → z ≡ 47 ∷ 42 ∷ y → P
no_comment z none y e = no_piece (token (sign signs.ForwardSlash)) (sym (none 1) ∙ ap (λ w. piece_of (take 1 w)) e ∙ slash_piece (42 ∷ y))

no_slash : {P : Type 0} (z : Text) (q : ℕ) (x y : Text) → z ≡ q ∷ x → is_quote q ≡ true → z ≡ 47 ∷ 42 ∷ y → P
no_slash z q x y e quote f = absurd (let wrong : false ≡ true = ap is_quote (sym (head q x (42 ∷ y) 47 (sym e ∙ f)).0) ∙ quote in cc)

same_string : (f g : Flaw) (q r : ℕ) (x y : Text) → q ∷ x ≡ r ∷ y → unclosed x (contents_len q x) ≡ Err f → unclosed y (contents_len r y) ≡ Err g → f ≡ g
same_string f g q r x y e a b =
    let h = head q x y r e in
    let c : ◌≡◌ {A = Cut} (Err f) (Err g) = sym a ∙ ap (λ w. unclosed w (contents_len q w)) h.1 ∙ ap (λ k. unclosed y (contents_len k y)) h.0 ∙ b in
    cc

same_blame : (z : Text) (f g : Flaw) → Blame z f → Blame z g → f ≡ g
same_blame z f g (of_nothing none quote is) (of_nothing none' quote' is') = is ∙ sym is'
same_blame z f g (of_nothing none quote is) (of_number i n l wrong is') = no_piece (token (int i)) (sym (none n) ∙ l.is)
same_blame z f g (of_nothing none quote is) (of_string q y e quote' open' is') = no_quote z quote q y e quote'
same_blame z f g (of_nothing none quote is) (of_block y e open' is') = no_comment z none y e
same_blame z f g (of_number i n l wrong is) (of_nothing none quote is') = no_piece (token (int i)) (sym (none n) ∙ l.is)
same_blame z f g (of_number i n l wrong is) (of_number j m k wrong' is') = is ∙ ap (number_flaw z) (longest_one z (token (int i)) (token (int j)) n m l k).0 ∙ sym is'
same_blame z f g (of_number i n l wrong is) (of_string q y e quote open' is') = not_number z i n l q y e quote
same_blame z f g (of_number i n l wrong is) (of_block y e open' is') = no_comment_number z i n l y e
same_blame z f g (of_string q y e quote none is) (of_nothing none' quote' is') = no_quote z quote' q y e quote
same_blame z f g (of_string q y e quote none is) (of_number i n l wrong is') = not_number z i n l q y e quote
same_blame z f g (of_string q y e quote none is) (of_string r x d quote' none' is') = same_string f g q r y x (sym e ∙ d) is is'
same_blame z f g (of_string q y e quote none is) (of_block x d none' is') = no_slash z q y x e quote d
same_blame z f g (of_block y e none is) (of_nothing none' quote is') = no_comment z none' y e
same_blame z f g (of_block y e none is) (of_number i n l wrong is') = no_comment_number z i n l y e
same_blame z f g (of_block y e none is) (of_string q x d quote none' is') = no_slash z q x y d quote e
same_blame z f g (of_block y e none is) (of_block x d none' is') = is ∙ ap (λ w. block_flaw (drop 2 w)) (sym e ∙ d) ∙ sym is'

-- ---- readings

one_longest : (z : Text) (p q : Piece) (n m : ℕ) → IsLongest z p n → IsLongest z q m → (n ≡ m) × (p ≡ q)
one_longest z p q n m a b = longest_one z p q n m (cut_of z p n a) (cut_of z q m b)

fault_alone : (z : Text) (kind : LexErrorKind) (start end : ℕ) (p : Piece) (n : ℕ) → IsFault z kind start end → IsLongest z p n → IsAlone z p n → ⊥
fault_alone z kind start end p n h l alone = blame_alone z (flaw_of kind start end) p n (blame z kind start end h) (cut_of z p n l) alone

nothing : {P : Type 0} (p : Piece) (n : ℕ) → IsLongest [] p n → P
nothing p n l = let c = cut_of [] p n l in absurd (omega (arith, c.moves, c.within))

abbrev Later : ℕ → Text → ℕ → List Lexeme → Type 0
Later at z n ts = (vs : List Lexeme) → Lexes (at + n) (drop n z) vs → ts ≡ vs

at_same : (at : ℕ) (z : Text) (n m : ℕ) (us : List Lexeme) → n ≡ m → Lexes (at + m) (drop m z) us → Lexes (at + n) (drop n z) us
at_same at z n m us e r = subst (λ k. Lexes (at + k) (drop k z) us) (sym e) r

apart : {P : Type 0} (t : Token) → gap ≡ token t → P
apart t e = absurd (cc)

token_is : (t u : Token) → token t ≡ token u → t ≡ u
token_is t u e = cc

after_gap : (at : ℕ) (z : Text) (ts us : List Lexeme) (n : ℕ) → IsLongest z gap n → Later at z n ts → Lexes at z us → ts ≡ us
after_gap at z ts us n l later ends = nothing gap n l
after_gap at z ts us n l later (passes m k r) = later us (at_same at z n m us (one_longest z gap gap n m l k).0 r)
after_gap at z ts (u ∷ us) n l later (takes t m k a r) = apart t (one_longest z gap (token t) n m l k).1
after_gap at z ts (u ∷ us) n l later (stops kind start end some h) = absurd (fault_alone z kind start end gap n h l tt)

after_token : (at : ℕ) (z : Text) (ts us : List Lexeme) (t : Token) (n : ℕ) → IsLongest z (token t) n → IsAlone z (token t) n → Later at z n ts → Lexes at z us → token_at at (at + n) t ∷ ts ≡ us
after_token at z ts us t n l a later ends = nothing (token t) n l
after_token at z ts us t n l a later (passes m k r) = apart t (sym (one_longest z (token t) gap n m l k).1)
after_token at z ts (v ∷ us) t n l a later (takes u m k b r) =
    let s = one_longest z (token t) (token u) n m l k in
    ap (λ x. token_at at (at + n) x ∷ ts) (token_is t u s.1) ∙ ap (λ j. token_at at (at + j) u ∷ ts) s.0 ∙ ap (λ xs. token_at at (at + m) u ∷ xs) (later us (at_same at z n m us s.0 r))
after_token at z ts (v ∷ us) t n l a later (stops kind start end some h) = absurd (fault_alone z kind start end (token t) n h l a)

after_fault : (at : ℕ) (z : Text) (us : List Lexeme) (kind : LexErrorKind) (start end : ℕ) → 0 < length z → IsFault z kind start end → Lexes at z us → fault_at kind (at + start) (at + end) ∷ [] ≡ us
after_fault at z us kind start end some h ends = absurd (omega (arith, some))
after_fault at z us kind start end some h (passes m k r) = absurd (fault_alone z kind start end gap m h k tt)
after_fault at z (u ∷ us) kind start end some h (takes t m k b r) = absurd (fault_alone z kind start end (token t) m h k b)
after_fault at z (u ∷ us) kind start end some h (stops kind' start' end' more i) =
    ap (λ f. fault_at f.kind (at + f.start) (at + f.end) ∷ []) (same_blame z (flaw_of kind start end) (flaw_of kind' start' end') (blame z kind start end h) (blame z kind' start' end' i))

pub one_list : (at : ℕ) (z : Text) (ts us : List Lexeme) → Lexes at z ts → Lexes at z us → ts ≡ us
one_list at [] [] us ends b = at_end at us b where
  at_end : (at : ℕ) (us : List Lexeme) → Lexes at [] us → [] ≡ us
  at_end at us ends = refl
  at_end at us (passes n l r) = nothing gap n l
  at_end at us (takes t n l a r) = nothing (token t) n l
  at_end at us (stops kind start end some h) = absurd (omega (arith, some))
one_list at z ts us (passes n l r) b = after_gap at z ts us n l (λ vs s. one_list (at + n) (drop n z) ts vs r s) b
one_list at z (t' ∷ ts) us (takes t n l a r) b = after_token at z ts us t n l a (λ vs s. one_list (at + n) (drop n z) ts vs r s) b
one_list at z (t' ∷ ts) us (stops kind start end some h) b = after_fault at z us kind start end some h b
