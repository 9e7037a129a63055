-- The turns of a lexer.
use Rattle.std.proofs.Common.{◌≡◌, ℕ, zero, suc, ◌+◌, ◌-◌, ◌≤◌, ◌<◌, Bool, true, false, [], ◌∷◌, drop, length, Ok, Err, ap, sym, ◌∙◌, arith, refl, length-drop, drop-cons}
use Rattle.std.specs.Prelude.{IsCharBoundary, slice_index, ◌==◌, nat_lt}
use Rattle.std.specs.List.{prefix_len}
use Rattle.std.proofs.lemmas.Bool.{eqb-true, ltb-true}
use Rattle.std.proofs.lemmas.List.{drop-drop}
use Rattle.std.proofs.lemmas.List.Sums.{prefix_len-le-length}
use Rattle.protox_lex.specs.Class.{Text, is_in, past}
use Rattle.protox_lex.specs.Lex as source_lex
use Rattle.protox_lex.specs.declared.class.Class.TheVariants as class
use Rattle.text_lex.specs.declared.lexer.LexError.{LexError}
use Rattle.text_lex.specs.declared.lexer.LexError.TheVariants as errors
use Rattle.text_lex.proofs.Boundaries.{no_boundary, invalid_front}
use Rattle.text_lex.specs.Token.{Token, gap, token, token_at, fault}
use Rattle.text_lex.specs.Lex.{front, emit, lexemes_from}

-- what is left of a piece is passed over
passed : (at left : ℕ) (z : Text) → left ≤ length z → lexemes_from at left z ≡ lexemes_from (at + left) 0 (drop left z)
unfolding lexemes_from
passed at zero z h = let e : at + 0 ≡ at = omega arith in rw e
passed at (suc left) [] h = refl
passed at (suc left) (b ∷ z) h = let e : at + suc left ≡ (at + 1) + left = omega arith in rw e (passed (at + 1) left z (omega arith))

-- the text after a piece
after : (at n b : ℕ) (y : Text) → 1 ≤ n → n ≤ length (b ∷ y) → lexemes_from (at + 1) (n - 1) y ≡ lexemes_from (at + n) 0 (drop n (b ∷ y))
after at zero b y h le = absurd (omega arith)
after at (suc n) b y h le =
    let k : suc n - 1 ≡ n = omega arith in
    let m : at + suc n ≡ (at + 1) + n = omega arith in
    rw (k, m) (passed (at + 1) n y (omega arith))

pub on_gap : (at n b : ℕ) (y : Text) → front at (b ∷ y) ≡ Ok (gap, n) → 1 ≤ n → n ≤ length (b ∷ y) → lexemes_from at 0 (b ∷ y) ≡ lexemes_from (at + n) 0 (drop n (b ∷ y))
unfolding lexemes_from
on_gap at n b y e h le = ap (λ r. emit at r (λ n. lexemes_from (at + 1) (n - 1) y)) e ∙ after at n b y h le

pub on_token : (at n b : ℕ) (t : Token) (y : Text) → front at (b ∷ y) ≡ Ok (token t, n) → 1 ≤ n → n ≤ length (b ∷ y) → lexemes_from at 0 (b ∷ y) ≡ token_at at (at + n) t ∷ lexemes_from (at + n) 0 (drop n (b ∷ y))
unfolding lexemes_from
on_token at n b t y e h le = ap (λ r. emit at r (λ n. lexemes_from (at + 1) (n - 1) y)) e ∙ ap (λ ts. token_at at (at + n) t ∷ ts) (after at n b y h le)

pub on_fault : (at b : ℕ) (e : LexError) (y : Text) → front at (b ∷ y) ≡ Err e → lexemes_from at 0 (b ∷ y) ≡ fault e ∷ []
unfolding lexemes_from
on_fault at b e y h = ap (λ r. emit at r (λ n. lexemes_from (at + 1) (n - 1) y)) h

pub at_end : (at : ℕ) (z : Text) → length z ≡ 0 → lexemes_from at 0 z ≡ []
unfolding lexemes_from
at_end at [] h = refl
at_end at (b ∷ z) h = absurd (omega arith)

-- ---- gaps, a byte or a comment at a time

blank_front : (at b : ℕ) (y : Text) → is_in class.Blank b ≡ true → front at (b ∷ y) ≡ Ok (gap, past class.Blank (b ∷ y) 1)
unfolding front source_lex.front
blank_front at b y blank = rw (no_slash, no_hash, blank) refl where
  no_slash : (b == 47) ≡ false
  no_slash = grind arith

  no_hash : (b == 35) ≡ false
  no_hash = grind arith

after_blank : (at b : ℕ) (y : Text) → is_in class.Blank b ≡ true → lexemes_from at 0 (b ∷ y) ≡ lexemes_from (at + 1 + prefix_len (is_in class.Blank) y) 0 (drop (prefix_len (is_in class.Blank) y) y)
after_blank at b y blank =
    let k = prefix_len (is_in class.Blank) y in
    let e : 1 + k ≡ suc k = omega arith in
    let f : at + suc k ≡ at + 1 + k = omega arith in
    rw f at (on_gap at (suc k) b y (rw e at (blank_front at b y blank)) (omega arith) (omega (arith, prefix_len-le-length (is_in class.Blank) y)))

blanks : (at : ℕ) (z : Text) → lexemes_from at 0 z ≡ lexemes_from (at + prefix_len (is_in class.Blank) z) 0 (drop (prefix_len (is_in class.Blank) z) z)
blanks at [] = let e : at + 0 ≡ at = omega arith in rw e refl
blanks at (b ∷ y) = by (is_in class.Blank b) refl where
  by : (v : Bool) → is_in class.Blank b ≡ v → lexemes_from at 0 (b ∷ y) ≡ lexemes_from (at + prefix_len (is_in class.Blank) (b ∷ y)) 0 (drop (prefix_len (is_in class.Blank) (b ∷ y)) (b ∷ y))
  by true blank =
      let k = prefix_len (is_in class.Blank) y in
      let e : 1 + k ≡ suc k = omega arith in
      let f : at + suc k ≡ at + 1 + k = omega arith in
      rw (blank, e, f) (after_blank at b y blank)
  by false none = let e : at + 0 ≡ at = omega arith in rw (none, e) refl

pub on_blank : (at b : ℕ) (y : Text) → is_in class.Blank b ≡ true → lexemes_from at 0 (b ∷ y) ≡ lexemes_from (at + 1) 0 y
on_blank at b y blank = after_blank at b y blank ∙ sym (blanks (at + 1) y)

-- the byte behind a run of a line's bytes ends the line
line_ends : (y : Text) → prefix_len (is_in class.Line) y < length y → drop (prefix_len (is_in class.Line) y) y ≡ 10 ∷ drop (prefix_len (is_in class.Line) y + 1) y
line_ends [] lt = absurd (omega arith)
line_ends (b ∷ y) lt = by (b == 10) refl (line_ends y) where
  by : (v : Bool) → (b == 10) ≡ v → (prefix_len (is_in class.Line) y < length y → drop (prefix_len (is_in class.Line) y) y ≡ 10 ∷ drop (prefix_len (is_in class.Line) y + 1) y)
      → drop (prefix_len (is_in class.Line) (b ∷ y)) (b ∷ y) ≡ 10 ∷ drop (prefix_len (is_in class.Line) (b ∷ y) + 1) (b ∷ y)
  by true e rest = rw e (ap (λ k. k ∷ y) (eqb-true b 10 e))
  by false e rest =
      let k = prefix_len (is_in class.Line) y in
      let f : 1 + k ≡ suc k = omega arith in
      let g : suc k + 1 ≡ suc (k + 1) = omega arith in
      let h : 1 + k < suc (length y) = rw e at lt in
      rw (e, f, g) (rest (omega arith))

hash_front : (at : ℕ) (y : Text) → front at (35 ∷ y) ≡ Ok (gap, source_lex.past_line (35 ∷ y))
unfolding front
hash_front at y = refl

-- a comment may be passed over without the end of its line, which is white space
module _ (at : ℕ) (y : Text) where
  abbrev k : ℕ
  k = prefix_len (is_in class.Line) y

  pub on_comment : lexemes_from at 0 (35 ∷ y) ≡ lexemes_from (at + 1 + k) 0 (drop k y)
  on_comment = by (nat_lt (1 + k) (length (35 ∷ y))) refl where
    by : (v : Bool) → nat_lt (1 + k) (length (35 ∷ y)) ≡ v → lexemes_from at 0 (35 ∷ y) ≡ lexemes_from (at + 1 + k) 0 (drop k y)
    by true lt =
        let n : source_lex.past_line (35 ∷ y) ≡ suc (k + 1) = rw lt (omega arith) in
        let f : at + suc (k + 1) ≡ (at + 1 + k) + 1 = omega arith in
        (rw f at (on_gap at (suc (k + 1)) 35 y (hash_front at y ∙ ap (λ m. Ok (gap, m)) n) (omega arith) (omega (arith, ltb-true _ _ lt))))
        ∙ sym (ap (lexemes_from (at + 1 + k) 0) (line_ends y (omega (arith, ltb-true _ _ lt))) ∙ on_blank (at + 1 + k) 10 (drop (k + 1) y) refl)
    by false le =
        let n : source_lex.past_line (35 ∷ y) ≡ suc k = rw le (omega arith) in
        let f : at + suc k ≡ at + 1 + k = omega arith in
        rw f at (on_gap at (suc k) 35 y (hash_front at y ∙ ap (λ m. Ok (gap, m)) n) (omega arith) (omega (arith, prefix_len-le-length (is_in class.Line) y)))

-- ---- the same of what is left of a text

here : (at : ℕ) (s : Text) → at < length s → drop at s ≡ slice_index s at ∷ drop (at + 1) s
here at s lt = let one : suc at ≡ at + 1 = omega arith in drop-cons s at 0 lt ∙ ap (λ k. slice_index s at ∷ drop k s) one

pub blank_here : (at : ℕ) (s : Text) → at < length s → is_in class.Blank (slice_index s at) ≡ true → lexemes_from at 0 (drop at s) ≡ lexemes_from (at + 1) 0 (drop (at + 1) s)
blank_here at s lt blank = ap (lexemes_from at 0) (here at s lt) ∙ on_blank at (slice_index s at) (drop (at + 1) s) blank

pub comment_here : (at : ℕ) (s : Text) → at < length s → slice_index s at ≡ 35 → lexemes_from at 0 (drop at s) ≡ lexemes_from (past class.Line s (at + 1)) 0 (drop (past class.Line s (at + 1)) s)
comment_here at s lt hash =
    let k = prefix_len (is_in class.Line) (drop (at + 1) s) in
    ap (lexemes_from at 0) (here at s lt) ∙ ap (λ b. lexemes_from at 0 (b ∷ drop (at + 1) s)) hash ∙ on_comment at (drop (at + 1) s) ∙ ap (lexemes_from (at + 1 + k) 0) (drop-drop k (at + 1) s)

pub token_here : (at n : ℕ) (t : Token) (s : Text) → at < length s → front at (drop at s) ≡ Ok (token t, n) → 1 ≤ n → n ≤ length (drop at s)
    → lexemes_from at 0 (drop at s) ≡ token_at at (at + n) t ∷ lexemes_from (at + n) 0 (drop (at + n) s)
token_here at n t s lt e h le =
    let w = here at s lt in
    ap (lexemes_from at 0) w ∙ on_token at n (slice_index s at) t (drop (at + 1) s) (rw w at e) h (rw w at le) ∙ ap (λ v. token_at at (at + n) t ∷ lexemes_from (at + n) 0 (drop n v)) (sym w)
    ∙ ap (λ v. token_at at (at + n) t ∷ lexemes_from (at + n) 0 v) (drop-drop n at s)

pub fault_here : (at : ℕ) (f : LexError) (s : Text) → at < length s → front at (drop at s) ≡ Err f → lexemes_from at 0 (drop at s) ≡ fault f ∷ []
fault_here at f s lt e = let w = here at s lt in ap (lexemes_from at 0) w ∙ on_fault at (slice_index s at) f (drop (at + 1) s) (rw w at e)

pub end_here : (at : ℕ) (s : Text) → length s ≤ at → lexemes_from at 0 (drop at s) ≡ []
end_here at s le = at_end at (drop at s) (omega (arith, length-drop at s))

pub invalid_here : (at : ℕ) (s : Text) → at < length s → (IsCharBoundary s at → ⊥) → lexemes_from at 0 (drop at s) ≡ fault (errors.InvalidToken (record { start = at; end = at + 1 })) ∷ []
invalid_here at s lt none =
    let b = no_boundary s at lt none in
    let w = here at s lt in
    let start : at + 0 ≡ at = omega arith in
    ap (lexemes_from at 0) w ∙ rw start at (on_fault at (slice_index s at) _ (drop (at + 1) s) (invalid_front at (slice_index s at) (drop (at + 1) s) b.0 b.1))
