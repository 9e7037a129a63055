-- The faults that are found are the faults of the definition.
use Rattle.std.proofs.Common.{◌≡◌, ◌≢◌, ℕ, suc, ◌+◌, ◌≤◌, ◌<◌, Bool, true, false, eqb, ◌||◌, Some, None, ◌∷◌, take, drop, get_or, length, Ok, Err, ap, sym, ◌∙◌, arith, refl, length-drop, drop-cons}
use Rattle.std.specs.Prelude.{slice_index, ◌==◌}
use Rattle.std.proofs.lemmas.Bool.{eqb-true, ne_eqb}
use Rattle.std.proofs.Math.ListN.{drop_of_length-le}
use Rattle.protox_lex.specs.declared.error.LexErrorKind.{LexErrorKind}
use Rattle.protox_lex.specs.declared.error.LexErrorKind.TheVariants as kinds
use Rattle.protox_lex.specs.Class.{Text}
use Rattle.protox_lex.specs.Token.{int, token}
use Rattle.protox_lex.specs.Lex.{Escaped, escape, escape_len, fault_len, unit_len, contents_len, is_comment_mark, comment_len}
use Rattle.protox_lex.specs.Longest.{IsFault}
use Rattle.protox_lex.proofs.Pieces.{IsFlaw}
use Rattle.protox_lex.proofs.Numbers.{within_text}
use Rattle.protox_lex.proofs.CommentCuts.{comment_mark}
use Rattle.protox_lex.proofs.CommentSpelling.{text_unmarked}
use Rattle.protox_lex.proofs.EscapeForms.{no_escape_spelled}
use Rattle.protox_lex.proofs.StringSpelling.{contents_spelled}
use Rattle.protox_lex.proofs.PieceSpelling.{piece_text, longest_of}

no_escape : (o : Escaped) → escape_len o ≡ 0 → o ≡ Err (fault_len o)
no_escape (Ok e) none = absurd (omega (arith, none))
no_escape (Err n) none = refl

-- a byte that is neither plain nor a backslash nor the quote ends the line or is NUL
ends_line : (q b : ℕ) (w : Text) → b ≢ q → b ≢ 92 → unit_len q (b ∷ w) ≡ 0 → (b == 10 || b == 0) ≡ true
ends_line q b w other slash none = by (b == 10 || b == 0) refl where
  by : (v : Bool) → (b == 10 || b == 0) ≡ v → (b == 10 || b == 0) ≡ true
  by true h = h
  by false h = absurd (let f : 1 ≡ 0 = rw (h, ne_eqb b 92 slash, ne_eqb b q other) at none in omega (arith, f))

after_slash : (b c : ℕ) → is_comment_mark b c ≡ true → b ≡ 47 → c ≡ 42
after_slash b c mark e = by (eqb c 42) refl (rw e at mark) where
  by : (v : Bool) → eqb c 42 ≡ v → is_comment_mark 47 c ≡ true → c ≡ 42
  by true f mark = eqb-true c 42 f
  by false f mark = absurd (let g = rw f at mark in cc)

-- what is left from a place on begins with the byte there
rest_is : (y : Text) (n : ℕ) → n < length y → drop n y ≡ slice_index y n ∷ drop (n + 1) y
rest_is y n lt = let one : suc n ≡ n + 1 = omega arith in drop-cons y n 0 lt ∙ ap (λ k. slice_index y n ∷ drop k y) one

place : (y z : Text) (q n start : ℕ) → z ≡ q ∷ y → n ≤ length y → start ≡ n + 1 → start + length (drop n y) ≡ length z
place y z q n start e le s = omega (arith, ap length e, length-drop n y)

pub fault_of : (z : Text) (kind : LexErrorKind) (start end : ℕ) → IsFlaw z kind start end → IsFault z kind start end
fault_of z kinds.InvalidToken start end h = (h.0, h.1, h.2, λ m p i. absurd (let wrong : None ≡ Some p = sym (h.3 m) ∙ piece_text (take m z) p i in cc))
fault_of z kinds.NoSpaceBetweenIntAndIdent start end h = (h.0, h.1, longest_of z (token (int h.0)) h.1 h.2, h.3, h.4, h.5)
fault_of z kinds.IntegerOutOfRange start end h = (h.0, h.1, longest_of z (token (int h.0)) h.1 h.2, h.3, h.4, h.5, h.6)
fault_of z kinds.UnterminatedString start end h = (h.0, h.1, drop (contents_len h.0 h.1) h.1, h.2, h.3, (contents_spelled h.0 h.1).contents, (drop_of_length-le h.1 h.4.0, h.4.1, h.4.2))
fault_of z kinds.InvalidStringEscape start end h =
    let n = contents_len h.0 h.1 in
    let w = drop (n + 1) h.1 in
    let lt : n < length h.1 = within_text h.1 n 91 h.4.0 in
    let rest : drop n h.1 ≡ 92 ∷ w = rest_is h.1 n lt ∙ ap (λ b. b ∷ w) h.4.0 in
    let none : escape_len (escape w) ≡ 0 = sym (ap (unit_len h.0) rest) ∙ (contents_spelled h.0 h.1).none in
    (h.0, h.1, drop n h.1, h.2, h.3, (contents_spelled h.0 h.1).contents, (w, fault_len (escape w), rest, no_escape_spelled w (fault_len (escape w)) (no_escape (escape w) none), place h.1 z h.0 n start h.2 (omega arith) h.4.1, omega (arith, h.4.1, h.4.2)))
fault_of z kinds.InvalidStringCharacters start end h =
    let n = contents_len h.0 h.1 in
    let w = drop (n + 1) h.1 in
    let rest : drop n h.1 ≡ slice_index h.1 n ∷ w = rest_is h.1 n h.4.0 in
    let none : unit_len h.0 (slice_index h.1 n ∷ w) ≡ 0 = sym (ap (unit_len h.0) rest) ∙ (contents_spelled h.0 h.1).none in
    (h.0, h.1, drop n h.1, h.2, h.3, (contents_spelled h.0 h.1).contents, (slice_index h.1 n, w, rest, ends_line h.0 (slice_index h.1 n) w h.5 h.4.1 none, place h.1 z h.0 n start h.2 (omega (arith, h.4.0)) h.4.2, omega (arith, h.4.2, h.4.3)))
fault_of z kinds.NestedBlockComment start end h =
    let n = comment_len h.0 in
    let one : suc n ≡ n + 1 = omega arith in
    let star : slice_index h.0 (n + 1) ≡ 42 = ap (λ k. get_or h.0 k 0) (sym one) ∙ after_slash (slice_index h.0 n) (get_or h.0 (suc n) 0) (comment_mark h.0 (within_text h.0 n 46 h.2.0)) h.2.0 in
    (h.0, h.1, (n, text_unmarked h.0, h.2.0, star, h.2.1, h.2.2))
fault_of z kinds.UnterminatedComment start end h = (h.0, h.1, ((λ j lt. text_unmarked h.0 j (omega (arith, lt, h.2.0))), h.2.1, h.2.2))
fault_of z kinds.HashCommentOutsideTextFormat start end h = h
fault_of z kinds.FloatSuffixOutsideTextFormat start end h = h
