-- A text is a block comment exactly where it is spelled as one.
use Rattle.std.proofs.Common.{◌≡◌, ℕ, zero, suc, ◌+◌, ◌<◌, Bool, true, false, eqb, [], ◌∷◌, ◌++◌, take, get_or, length, ap, sym, ◌∙◌, arith, refl, length-take, length-append, append_assoc, ◌⊎◌, inl, inr}
use Rattle.std.specs.Prelude.{slice_index}
use Rattle.std.proofs.lemmas.Bool.{eqb-true, and_parts}
use Rattle.std.proofs.lemmas.List.{get_or-append-add, take_more}
use Rattle.std.proofs.Math.Seq.{get_or-append_seam, take-length}
use Rattle.protox_lex.specs.Class.{Text}
use Rattle.protox_lex.specs.Lex.{is_comment_mark, comment_len}
use Rattle.protox_lex.specs.Spelled.{Unmarked, IsBlock}
use Rattle.protox_lex.proofs.Pieces.{is_block}
use Rattle.protox_lex.proofs.CommentCuts.{comment_mark, after_star, block_is}

abbrev mark_at : Text → ℕ → Bool
mark_at y j = is_comment_mark (slice_index y j) (slice_index y (j + 1))

-- the place of one more byte
mark_more : (b : ℕ) (y : Text) (j : ℕ) → mark_at (b ∷ y) (suc j) ≡ mark_at y j
mark_more b y j = let e : suc j + 1 ≡ suc (j + 1) = omega arith in ap (λ k. is_comment_mark (get_or y j 0) (get_or (b ∷ y) k 0)) e

unmarked_step : (b : ℕ) (y : Text) (v : Bool) → is_comment_mark b (slice_index y 0) ≡ v → Unmarked y (comment_len y) → (j : ℕ) → j < comment_len (b ∷ y) → mark_at (b ∷ y) j ≡ false
unmarked_step b y true mark rest j lt = let none : j < 0 = rw mark at lt in absurd (omega arith)
unmarked_step b y false mark rest zero lt = mark
unmarked_step b y false mark rest (suc j) lt = let less : suc j < suc (comment_len y) = rw mark at lt in mark_more b y j ∙ rest j (omega arith)

pub text_unmarked : (y : Text) → Unmarked y (comment_len y)
text_unmarked [] j lt = absurd (omega arith)
text_unmarked (b ∷ y) j lt = unmarked_step b y (is_comment_mark b (slice_index y 0)) refl (text_unmarked y) j lt

-- the text of a comment ends at the first mark
pub text_ends : (y : Text) (k : ℕ) → Unmarked y k → (mark_at y k ≡ true) ⊎ (k ≡ length y) → comment_len y ≡ k
text_ends [] zero none end = refl
text_ends [] (suc k) none (inl mark) = absurd (let wrong : false ≡ true = mark in cc)
text_ends [] (suc k) none (inr e) = absurd (omega (arith, e))
text_ends (b ∷ y) zero none (inl mark) = let m : is_comment_mark b (slice_index y 0) ≡ true = mark in rw m refl
text_ends (b ∷ y) zero none (inr e) = absurd (omega (arith, e))
text_ends (b ∷ y) (suc k) none end = let first : is_comment_mark b (slice_index y 0) ≡ false = none 0 (omega arith) in rw first (ap suc (text_ends y k less (more end))) where
  less : Unmarked y k
  less j lt = sym (mark_more b y j) ∙ none (suc j) (omega arith)

  more : (mark_at (b ∷ y) (suc k) ≡ true) ⊎ (suc k ≡ length (b ∷ y)) → (mark_at y k ≡ true) ⊎ (k ≡ length y)
  more (inl mark) = inl (sym (mark_more b y k) ∙ mark)
  more (inr e) = inr (omega (arith, e))

pub block_text : (y : Text) → IsBlock y → is_block y ≡ true
block_text y (s, shape, none) = block_is y (length s) (text_ends y (length s) none (inl mark)) long star where
  long : length y ≡ suc (suc (length s))
  long = omega (arith, ap length shape, length-append s (42 ∷ 47 ∷ []))

  star : get_or y (length s) 0 ≡ 42
  star = ap (λ w. get_or w (length s) 0) shape ∙ get_or-append_seam s 42 (47 ∷ []) 0

  slash : get_or y (length s + 1) 0 ≡ 47
  slash = ap (λ w. get_or w (length s + 1) 0) shape ∙ get_or-append-add s (42 ∷ 47 ∷ []) 1 0

  mark : mark_at y (length s) ≡ true
  mark = ap (λ b. is_comment_mark b (get_or y (length s + 1) 0)) star ∙ ap (is_comment_mark 42) slash

last_two : (y : Text) (n : ℕ) → n + 2 ≡ length y → y ≡ take n y ++ (slice_index y n ∷ slice_index y (n + 1) ∷ [])
last_two y n e =
    let more : n + 1 + 1 ≡ length y = omega arith in
    sym (ap (λ k. take k y) more ∙ take-length y) ∙ take_more y (n + 1) 0 (omega arith) ∙ ap (λ w. w ++ (slice_index y (n + 1) ∷ [])) (take_more y n 0 (omega arith)) ∙ append_assoc (take n y) (slice_index y n ∷ []) (slice_index y (n + 1) ∷ [])

pub block_spelled : (y : Text) → is_block y ≡ true → IsBlock y
block_spelled y is = (take (comment_len y) y, shape, λ j lt. text_unmarked y j (omega (arith, lt, length-take (comment_len y) y))) where
  both : (eqb (comment_len y + 2) (length y) ≡ true) × (eqb (slice_index y (comment_len y)) 42 ≡ true)
  both = and_parts (eqb (comment_len y + 2) (length y)) (eqb (slice_index y (comment_len y)) 42) is

  long : comment_len y + 2 ≡ length y
  long = eqb-true (comment_len y + 2) (length y) both.0

  star : slice_index y (comment_len y) ≡ 42
  star = eqb-true _ 42 both.1

  slash : slice_index y (comment_len y + 1) ≡ 47
  slash =
      let place : suc (comment_len y) ≡ comment_len y + 1 = omega arith in
      ap (λ k. get_or y k 0) (sym place) ∙ after_star (get_or y (comment_len y) 0) (get_or y (suc (comment_len y)) 0) (comment_mark y (omega (arith, long))) star

  shape : y ≡ take (comment_len y) y ++ (42 ∷ 47 ∷ [])
  shape = last_two y (comment_len y) long ∙ ap (λ b. take (comment_len y) y ++ (b ∷ slice_index y (comment_len y + 1) ∷ [])) star ∙ ap (λ b. take (comment_len y) y ++ (42 ∷ b ∷ [])) slash
