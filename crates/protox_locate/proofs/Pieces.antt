-- The pieces of a gap, one by one.
use Rattle.std.proofs.Common.{◌≡◌, ℕ, zero, suc, ◌+◌, ◌-◌, ◌<◌, ◌≤◌, [], ◌∷◌, drop, take, length, ap, sym, ◌∙◌, arith, refl, length-drop}
use Rattle.std.specs.Prelude.{min}
use Rattle.std.specs.List.{position_or_len}
use Rattle.std.proofs.lemmas.List.{drop-drop, take_min, take_rest}
use Rattle.std.proofs.Math.ListN.{drop_of_length-le}
use Rattle.std.proofs.Math.Seq.{drop-nil}
use Rattle.protox_lex.specs.Class.{Text}
use Rattle.protox_locate.specs.Gap.{Piece, Read, before_close, is_feed, line_comment, block_comment, mark_of, piece_of, pieces, pieces_behind, read, read_all, size_of}
use Rattle.protox_locate.specs.declared.gap.Mark.{Mark}
use Rattle.protox_locate.specs.declared.gap.Mark.TheVariants as marks

skips : (n : ℕ) (z : Text) → pieces_behind n z ≡ pieces_behind 0 (drop n z)
unfolding pieces_behind
skips zero z = refl
skips (suc n) [] = refl
skips (suc n) (b ∷ z) = skips n z

some_size : (m : Mark) (z : Text) → 1 ≤ size_of m z
some_size marks.Line z = omega arith
some_size marks.Block z = omega arith
some_size marks.Feed z = omega arith
some_size marks.Other z = omega arith

behind : (n b : ℕ) (z : Text) → 1 ≤ n → pieces_behind (n - 1) z ≡ pieces_behind 0 (drop n (b ∷ z))
behind zero b z le = absurd (omega (arith, le))
behind (suc n) b z le = let e : suc n - 1 ≡ n = omega arith in ap (λ k. pieces_behind k z) e ∙ skips n z

front : (z : Text) → 0 < length z → pieces z ≡ piece_of (mark_of z) z ∷ pieces (drop (size_of (mark_of z) z) z)
unfolding pieces_behind
front [] lt = absurd (omega (arith, lt))
front (b ∷ z) lt = ap (λ ps. piece_of (mark_of (b ∷ z)) (b ∷ z) ∷ ps) (behind (size_of (mark_of (b ∷ z)) (b ∷ z)) b z (some_size (mark_of (b ∷ z)) (b ∷ z)))

-- One piece is read, and what is behind it is left.
pub read_on : (r s : Read) (z : Text) (at end : ℕ) (m : Mark) (p : Piece) → at < length z → m ≡ mark_of (take (length z - at) (drop at z)) → p ≡ piece_of m (drop at z)
    → s ≡ read r p → drop end z ≡ drop (at + size_of m (drop at z)) z → read_all s (pieces (drop end z)) ≡ read_all r (pieces (drop at z))
read_on r s z at end m p lt is cut was to =
    let known : m ≡ mark_of (drop at z) = is ∙ ap mark_of (take_rest z at) in
    let long : 0 < length (drop at z) = omega (arith, length-drop at z) in
    let left : pieces (drop at z) ≡ p ∷ pieces (drop end z) =
    front (drop at z) long ∙ ap (λ n. piece_of n (drop at z) ∷ pieces (drop (size_of n (drop at z)) (drop at z))) (sym known)
    ∙ ap (λ q. q ∷ pieces (drop (size_of m (drop at z)) (drop at z))) (sym cut)
    ∙ ap (λ y. p ∷ pieces y) (drop-drop (size_of m (drop at z)) at z ∙ sym to) in
    ap (λ q. read_all q (pieces (drop end z))) was ∙ ap (read_all r) (sym left)

-- ---- texts of comments

-- bytes up to a place that is not behind the end
pub take_to : (z : Text) (at end k : ℕ) → end ≡ min (length z) (at + k) → take (end - at) (drop at z) ≡ take k (drop at z)
take_to z at end k to =
    let n : end - at ≡ min k (length (drop at z)) = omega (arith, to, length-drop at z) in
    ap (λ m. take m (drop at z)) n ∙ take_min k (drop at z)

drop_min : (n : ℕ) (z : Text) → drop (min n (length z)) z ≡ drop n z
drop_min n [] = drop-nil _ ∙ sym (drop-nil n)
drop_min zero (b ∷ z) = let e : min 0 (length (b ∷ z)) ≡ 0 = omega arith in ap (λ k. drop k (b ∷ z)) e
drop_min (suc n) (b ∷ z) = let e : min (suc n) (length (b ∷ z)) ≡ suc (min n (length z)) = omega arith in ap (λ k. drop k (b ∷ z)) e ∙ drop_min n z

drop_to : (z : Text) (end n : ℕ) → end ≡ min (length z) n → drop end z ≡ drop n z
drop_to z end n to = let e : end ≡ min n (length z) = omega (arith, to) in ap (λ k. drop k z) e ∙ drop_min n z

module _ (r s : Read) (z : Text) (at : ℕ) (lt : at < length z) where
  pub line_on : (end feed : ℕ) (m : Mark) → m ≡ marks.Line → m ≡ mark_of (take (length z - at) (drop at z))
      → feed ≡ (at + 2) + position_or_len is_feed (drop (at + 2) z) → end ≡ min (length z) (feed + 1)
      → s ≡ read r (line_comment (take (end - (at + 2)) (drop (at + 2) z))) → read_all s (pieces (drop end z)) ≡ read_all r (pieces (drop at z))
  line_on end feed m line is first to was =
      let y = drop 2 (drop at z) in
      let same : y ≡ drop (at + 2) z = drop-drop 2 at z in
      let n : position_or_len is_feed y ≡ position_or_len is_feed (drop (at + 2) z) = ap (position_or_len is_feed) same in
      let cut : take (end - (at + 2)) (drop (at + 2) z) ≡ take (position_or_len is_feed y + 1) y =
      take_to z (at + 2) end (position_or_len is_feed (drop (at + 2) z) + 1) (omega (arith, first, to)) ∙ ap (λ x. take (position_or_len is_feed x + 1) x) (sym same) in
      let on : end ≡ min (length z) (at + (2 + (position_or_len is_feed y + 1))) = omega (arith, first, to, n) in
      read_on r s z at end marks.Line _ lt (sym line ∙ is) (ap line_comment cut) was (drop_to z end _ on)

  pub block_on : (end close : ℕ) (m : Mark) → m ≡ marks.Block → m ≡ mark_of (take (length z - at) (drop at z))
      → close ≡ (at + 2) + before_close (drop (at + 2) z) → close ≤ length z → end ≡ min (length z) (close + 2)
      → s ≡ read r (block_comment (take (close - (at + 2)) (drop (at + 2) z))) → read_all s (pieces (drop end z)) ≡ read_all r (pieces (drop at z))
  block_on end close m block is first le to was =
      let y = drop 2 (drop at z) in
      let same : y ≡ drop (at + 2) z = drop-drop 2 at z in
      let n : before_close y ≡ before_close (drop (at + 2) z) = ap before_close same in
      let cut : take (close - (at + 2)) (drop (at + 2) z) ≡ take (before_close y) y =
      take_to z (at + 2) close (before_close (drop (at + 2) z)) (omega (arith, first, le)) ∙ ap (λ x. take (before_close x) x) (sym same) in
      let on : end ≡ min (length z) (at + (2 + (before_close y + 2))) = omega (arith, first, to, n) in
      read_on r s z at end marks.Block _ lt (sym block ∙ is) (ap block_comment cut) was (drop_to z end _ on)

nothing : pieces [] ≡ []
unfolding pieces_behind
nothing = refl

-- behind the end nothing is read
pub all_read : (r : Read) (z : Text) (at : ℕ) → length z ≤ at → read_all r (pieces (drop at z)) ≡ r
all_read r z at le = ap (λ y. read_all r (pieces y)) (drop_of_length-le z le) ∙ ap (read_all r) nothing
