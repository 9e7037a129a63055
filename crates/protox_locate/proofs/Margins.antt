-- The lines of a block comment, one by one.
use Rattle.std.proofs.Common.{◌≡◌, ℕ, ◌+◌, ◌-◌, ◌<◌, Bool, true, false, List, [], ◌∷◌, ◌++◌, take, drop, length, get_or, ap, sym, ◌∙◌, refl, append_assoc, drop-cons, add-one, arith}
use Rattle.std.proofs.lemmas.List.{drop-drop}
use Rattle.std.proofs.Math.Numerals.{one-add}
use Rattle.std.specs.List.{flat_map, onto_first, position_or_len, slice_split}
use Rattle.protox_lex.specs.Class.{Text}
use Rattle.protox_locate.specs.Gap.{is_feed, without_margin, without_margins, without_margins_of}

abbrev later : Text → Text
later l = 10 ∷ without_margin l

abbrev end_of : Text → ℕ
end_of z = position_or_len is_feed z

-- the lines behind a line end
abbrev lines_behind : Text → List Text
lines_behind [] = []
lines_behind (b ∷ z) = slice_split is_feed z

-- the first line, and the others
split_is : (z : Text) → slice_split is_feed z ≡ take (end_of z) z ∷ lines_behind (drop (end_of z) z)
split_is [] = refl
split_is (b ∷ z) = by (is_feed b) refl (split_is z) where
  by : (t : Bool) → is_feed b ≡ t → slice_split is_feed z ≡ take (end_of z) z ∷ lines_behind (drop (end_of z) z) → slice_split is_feed (b ∷ z) ≡ take (end_of (b ∷ z)) (b ∷ z) ∷ lines_behind (drop (end_of (b ∷ z)) (b ∷ z))
  by true e h = rw e refl
  by false e h = rw (e, one-add) (ap (onto_first b) h)

-- what is told of the lines behind a line end
abbrev pub told_behind : Text → Text
told_behind z = flat_map later (lines_behind z)

-- the first line is told as it is
pub first_line : (z : Text) (at : ℕ) → at ≡ end_of z → take at z ++ told_behind (drop at z) ≡ without_margins z
first_line z at e = ap (λ n. take n z ++ told_behind (drop n z)) e ∙ ap without_margins_of (sym (split_is z))

-- each other one without its margin
pub next_line : (z made line : Text) (at end : ℕ) → at < length z → end ≡ (at + 1) + end_of (drop (at + 1) z) → line ≡ take (end - (at + 1)) (drop (at + 1) z)
    → made ++ told_behind (drop at z) ≡ without_margins z → ((made ++ 10 ∷ []) ++ without_margin line) ++ told_behind (drop end z) ≡ without_margins z
next_line z made line at end lt to is before =
    let y = drop (at + 1) z in
    let n : end - (at + 1) ≡ end_of y = omega (arith, to) in
    let front : drop at z ≡ get_or z at 0 ∷ y = drop-cons z at 0 lt ∙ ap (λ k. get_or z at 0 ∷ drop k z) (sym (add-one at)) in
    let behind : drop (end_of y) y ≡ drop end z = drop-drop (end_of y) (at + 1) z ∙ ap (λ k. drop k z) (sym to) in
    let here : told_behind (drop at z) ≡ later line ++ told_behind (drop end z) =
    ap told_behind front ∙ ap (flat_map later) (split_is y) ∙ ap (λ k. later (take k y) ++ told_behind (drop (end_of y) y)) (sym n) ∙ ap (λ l. later l ++ told_behind (drop (end_of y) y)) (sym is)
    ∙ ap (λ x. later line ++ told_behind x) behind in
    ap (λ x. x ++ told_behind (drop end z)) (append_assoc made (10 ∷ []) (without_margin line)) ∙ append_assoc made (later line) (told_behind (drop end z))
    ∙ ap (λ x. made ++ x) (sym here) ∙ before
