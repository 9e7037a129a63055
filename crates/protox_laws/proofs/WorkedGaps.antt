-- The definitions compute the worked gaps, but for the texts, which are UTF-8 as they stand.
use Rattle.protox_laws.specs.WorkedGaps.{gaps}
use Rattle.protox_lex.specs.Class.{Text}
use Rattle.protox_locate.specs.Gap.{Notes, comments_in, pieces_behind}
use Rattle.std.proofs.Common.{◌≡◌, ◌<◌, ◌∙◌, ◌++◌, ℕ, zero, suc, nat_lt, Bool, true, [], ◌∷◌, None, Some, ap, refl, arith}
use Rattle.std.proofs.lemmas.Bool.{and_parts, ltb-true}
use Rattle.std.proofs.lemmas.Str.{IsUtf8-from_ascii, utf8_lossy-IsUtf8}
use Rattle.std.specs.List.{AllByRecursion}
use Rattle.std.specs.Prelude.{◌&&◌, codes, slice_index}
use Rattle.std.specs.Str.Lossy.{utf8_lossy}

abbrev pub are_ascii : Text → Bool
are_ascii [] = true
are_ascii (b ∷ t) = nat_lt b 128 && are_ascii t

below : (t : Text) (i : ℕ) → are_ascii t ≡ true → slice_index t i < 128
below [] zero e = omega arith
below [] (suc i) e = omega arith
below (b ∷ t) zero e = ltb-true _ _ ((and_parts (nat_lt b 128) (are_ascii t) e).0)
below (b ∷ t) (suc i) e = below t i ((and_parts (nat_lt b 128) (are_ascii t) e).1)

abbrev pub IsText : Text → Type 0
IsText t = are_ascii t ≡ true

as_it_is : (t : Text) → IsText t → utf8_lossy t ≡ t
as_it_is t u = utf8_lossy-IsUtf8 t (IsUtf8-from_ascii t (λ i. below t i u))

pub one : {X : Type 0} (n : X) (f : Text → X) (t : Text) → n ≡ f (utf8_lossy t) → IsText t → n ≡ f t
one n f t e u = e ∙ ap f (as_it_is t u)

two : {X : Type 0} (n : X) (f : Text → Text → X) (s t : Text) → n ≡ f (utf8_lossy s) (utf8_lossy t) → IsText s → IsText t → n ≡ f s t
two n f s t e u v = one n (f s) t (one n (λ x. f x (utf8_lossy t)) s e u) v

pub three : {X : Type 0} (n : X) (f : Text → Text → Text → X) (r s t : Text) → n ≡ f (utf8_lossy r) (utf8_lossy s) (utf8_lossy t) → IsText r → IsText s → IsText t → n ≡ f r s t
three n f r s t e u v w = two n (f r) s t (one n (λ x. f x (utf8_lossy s) (utf8_lossy t)) r e u) v w

abbrev trails : Text → Notes
trails t = record { trailing = Some t; detached = []; leading = None }

abbrev leads : Text → Notes
leads t = record { trailing = None; detached = []; leading = Some t }

abbrev stands_apart : Text → Notes
stands_apart t = record { trailing = None; detached = t ∷ []; leading = None }

pub all_cut : AllByRecursion (λ g. comments_in g.text g.may_trail g.behind ≡ g.notes) gaps
unfolding pieces_behind
all_cut = (
  two _ (λ s t. trails (s ++ t)) (codes " a\n") (codes " b\n") refl refl refl,
  (
    one _ trails (codes " a\n") refl refl,
    (
      one _ trails (codes " a\n") refl refl,
      (
        one _ leads (codes " a\n") refl refl,
        (
          one _ leads (codes " a\n") refl refl,
          (
            one _ leads (codes " a\n") refl refl,
            (
              one _ stands_apart (codes " a\n") refl refl,
              (
                one _ leads (codes " a\n") refl refl,
                (
                  three _ (λ r s t. record { trailing = Some r; detached = s ∷ []; leading = Some t }) (codes " a ") (codes " b\n") (codes " c ") refl refl refl refl,
                  (
                    one _ trails (codes "\n a\nb ") refl refl,
                    tt,
                  ),
                ),
              ),
            ),
          ),
        ),
      ),
    ),
  ),
)
