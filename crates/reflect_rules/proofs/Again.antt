-- One more number of a list, and which numbers stand before it.
use Rattle.std.proofs.Common.{◌≡◌, ℕ, ℤ, ◌<◌, ◌+◌, List, [], ◌∷◌, ◌++◌, Bool, true, false, cond, ◌||◌, Option, Some, None, take, length, get_or, ap, sym, ◌∙◌, refl}
use Rattle.std.proofs.lemmas.List.{append-nil}
use Rattle.std.proofs.lemmas.List.Folds.{list_any_more}
use Rattle.std.specs.List.{list_any}
use Rattle.std.specs.Ordering.{int_eq}
use Rattle.reflect_declarations.specs.Declarations.{each}
use Rattle.reflect_walk.proofs.Walks.{each_more}
use Rattle.reflect_rules.specs.Repeats.{is_number, repeat_at}

or_false : (b : Bool) → (b || false) ≡ b
or_false true = refl
or_false false = refl

or_cond : (a b : Bool) → cond a true b ≡ (b || a)
or_cond true true = refl
or_cond true false = refl
or_cond false true = refl
or_cond false false = refl

module _ (ns : List (Option ℤ)) (k : ℕ) (lt : k < length ns) where
  pub seen_none : get_or ns k None ≡ None → (n : ℤ) → list_any (is_number n) (take (k + 1) ns) ≡ list_any (is_number n) (take k ns)
  seen_none is n = list_any_more (is_number n) ns k None lt ∙ ap (λ o. list_any (is_number n) (take k ns) || is_number n o) is ∙ or_false _

  pub found_none : get_or ns k None ≡ None → each (repeat_at ns) 0 (take (k + 1) ns) ≡ each (repeat_at ns) 0 (take k ns)
  found_none is = each_more (repeat_at ns) ns k None lt ∙ ap (λ o. each (repeat_at ns) 0 (take k ns) ++ repeat_at ns k o) is ∙ append-nil _

  pub seen_more : (m : ℤ) → get_or ns k None ≡ Some m → (n : ℤ) → list_any (is_number n) (take (k + 1) ns) ≡ cond (int_eq m n) true (list_any (is_number n) (take k ns))
  seen_more m is n = list_any_more (is_number n) ns k None lt ∙ ap (λ o. list_any (is_number n) (take k ns) || is_number n o) is ∙ sym (or_cond (int_eq m n) _)

  pub found_more : (m : ℤ) → get_or ns k None ≡ Some m → (b : Bool) → list_any (is_number m) (take k ns) ≡ b → each (repeat_at ns) 0 (take (k + 1) ns) ≡ each (repeat_at ns) 0 (take k ns) ++ cond b ((k, m) ∷ []) []
  found_more m is b test = each_more (repeat_at ns) ns k None lt ∙ ap (λ o. each (repeat_at ns) 0 (take k ns) ++ repeat_at ns k o) is ∙ ap (λ v. each (repeat_at ns) 0 (take k ns) ++ cond v ((k, m) ∷ []) []) test
