-- Entries that are listed one after another.
use Rattle.std.proofs.Common.{◌≡◌, List, ◌∷◌, ◌++◌, Option, None, Some, sym, ap, ◌∙◌, refl}
use Rattle.std.specs.List.{cons_option, filter_map}
use Rattle.std.proofs.lemmas.List.{append_assoc}
use Rattle.print_parts.specs.Entries.{option_list}

module _ {X Y : Type 0} (f : X → Option Y) where
  listed_first : (x : X) (xs : List X) → filter_map f (x ∷ xs) ≡ option_list (f x) ++ filter_map f xs
  listed_first x xs = by (f x) where
    by : (o : Option Y) → cons_option o (filter_map f xs) ≡ option_list o ++ filter_map f xs
    by None = refl
    by (Some y) = refl

  -- one more is listed of those that are left
  pub more_listed : (x : X) (xs left : List X) (old new all : List Y) → left ≡ x ∷ xs → new ≡ old ++ option_list (f x)
      → old ++ filter_map f left ≡ all → new ++ filter_map f xs ≡ all
  more_listed x xs left old new all l n e =
      ap (λ (ys : List Y). ys ++ filter_map f xs) n
      ∙ append_assoc old (option_list (f x)) (filter_map f xs)
      ∙ ap (λ (ys : List Y). old ++ ys) (sym (listed_first x xs))
      ∙ ap (λ (zs : List X). old ++ filter_map f zs) (sym l)
      ∙ e
