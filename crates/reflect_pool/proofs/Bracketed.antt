-- What a lookup of an extension by its name in brackets answers.
use Rattle.std.proofs.Common.{◌≡◌, ℕ, List, [], ◌∷◌, ◌++◌, Option, None, Some, get_or, ap, sym, ◌∙◌}
use Rattle.std.proofs.lemmas.List.{append_cancel_right}
use Rattle.reflect_tables.specs.Types.{PoolType, ExtensionType}
use Rattle.reflect_pool.specs.Brackets.{in_brackets}
use Rattle.reflect_pool.specs.Finds.{FindsAny}
use Rattle.reflect_pool.specs.declared.extension.ExtensionDescriptor.{ExtensionDescriptor}

-- another wording of what is looked for
pub finds_as : (P Q : ExtensionType → Type 0) (p : PoolType) (r : Option ExtensionDescriptor) → ((x : ExtensionType) → P x → Q x) → ((x : ExtensionType) → Q x → P x) → FindsAny P p r → FindsAny Q p r
finds_as P Q p None to back h = λ k d lt q. h k d lt (back (get_or p.extensions k d) q)
finds_as P Q p (Some x) to back h = (h.0, (λ d. to (get_or p.extensions x.index d) (h.1.0 d), λ k d low less q. h.1.1 k d low less (back (get_or p.extensions k d) q)))

tails : (b : ℕ) (xs ys : List ℕ) → (b ∷ xs) ≡ (b ∷ ys) → xs ≡ ys
tails b xs ys e = cc

-- names in brackets
module _ (p : PoolType) (m : ℕ) (name : List ℕ) where
  abbrev pub Bracketed : ExtensionType → Type 0
  Bracketed x = (x.extendee ≡ m) × (in_brackets x.field.full_name ≡ name)

  pub no_front : ((rest : List ℕ) → name ≡ 91 ∷ rest → ⊥) → FindsAny Bracketed p None
  no_front h = λ k d lt q. h ((get_or p.extensions k d).field.full_name ++ 93 ∷ []) (sym q.1)

  pub no_end : (rest : List ℕ) → name ≡ 91 ∷ rest → ((front : List ℕ) → rest ≡ front ++ 93 ∷ [] → ⊥) → FindsAny Bracketed p None
  no_end rest e h = λ k d lt q. h (get_or p.extensions k d).field.full_name (tails 91 rest ((get_or p.extensions k d).field.full_name ++ 93 ∷ []) (sym e ∙ sym q.1))

  pub inside : (rest body : List ℕ) (r : Option ExtensionDescriptor) → name ≡ 91 ∷ rest → rest ≡ body ++ 93 ∷ [] → FindsAny (λ x. (x.extendee ≡ m) × (x.field.full_name ≡ body)) p r → FindsAny Bracketed p r
  inside rest body r e back found =
      let whole : name ≡ in_brackets body = e ∙ ap (λ l. 91 ∷ l) back in
      finds_as (λ x. (x.extendee ≡ m) × (x.field.full_name ≡ body)) Bracketed p r
      (λ x h. (h.0, ap in_brackets h.1 ∙ sym whole))
      (λ x h. (h.0, append_cancel_right x.field.full_name body (93 ∷ []) (tails 91 (x.field.full_name ++ 93 ∷ []) (body ++ 93 ∷ []) (h.1 ∙ whole))))
      found
