-- The last `/` of a URL.
use Rattle.std.proofs.Common.{◌≡◌, inl, inr, ℕ, ◌+◌, ◌≤◌, List, ◌∷◌, ◌++◌, length, take, drop, Option, Some, None, sym, ap, ap₂, subst, ◌∙◌, arith, take-append-drop}
use Rattle.std.specs.Str.Pattern.{RFindsChar}
use Rattle.std.proofs.lemmas.Str.Pattern.{NoCharPasses-char}
use Rattle.reflect_tables.specs.Types.{PoolType}
use Rattle.reflect_pool.specs.FindsNames.{FindsMessage}
use Rattle.reflect_pool.specs.declared.message.MessageDescriptor.{MessageDescriptor}
use Rattle.print_parts.specs.Expands.{Lacks, FindsByUrl}

-- takes what `rsplit_once` says where there is none
pub no_slash : (pool : PoolType) (url : List ℕ) (found : Option MessageDescriptor) → RFindsChar 47 url None → found ≡ None → FindsByUrl pool url found
no_slash pool url found h e = inl ((λ i. NoCharPasses-char 47 url i h (omega arith)), e)

-- and where there is one
pub at_slash : (pool : PoolType) (url front name : List ℕ) (found : Option MessageDescriptor)
    → (i : ℕ) × (j : ℕ) × RFindsChar 47 url (Some (i, j)) × (front ≡ take i url) × (name ≡ drop j url) × (i ≤ j) × (length front ≡ i) × (length name + j ≡ length url)
    → FindsMessage pool name found → FindsByUrl pool url found
unfolding lib.Utf8.encode
at_slash pool url front name found h f =
    let i = h.0 in
    let j = h.1 in
    let whole : url ≡ front ++ 47 ∷ name =
    sym (take-append-drop i url) ∙ ap (λ (l : List ℕ). take i url ++ l) h.2.1.split ∙ ap₂ (λ (a b : List ℕ). a ++ 47 ∷ b) (sym h.3) (sym h.4) in
    inr (front, name, whole, subst (Lacks 47) (sym h.4) (λ k. NoCharPasses-char 47 (drop j url) k h.2.0 (omega arith)), f)
