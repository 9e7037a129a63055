-- What is known behind a declaration, and below a mark.
use Rattle.std.proofs.Common.{◌≡◌, ◌∙◌, ℕ, ◌<◌, ◌≤◌, List, Bool, true, false, cond, bytes_eq, Option, Some, None, IfSome, Result, Ok, Err, OnErr, is_err, ap, sym, refl, arith}
use Rattle.std.specs.Cmp.Lexicographic.{bytes_decides}
use Rattle.std.specs.Map.{update}
use Rattle.name_table.proofs.Puts.{first_new}
use Rattle.reflect_scope.specs.declared.definition.Definition.{Definition}
use Rattle.reflect_scope.specs.Known.{Known, declared, AllBelow}

-- what a name stands for behind a declaration: the definition, if the name was new, or what it was
module _ (known : Known) (name : List ℕ) (d : Definition) where
  pub at_name : (P : Option Definition → Type 0) (t : List ℕ)
      → (known t ≡ None → P (Some d)) → P (known t) → P (declared known name d t)
  at_name P t new old = by (known name) refl where
    at : (b : Bool) → bytes_eq name t ≡ b → known name ≡ None → P (cond b (Some d) (known t))
    at true is none = new (ap known (sym ((bytes_decides name t).0 is)) ∙ none)
    at false is none = old

    by : (o : Option Definition) → known name ≡ o
        → P (elim o as (λ _. Known) [ None ↦ update bytes_eq known name (Some d) | Some e ↦ known ]
        t)
    by None none = at (bytes_eq name t) refl none
    by (Some e) is = old

  pub declared_new : known name ≡ None → declared known name d ≡ update bytes_eq known name (Some d)
  declared_new none = first_new known name d none

pub below_more : (n m : ℕ) (known : Known) → n ≤ m → AllBelow n known → AllBelow m known
below_more n m known le all t = more (known t) (all t) where
  more : (o : Option Definition) → IfSome o (λ d. d.file < n) → IfSome o (λ d. d.file < m)
  more None low = tt
  more (Some d) low = omega (arith, le, low)

pub err_from : {A E : Type 0} (P : Type 0) (r : Result A E) → is_err r ≡ true → OnErr r P → P
err_from P (Ok x) e h = absurd (cc)
err_from P (Err x) e h = h
