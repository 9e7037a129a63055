-- The scopes that are tried are all of them, and the answer is what the statement says.
use Rattle.std.proofs.Common.{◌≡◌, ℕ, zero, suc, ◌≤◌, List, [], ◌∷◌, ◌++◌, ◌⊎◌, inl, inr, Bool, true, false, cond, ◌||◌, eqb, length, refl, ap, sym, subst, ◌∙◌, arith, append_assoc, Result, Ok, Err, Option}
use Rattle.std.specs.Prelude.{MatchBool}
use Rattle.std.proofs.lemmas.List.{length-append}
use Rattle.reflect_scope.specs.Means.{Meaning, means, not_found, wrong_kind, shadowed, has_dot, outer, scopes, undotted, dotted, settled, marks, missing, join, resolve, standing, rooted, is_holder, first_part, Answers, by_dots}
use Rattle.reflect_scope.specs.Says.{IsScope, NoneWanted, SaysUndotted, SaysDotted, SaysPlain, NameMeans, AnswersMeaning}
use Rattle.reflect_scope.proofs.Scopes.{scopes_more, scopes_last, outer_shorter}
use Rattle.reflect_scope.proofs.Steps.{has_dot-append}
use Rattle.reflect_scope.specs.declared.definition.Definition.{Definition}
use Rattle.reflect_scope.specs.declared.definition.ResolveNameFilter.{ResolveNameFilter}
use Rattle.reflect_scope.specs.declared.resolve.Standing.{Standing}
use Rattle.reflect_scope.specs.declared.resolve.Standing.TheVariants.{Absent, Unseen, Wrong, Wanted}
use Rattle.reflect_scope.specs.declared.resolve.Resolved.{Resolved}
use Rattle.reflect_scope.specs.declared.resolve.ResolveNameError.{ResolveNameError}
use Rattle.reflect_scope.specs.declared.resolve.ResolveNameError.TheVariants.{Memory, NotFound, Shadowed, InvalidType}

outer_split : (p rest : List ℕ) → outer (p ++ (46 ∷ rest)) ≡ cond (has_dot rest) (p ++ (46 ∷ outer rest)) p
outer_split [] rest = refl
outer_split (x ∷ p) rest =
    let dots : has_dot (p ++ (46 ∷ rest)) ≡ true = has_dot-append p rest in
    ap (λ v. cond v (x ∷ outer (p ++ (46 ∷ rest))) []) dots ∙ ap (λ xs. x ∷ xs) (outer_split p rest)
    ∙ (elim (has_dot rest) as (λ v. x ∷ cond v (p ++ (46 ∷ outer rest)) p ≡ cond v (x ∷ (p ++ (46 ∷ outer rest))) (x ∷ p)) [ true ↦ refl | false ↦ refl ])

outer_before : (s : List ℕ) → (outer s ≡ []) ⊎ ((r : List ℕ) × (s ≡ outer s ++ (46 ∷ r)))
outer_before [] = inl refl
outer_before (b ∷ bs) = by (outer_before bs) (has_dot bs) refl where
  first : (bs : List ℕ) → has_dot bs ≡ true → outer bs ≡ [] → (r : List ℕ) × (bs ≡ 46 ∷ r)
  first [] some e = absurd (cc)
  first (c ∷ cs) some e = at (has_dot cs) refl (eqb c 46) refl where
    at : (v : Bool) → has_dot cs ≡ v → (w : Bool) → eqb c 46 ≡ w → (r : List ℕ) × (c ∷ cs ≡ 46 ∷ r)
    at true more w is = let e' : c ∷ outer cs ≡ [] = sym (ap (λ v. cond v (c ∷ outer cs) []) more) ∙ e in absurd (cc)
    at false none true is = let same : c ≡ 46 = grind (arith, is) in (cs, ap (λ n. n ∷ cs) same)
    at false none false is = let other : (eqb c 46 || has_dot cs) ≡ false = ap (λ v. v || has_dot cs) is ∙ none in absurd (cc)

  by : ((outer bs ≡ []) ⊎ ((r : List ℕ) × (bs ≡ outer bs ++ (46 ∷ r)))) → (v : Bool) → has_dot bs ≡ v → (outer (b ∷ bs) ≡ []) ⊎ ((r : List ℕ) × (b ∷ bs ≡ outer (b ∷ bs) ++ (46 ∷ r)))
  by inner false none = inl (ap (λ v. cond v (b ∷ outer bs) []) none)
  by (inr (r, is)) true some = inr (r, ap (λ xs. b ∷ xs) is ∙ ap (λ xs. xs ++ (46 ∷ r)) (sym (ap (λ v. cond v (b ∷ outer bs) []) some)))
  by (inl e) true some =
      let f = first bs some e in
      inr (f.0, ap (λ xs. b ∷ xs) (f.1 ∙ ap (λ xs. xs ++ (46 ∷ f.0)) (sym e)) ∙ ap (λ xs. xs ++ (46 ∷ f.0)) (sym (ap (λ v. cond v (b ∷ outer bs) []) some)))

pub inward : (s p : List ℕ) → IsScope (outer s) p → IsScope s p
inward s p (inl e) = elim (outer_before s) [ inl none ↦ inr (inl (e ∙ none)) | inr (r, is) ↦ inr (inr (r, is ∙ ap (λ xs. xs ++ (46 ∷ r)) (sym e))) ]
inward s p (inr (inl e)) = inr (inl e)
inward s p (inr (inr (rest, is))) = elim (outer_before s) [
  | inl none ↦ absurd (no_split p rest (sym is ∙ none))
  | inr (r, is') ↦ inr (inr (rest ++ (46 ∷ r), is' ∙ ap (λ xs. xs ++ (46 ∷ r)) is ∙ append_assoc p (46 ∷ rest) (46 ∷ r)))
] where
  no_split : (p rest : List ℕ) → p ++ (46 ∷ rest) ≡ [] → ⊥
  no_split [] rest e = cc
  no_split (x ∷ p) rest e = cc

pub outward : (s p : List ℕ) → IsScope s p → (p ≡ s) ⊎ IsScope (outer s) p
outward s p (inl e) = inl e
outward s p (inr (inl e)) = inr (inr (inl e))
outward s p (inr (inr (rest, is))) = inr (at (has_dot rest) (ap outer is ∙ outer_split p rest)) where
  at : (v : Bool) → outer s ≡ cond v (p ++ (46 ∷ outer rest)) p → IsScope (outer s) p
  at true e = inr (inr (outer rest, e))
  at false e = inl (sym e)

-- a scope is no longer than the one that it is around
no_longer : (s p : List ℕ) → IsScope s p → length p ≤ length s
no_longer s p (inl e) = let l = ap length e in omega (arith, l)
no_longer s p (inr (inl e)) = let l = ap length e in omega (arith, l)
no_longer s p (inr (inr (rest, is))) = let l = ap length is ∙ length-append p (46 ∷ rest) in omega (arith, l)

-- the answer with what was passed further in
abbrev SaysOn : (List ℕ → Standing) → List ℕ → List ℕ → Bool → Meaning → Type 0
SaysOn at name s passed (means full d) = SaysUndotted at name s (means full d)
SaysOn at name s passed wrong_kind = NoneWanted at s × ((passed ≡ true) ⊎ ((p : List ℕ) × IsScope s p × (at p ≡ Wrong)))
SaysOn at name s passed not_found = NoneWanted at s × (passed ≡ false) × ((p : List ℕ) → IsScope s p → at p ≡ Wrong → ⊥)
SaysOn at name s passed (shadowed full) = ⊥

abbrev NotWanted : Standing → Type 0
NotWanted st = (d : Definition) → st ≡ Wanted d → ⊥

wrong_or : (st : Standing) (passed : Bool) → NotWanted st → marks st passed ≡ true → (passed ≡ true) ⊎ (st ≡ Wrong)
wrong_or (Wanted d) passed other e = inl e
wrong_or Wrong passed other e = inr refl
wrong_or Unseen passed other e = inl e
wrong_or Absent passed other e = inl e

not_wrong : (st : Standing) (passed : Bool) → marks st passed ≡ false → (passed ≡ false) × (st ≡ Wrong → ⊥)
not_wrong (Wanted d) passed e = (e, λ w. cc)
not_wrong Wrong passed e = absurd (cc)
not_wrong Unseen passed e = (e, λ w. cc)
not_wrong Absent passed e = (e, λ w. cc)

lift_none : (at : List ℕ → Standing) (s : List ℕ) → ((d : Definition) → at s ≡ Wanted d → ⊥) → NoneWanted at (outer s) → NoneWanted at s
lift_none at s other none q sc e w = elim (outward s q sc) [ inl is ↦ other e (sym (ap at is) ∙ w) | inr sc' ↦ none q sc' e w ]

lift : (at : List ℕ → Standing) (name s : List ℕ) (passed : Bool) → ((d : Definition) → at s ≡ Wanted d → ⊥) → (m : Meaning) → SaysOn at name (outer s) (marks (at s) passed) m → SaysOn at name s passed m
lift at name s passed other (means full d) (p, sc, named, is, none) = (p, inward s p sc, named, is, λ q sq lt e w. elim (outward s q sq) [ inl same ↦ other e (sym (ap at same) ∙ w) | inr sq' ↦ none q sq' lt e w ])
lift at name s passed other wrong_kind (none, some) = (
  lift_none at s other none,
  elim some [
    | inl m ↦ (elim (wrong_or (at s) passed other m) [ inl e ↦ inl e | inr w ↦ inr (s, inl refl, w) ])
    | inr (p, sc, w) ↦ inr (p, inward s p sc, w)
  ],
)
lift at name s passed other not_found (none, m, right) =
    let f = not_wrong (at s) passed m in
    (lift_none at s other none, f.0, λ p sc w. elim (outward s p sc) [ inl same ↦ f.1 (sym (ap at same) ∙ w) | inr sc' ↦ right p sc' w ])
lift at name s passed other (shadowed full) x = x

pub only_empty : (q : List ℕ) → IsScope [] q → q ≡ []
only_empty q (inl e) = e
only_empty q (inr (inl e)) = e
only_empty [] (inr (inr (rest, is))) = refl
only_empty (x ∷ q) (inr (inr (rest, is))) = absurd (cc)

last_says : (at : List ℕ → Standing) (name : List ℕ) (passed : Bool) → ((d : Definition) → at [] ≡ Wanted d → ⊥) → SaysOn at name [] passed (missing (marks (at []) passed))
last_says at name passed other = by (marks (at []) passed) refl where
  none : NoneWanted at []
  none q sc e w = other e (sym (ap at (only_empty q sc)) ∙ w)

  by : (m : Bool) → marks (at []) passed ≡ m → SaysOn at name [] passed (missing m)
  by true is = (none, elim (wrong_or (at []) passed other is) [ inl e ↦ inl e | inr w ↦ inr ([], inl refl, w) ])
  by false is = let f = not_wrong (at []) passed is in (none, f.0, λ p sc w. f.1 (sym (ap at (only_empty p sc)) ∙ w))

here_says : (at : List ℕ → Standing) (name s : List ℕ) (passed : Bool) (d : Definition) → at s ≡ Wanted d → SaysOn at name s passed (means (join s name) d)
here_says at name s passed d is = (s, inl refl, refl, is, λ q sc lt e w. let short = no_longer s q sc in absurd (omega arith))

says_on : (n : ℕ) (at : List ℕ → Standing) (name s : List ℕ) (passed : Bool) → length s ≤ n → SaysOn at name s passed (undotted at name (scopes s) passed)
says_on n at name [] passed le = subst (λ ss. SaysOn at name [] passed (undotted at name ss passed)) (sym scopes_last) (by (at []) refl) where
  by : (st : Standing) → at [] ≡ st → SaysOn at name [] passed (undotted at name ([] ∷ []) passed)
  by (Wanted d) is = rw is (here_says at name [] passed d is)
  by Wrong is = let r = last_says at name passed (λ d e. cc) in rw is (rw is at r)
  by Unseen is = let r = last_says at name passed (λ d e. cc) in rw is (rw is at r)
  by Absent is = let r = last_says at name passed (λ d e. cc) in rw is (rw is at r)
says_on zero at name (b ∷ bs) passed le = absurd (omega arith)
says_on (suc n) at name (b ∷ bs) passed le =
    let short = outer_shorter b bs in
    subst (λ ss. SaysOn at name (b ∷ bs) passed (undotted at name ss passed)) (sym (scopes_more b bs)) (by (λ m. says_on n at name (outer (b ∷ bs)) m (omega arith)) (at (b ∷ bs)) refl) where
      by : ((m : Bool) → SaysOn at name (outer (b ∷ bs)) m (undotted at name (scopes (outer (b ∷ bs))) m)) → (st : Standing) → at (b ∷ bs) ≡ st → SaysOn at name (b ∷ bs) passed (undotted at name ((b ∷ bs) ∷ scopes (outer (b ∷ bs))) passed)
      by inner (Wanted d) is = rw is (here_says at name (b ∷ bs) passed d is)
      by inner Wrong is = let r = lift at name (b ∷ bs) passed (λ d e. cc) _ (inner (marks (at (b ∷ bs)) passed)) in rw is (rw is at r)
      by inner Unseen is = let r = lift at name (b ∷ bs) passed (λ d e. cc) _ (inner (marks (at (b ∷ bs)) passed)) in rw is (rw is at r)
      by inner Absent is = let r = lift at name (b ∷ bs) passed (λ d e. cc) _ (inner (marks (at (b ∷ bs)) passed)) in rw is (rw is at r)

drop_passed : (at : List ℕ → Standing) (name s : List ℕ) (m : Meaning) → SaysOn at name s false m → SaysUndotted at name s m
drop_passed at name s (means full d) x = x
drop_passed at name s wrong_kind (none, some) = (none, elim some [ inl e ↦ absurd (cc) | inr w ↦ w ])
drop_passed at name s not_found (none, m, right) = (none, right)
drop_passed at name s (shadowed full) x = x

-- what the scopes give, tried one after another, is what the statement says
pub undotted_says : (at : List ℕ → Standing) (name s : List ℕ) → SaysUndotted at name s (undotted at name (scopes s) false)
undotted_says at name s = drop_passed at name s _ (says_on (length s) at name s false (omega arith))

here_settles : (first : List ℕ → Bool) (at : List ℕ → Standing) (name s : List ℕ) → first s ≡ true → SaysDotted first at name s (settled (at s) (join s name))
here_settles first at name s e = inl (s, (inl refl, e, λ q sc lt h. let short = no_longer s q sc in absurd (omega arith)), refl)

lift_dotted : (first : List ℕ → Bool) (at : List ℕ → Standing) (name s : List ℕ) (m : Meaning) → first s ≡ false → SaysDotted first at name (outer s) m → SaysDotted first at name s m
lift_dotted first at name s m no_holder (inl (p, (sc, holds, innermost), is)) =
    inl (p, (inward s p sc, holds, λ q sq lt h. elim (outward s q sq) [ inl same ↦ absurd (let e : true ≡ false = sym h ∙ ap first same ∙ no_holder in cc) | inr sq' ↦ innermost q sq' lt h ]), is)
lift_dotted first at name s m no_holder (inr (none, is)) =
    inr (λ q sq h. elim (outward s q sq) [ inl same ↦ absurd (let e : true ≡ false = sym h ∙ ap first same ∙ no_holder in cc) | inr sq' ↦ none q sq' h ], is)

dotted_on : (n : ℕ) (first : List ℕ → Bool) (at : List ℕ → Standing) (name s : List ℕ) → length s ≤ n → SaysDotted first at name s (dotted first at name (scopes s))
dotted_on n first at name [] le = subst (λ ss. SaysDotted first at name [] (dotted first at name ss)) (sym scopes_last) (by (first []) refl) where
  by : (v : Bool) → first [] ≡ v → SaysDotted first at name [] (cond (first []) (settled (at []) (join [] name)) not_found)
  by true is = subst (λ v. SaysDotted first at name [] (cond v (settled (at []) (join [] name)) not_found)) (sym is) (here_settles first at name [] is)
  by false is = subst (λ v. SaysDotted first at name [] (cond v (settled (at []) (join [] name)) not_found)) (sym is) (inr (λ q sq h. let e : true ≡ false = sym h ∙ ap first (only_empty q sq) ∙ is in cc, refl))
dotted_on zero first at name (b ∷ bs) le = absurd (omega arith)
dotted_on (suc n) first at name (b ∷ bs) le =
    let short = outer_shorter b bs in
    subst (λ ss. SaysDotted first at name (b ∷ bs) (dotted first at name ss)) (sym (scopes_more b bs)) (by (dotted_on n first at name (outer (b ∷ bs)) (omega arith)) (first (b ∷ bs)) refl) where
      by : SaysDotted first at name (outer (b ∷ bs)) (dotted first at name (scopes (outer (b ∷ bs)))) → (v : Bool) → first (b ∷ bs) ≡ v → SaysDotted first at name (b ∷ bs) (cond (first (b ∷ bs)) (settled (at (b ∷ bs)) (join (b ∷ bs) name)) (dotted first at name (scopes (outer (b ∷ bs)))))
      by inner true is = subst (λ v. SaysDotted first at name (b ∷ bs) (cond v (settled (at (b ∷ bs)) (join (b ∷ bs) name)) (dotted first at name (scopes (outer (b ∷ bs)))))) (sym is) (here_settles first at name (b ∷ bs) is)
      by inner false is = subst (λ v. SaysDotted first at name (b ∷ bs) (cond v (settled (at (b ∷ bs)) (join (b ∷ bs) name)) (dotted first at name (scopes (outer (b ∷ bs)))))) (sym is) (lift_dotted first at name (b ∷ bs) _ is inner)

pub dotted_says : (first : List ℕ → Bool) (at : List ℕ → Standing) (name s : List ℕ) → SaysDotted first at name s (dotted first at name (scopes s))
dotted_says first at name s = dotted_on (length s) first at name s (omega arith)

choose : {M : Type 0} (P Q : M → Type 0) (x y : M) (v : Bool) → P x → Q y → MatchBool v (P (cond v x y)) (Q (cond v x y))
choose P Q x y true p q = p
choose P Q x y false p q = q

plain_means : (names : List ℕ → Option Definition) (sees : ℕ → Bool) (f : ResolveNameFilter) (scope name : List ℕ) → SaysPlain names sees f scope name (by_dots names sees f scope name)
plain_means names sees f scope name =
    let first : List ℕ → Bool = λ p. is_holder (names (join p (first_part name))) in
    let at : List ℕ → Standing = λ p. standing sees f (names (join p name)) in
    choose (SaysDotted first at name scope) (SaysUndotted at name scope) (dotted first at name (scopes scope)) (undotted at name (scopes scope) false)
    (has_dot name) (dotted_says first at name scope) (undotted_says at name scope)

-- what is found scope by scope is what the statement says
pub resolve_means : (names : List ℕ → Option Definition) (sees : ℕ → Bool) (f : ResolveNameFilter) (scope name : List ℕ) → NameMeans names sees f scope name (resolve names sees f scope name)
resolve_means names sees f scope [] = plain_means names sees f scope []
resolve_means names sees f scope (b ∷ name) =
    choose (λ m. m ≡ rooted (standing sees f (names name)) name) (SaysPlain names sees f scope (b ∷ name)) (rooted (standing sees f (names name)) name) (by_dots names sees f scope (b ∷ name))
    (eqb b 46) refl (plain_means names sees f scope (b ∷ name))

pub tells_from_answers : (P : Meaning → Type 0) (r : Result Resolved ResolveNameError) (m : Meaning) → P m → Answers r m → AnswersMeaning P r
tells_from_answers P (Ok r) m is e = subst P e is
tells_from_answers P (Err Memory) m is e = tt
tells_from_answers P (Err NotFound) m is e = subst P e is
tells_from_answers P (Err InvalidType) m is e = subst P e is
tells_from_answers P (Err (Shadowed full)) m is e = subst P e is
