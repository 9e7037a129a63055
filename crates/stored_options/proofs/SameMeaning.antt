-- A name means one thing where the same definitions of the wanted kind are seen, whatever else is.
use Rattle.std.proofs.Common.{◌≡◌, ◌≤◌, ◌<◌, ◌⊎◌, inl, inr, ℕ, Bool, true, false, eqb, List, [], ◌∷◌, Option, None, Some, length, refl, sym, ap, ◌∙◌, subst, arith}
use Rattle.std.specs.Prelude.{MatchBool}
use Rattle.std.proofs.lemmas.Bool.{cases_lt}
use Rattle.reflect_scope.specs.Known.{Known}
use Rattle.reflect_scope.specs.Means.{Meaning, first_part, has_dot, is_holder, is_seen, is_wanted, join, means, not_found, rooted, settled, shadowed, standing, wrong_kind}
use Rattle.reflect_scope.specs.Says.{NameMeans, SaysDotted, SaysPlain, SaysUndotted}
use Rattle.reflect_scope.specs.declared.definition.Definition.{Definition}
use Rattle.reflect_scope.specs.declared.definition.ResolveNameFilter.{ResolveNameFilter}
use Rattle.schema_view.proofs.OneMeaning.{one_scope}

-- ---- a definition that is wanted

pub record IsWantedAs (known : Known) (sees : ℕ → Bool) (f : ResolveNameFilter) (n : List ℕ) (d : Definition) : Type 0 where
  pub known_as : known n ≡ Some d
  pub seen : is_seen sees d ≡ true
  pub wanted : is_wanted f d.kind ≡ true

module _ (known : Known) (sees : ℕ → Bool) (f : ResolveNameFilter) (n x : List ℕ) (d : Definition) where
  -- what settles a name, or stands under a full one, is what stands there
  abbrev IsThere : Type 0
  IsThere = (n ≡ x) × IsWantedAs known sees f n d

  -- the one that is known, seen and wanted
  there : (e : Definition) → known n ≡ Some e → is_seen sees e ≡ true → is_wanted f e.kind ≡ true → means n e ≡ means x d → IsThere
  there e at seen wanted is =
      let own : e ≡ d = cc is in
      let name : n ≡ x = cc is in (
        name,
        record {
          known_as = at ∙ ap Some own;
          seen = subst (λ (d : Definition). is_seen sees d ≡ true) own seen;
          wanted = subst (λ (d : Definition). is_wanted f d.kind ≡ true) own wanted;
        },
      )

  settled_as : settled (standing sees f (known n)) n ≡ means x d → IsThere
  settled_as is = by (known n) refl is where
    of : (e : Definition) → known n ≡ Some e → (u v : Bool) → is_seen sees e ≡ u → is_wanted f e.kind ≡ v → settled (standing sees f (Some e)) n ≡ means x d → IsThere
    of e at true true seen wanted is =
        let here : settled (standing sees f (Some e)) n ≡ means n e = rw (seen, wanted) refl in
        there e at seen wanted (sym here ∙ is)
    of e at true false seen wanted is =
        let here : settled (standing sees f (Some e)) n ≡ wrong_kind = rw (seen, wanted) refl in
        absurd (cc (sym here ∙ is))
    of e at false v seen wanted is =
        let here : settled (standing sees f (Some e)) n ≡ not_found = rw seen refl in
        absurd (cc (sym here ∙ is))

    by : (o : Option Definition) → known n ≡ o → settled (standing sees f o) n ≡ means x d → IsThere
    by None at is = absurd (cc is)
    by (Some e) at is = of e at (is_seen sees e) (is_wanted f e.kind) refl refl is

  rooted_as : rooted (standing sees f (known n)) n ≡ means x d → IsThere
  rooted_as is = by (known n) refl is where
    of : (e : Definition) → known n ≡ Some e → (u v : Bool) → is_seen sees e ≡ u → is_wanted f e.kind ≡ v → rooted (standing sees f (Some e)) n ≡ means x d → IsThere
    of e at true true seen wanted is =
        let here : rooted (standing sees f (Some e)) n ≡ means n e = rw (seen, wanted) refl in
        there e at seen wanted (sym here ∙ is)
    of e at true false seen wanted is =
        let here : rooted (standing sees f (Some e)) n ≡ wrong_kind = rw (seen, wanted) refl in
        absurd (cc (sym here ∙ is))
    of e at false v seen wanted is =
        let here : rooted (standing sees f (Some e)) n ≡ not_found = rw seen refl in
        absurd (cc (sym here ∙ is))

    by : (o : Option Definition) → known n ≡ o → rooted (standing sees f o) n ≡ means x d → IsThere
    by None at is = absurd (cc is)
    by (Some e) at is = of e at (is_seen sees e) (is_wanted f e.kind) refl refl is

-- ---- one meaning

-- what is wanted by the one is wanted by the other
abbrev pub WantedToo : Known → ResolveNameFilter → (sees see : ℕ → Bool) → Type 0
WantedToo known f sees see = (n : List ℕ) (d : Definition) → IsWantedAs known sees f n d → IsWantedAs known see f n d

-- it means this name
abbrev pub IsNamed : List ℕ → Meaning → Type 0
IsNamed x m = (e : Definition) × (m ≡ means x e)

module _ (known : Known) (f : ResolveNameFilter) (sees see : ℕ → Bool) (to : WantedToo known f sees see) (back : WantedToo known f see sees) (s name x : List ℕ) (d : Definition) where
  abbrev Undotted : (ℕ → Bool) → Meaning → Type 0
  Undotted sees m = SaysUndotted (λ p. standing sees f (known (join p name))) name s m

  abbrev Dotted : (ℕ → Bool) → Meaning → Type 0
  Dotted sees m = SaysDotted (λ p. is_holder (known (join p (first_part name)))) (λ p. standing sees f (known (join p name))) name s m

  -- a name without a dot, one with a dot, and either
  undotted_same : (m : Meaning) → Undotted sees (means x d) → Undotted see m → IsNamed x m
  undotted_same (means y e) (p, in_p, is, here, less) (q, in_q, same, other, none) =
      by (cases_lt (length p) (length q)) (cases_lt (length q) (length p)) where
        first : IsWantedAs known see f (join p name) d
        first = to (join p name) d (settled_as known sees f (join p name) (join p name) d (ap (λ st. settled st (join p name)) here)).1

        second : IsWantedAs known sees f (join q name) e
        second = back (join q name) e (settled_as known see f (join q name) (join q name) e (ap (λ st. settled st (join q name)) other)).1

        by : (length p < length q) ⊎ (length q ≤ length p) → (length q < length p) ⊎ (length p ≤ length q) → IsNamed x (means y e)
        by (inl lt) either = absurd (less q in_q lt e (rw (second.known_as, second.seen, second.wanted) refl))
        by (inr le) (inl lt) = absurd (none p in_p lt d (rw (first.known_as, first.seen, first.wanted) refl))
        by (inr le) (inr ge) =
            let one : q ≡ p = one_scope s q p in_q in_p (omega (arith, le, ge)) in
            (e, ap (λ n. means n e) (same ∙ ap (λ p. join p name) one ∙ sym is))
  undotted_same wrong_kind (p, in_p, is, here, less) (none, some) =
      let first = to (join p name) d (settled_as known sees f (join p name) (join p name) d (ap (λ st. settled st (join p name)) here)).1 in
      absurd (none p in_p d (rw (first.known_as, first.seen, first.wanted) refl))
  undotted_same not_found (p, in_p, is, here, less) (none, some) =
      let first = to (join p name) d (settled_as known sees f (join p name) (join p name) d (ap (λ st. settled st (join p name)) here)).1 in
      absurd (none p in_p d (rw (first.known_as, first.seen, first.wanted) refl))
  undotted_same (shadowed y) h k = absurd k

  dotted_same : (m : Meaning) → Dotted sees (means x d) → Dotted see m → IsNamed x m
  dotted_same m (inr (none, is)) k = absurd (cc is)
  dotted_same m (inl (p, (in_p, holds, less), is)) (inr (none, same)) = absurd (none p in_p holds)
  dotted_same m (inl (p, (in_p, holds, less), is)) (inl (q, (in_q, has, none), same)) =
      by (cases_lt (length p) (length q)) (cases_lt (length q) (length p)) where
        by : (length p < length q) ⊎ (length q ≤ length p) → (length q < length p) ⊎ (length p ≤ length q) → IsNamed x m
        by (inl lt) either = absurd (less q in_q lt has)
        by (inr le) (inl lt) = absurd (none p in_p lt holds)
        by (inr le) (inr ge) =
            let one : q ≡ p = one_scope s q p in_q in_p (omega (arith, le, ge)) in
            let told = settled_as known sees f (join p name) x d (sym is) in
            let first = to (join p name) d told.1 in
            let now : settled (standing see f (known (join p name))) (join p name) ≡ means (join p name) d = rw (first.known_as, first.seen, first.wanted) refl in (
              d,
              same ∙ ap (λ p. settled (standing see f (known (join p name))) (join p name)) one ∙ now ∙ ap (λ n. means n d) told.0,
            )

  plain_same : (m : Meaning) → SaysPlain known sees f s name (means x d) → SaysPlain known see f s name m → IsNamed x m
  plain_same m h k = by (has_dot name) h k where
    by : (b : Bool) → MatchBool b (Dotted sees (means x d)) (Undotted sees (means x d)) → MatchBool b (Dotted see m) (Undotted see m) → IsNamed x m
    by true h k = dotted_same m h k
    by false h k = undotted_same m h k

-- what a name means by the one it means by the other
pub same_meaning : (known : Known) (f : ResolveNameFilter) (sees see : ℕ → Bool) → WantedToo known f sees see → WantedToo known f see sees → (s name x : List ℕ) (d : Definition) (m : Meaning)
    → NameMeans known sees f s name (means x d) → NameMeans known see f s name m → IsNamed x m
same_meaning known f sees see to back s [] x d m h k = plain_same known f sees see to back s [] x d m h k
same_meaning known f sees see to back s (b ∷ name) x d m h k = by (eqb b 46) h k where
  by : (v : Bool) → MatchBool v (means x d ≡ rooted (standing sees f (known name)) name) (SaysPlain known sees f s (b ∷ name) (means x d))
      → MatchBool v (m ≡ rooted (standing see f (known name)) name) (SaysPlain known see f s (b ∷ name) m) → IsNamed x m
  by true h k =
      let told = rooted_as known sees f name x d (sym h) in
      let first = to name d told.1 in
      let now : rooted (standing see f (known name)) name ≡ means name d = rw (first.known_as, first.seen, first.wanted) refl in
      (d, k ∙ now ∙ ap (λ n. means n d) told.0)
  by false h k = plain_same known f sees see to back s (b ∷ name) x d m h k
