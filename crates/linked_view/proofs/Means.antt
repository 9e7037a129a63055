-- What a name means to the pass over references, by what is known and seen, is what it means by
-- the statement on prefixes.
use Rattle.std.proofs.Common.{◌≡◌, ◌≤◌, ◌<◌, ◌∙◌, ◌⊎◌, inl, inr, ℕ, Bool, true, false, ◌||◌, eqb, [], ◌∷◌, Option, Some, None, length, ap, sym, subst, refl, arith, one-add}
use Rattle.std.specs.Prelude.{MatchBool}
use Rattle.std.proofs.lemmas.Bool.{cases_lt}
use Rattle.reflect_scope.specs.declared.definition.Definition.{Definition}
use Rattle.reflect_scope.specs.declared.definition.ResolveNameFilter.{ResolveNameFilter}
use Rattle.reflect_scope.specs.Known.{Known}
use Rattle.reflect_scope.specs.Means.{Meaning, means, not_found, wrong_kind, shadowed, is_wanted, is_seen, standing, is_holder, settled, rooted, resolve}
use Rattle.reflect_scope.specs.Means as scope
use Rattle.reflect_scope.specs.Says.{SaysUndotted, SaysDotted, SaysPlain, NameMeans}
use Rattle.reflect_scope.proofs.Says.{resolve_means}
use Rattle.descriptor_records.specs.Content.{Text}
use Rattle.schema_view.specs.Files.{join}
use Rattle.schema_view.specs.Means.{has_dot, first_part, MeansUndotted, MeansDotted, MeansPlain, MeansBy}
use Rattle.schema_view.proofs.OneMeaning.{one_scope}
use Rattle.linked_view.proofs.Walked.{join_seen}

dots_same : (name : Text) → scope.has_dot name ≡ has_dot name
dots_same [] = refl
dots_same (b ∷ bs) = ap (λ v. eqb b 46 || v) (dots_same bs)

part_same : (name : Text) → scope.first_part name ≡ first_part name
part_same [] = refl
part_same (b ∷ bs) = by (eqb b 46) refl (part_same bs) where
  by : (v : Bool) → eqb b 46 ≡ v → scope.first_part bs ≡ first_part bs
      → scope.first_part (b ∷ bs) ≡ first_part (b ∷ bs)
  by true is rest = rw is refl
  by false is rest = rw (is, one-add) (ap (λ xs. b ∷ xs) rest)

module _ (known : Known) (sees : ℕ → Bool) (f : ResolveNameFilter) where
  -- a definition of a wanted kind, which is seen
  pub record IsFound (n : Text) (d : Definition) : Type 0 where
    pub known_as : known n ≡ Some d
    pub seen : is_seen sees d ≡ true
    pub wanted : is_wanted f d.kind ≡ true

  -- what means the definition that stands where it is seen and wanted, and none elsewhere
  found_by : (x : Definition) (n full : Text) (d : Definition) (m : Meaning)
      → (is_seen sees x ≡ true → is_wanted f x.kind ≡ true → m ≡ means n x)
      → (is_seen sees x ≡ true → is_wanted f x.kind ≡ false → m ≡ wrong_kind)
      → (is_seen sees x ≡ false → m ≡ not_found) → m ≡ means full d
      → (n ≡ full) × (Some x ≡ Some d) × (is_seen sees d ≡ true) × (is_wanted f d.kind ≡ true)
  found_by x n full d m here wrong unseen e =
      by (is_seen sees x) refl (is_wanted f x.kind) refl where
        by : (u : Bool) → is_seen sees x ≡ u → (v : Bool) → is_wanted f x.kind ≡ v
            → (n ≡ full) × (Some x ≡ Some d) × (is_seen sees d ≡ true)
            × (is_wanted f d.kind ≡ true)
        by true seen true wanted =
            let e' : means n x ≡ means full d = sym (here seen wanted) ∙ e in
            let name : n ≡ full = cc e' in
            let own : x ≡ d = cc e' in (
              name,
              ap Some own,
              subst (λ (y : Definition). is_seen sees y ≡ true) own seen,
              subst (λ (y : Definition). is_wanted f y.kind ≡ true) own wanted,
            )
        by true seen false wanted = absurd (cc (sym (wrong seen wanted) ∙ e))
        by false seen v _ = absurd (cc (sym (unseen seen) ∙ e))

  settled_to : (o : Option Definition) (n full : Text) (d : Definition)
      → settled (standing sees f o) n ≡ means full d
      → (n ≡ full) × (o ≡ Some d) × (is_seen sees d ≡ true) × (is_wanted f d.kind ≡ true)
  settled_to None n full d e = absurd (cc e)
  settled_to (Some x) n full d e = found_by x n full d (settled (standing sees f (Some x)) n)
      (λ seen wanted. rw (seen, wanted) refl) (λ seen wanted. rw (seen, wanted) refl)
      (λ seen. rw seen refl) e

  settled_from : (n : Text) (d : Definition) → IsFound n d
      → settled (standing sees f (known n)) n ≡ means n d
  settled_from n d h = rw (h.known_as, h.seen, h.wanted) refl

  rooted_to : (o : Option Definition) (n full : Text) (d : Definition)
      → rooted (standing sees f o) n ≡ means full d
      → (n ≡ full) × (o ≡ Some d) × (is_seen sees d ≡ true) × (is_wanted f d.kind ≡ true)
  rooted_to None n full d e = absurd (cc e)
  rooted_to (Some x) n full d e = found_by x n full d (rooted (standing sees f (Some x)) n)
      (λ seen wanted. rw (seen, wanted) refl) (λ seen wanted. rw (seen, wanted) refl)
      (λ seen. rw seen refl) e

  rooted_from : (n : Text) (d : Definition) → IsFound n d
      → rooted (standing sees f (known n)) n ≡ means n d
  rooted_from n d h = rw (h.known_as, h.seen, h.wanted) refl

  abbrev pub Wanted : Text → Type 0
  Wanted n = (d : Definition) × IsFound n d

  abbrev pub Holding : Text → Type 0
  Holding n = is_holder (known n) ≡ true

  joined : (p n : Text) → scope.join p n ≡ join p n
  joined p n = sym (join_seen p n)

  -- what a plain name means where it has a dot, and where it has none
  abbrev SaysBy : Text → Text → Meaning → Bool → Type 0
  SaysBy around name m b = MatchBool b
      (SaysDotted (λ p. is_holder (known (scope.join p (scope.first_part name))))
      (λ p. standing sees f (known (scope.join p name))) name around m)
      (SaysUndotted (λ p. standing sees f (known (scope.join p name))) name around m)

  abbrev MeansPlainBy : Text → Text → Text → Bool → Type 0
  MeansPlainBy around name full b = MatchBool b (MeansDotted Wanted Holding around name full)
      (MeansUndotted Wanted Holding around name full)

  abbrev MeansFrom : Text → ℕ → Text → Text → Bool → Type 0
  MeansFrom around b name full u = MatchBool u ((full ≡ name) × Wanted name)
      (MeansPlain Wanted Holding around (b ∷ name) full)

  module _ (around name : Text) where
    undotted_to : (full : Text) (d : Definition)
        → SaysUndotted (λ p. standing sees f (known (scope.join p name))) name around (means full d)
        → MeansUndotted Wanted Holding around name full × IsFound full d
    undotted_to full d (p, s, is, at, none) =
        let whole = scope.join p name in
        let settles : settled (standing sees f (known whole)) whole ≡ means whole d =
        ap (λ st. settled st whole) at in
        let r = settled_to (known whole) whole whole d settles in
        let here : IsFound whole d = record { known_as = r.1; seen = r.2; wanted = r.3 } in
        let own : IsFound full d = subst (λ n. IsFound n d) (sym is) here in (
          (
            p,
            s,
            is ∙ joined p name,
            (d, own),
            λ q sq lt w.
                let at_q : IsFound (scope.join q name) w.0 =
                subst (λ n. IsFound n w.0) (sym (joined q name)) w.1 in
                none q sq lt w.0 (rw (at_q.known_as, at_q.seen, at_q.wanted) refl),
          ),
          own,
        )

    dotted_to : (full : Text) (d : Definition)
        → SaysDotted (λ p. is_holder (known (scope.join p (scope.first_part name))))
        (λ p. standing sees f (known (scope.join p name))) name around (means full d)
        → MeansDotted Wanted Holding around name full × IsFound full d
    dotted_to full d (inr (none, e)) = absurd (cc e)
    dotted_to full d (inl (p, (s, holds, none), e)) =
        let whole = scope.join p name in
        let r = settled_to (known whole) whole full d (sym e) in
        let here : IsFound full d = subst (λ n. IsFound n d) r.0
        (record { known_as = r.1; seen = r.2; wanted = r.3 }) in
        let part : (q : Text) → scope.join q (scope.first_part name) ≡ join q (first_part name) =
        λ q. ap (scope.join q) (part_same name) ∙ joined q (first_part name) in (
          (
            p,
            s,
            sym r.0 ∙ joined p name,
            (d, here),
            subst Holding (part p) holds,
            λ q sq lt w. none q sq lt (subst Holding (sym (part q)) w),
          ),
          here,
        )

    plain_to : (full : Text) (d : Definition) → SaysPlain known sees f around name (means full d)
        → MeansPlain Wanted Holding around name full × IsFound full d
    plain_to full d h =
        by (has_dot name) refl (subst (SaysBy around name (means full d)) (dots_same name) h) where
          by : (b : Bool) → has_dot name ≡ b → SaysBy around name (means full d) b
              → MeansPlain Wanted Holding around name full × IsFound full d
          by true is k =
              let r = dotted_to full d k in
              (subst (MeansPlainBy around name full) (sym is) r.0, r.1)
          by false is k =
              let r = undotted_to full d k in
              (subst (MeansPlainBy around name full) (sym is) r.0, r.1)

  by_dot : (around : Text) (b : ℕ) (name : Text) (m : Meaning) (v : Bool) → eqb b 46 ≡ v
      → NameMeans known sees f around (b ∷ name) m
      → MatchBool v (m ≡ rooted (standing sees f (known name)) name)
      (SaysPlain known sees f around (b ∷ name) m)
  by_dot around b name m v is h =
      subst (λ u. MatchBool u (m ≡ rooted (standing sees f (known name)) name)
      (SaysPlain known sees f around (b ∷ name) m)) is h

  pub means_to : (around name full : Text) (d : Definition)
      → NameMeans known sees f around name (means full d)
      → MeansBy Wanted Holding around name full × IsFound full d
  means_to around [] full d says = plain_to around [] full d says
  means_to around (b ∷ name) full d says = by (eqb b 46) refl where
    by : (v : Bool) → eqb b 46 ≡ v
        → MeansBy Wanted Holding around (b ∷ name) full × IsFound full d
    by true is =
        let r = rooted_to (known name) name full d (sym (by_dot around b name (means full d) true is says)) in
        let here : IsFound name d = record { known_as = r.1; seen = r.2; wanted = r.3 } in (
          subst (MeansFrom around b name full) (sym is) (sym r.0, (d, here)),
          subst (λ n. IsFound n d) r.0 here,
        )
    by false is =
        let r = plain_to around (b ∷ name) full d (by_dot around b name (means full d) false is says) in
        (subst (MeansFrom around b name full) (sym is) r.0, r.1)

  pub resolved_to : (around name full : Text) (d : Definition)
      → resolve known sees f around name ≡ means full d
      → MeansBy Wanted Holding around name full × IsFound full d
  resolved_to around name full d e =
      means_to around name full d
      (subst (NameMeans known sees f around name) e (resolve_means known sees f around name))

  -- back: what has a meaning by prefixes is found
  module _ (around name full : Text) where
    abbrev Resolves : Meaning → Type 0
    Resolves m = (d : Definition) × (m ≡ means full d)

    undotted_from : MeansUndotted Wanted Holding around name full → (m : Meaning)
        → SaysUndotted (λ p. standing sees f (known (scope.join p name))) name around m → Resolves m
    undotted_from (p, s, is, w, less) (means other d) h =
        let r = undotted_to around name other d h in
        by (cases_lt (length p) (length r.0.0)) (cases_lt (length r.0.0) (length p)) where
          found_other : (MeansUndotted Wanted Holding around name other × IsFound other d)
          found_other = undotted_to around name other d h

          q : Text
          q = found_other.0.0

          by : (length p < length q) ⊎ (length q ≤ length p) → (length q < length p) ⊎ (length p ≤ length q)
              → Resolves (means other d)
          by (inl lt) last = absurd (less q found_other.0.1 lt (subst Wanted found_other.0.2 found_other.0.3))
          by (inr le) (inl lt) = absurd (found_other.0.4 p s lt (subst Wanted is w))
          by (inr le) (inr ge) =
              let same = one_scope around q p found_other.0.1 s (omega (arith, le, ge)) in
              let name' : other ≡ full = found_other.0.2 ∙ ap (λ x. join x name) same ∙ sym is in
              (d, ap (λ n. means n d) name')
    undotted_from (p, s, is, w, less) wrong_kind (none, some) =
        let at_p : IsFound (scope.join p name) w.0 =
        subst (λ n. IsFound n w.0) (is ∙ sym (joined p name)) w.1 in
        absurd (none p s w.0 (rw (at_p.known_as, at_p.seen, at_p.wanted) refl))
    undotted_from (p, s, is, w, less) not_found (none, some) =
        let at_p : IsFound (scope.join p name) w.0 =
        subst (λ n. IsFound n w.0) (is ∙ sym (joined p name)) w.1 in
        absurd (none p s w.0 (rw (at_p.known_as, at_p.seen, at_p.wanted) refl))
    undotted_from h (shadowed x) k = absurd k

    abbrev part : Text → Text
    part q = scope.join q (scope.first_part name)

    part_is : (q : Text) → part q ≡ join q (first_part name)
    part_is q = ap (scope.join q) (part_same name) ∙ joined q (first_part name)

    dotted_from : MeansDotted Wanted Holding around name full → (m : Meaning)
        → SaysDotted (λ p. is_holder (known (scope.join p (scope.first_part name))))
        (λ p. standing sees f (known (scope.join p name))) name around m → Resolves m
    dotted_from (p, s, is, w, holds, less) m (inr (none, e)) =
        absurd (none p s (subst Holding (sym (part_is p)) holds))
    dotted_from (p, s, is, w, holds, less) m (inl (q, (sq, holds_q, none), e)) =
        by (cases_lt (length p) (length q)) (cases_lt (length q) (length p)) where
          at_p : IsFound (scope.join p name) w.0
          at_p = subst (λ n. IsFound n w.0) (is ∙ sym (joined p name)) w.1

          by : (length p < length q) ⊎ (length q ≤ length p)
              → (length q < length p) ⊎ (length p ≤ length q) → Resolves m
          by (inl lt) last = absurd (less q sq lt (subst Holding (part_is q) holds_q))
          by (inr le) (inl lt) = absurd (none p s lt (subst Holding (sym (part_is p)) holds))
          by (inr le) (inr ge) =
              let same = one_scope around q p sq s (omega (arith, le, ge)) in (
                w.0,
                e ∙ ap (λ x. settled (standing sees f (known (scope.join x name))) (scope.join x name)) same
                    ∙ settled_from (scope.join p name) w.0 at_p
                    ∙ ap (λ n. means n w.0) (joined p name ∙ sym is),
              )

    plain_from : MeansPlain Wanted Holding around name full → (m : Meaning)
        → SaysPlain known sees f around name m → Resolves m
    plain_from h m k =
        by (has_dot name) h (subst (SaysBy around name m) (dots_same name) k) where
          by : (b : Bool) → MeansPlainBy around name full b → SaysBy around name m b → Resolves m
          by true h says = dotted_from h m says
          by false h says = undotted_from h m says

  pub resolved_from : (around name full : Text) → MeansBy Wanted Holding around name full
      → (d : Definition) × (resolve known sees f around name ≡ means full d)
  resolved_from around [] full h =
      plain_from around [] full h (resolve known sees f around []) (resolve_means known sees f around [])
  resolved_from around (b ∷ name) full h = by (eqb b 46) refl where
    says : NameMeans known sees f around (b ∷ name) (resolve known sees f around (b ∷ name))
    says = resolve_means known sees f around (b ∷ name)

    by : (v : Bool) → eqb b 46 ≡ v
        → (d : Definition) × (resolve known sees f around (b ∷ name) ≡ means full d)
    by true is =
        let r = subst (MeansFrom around b name full) is h in
        let m = by_dot around b name (resolve known sees f around (b ∷ name)) true is says in
        (r.1.0, m ∙ rooted_from name r.1.0 r.1.1 ∙ ap (λ n. means n r.1.0) (sym r.0))
    by false is =
        plain_from around (b ∷ name) full (subst (MeansFrom around b name full) is h)
        (resolve known sees f around (b ∷ name))
        (by_dot around b name (resolve known sees f around (b ∷ name)) false is says)
