-- A name means one extension by two pools, where a file sees the same extensions among the files of
-- both.
use Rattle.std.proofs.Common.{◌≡◌, ◌∙◌, ◌++◌, ℕ, Bool, true, false, cond, eqb, List, [], ◌∷◌, append_assoc, ap, sym}
use Rattle.descriptor_records.specs.Content.{FileContent, Text}
use Rattle.reflect_scope.specs.Known.{Known}
use Rattle.reflect_scope.specs.declared.definition.ResolveNameFilter.TheVariants as filters
use Rattle.schema_view.specs.Declarations.{Declaration, declarations, of_extension}
use Rattle.schema_view.specs.Files.{join}
use Rattle.schema_view.specs.Lawful.{outlines}
use Rattle.schema_view.specs.Means.{MeansBy, first_part, has_dot}
use Rattle.schema_view.specs.Outlines.{Outline, head_of, outline_of}
use Rattle.schema_view.proofs.Lists.{contains_map}
use Rattle.schema_view.proofs.Nested.{AreNested, split_first}
use Rattle.schema_view.proofs.OneMeaning.{means_one}
use Rattle.linked_view.proofs.Means.{Holding, Wanted}
use Rattle.stored_options.proofs.LooksUp.{LooksUp}
use Rattle.stored_options.proofs.Seen.{IsSeenExtension}

join_first : (p name part after : Text) → name ≡ part ++ (46 ∷ after)
    → join p name ≡ join p part ++ (46 ∷ after)
join_first [] name part after e = e
join_first (x ∷ p) name part after e =
    ap (λ xs. (x ∷ p) ++ (46 ∷ xs)) e ∙ sym (append_assoc (x ∷ p) (46 ∷ part) (46 ∷ after))

join_some : (p name : Text) (c : ℕ) (rest : Text) → name ≡ c ∷ rest → eqb c 46 ≡ false
    → join p (first_part name) ≡ [] → ⊥
join_some [] name c rest is other e =
    let no : c ∷ first_part rest ≡ [] =
    sym (ap (λ v. cond v [] (c ∷ first_part rest)) other) ∙ sym (ap first_part is) ∙ e in
    cc no
join_some (x ∷ p) name c rest is other e = cc e

-- the first part of the name of an extension that is seen is known to hold names
first_held : (fs : List FileContent) (from : Outline) (known : Known) (sees : ℕ → Bool)
    → LooksUp fs from known sees → AreNested (outlines fs) → (name : Text) (c : ℕ) (rest : Text)
    → name ≡ c ∷ rest → eqb c 46 ≡ false → has_dot name ≡ true → (p : Text)
    → IsSeenExtension fs from (join p name)
    → Holding known sees filters.Extension (join p (first_part name))
first_held fs from known sees looks_up nested name c rest is other dot p h =
    let s = split_first name dot in
    let some : join p (first_part name) ≡ [] → ⊥ = join_some p name c rest is other in
    let d : Declaration = record { name = join p name; body = of_extension h.content } in
    looks_up.holds (join p (first_part name)) some
    (nested (outline_of h.file) (head_of d) (contains_map outline_of fs h.file h.there)
    (contains_map head_of (declarations h.file) d h.inside) (join p (first_part name)) s.0
    (join_first p name (first_part name) s.0 s.1) some)

module _ (fs gs : List FileContent) (from : Outline) (known other : Known) (sees also : ℕ → Bool)
    (a : LooksUp fs from known sees) (b : LooksUp gs from other also)
    (nested : AreNested (outlines fs)) (too : AreNested (outlines gs))
    (there : (n : Text) → IsSeenExtension fs from n → IsSeenExtension gs from n)
    (back : (n : Text) → IsSeenExtension gs from n → IsSeenExtension fs from n) where
  pub one_meaning : (scope name x y : Text)
      → MeansBy (Wanted known sees filters.Extension) (Holding known sees filters.Extension) scope name x
      → MeansBy (Wanted other also filters.Extension) (Holding other also filters.Extension) scope name y
      → x ≡ y
  one_meaning scope name x y m n =
      means_one (Wanted known sees filters.Extension) (Holding known sees filters.Extension)
      (Wanted other also filters.Extension) (Holding other also filters.Extension)
      (λ k w. b.back k (there k (a.to k w))) (λ k v. a.back k (back k (b.to k v))) scope name x y
      (λ c rest is plain dot. (
        λ p v g. first_held fs from known sees a nested name c rest is plain dot p
            (back (join p name) (b.to (join p name) v)),
        λ p w h. first_held gs from other also b too name c rest is plain dot p
            (there (join p name) (a.to (join p name) w)),
      )) m n
