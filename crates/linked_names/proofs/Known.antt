-- What names are known for behind declarations in which no fault of names is found.
use Rattle.std.proofs.Common.{◌≡◌, ◌∙◌, ◌⊎◌, inl, inr, ℕ, true, false, cond, List, [], ◌∷◌, Option, Some, None, is_some, sum_by, ap, sym, subst, refl, arith}
use Rattle.std.specs.List.{AllByRecursion}
use Rattle.std.proofs.lemmas.List.Sums.{sum_by-cons, sum_by-append}
use Rattle.descriptor_records.specs.Content.{Text}
use Rattle.descriptor_records.specs.declared.file.FileDescriptorProto.{FileDescriptorProto}
use Rattle.reflect_scope.specs.declared.definition.Definition.{Definition}
use Rattle.reflect_scope.specs.FileIndexes.{Indexes}
use Rattle.reflect_scope.specs.Known.{Known, declared, is_taken, is_package}
use Rattle.reflect_scope.specs.Means.{scopes}
use Rattle.reflect_scope.proofs.Scopes.{scopes_more}
use Rattle.reflect_declarations.specs.Tree.{text_of}
use Rattle.reflect_declarations.specs.Declarations.{Declaration, of_file}
use Rattle.reflect_known.specs.KnownNames.{definition_of, package_of, known_after}
use Rattle.reflect_names.specs.Names.{Places, faults_at}
use Rattle.reflect_names.specs.NamePass.{faults_along}
use Rattle.reflect_names.proofs.Declared.{declared_new}
use Rattle.reflect_index.proofs.Among.{Among, in_first, in_second}
use Rattle.linked_view.proofs.Completes.{packages_given, gives, known_gives, IsCompleteBody, good_to}
use Rattle.linked_view.proofs.Counts.{bytes_refl}
use Rattle.linked_view.proofs.Faults.{none_both}
use Rattle.linked_view.proofs.Given.{Giving, known_by, Free, both_free, other_at, others, taken_is, repeats}
use Rattle.linked_view.proofs.Known.{declared_keeps, keeps}
use Rattle.linked_view.proofs.Named.{given, gives_one}
use Rattle.linked_view.proofs.Walked.{seen_body}

-- ---- names that are given

declared_there : (known : Known) (n : Text) (d : Definition) → known n ≡ None
    → declared known n d n ≡ Some d
declared_there known n d none =
    ap (λ (k : Known). k n) (declared_new known n d none)
    ∙ ap (λ b. cond b (Some d) (known n)) (bytes_refl n)

-- what is given is known for something
some_first : (known : Known) (n : Text) (d : Definition)
    → (e : Definition) × (declared known n d n ≡ Some e)
some_first known n d = by (known n) refl where
  by : (o : Option Definition) → known n ≡ o → (e : Definition) × (declared known n d n ≡ Some e)
  by None is = (d, declared_there known n d is)
  by (Some e) is = (e, declared_keeps known n d n e is)

pub some_known : (known : Known) (gs : List Giving) (g : Giving) → Among g gs
    → (e : Definition) × (known_by known gs g.0 ≡ Some e)
some_known known [] g h = absurd h
some_known known (x ∷ gs) g (inl same) =
    let first = some_first known x.0 x.1 in
    subst (λ (y : Giving). (e : Definition) × (known_by known (x ∷ gs) y.0 ≡ Some e)) same
    (first.0, keeps (declared known x.0 x.1) gs x.0 first.0 first.1)
some_known known (x ∷ gs) g (inr h) = some_known (declared known x.0 x.1) gs g h

-- a name that is free is known for nothing, or names packages
free_cases : (known : Known) (n : Text) (d : Definition) → is_taken known n d ≡ false
    → (known n ≡ None)
    ⊎ ((e : Definition) × (known n ≡ Some e) × (is_package e.kind ≡ true)
    × (is_package d.kind ≡ true))
free_cases known n d free = by (known n) refl where
  by : (o : Option Definition) → known n ≡ o → (known n ≡ None)
      ⊎ ((e : Definition) × (known n ≡ Some e) × (is_package e.kind ≡ true)
      × (is_package d.kind ≡ true))
  by None is = inl is
  by (Some e) is =
      let both = repeats (is_package e.kind) (is_package d.kind)
      (sym (taken_is known n d (Some e) is) ∙ free) in
      inr (e, is, both.0, both.1)

-- where none is taken, what is no package is known for itself, and a package for a package
first_known : (known : Known) (n : Text) (d : Definition) → is_taken known n d ≡ false
    → (e : Definition) × (declared known n d n ≡ Some e) × (is_package e.kind ≡ is_package d.kind)
    × (is_package d.kind ≡ false → e ≡ d)
first_known known n d free = elim (free_cases known n d free) [
  | inl none ↦ (d, declared_there known n d none, refl, λ plain. refl)
  | inr (e, some, old, new) ↦ (
    e,
    declared_keeps known n d n e some,
    old ∙ sym new,
    λ plain. absurd (cc (sym new ∙ plain)),
  )
]

pub given_known : (known : Known) (gs : List Giving) (g : Giving) → Free known gs → Among g gs
    → (e : Definition) × (known_by known gs g.0 ≡ Some e)
    × (is_package e.kind ≡ is_package g.1.kind)
    × (is_package g.1.kind ≡ false → e ≡ g.1)
given_known known [] g free h = absurd h
given_known known (x ∷ gs) g free (inl same) =
    let first = first_known known x.0 x.1 free.0 in
    subst (λ (y : Giving). (e : Definition) × (known_by known (x ∷ gs) y.0 ≡ Some e)
    × (is_package e.kind ≡ is_package y.1.kind) × (is_package y.1.kind ≡ false → e ≡ y.1)) same
    (first.0, keeps (declared known x.0 x.1) gs x.0 first.0 first.1, first.2, first.3)
given_known known (x ∷ gs) g free (inr h) =
    given_known (declared known x.0 x.1) gs g free.1 h

-- and nothing was known of what is no package
was_unknown : (known : Known) (m : Text) (d : Definition) (n : Text)
    → declared known m d n ≡ None → known n ≡ None
was_unknown known m d n none = by (known n) refl where
  by : (o : Option Definition) → known n ≡ o → known n ≡ None
  by None is = is
  by (Some e) is = absurd (cc (sym none ∙ declared_keeps known m d n e is))

pub given_new : (known : Known) (gs : List Giving) (g : Giving) → Free known gs → Among g gs
    → is_package g.1.kind ≡ false → known g.0 ≡ None
given_new known [] g free h plain = absurd h
given_new known (x ∷ gs) g free (inl same) plain =
    elim (free_cases known x.0 x.1 free.0) [
      | inl none ↦ ap (λ (y : Giving). known y.0) (sym same) ∙ none
      | inr (e, some, old, new) ↦ absurd (cc (sym new
          ∙ ap (λ (y : Giving). is_package y.1.kind) same ∙ plain))
    ]
given_new known (x ∷ gs) g free (inr h) plain =
    was_unknown known x.0 x.1 g.0 (given_new (declared known x.0 x.1) gs g free.1 h plain)

-- ---- names that declarations give

pub from_given : (ds : List Declaration) (d : Declaration) (g : Giving) → Among d ds
    → Among g (gives d) → Among g (given ds)
from_given [] d g h k = absurd h
from_given (x ∷ ds) d g (inl same) k =
    in_first g (gives x) (given ds) (subst (λ (y : Declaration). Among g (gives y)) (sym same) k)
from_given (x ∷ ds) d g (inr h) k = in_second g (gives x) (given ds) (from_given ds d g h k)

-- a file gives its package
package_given : (file : ℕ) (s : Text) → (s ≡ [] → ⊥)
    → Among (s, package_of file) (packages_given file (scopes s))
package_given file [] some = absurd (some refl)
package_given file (b ∷ bs) some =
    subst (λ ss. Among (b ∷ bs, package_of file) (packages_given file ss)) (sym (scopes_more b bs))
    (inl refl)

pub file_given : (d : Declaration) (f : FileDescriptorProto) → d.body ≡ of_file f
    → (text_of f.package ≡ [] → ⊥) → Among (text_of f.package, package_of d.file) (gives d)
file_given d f is some =
    subst (λ b. Among (text_of f.package, package_of d.file) (gives (record d { body = b })))
    (sym is) (package_given d.file (text_of f.package) some)

-- any other declaration gives its name, which is no package
pub record Gives (d : Declaration) : Type 0 where
  pub one : gives d ≡ (d.name, definition_of d) ∷ []
  pub plain : is_package (definition_of d).kind ≡ false

pub gives_name : (d : Declaration) → is_some (seen_body d.body) ≡ true
    → IsCompleteBody (seen_body d.body) → Gives d
gives_name d seen whole = let is = gives_one d d.body seen whole in
    record { one = is.0; plain = is.1 }

pub in_gives : (d : Declaration) → Gives d → Among (d.name, definition_of d) (gives d)
in_gives d h = subst (Among (d.name, definition_of d)) (sym h.one) (inl refl)

-- what must be there of each is there, and no name is taken
pub along_free : (at : ℕ → Places) (files : Indexes) (known : Known) (ds : List Declaration)
    → faults_along at files known ds ≡ []
    → AllByRecursion (λ (d : Declaration). IsCompleteBody (seen_body d.body)) ds
    × Free known (given ds)
along_free at files known [] e = (tt, tt)
along_free at files known (d ∷ ds) e =
    let parts = none_both (faults_at (at d.file) known files d)
    (faults_along at files (known_after known d) ds) e in
    let here = good_to (at d.file) known files d parts.0 in
    let rest = along_free at files (known_after known d) ds parts.1 in (
      (here.complete, rest.0),
      both_free known (gives d) (given ds) here.free
          (subst (λ k. Free k (given ds)) (known_gives known d) rest.1),
    )

-- how often a declaration gives a name to something else than a package
abbrev pub weight : Text → Declaration → ℕ
weight n d = others n (gives d)

pub given_weight : (n : Text) (ds : List Declaration)
    → others n (given ds) ≡ sum_by (weight n) ds
given_weight n [] = refl
given_weight n (d ∷ ds) =
    let both = sum_by-append (other_at n) (gives d) (given ds) in
    let sum = sum_by-cons (weight n) d ds in
    let rest = given_weight n ds in
    omega (arith, both, sum, rest)
