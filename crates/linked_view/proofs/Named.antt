-- The pass over names finds nothing wrong exactly where files have names as they should.
use Rattle.std.proofs.Common.{◌≡◌, ◌≤◌, ◌+◌, ◌∙◌, ◌⊎◌, inl, inr, ℕ, zero, suc, Bool, true, false, cond, not, List, [], ◌∷◌, ◌++◌, is_some, bytes_eq, map, ap, sym, subst, refl, arith}
use Rattle.std.specs.List.{Contains, AllByRecursion}
use Rattle.std.proofs.lemmas.List.{map-append}
use Rattle.std.proofs.lemmas.List.Elements.{Contains-append_left, Contains-append_right, Contains-append_cases}
use Rattle.std.proofs.lemmas.List.Sums.{sum_by-cons, sum_by-append}
use Rattle.descriptor_records.specs.Content.{Text, FileContent, file_view}
use Rattle.descriptor_records.specs.declared.file.FileDescriptorProto.{FileDescriptorProto}
use Rattle.reflect_scope.specs.declared.definition.Definition.{Definition}
use Rattle.reflect_scope.specs.FileIndexes.{Indexes}
use Rattle.reflect_scope.specs.Known.{Known, is_package}
use Rattle.reflect_scope.specs.Means.{scopes}
use Rattle.reflect_scope.specs.Says.{IsScope}
use Rattle.reflect_declarations.specs.declared.offsets.Offsets.{Offsets}
use Rattle.reflect_declarations.specs.Tree.{text_of}
use Rattle.reflect_declarations.specs.Declarations.{Declaration, Body, of_file, of_message, of_field, of_oneof, of_enum, of_enum_value, of_service, of_method, of_extension, file_declarations, past_file}
use Rattle.reflect_declarations.specs.Batches.{batch_declarations}
use Rattle.reflect_known.specs.KnownNames.{definition_of, package_of, known_after, known_behind, nothing_known, nothing_before, known_of_files}
use Rattle.reflect_tables.specs.Views.{record_file}
use Rattle.reflect_pool.specs.Imports.{names_of_files}
use Rattle.reflect_names.specs.FileNames.{with_files, files_faults}
use Rattle.reflect_names.specs.Names.{Places, syntax_faults, faults_at}
use Rattle.reflect_names.specs.NamePass.{faults_along}
use Rattle.schema_view.specs.Declarations as view
use Rattle.schema_view.specs.Outlines.{Head, head_of, Outline, outline_of, times, times_declared, IsPackage, AreApart}
use Rattle.schema_view.specs.Lawful.{outlines}
use Rattle.schema_view.proofs.Lists.{contains_here, contains_there, contains_cases, contains_none, contains_map, contains_map_cases, sum_some}
use Rattle.schema_view.proofs.Renames.{map_same}
use Rattle.linked_view.specs.Complete.{IsComplete}
use Rattle.linked_view.specs.Named.{AreWellNamed}
use Rattle.linked_view.proofs.Counts.{one_if, bytes_refl, some_weight, weighed, bytes_same, times-cons, times_there, IsPlaced}
use Rattle.linked_view.proofs.Faults.{none_both, both_none}
use Rattle.linked_view.proofs.Given.{Giving, known_by, Free, free_both, both_free, known_both, other_at, package_at, others, packages, free_to, free_from}
use Rattle.linked_view.proofs.Completes.{given_by, packages_given, gives, known_gives, IsOwn, IsOwnBody, IsCompleteBody, good_to, good_from, mapped_all, all_mapped}
use Rattle.linked_view.proofs.NamedFiles.{name_from, syntax_from, all_imports, one_import, one_public, files_to, files_from}
use Rattle.linked_view.proofs.Scopes.{scopes_are, are_scopes}
use Rattle.linked_view.proofs.Walked.{Seen, seen, seen_body, told, text_seen, inner_declarations, file_seen}

pub in_all : {X : Type 0} (P : X → Type 0) (xs : List X) → AllByRecursion P xs → (x : X)
    → Contains xs x → P x
in_all P [] all x h = absurd (contains_none x h)
in_all P (y ∷ xs) all x h = elim (contains_cases y xs x h) [
  | inl e ↦ subst P e all.0
  | inr j ↦ in_all P xs all.1 x j
]

pub all_in : {X : Type 0} (P : X → Type 0) (xs : List X) → ((x : X) → Contains xs x → P x)
    → AllByRecursion P xs
all_in P [] h = tt
all_in P (y ∷ xs) h =
    (h y (contains_here y xs), all_in P xs (λ x i. h x (contains_there y xs x i)))

pub all_split : {X : Type 0} (P : X → Type 0) (a b : List X) → AllByRecursion P (a ++ b)
    → AllByRecursion P a × AllByRecursion P b
all_split P [] b h = (tt, h)
all_split P (x ∷ a) b h = let rest = all_split P a b h.1 in ((h.0, rest.0), rest.1)

pub all_joined : {X : Type 0} (P : X → Type 0) (a b : List X) → AllByRecursion P a → AllByRecursion P b
    → AllByRecursion P (a ++ b)
all_joined P [] b h k = k
all_joined P (x ∷ a) b h k = (h.0, all_joined P a b h.1 k)

-- the names that declarations give, one after another
abbrev pub given : List Declaration → List Giving
given [] = []
given (d ∷ ds) = gives d ++ given ds

given_both : (a b : List Declaration) → given (a ++ b) ≡ given a ++ given b
given_both [] b = refl
given_both (d ∷ a) b =
    ap (λ gs. gives d ++ gs) (given_both a b) ∙ sym (append_same (gives d) (given a) (given b)) where
      append_same : (x y z : List Giving) → (x ++ y) ++ z ≡ x ++ (y ++ z)
      append_same [] y z = refl
      append_same (g ∷ x) y z = ap (λ gs. g ∷ gs) (append_same x y z)

pub known_is_given : (known : Known) (ds : List Declaration)
    → known_behind known ds ≡ known_by known (given ds)
known_is_given known [] = refl
known_is_given known (d ∷ ds) =
    known_is_given (known_after known d) ds ∙ ap (λ k. known_by k (given ds)) (known_gives known d)
    ∙ sym (known_both known (gives d) (given ds))

abbrev IsWhole : Indexes → Declaration → Type 0
IsWhole files d = IsOwnBody files d.body × IsCompleteBody (seen_body d.body)

along_to : (at : ℕ → Places) (files : Indexes) (known : Known) (ds : List Declaration)
    → faults_along at files known ds ≡ []
    → AllByRecursion (IsWhole files) ds × Free known (given ds)
along_to at files known [] e = (tt, tt)
along_to at files known (d ∷ ds) e =
    let parts = none_both (faults_at (at d.file) known files d)
    (faults_along at files (known_after known d) ds) e in
    let here = good_to (at d.file) known files d parts.0 in
    let rest = along_to at files (known_after known d) ds parts.1 in (
      ((here.own, here.complete), rest.0),
      both_free known (gives d) (given ds) here.free
          (subst (λ k. Free k (given ds)) (known_gives known d) rest.1),
    )

along_from : (at : ℕ → Places) (files : Indexes) (known : Known) (ds : List Declaration)
    → AllByRecursion (IsWhole files) ds → Free known (given ds)
    → faults_along at files known ds ≡ []
along_from at files known [] all free = refl
along_from at files known (d ∷ ds) all free =
    let parts = free_both known (gives d) (given ds) free in
    both_none (faults_at (at d.file) known files d) (faults_along at files (known_after known d) ds)
    (good_from (at d.file) known files d
    (record { own = all.0.0; complete = all.0.1; free = parts.0 }))
    (along_from at files (known_after known d) ds all.1
    (subst (λ k. Free k (given ds)) (sym (known_gives known d)) parts.1))

-- the declarations in a file, and those of its content
abbrev IsDeclared : Seen → Type 0
IsDeclared s = is_some s.1 ≡ true

told_all : (vs : List view.Declaration) → AllByRecursion IsDeclared (map told vs)
told_all [] = tt
told_all (v ∷ vs) = (refl, told_all vs)

module _ (o : Offsets) (i : ℕ) (f : FileDescriptorProto) where
  abbrev inner : List Declaration
  inner = inner_declarations o i f

  abbrev content : List view.Declaration
  content = view.declarations (file_view f)

  pub inner_declared : AllByRecursion (λ (d : Declaration). is_some (seen_body d.body) ≡ true) inner
  inner_declared =
      all_mapped seen IsDeclared inner
      (subst (AllByRecursion IsDeclared) (sym (file_seen o i f)) (told_all content))

  -- what holds of them all, and of the declarations of the content
  pub content_to : (R : Seen → Type 0) → AllByRecursion (λ (d : Declaration). R (seen d)) inner
      → AllByRecursion (λ (v : view.Declaration). R (told v)) content
  content_to R all =
      all_mapped told R content (subst (AllByRecursion R) (file_seen o i f) (mapped_all seen R inner all))

  pub content_from : (R : Seen → Type 0) → AllByRecursion (λ (v : view.Declaration). R (told v)) content
      → AllByRecursion (λ (d : Declaration). R (seen d)) inner
  content_from R all =
      all_mapped seen R inner
      (subst (AllByRecursion R) (sym (file_seen o i f)) (mapped_all told R content all))

  complete_to : AllByRecursion (λ (d : Declaration). IsCompleteBody (seen_body d.body)) inner
      → AllByRecursion (λ (v : view.Declaration). IsComplete v.body) content
  complete_to all =
      all_mapped told (λ (s : Seen). IsCompleteBody s.1) content
      (subst (AllByRecursion (λ (s : Seen). IsCompleteBody s.1)) (file_seen o i f)
      (mapped_all seen (λ (s : Seen). IsCompleteBody s.1) inner all))

  complete_from : AllByRecursion (λ (v : view.Declaration). IsComplete v.body) content
      → AllByRecursion (λ (d : Declaration). IsCompleteBody (seen_body d.body)) inner
  complete_from all =
      all_mapped seen (λ (s : Seen). IsCompleteBody s.1) inner
      (subst (AllByRecursion (λ (s : Seen). IsCompleteBody s.1)) (sym (file_seen o i f))
      (mapped_all told (λ (s : Seen). IsCompleteBody s.1) content all))

  inner_names : map (λ (d : Declaration). d.name) inner
      ≡ map (λ (v : view.Declaration). v.name) content
  inner_names =
      sym (map_same (λ (s : Seen). s.0) seen (λ (d : Declaration). d.name) (λ d. refl) inner)
      ∙ ap (map (λ (s : Seen). s.0)) (file_seen o i f)
      ∙ map_same (λ (s : Seen). s.0) told (λ (v : view.Declaration). v.name) (λ v. refl) content

own_inner : (files : Indexes) (b : Body) → is_some (seen_body b) ≡ true → IsOwnBody files b
own_inner files (of_file f) e = absurd (cc e)
own_inner files b e = tt

abbrev IsGoodFile : Indexes → FileDescriptorProto → Type 0
IsGoodFile files f = IsOwn files f
    × AllByRecursion (λ (v : view.Declaration). IsComplete v.body) (view.declarations (file_view f))

seconds : {X : Type 0} (P Q : X → Type 0) (xs : List X) → AllByRecursion (λ x. P x × Q x) xs
    → AllByRecursion Q xs
seconds P Q [] all = tt
seconds P Q (x ∷ xs) all = (all.0.1, seconds P Q xs all.1)

wholes : (files : Indexes) (ds : List Declaration)
    → AllByRecursion (λ (d : Declaration). is_some (seen_body d.body) ≡ true) ds
    → AllByRecursion (λ (d : Declaration). IsCompleteBody (seen_body d.body)) ds
    → AllByRecursion (IsWhole files) ds
wholes files [] h k = tt
wholes files (d ∷ ds) h k = ((own_inner files d.body h.0, k.0), wholes files ds h.1 k.1)

good_files : (files : Indexes) (o : Offsets) (i : ℕ) (fs : List FileDescriptorProto)
    → AllByRecursion (IsWhole files) (batch_declarations o i fs)
    → AllByRecursion (IsGoodFile files) fs
good_files files o i [] all = tt
good_files files o i (f ∷ fs) all =
    let parts = all_split (IsWhole files) (file_declarations o i f)
    (batch_declarations (past_file o f) (i + 1) fs) all in
    let rest = good_files files (past_file o f) (i + 1) fs parts.1 in (
      (
        parts.0.0.0,
        complete_to o i f (seconds (λ (d : Declaration). IsOwnBody files d.body)
            (λ (d : Declaration). IsCompleteBody (seen_body d.body)) (inner_declarations o i f)
            parts.0.1),
      ),
      rest,
    )

files_good : (files : Indexes) (o : Offsets) (i : ℕ) (fs : List FileDescriptorProto)
    → AllByRecursion (IsGoodFile files) fs
    → AllByRecursion (IsWhole files) (batch_declarations o i fs)
files_good files o i [] all = tt
files_good files o i (f ∷ fs) all =
    all_joined (IsWhole files) (file_declarations o i f)
    (batch_declarations (past_file o f) (i + 1) fs) (
      (all.0.0, tt),
      wholes files (inner_declarations o i f) (inner_declared o i f)
          (complete_from o i f all.0.1),
    )
    (files_good files (past_file o f) (i + 1) fs all.1)

given_named : (b : Bool) (name : Text) (d : Definition) → b ≡ true
    → given_by b name d ≡ (name, d) ∷ []
given_named true name d e = refl
given_named false name d e = absurd (cc e)

-- a declaration gives its name, and to no package
pub gives_one : (d : Declaration) (b : Body) → is_some (seen_body b) ≡ true → IsCompleteBody (seen_body b)
    → (gives (record d { body = b }) ≡ (d.name, definition_of (record d { body = b })) ∷ [])
    × (is_package (definition_of (record d { body = b })).kind ≡ false)
gives_one d (of_file f) e h = absurd (cc e)
gives_one d (of_message m) e h = (given_named _ d.name _ (name_from m.name h.0), refl)
gives_one d (of_field f) e h = (given_named _ d.name _ (name_from f.name h.name), refl)
gives_one d (of_oneof o) e h = (given_named _ d.name _ (name_from o.name h), refl)
gives_one d (of_enum k) e h = (given_named _ d.name _ (name_from k.name h.0), refl)
gives_one d (of_enum_value v) e h = (given_named _ d.name _ (name_from v.name h.0), refl)
gives_one d (of_service s) e h = (given_named _ d.name _ (name_from s.name h), refl)
gives_one d (of_method m) e h = (given_named _ d.name _ (name_from m.name h.name), refl)
gives_one d (of_extension x) e h = (given_named _ d.name _ (name_from x.name h.0.name), refl)

none_if : (b : Bool) → ◌≡◌ {A = ℕ} (cond b 0 0) 0
none_if true = refl
none_if false = refl

single : (n name : Text) (d : Definition) → is_package d.kind ≡ false
    → (others n ((name, d) ∷ []) ≡ one_if (bytes_eq name n)) × (packages n ((name, d) ∷ []) ≡ 0)
single n name d is =
    let o : other_at n (name, d) ≡ one_if (bytes_eq name n) =
    ap (λ p. cond (bytes_eq name n) (one_if (not p)) 0) is in
    let p : package_at n (name, d) ≡ 0 =
    ap (λ p. cond (bytes_eq name n) (one_if p) 0) is ∙ none_if (bytes_eq name n) in
    let a = sum_by-cons (other_at n) (name, d) [] in
    let b = sum_by-cons (package_at n) (name, d) [] in
    (omega (arith, o, a), omega (arith, p, b))

abbrev name_of : Declaration → Text
name_of d = d.name

counted_inner : (n : Text) (ds : List Declaration)
    → AllByRecursion (λ (d : Declaration). is_some (seen_body d.body) ≡ true) ds
    → AllByRecursion (λ (d : Declaration). IsCompleteBody (seen_body d.body)) ds
    → (others n (given ds) ≡ times n (map name_of ds)) × (packages n (given ds) ≡ 0)
counted_inner n [] h k = (refl, refl)
counted_inner n (d ∷ ds) h k =
    let one = gives_one d d.body h.0 k.0 in
    let here = single n d.name (definition_of d) one.1 in
    let rest = counted_inner n ds h.1 k.1 in
    let o = sum_by-append (other_at n) (gives d) (given ds) in
    let p = sum_by-append (package_at n) (gives d) (given ds) in
    let own : others n (gives d) ≡ one_if (bytes_eq d.name n) = ap (others n) one.0 ∙ here.0 in
    let none : packages n (gives d) ≡ 0 = ap (packages n) one.0 ∙ here.1 in
    let sum = times-cons n d.name (map name_of ds) in
    (omega (arith, o, own, rest.0, sum), omega (arith, p, none, rest.1))

-- what a file's package gives
package_none : (n : Text) (file : ℕ) (ss : List Text) → others n (packages_given file ss) ≡ 0
package_none n file [] = refl
package_none n file ([] ∷ ss) = package_none n file ss
package_none n file ((b ∷ bs) ∷ ss) =
    let rest = package_none n file ss in
    let here : other_at n (b ∷ bs, package_of file) ≡ 0 = none_if (bytes_eq (b ∷ bs) n) in
    let sum = sum_by-cons (other_at n) (b ∷ bs, package_of file) (packages_given file ss) in
    omega (arith, rest, here, sum)

package_some : (n : Text) (file : ℕ) (ss : List Text) → Contains ss n → (n ≡ [] → ⊥)
    → 1 ≤ packages n (packages_given file ss)
package_some n file [] h not_empty = absurd (contains_none n h)
package_some n file ([] ∷ ss) h not_empty =
    elim (contains_cases [] ss n h) [
      | inl e ↦ absurd (not_empty (sym e))
      | inr j ↦ package_some n file ss j not_empty
    ]
package_some n file ((b ∷ bs) ∷ ss) h not_empty =
    let sum = sum_by-cons (package_at n) (b ∷ bs, package_of file) (packages_given file ss) in
    elim (contains_cases (b ∷ bs) ss n h) [
      | inl e ↦ (let is : bytes_eq (b ∷ bs) n ≡ true = subst (λ m. bytes_eq (b ∷ bs) m ≡ true) e
          (bytes_refl (b ∷ bs)) in
          let one : package_at n (b ∷ bs, package_of file) ≡ 1 = ap (λ v. cond v 1 0) is in
          omega (arith, one, sum))
      | inr j ↦ (let rest = package_some n file ss j not_empty in omega (arith, rest, sum))
    ]

some_package : (n : Text) (file : ℕ) (ss : List Text) → 1 ≤ packages n (packages_given file ss)
    → Contains ss n × (n ≡ [] → ⊥)
some_package n file [] le = absurd (omega (arith, le))
some_package n file ([] ∷ ss) le =
    let rest = some_package n file ss le in (contains_there [] ss n rest.0, rest.1)
some_package n file ((b ∷ bs) ∷ ss) le =
    by (bytes_eq (b ∷ bs) n) refl
    (sum_by-cons (package_at n) (b ∷ bs, package_of file) (packages_given file ss))
    (some_package n file ss) where
      full : (b ∷ bs ≡ []) → ⊥
      full e = cc e

      by : (v : Bool) → bytes_eq (b ∷ bs) n ≡ v
          → packages n (packages_given file ((b ∷ bs) ∷ ss))
          ≡ package_at n (b ∷ bs, package_of file) + packages n (packages_given file ss)
          → (1 ≤ packages n (packages_given file ss) → Contains ss n × (n ≡ [] → ⊥))
          → Contains ((b ∷ bs) ∷ ss) n × (n ≡ [] → ⊥)
      by true is sum rest =
          let same = bytes_same (b ∷ bs) n is in (
            subst (Contains ((b ∷ bs) ∷ ss)) same (contains_here (b ∷ bs) ss),
            λ e. full (same ∙ e),
          )
      by false is sum rest =
          let none : package_at n (b ∷ bs, package_of file) ≡ 0 = ap (λ v. cond v 1 0) is in
          let r = rest (omega (arith, le, none, sum)) in
          (contains_there (b ∷ bs) ss n r.0, r.1)

-- how often the files of a batch declare a name, and whether it is one of their packages
head_names : (c : FileContent) → map (λ (h : Head). h.name) (outline_of c).heads
    ≡ map (λ (v : view.Declaration). v.name) (view.declarations c)
head_names c = map_same (λ (h : Head). h.name) head_of (λ (v : view.Declaration). v.name) (λ v. refl)
    (view.declarations c)

abbrev pub AreComplete : List FileDescriptorProto → Type 0
AreComplete fs = AllByRecursion (λ (f : FileDescriptorProto).
    AllByRecursion (λ (v : view.Declaration). IsComplete v.body) (view.declarations (file_view f))) fs

module _ (n : Text) where
  -- of one file, and of those behind it
  given_file : (o : Offsets) (i : ℕ) (f : FileDescriptorProto) (fs : List FileDescriptorProto)
      → given (batch_declarations o i (f ∷ fs))
      ≡ given (file_declarations o i f) ++ given (batch_declarations (past_file o f) (i + 1) fs)
  given_file o i f fs =
      given_both (file_declarations o i f) (batch_declarations (past_file o f) (i + 1) fs)

  file_counted : (o : Offsets) (i : ℕ) (f : FileDescriptorProto)
      → AllByRecursion (λ (v : view.Declaration). IsComplete v.body) (view.declarations (file_view f))
      → (others n (given (file_declarations o i f))
      ≡ times n (map (λ (h : Head). h.name) (outline_of (file_view f)).heads))
      × (packages n (given (file_declarations o i f))
      ≡ packages n (packages_given i (scopes (text_of f.package))))
  file_counted o i f all =
      let ps = packages_given i (scopes (text_of f.package)) in
      let inner = inner_declarations o i f in
      let count = counted_inner n inner (inner_declared o i f) (complete_from o i f all) in
      let a = sum_by-append (other_at n) ps (given inner) in
      let b = sum_by-append (package_at n) ps (given inner) in
      let none = package_none n i (scopes (text_of f.package)) in
      let names : times n (map name_of inner)
      ≡ times n (map (λ (h : Head). h.name) (outline_of (file_view f)).heads) =
      ap (times n) (inner_names o i f ∙ sym (head_names (file_view f))) in
      (omega (arith, count.0, a, none, names), omega (arith, count.1, b))

  batch_others : (o : Offsets) (i : ℕ) (fs : List FileDescriptorProto) → AreComplete fs
      → others n (given (batch_declarations o i fs)) ≡ times_declared n (outlines (map file_view fs))
  batch_others o i [] all = refl
  batch_others o i (f ∷ fs) all =
      let here = file_counted o i f all.0 in
      let rest = batch_others (past_file o f) (i + 1) fs all.1 in
      let a = ap (others n) (given_file o i f fs)
      ∙ sum_by-append (other_at n) (given (file_declarations o i f))
      (given (batch_declarations (past_file o f) (i + 1) fs)) in
      let sum = sum_by-cons (λ (q : Outline). times n (map (λ h. h.name) q.heads))
      (outline_of (file_view f)) (outlines (map file_view fs)) in
      omega (arith, here.0, rest, a, sum)

  batch_package : (o : Offsets) (i : ℕ) (fs : List FileDescriptorProto) → AreComplete fs
      → 1 ≤ packages n (given (batch_declarations o i fs))
      → IsPackage (outlines (map file_view fs)) n × (n ≡ [] → ⊥)
  batch_package o i [] all le = absurd (omega (arith, le))
  batch_package o i (f ∷ fs) all le =
      by (packages n (given (file_declarations o i f))) refl
      (ap (packages n) (given_file o i f fs)
      ∙ sum_by-append (package_at n) (given (file_declarations o i f))
      (given (batch_declarations (past_file o f) (i + 1) fs)))
      (file_counted o i f all.0)
      (batch_package (past_file o f) (i + 1) fs all.1) where
        own : Outline
        own = outline_of (file_view f)

        behind : List Outline
        behind = outlines (map file_view fs)

        later : ℕ
        later = packages n (given (batch_declarations (past_file o f) (i + 1) fs))

        by : (k : ℕ) → packages n (given (file_declarations o i f)) ≡ k
            → packages n (given (batch_declarations o i (f ∷ fs)))
            ≡ packages n (given (file_declarations o i f)) + later
            → (others n (given (file_declarations o i f))
            ≡ times n (map (λ (h : Head). h.name) (outline_of (file_view f)).heads))
            × (packages n (given (file_declarations o i f))
            ≡ packages n (packages_given i (scopes (text_of f.package))))
            → (1 ≤ later → IsPackage behind n × (n ≡ [] → ⊥))
            → IsPackage (own ∷ behind) n × (n ≡ [] → ⊥)
        by zero is sum here rest =
            let r = rest (omega (arith, le, is, sum)) in
            ((r.0.0, contains_there own behind r.0.0 r.0.1, r.0.2), r.1)
        by (suc k) is sum here rest =
            let count = here.1 in
            let r = some_package n i (scopes (text_of f.package)) (omega (arith, is, count)) in
            let scope = scopes_are (text_of f.package) n r.0 in (
              (
                own,
                contains_here own behind,
                subst (λ s. IsScope s n) (sym (text_seen f.package)) scope,
              ),
              r.1,
            )

  package_batch : (o : Offsets) (i : ℕ) (fs : List FileDescriptorProto) → AreComplete fs
      → IsPackage (outlines (map file_view fs)) n → (n ≡ [] → ⊥)
      → 1 ≤ packages n (given (batch_declarations o i fs))
  package_batch o i [] all (q, h, is) not_empty = absurd (contains_none q h)
  package_batch o i (f ∷ fs) all (q, h, is) not_empty =
      let rest = λ (j : Contains (outlines (map file_view fs)) q).
      package_batch (past_file o f) (i + 1) fs all.1 (q, j, is) not_empty in
      let sum = ap (packages n) (given_file o i f fs)
      ∙ sum_by-append (package_at n) (given (file_declarations o i f))
      (given (batch_declarations (past_file o f) (i + 1) fs)) in
      let here = (file_counted o i f all.0).1 in
      elim (contains_cases (outline_of (file_view f)) (outlines (map file_view fs)) q h) [
        | inl e ↦ (let scope : IsScope (text_of f.package) n =
            subst (λ s. IsScope s n) (text_seen f.package)
            (subst (λ (p : Outline). IsScope p.package_name n) (sym e) is) in
            let some = package_some n i (scopes (text_of f.package))
            (are_scopes (text_of f.package) n scope) not_empty in
            omega (arith, sum, here, some))
        | inr j ↦ (let r = rest j in omega (arith, sum, r))
      ]

declared_both : (n : Text) (os ps : List Outline)
    → times_declared n (os ++ ps) ≡ times_declared n os + times_declared n ps
declared_both n os ps = sum_by-append (λ (q : Outline). times n (map (λ h. h.name) q.heads)) os ps

outlines_both : (a b : List FileContent) → outlines (a ++ b) ≡ outlines a ++ outlines b
outlines_both a b = map-append outline_of a b

package_both : (n : Text) (os ps : List Outline) → IsPackage (os ++ ps) n
    → IsPackage os n ⊎ IsPackage ps n
package_both n os ps (q, h, is) = elim (Contains-append_cases os ps q h) [
  | inl i ↦ inl (q, i, is)
  | inr i ↦ inr (q, i, is)
]

both_package : (n : Text) (os ps : List Outline) → IsPackage os n ⊎ IsPackage ps n
    → IsPackage (os ++ ps) n
both_package n os ps (inl (q, h, is)) = (q, Contains-append_left os ps q h, is)
both_package n os ps (inr (q, h, is)) = (q, Contains-append_right os ps q h, is)

-- where a name is declared
declared_there : (n : Text) (os : List Outline) (q : Outline) (h : Head) → Contains os q
    → Contains q.heads h → h.name ≡ n → 1 ≤ times_declared n os
declared_there n os q h i j e =
    let names = contains_map (λ (x : Head). x.name) q.heads h j in
    let inside = times_there n (map (λ (x : Head). x.name) q.heads)
    (subst (Contains (map (λ (x : Head). x.name) q.heads)) e names) in
    let some = sum_some (λ (p : Outline). times n (map (λ x. x.name) p.heads)) os q i in
    omega (arith, inside, some)

there_declared : (n : Text) (os : List Outline) → 1 ≤ times_declared n os
    → (q : Outline) × (h : Head) × Contains os q × Contains q.heads h × (h.name ≡ n)
there_declared n os le =
    let q = some_weight (λ (p : Outline). times n (map (λ x. x.name) p.heads)) os le in
    let h = some_weight (λ (x : Text). cond (bytes_eq x n) 1 0) (map (λ (x : Head). x.name) q.0.heads)
    q.2 in
    let x = contains_map_cases (λ (x : Head). x.name) q.0.heads h.0 h.1 in
    (q.0, x.0, q.1, x.1, x.2 ∙ bytes_same h.0 n (weighed (bytes_eq h.0 n) h.2))

module _ (old new : List FileDescriptorProto) (o : Offsets) (i : ℕ) (whole_old : AreComplete old)
    (whole_new : AreComplete new) where
  abbrev both_given : List Giving
  both_given = given (batch_declarations nothing_before 0 old) ++ given (batch_declarations o i new)

  abbrev both_outlines : List Outline
  both_outlines = outlines (map file_view old ++ map file_view new)

  all_others : (n : Text) → others n both_given ≡ times_declared n both_outlines
  all_others n =
      let a = batch_others n nothing_before 0 old whole_old in
      let b = batch_others n o i new whole_new in
      let c = sum_by-append (other_at n) (given (batch_declarations nothing_before 0 old))
      (given (batch_declarations o i new)) in
      let d = ap (times_declared n) (outlines_both (map file_view old) (map file_view new))
      ∙ declared_both n (outlines (map file_view old)) (outlines (map file_view new)) in
      omega (arith, a, b, c, d)

  all_packages : (n : Text) → packages n both_given
      ≡ packages n (given (batch_declarations nothing_before 0 old))
      + packages n (given (batch_declarations o i new))
  all_packages n = sum_by-append (package_at n) (given (batch_declarations nothing_before 0 old))
      (given (batch_declarations o i new))

  package_there : (n : Text) → IsPackage both_outlines n → (n ≡ [] → ⊥) → 1 ≤ packages n both_given
  package_there n h not_empty =
      let sum = all_packages n in
      elim (package_both n (outlines (map file_view old)) (outlines (map file_view new))
      (subst (λ os. IsPackage os n) (outlines_both (map file_view old) (map file_view new)) h)) [
        | inl p ↦ (let r = package_batch n nothing_before 0 old whole_old p not_empty in
            omega (arith, sum, r))
        | inr p ↦ (let r = package_batch n o i new whole_new p not_empty in omega (arith, sum, r))
      ]

  there_package : (n : Text) → 1 ≤ packages n both_given
      → IsPackage both_outlines n × (n ≡ [] → ⊥)
  there_package n le = by (packages n (given (batch_declarations nothing_before 0 old))) refl
      (all_packages n) where
        joined : IsPackage (outlines (map file_view old)) n ⊎ IsPackage (outlines (map file_view new)) n
            → IsPackage both_outlines n
        joined h = subst (λ os. IsPackage os n)
            (sym (outlines_both (map file_view old) (map file_view new)))
            (both_package n (outlines (map file_view old)) (outlines (map file_view new)) h)

        by : (k : ℕ) → packages n (given (batch_declarations nothing_before 0 old)) ≡ k
            → packages n both_given ≡ packages n (given (batch_declarations nothing_before 0 old))
            + packages n (given (batch_declarations o i new))
            → IsPackage both_outlines n × (n ≡ [] → ⊥)
        by zero is sum =
            let r = batch_package n o i new whole_new (omega (arith, le, is, sum)) in
            (joined (inr r.0), r.1)
        by (suc k) is sum =
            let r = batch_package n nothing_before 0 old whole_old (omega (arith, is)) in
            (joined (inl r.0), r.1)

  names_apart : Free nothing_known both_given
      → ((n : Text) → times_declared n both_outlines ≤ 1)
      × ((n : Text) (q : Outline) (h : Head) → Contains both_outlines q → Contains q.heads h
      → h.name ≡ n → IsPackage both_outlines n → n ≡ [])
  names_apart free = (
    λ n.
        let apart = (free_to nothing_known both_given free n).once in
        let is = all_others n in
        omega (arith, apart, is),
    alone,
  ) where
    alone : (n : Text) (q : Outline) (h : Head) → Contains both_outlines q → Contains q.heads h
        → h.name ≡ n → IsPackage both_outlines n → n ≡ []
    alone [] q h j k e p = refl
    alone (b ∷ bs) q h j k e p =
        let there = declared_there (b ∷ bs) both_outlines q h j k e in
        let is = all_others (b ∷ bs) in
        let none = (free_to nothing_known both_given free (b ∷ bs)).alone (omega (arith, there, is)) in
        let some = package_there (b ∷ bs) p (λ empty. cc empty) in
        absurd (omega (arith, none, some))

  pub apart_free : AreApart both_outlines → Free nothing_known both_given
  apart_free h = free_from nothing_known both_given (λ n. record {
    once = let le = h.names n in let is = all_others n in omega (arith, le, is);
    alone = λ le. by n (packages n both_given) refl (let is = all_others n in omega (arith, le, is));
  }) where
    by : (n : Text) (k : ℕ) → packages n both_given ≡ k → 1 ≤ times_declared n both_outlines
        → 0 + packages n both_given ≡ 0
    by n zero is le = omega (arith, is)
    by n (suc k) is le =
        let p = there_package n (omega (arith, is)) in
        let d = there_declared n both_outlines le in
        absurd (p.1 (h.packages n d.0 d.1 d.2 d.3 d.4 p.0))

pub complete_of : (old new : List FileDescriptorProto) → AreWellNamed (map file_view old) (map file_view new)
    → AreComplete new
complete_of old new h = all_in (λ (f : FileDescriptorProto).
    AllByRecursion (λ (v : view.Declaration). IsComplete v.body) (view.declarations (file_view f))) new
    (λ f i. all_in (λ (v : view.Declaration). IsComplete v.body) (view.declarations (file_view f))
    (λ v j. h.complete (file_view f) v (contains_map file_view new f i) j))

module _ (at : ℕ → Places) (indexes : Indexes) (o : Offsets) (first : ℕ)
    (old new : List FileDescriptorProto) (placed : IsPlaced indexes (names_of_files (map record_file old)))
    (before : AreWellNamed [] (map file_view old)) where
  abbrev files : Indexes
  files = with_files indexes first new

  old_free : Free nothing_known (given (batch_declarations nothing_before 0 old))
  old_free = apart_free [] old nothing_before 0 tt (complete_of [] old before) before.apart

  old_known : known_of_files old ≡ known_by nothing_known (given (batch_declarations nothing_before 0 old))
  old_known = known_is_given nothing_known (batch_declarations nothing_before 0 old)

  pub named_to : files_faults at indexes first new
      ++ faults_along at files (known_of_files old) (batch_declarations o first new) ≡ []
      → AreWellNamed (map file_view old) (map file_view new)
  named_to none =
      let ds = batch_declarations o first new in
      let parts = none_both (files_faults at indexes first new)
      (faults_along at files (known_of_files old) ds) none in
      let all = along_to at files (known_of_files old) ds parts.1 in
      let good = good_files files o first new all.0 in
      let own : (f : FileDescriptorProto) → Contains new f → IsGoodFile files f = in_all (IsGoodFile files) new good in
      let are = files_to at indexes first old new placed (record {
        names = parts.0;
        imports = λ k f i. all_imports at k files f (own f i).0.imports (own f i).0.publics;
        syntax = λ k f i. (own f i).0.syntax (at k);
      }) in
      let whole = seconds (IsOwn files) (λ (f : FileDescriptorProto).
      AllByRecursion (λ (v : view.Declaration). IsComplete v.body) (view.declarations (file_view f))) new good in
      let free = both_free nothing_known (given (batch_declarations nothing_before 0 old)) (given ds) old_free
      (subst (λ k. Free k (given ds)) old_known all.1) in
      let apart = names_apart old new o first (complete_of [] old before) whole free in
      record {
        apart = record { files = are.names; names = apart.0; packages = apart.1 };
        files = are.files;
        imports = are.imports;
        complete = λ c v i j.
            let f = contains_map_cases file_view new c i in
            in_all (λ (v : view.Declaration). IsComplete v.body) (view.declarations (file_view f.0))
            (own f.0 f.1).1 v (subst (λ x. Contains (view.declarations x) v) (sym f.2) j);
      }

  pub named_from : AreWellNamed (map file_view old) (map file_view new)
      → files_faults at indexes first new
      ++ faults_along at files (known_of_files old) (batch_declarations o first new) ≡ []
  named_from h =
      let ds = batch_declarations o first new in
      let none = files_from at indexes first old new placed
      (record { names = h.apart.files; files = h.files; imports = h.imports }) in
      let whole = complete_of old new h in
      let free = free_both nothing_known (given (batch_declarations nothing_before 0 old)) (given ds)
      (apart_free old new o first (complete_of [] old before) whole h.apart) in
      let good = all_in (IsGoodFile files) new (λ f i. (
        record {
          imports = one_import at 0 files f (none.imports 0 f i);
          publics = one_public at 0 files f (none.imports 0 f i);
          syntax = λ other. none_syntax other f i;
        },
        in_all (λ (g : FileDescriptorProto).
            AllByRecursion (λ (v : view.Declaration). IsComplete v.body)
            (view.declarations (file_view g))) new whole f i,
      )) in
      both_none (files_faults at indexes first new)
      (faults_along at files (known_of_files old) ds) none.names
      (along_from at files (known_of_files old) ds (files_good files o first new good)
      (subst (λ k. Free k (given ds)) (sym old_known) free.1)) where
        none_syntax : (other : Places) (f : FileDescriptorProto) → Contains new f
            → syntax_faults other f.syntax ≡ []
        none_syntax other f i = syntax_from other f.syntax (h.files (file_view f) (contains_map file_view new f i)).syntax
