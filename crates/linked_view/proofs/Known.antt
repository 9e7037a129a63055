-- The names that files make known are those of their packages and declarations.
use Rattle.std.proofs.Common.{◌≡◌, ◌∙◌, ◌+◌, ◌⊎◌, inl, inr, ℕ, zero, suc, Bool, true, false, cond, List, [], ◌∷◌, Option, Some, None, is_some, bytes_eq, map, slice_get, ap, sym, subst, refl, arith}
use Rattle.std.specs.List.{Contains, AllByRecursion}
use Rattle.std.proofs.lemmas.List.Elements.{Contains-append_left, Contains-append_right, Contains-append_cases}
use Rattle.descriptor_records.specs.Content.{Text, file_view}
use Rattle.descriptor_records.specs.declared.file.FileDescriptorProto.{FileDescriptorProto}
use Rattle.reflect_scope.specs.declared.definition.Definition.{Definition}
use Rattle.reflect_scope.specs.declared.definition.DefinitionKind.{DefinitionKind}
use Rattle.reflect_scope.specs.Known.{Known, declared, is_taken, is_package}
use Rattle.reflect_scope.specs.Means.{scopes}
use Rattle.reflect_scope.specs.Says.{IsScope}
use Rattle.reflect_declarations.specs.declared.offsets.Offsets.{Offsets}
use Rattle.reflect_declarations.specs.Tree.{text_of}
use Rattle.reflect_declarations.specs.Declarations.{Declaration, Body, of_file, file_declaration, file_declarations, past_file}
use Rattle.reflect_declarations.specs.Batches.{batch_declarations}
use Rattle.reflect_known.specs.KnownNames.{kind_of, definition_of, package_of, nothing_known, nothing_before, known_of_files}
use Rattle.reflect_names.proofs.Declared.{declared_new}
use Rattle.reflect_index.proofs.Counted.{AreNext, past_one, file_next}
use Rattle.schema_view.specs.Declarations as view
use Rattle.schema_view.specs.Outlines.{Head, head_of, Outline, outline_of, sort_of, IsPackage}
use Rattle.schema_view.specs.Lawful.{outlines}
use Rattle.schema_view.proofs.Lists.{contains_here, contains_there, contains_cases, contains_none, contains_map, contains_map_cases}
use Rattle.linked_view.specs.Complete.{IsComplete}
use Rattle.linked_view.specs.Known.{IsKindOf, IsDeclaredAs, AreKnown}
use Rattle.linked_view.specs.Named.{AreWellNamed}
use Rattle.linked_view.proofs.Completes.{packages_given, gives, IsCompleteBody}
use Rattle.linked_view.proofs.Counts.{bytes_same, bytes_refl}
use Rattle.linked_view.proofs.Given.{Giving, known_by, Free, taken_is, stays, repeats}
use Rattle.linked_view.proofs.Named.{in_all, inner_declared, content_from, known_is_given, given, AreComplete, complete_of, apart_free, gives_one}
use Rattle.linked_view.proofs.Places.{get_contains, contains_get}
use Rattle.linked_view.proofs.Scopes.{scopes_are, are_scopes}
use Rattle.linked_view.proofs.Walked.{Seen, seen, seen_body, told, text_seen, inner_declarations, file_seen}

-- what is known stays
pub declared_keeps : (known : Known) (m : Text) (d : Definition) (n : Text) (e : Definition)
    → known n ≡ Some e → declared known m d n ≡ Some e
declared_keeps known m d n e h = by (known m) refl (bytes_eq m n) refl where
  by : (o : Option Definition) → known m ≡ o → (b : Bool) → bytes_eq m n ≡ b
      → declared known m d n ≡ Some e
  by (Some x) is b _ = ap (λ (k : Known). k n) (stays known m d x is) ∙ h
  by None is true same =
      absurd (cc (sym is ∙ ap known (bytes_same m n same) ∙ h))
  by None is false other =
      ap (λ (k : Known). k n) (declared_new known m d is)
      ∙ ap (λ b. cond b (Some d) (known n)) other ∙ h

pub keeps : (known : Known) (gs : List Giving) (n : Text) (e : Definition) → known n ≡ Some e
    → known_by known gs n ≡ Some e
keeps known [] n e h = h
keeps known (g ∷ gs) n e h =
    keeps (declared known g.0 g.1) gs n e (declared_keeps known g.0 g.1 n e h)

-- a definition is the one that was given, or both are packages
abbrev IsSame : Definition → Definition → Type 0
IsSame e d = (e ≡ d) ⊎ ((is_package e.kind ≡ true) × (is_package d.kind ≡ true))

first_known : (known : Known) (n : Text) (d : Definition) → is_taken known n d ≡ false
    → (e : Definition) × (declared known n d n ≡ Some e) × IsSame e d
first_known known n d free = by (known n) refl where
  by : (o : Option Definition) → known n ≡ o
      → (e : Definition) × (declared known n d n ≡ Some e) × IsSame e d
  by None is = (
    d,
    ap (λ (k : Known). k n) (declared_new known n d is)
        ∙ ap (λ b. cond b (Some d) (known n)) (bytes_refl n),
    inl refl,
  )
  by (Some e) is =
      let both = repeats (is_package e.kind) (is_package d.kind)
      (sym (taken_is known n d (Some e) is) ∙ free) in
      (e, ap (λ (k : Known). k n) (stays known n d e is) ∙ is, inr both)

given_known : (known : Known) (gs : List Giving) (n : Text) (d : Definition) → Free known gs
    → Contains gs (n, d) → (e : Definition) × (known_by known gs n ≡ Some e) × IsSame e d
given_known known [] n d free h = absurd (contains_none (n, d) h)
given_known known (g ∷ gs) n d free h = elim (contains_cases g gs (n, d) h) [
  | inl same ↦ (
      let name : g.0 ≡ n = ap (λ (x : Giving). x.0) same in
      let def : g.1 ≡ d = ap (λ (x : Giving). x.1) same in
      let free' : is_taken known n d ≡ false =
      subst (λ (x : Giving). is_taken known x.0 x.1 ≡ false) same free.0 in
      let first = first_known known n d free' in
      let now : declared known g.0 g.1 n ≡ Some first.0 =
      subst (λ (x : Giving). declared known x.0 x.1 n ≡ Some first.0) (sym same) first.1 in
      (first.0, keeps (declared known g.0 g.1) gs n first.0 now, first.2))
  | inr j ↦ given_known (declared known g.0 g.1) gs n d free.1 j
]

declared_cases : (known : Known) (m : Text) (e : Definition) (n : Text) (d : Definition)
    → declared known m e n ≡ Some d → (known n ≡ Some d) ⊎ ((m ≡ n) × (e ≡ d))
declared_cases known m e n d h = by (known m) refl (bytes_eq m n) refl where
  by : (o : Option Definition) → known m ≡ o → (b : Bool) → bytes_eq m n ≡ b
      → (known n ≡ Some d) ⊎ ((m ≡ n) × (e ≡ d))
  by (Some x) is b _ = inl (sym (ap (λ (k : Known). k n) (stays known m e x is)) ∙ h)
  by None is true same =
      let now : Some e ≡ Some d = sym (ap (λ (k : Known). k n) (declared_new known m e is)
      ∙ ap (λ b. cond b (Some e) (known n)) same) ∙ h in
      let own : e ≡ d = cc now in
      inr (bytes_same m n same, own)
  by None is false other =
      inl (sym (ap (λ (k : Known). k n) (declared_new known m e is)
      ∙ ap (λ b. cond b (Some e) (known n)) other) ∙ h)

known_given : (known : Known) (gs : List Giving) (n : Text) (d : Definition)
    → known_by known gs n ≡ Some d → (known n ≡ Some d) ⊎ Contains gs (n, d)
known_given known [] n d h = inl h
known_given known (g ∷ gs) n d h = elim (known_given (declared known g.0 g.1) gs n d h) [
  | inr j ↦ inr (contains_there g gs (n, d) j)
  | inl e ↦ elim (declared_cases known g.0 g.1 n d e) [
    | inl was ↦ inl was
    | inr both ↦ (
        let same : g ≡ (n, d) = λ i. (both.0 i, both.1 i) in
        inr (subst (Contains (g ∷ gs)) same (contains_here g gs)))
  ]
]

-- who gives
given_from : (ds : List Declaration) (g : Giving) → Contains (given ds) g
    → (x : Declaration) × Contains ds x × Contains (gives x) g
given_from [] g h = absurd (contains_none g h)
given_from (d ∷ ds) g h = elim (Contains-append_cases (gives d) (given ds) g h) [
  | inl j ↦ (d, contains_here d ds, j)
  | inr j ↦ (let r = given_from ds g j in (r.0, contains_there d ds r.0 r.1, r.2))
]

from_given : (ds : List Declaration) (g : Giving) (x : Declaration) → Contains ds x
    → Contains (gives x) g → Contains (given ds) g
from_given [] g x h k = absurd (contains_none x h)
from_given (d ∷ ds) g x h k = elim (contains_cases d ds x h) [
  | inl e ↦ Contains-append_left (gives d) (given ds) g
      (subst (λ (y : Declaration). Contains (gives y) g) (sym e) k)
  | inr j ↦ Contains-append_right (gives d) (given ds) g (from_given ds g x j k)
]

pub package_in : (file : ℕ) (ss : List Text) (n : Text) (d : Definition)
    → Contains (packages_given file ss) (n, d)
    → Contains ss n × (n ≡ [] → ⊥) × (d ≡ package_of file)
package_in file [] n d h = absurd (contains_none (n, d) h)
package_in file ([] ∷ ss) n d h =
    let r = package_in file ss n d h in (contains_there [] ss n r.0, r.1, r.2)
package_in file ((b ∷ bs) ∷ ss) n d h = elim (contains_cases _ _ (n, d) h) [
  | inl same ↦ (
      let name : b ∷ bs ≡ n = ap (λ (x : Giving). x.0) same in
      let def : package_of file ≡ d = ap (λ (x : Giving). x.1) same in (
        subst (Contains ((b ∷ bs) ∷ ss)) name (contains_here (b ∷ bs) ss),
        (λ e. full (name ∙ e)),
        sym def,
      ))
  | inr j ↦ (let r = package_in file ss n d j in (contains_there (b ∷ bs) ss n r.0, r.1, r.2))
] where
  full : (b ∷ bs ≡ []) → ⊥
  full e = cc e

in_package : (file : ℕ) (ss : List Text) (n : Text) → Contains ss n → (n ≡ [] → ⊥)
    → Contains (packages_given file ss) (n, package_of file)
in_package file [] n h full = absurd (contains_none n h)
in_package file ([] ∷ ss) n h full = elim (contains_cases [] ss n h) [
  | inl e ↦ absurd (full (sym e))
  | inr j ↦ in_package file ss n j full
]
in_package file ((b ∷ bs) ∷ ss) n h full = elim (contains_cases (b ∷ bs) ss n h) [
  | inl e ↦ subst (λ (m : Text). Contains ((b ∷ bs, package_of file) ∷ packages_given file ss)
      (m, package_of file)) e (contains_here (b ∷ bs, package_of file) (packages_given file ss))
  | inr j ↦ contains_there _ _ _ (in_package file ss n j full)
]

-- the file of a declaration
pub next_file : (file : ℕ) (o p : Offsets) (ds : List Declaration) (x : Declaration)
    → AreNext file o ds p → Contains ds x → x.file ≡ file
next_file file o p [] x next h = absurd (contains_none x h)
next_file file o p (d ∷ ds) x next h = elim (contains_cases d ds x h) [
  | inl e ↦ sym (ap (λ (y : Declaration). y.file) e) ∙ next.0
  | inr j ↦ next_file file (past_one o d.body) p ds x next.1.1 j
]

pub batch_file : (o : Offsets) (i : ℕ) (fs : List FileDescriptorProto) (x : Declaration)
    → Contains (batch_declarations o i fs) x
    → (q : Offsets) × (k : ℕ) × (f : FileDescriptorProto) × (slice_get fs k ≡ Some f)
    × Contains (file_declarations q (i + k) f) x
batch_file o i [] x h = absurd (contains_none x h)
batch_file o i (f ∷ fs) x h =
    elim (Contains-append_cases (file_declarations o i f)
    (batch_declarations (past_file o f) (i + 1) fs) x h) [
      | inl j ↦ (let place : i + 0 ≡ i = omega arith in
          (o, 0, f, refl, subst (λ n. Contains (file_declarations o n f) x) (sym place) j))
      | inr j ↦ (let r = batch_file (past_file o f) (i + 1) fs x j in
          let place : i + 1 + r.1 ≡ i + suc r.1 = omega arith in
          (r.0, suc r.1, r.2, r.3, subst (λ n. Contains (file_declarations r.0 n r.2) x) place r.4))
    ]

pub file_batch : (o : Offsets) (i : ℕ) (fs : List FileDescriptorProto) (k : ℕ) (f : FileDescriptorProto)
    → slice_get fs k ≡ Some f
    → (q : Offsets) × ((x : Declaration) → Contains (file_declarations q (i + k) f) x
    → Contains (batch_declarations o i fs) x)
file_batch o i [] k f e = absurd (cc e)
file_batch o i (g ∷ fs) zero f e =
    let same : g ≡ f = cc e in
    let place : i + 0 ≡ i = omega arith in (
      o,
      λ x h.
          let h' : Contains (file_declarations o i g) x =
          subst (λ (y : FileDescriptorProto). Contains (file_declarations o i y) x) (sym same)
          (subst (λ n. Contains (file_declarations o n f) x) place h) in
          Contains-append_left (file_declarations o i g)
          (batch_declarations (past_file o g) (i + 1) fs) x h',
    )
file_batch o i (g ∷ fs) (suc k) f e =
    let r = file_batch (past_file o g) (i + 1) fs k f e in
    let place : i + suc k ≡ i + 1 + k = omega arith in (
      r.0,
      λ x h. Contains-append_right (file_declarations o i g)
          (batch_declarations (past_file o g) (i + 1) fs) x
          (r.1 x (subst (λ n. Contains (file_declarations r.0 n f) x) place h)),
    )

-- kinds of declarations are of their sorts
abbrev IsKindIn : DefinitionKind → Option view.Body → Type 0
IsKindIn k None = ⊥
IsKindIn k (Some b) = IsKindOf k (sort_of b)

kind_in : (d : Declaration) (b : Body) → is_some (seen_body b) ≡ true
    → IsKindIn (kind_of (record d { body = b })) (seen_body b)
kind_in d (of_file f) e = absurd (cc e)
kind_in d b e = tt

module _ (files : List FileDescriptorProto) (named : AreWellNamed [] (map file_view files)) where
  abbrev ds : List Declaration
  ds = batch_declarations nothing_before 0 files

  whole : AreComplete files
  whole = complete_of [] files named

  free : Free nothing_known (given ds)
  free = apart_free [] files nothing_before 0 tt whole named.apart

  known_as : known_of_files files ≡ known_by nothing_known (given ds)
  known_as = known_is_given nothing_known ds

  -- what a declaration in a file gives
  module _ (q : Offsets) (i : ℕ) (f : FileDescriptorProto) (at : slice_get files i ≡ Some f) where
    complete : AllByRecursion (λ (d : Declaration). IsCompleteBody (seen_body d.body))
        (inner_declarations q i f)
    complete = content_from q i f (λ (s : Seen). IsCompleteBody s.1)
        (in_all (λ (g : FileDescriptorProto).
        AllByRecursion (λ (v : view.Declaration). IsComplete v.body) (view.declarations (file_view g)))
        files whole f (get_contains files i f at))

    pub one_given : (x : Declaration) → Contains (inner_declarations q i f) x
        → (gives x ≡ (x.name, definition_of x) ∷ []) × (is_package (definition_of x).kind ≡ false)
    one_given x h =
        gives_one x x.body
        (in_all (λ (d : Declaration). is_some (seen_body d.body) ≡ true) (inner_declarations q i f)
        (inner_declared q i f) x h)
        (in_all (λ (d : Declaration). IsCompleteBody (seen_body d.body)) (inner_declarations q i f)
        complete x h)

    head_there : (x : Declaration) → Contains (inner_declarations q i f) x
        → (h : Head) × Contains (outline_of (file_view f)).heads h × (h.name ≡ x.name)
        × IsKindOf (kind_of x) h.sort
    head_there x h =
        let s = subst (λ l. Contains l (seen x)) (file_seen q i f)
        (contains_map seen (inner_declarations q i f) x h) in
        let v = contains_map_cases told (view.declarations (file_view f)) (seen x) s in
        let body : Some v.0.body ≡ seen_body x.body = ap (λ (y : Seen). y.1) v.2 in
        let is = kind_in x x.body (in_all (λ (d : Declaration). is_some (seen_body d.body) ≡ true)
        (inner_declarations q i f) (inner_declared q i f) x h) in (
          head_of v.0,
          contains_map head_of (view.declarations (file_view f)) v.0 v.1,
          ap (λ (y : Seen). y.0) v.2,
          subst (IsKindIn (kind_of x)) (sym body) is,
        )

    there_head : (h : Head) → Contains (outline_of (file_view f)).heads h
        → (x : Declaration) × Contains (inner_declarations q i f) x × (x.name ≡ h.name)
        × IsKindOf (kind_of x) h.sort
    there_head h j =
        let v = contains_map_cases head_of (view.declarations (file_view f)) h j in
        let s = subst (λ l. Contains l (told v.0)) (sym (file_seen q i f))
        (contains_map told (view.declarations (file_view f)) v.0 v.1) in
        let x = contains_map_cases seen (inner_declarations q i f) (told v.0) s in
        let body : seen_body x.0.body ≡ Some v.0.body = ap (λ (y : Seen). y.1) x.2 in
        let is = kind_in x.0 x.0.body (ap is_some body) in (
          x.0,
          x.1,
          ap (λ (y : Seen). y.0) x.2 ∙ ap (λ (y : Head). y.name) v.2,
          subst (λ (y : Head). IsKindOf (kind_of x.0) y.sort) v.2
              (subst (IsKindIn (kind_of x.0)) body is),
        )

  -- what is known was given in a file
  pub given_in : (n : Text) (d : Definition) → known_of_files files n ≡ Some d
      → (x : Declaration) × Contains ds x × Contains (gives x) (n, d)
  given_in n d e =
      let k = known_given nothing_known (given ds) n d (sym (ap (λ (m : Known). m n) known_as) ∙ e) in
      given_from ds (n, d) (elim k [ inl none ↦ absurd (cc none) | inr j ↦ j ])

  package_of_file : (i : ℕ) (f : FileDescriptorProto) (n : Text) → slice_get files i ≡ Some f
      → Contains (scopes (text_of f.package)) n → IsPackage (outlines (map file_view files)) n
  package_of_file i f n at h = (
    outline_of (file_view f),
    contains_map outline_of (map file_view files) (file_view f)
        (contains_map file_view files f (get_contains files i f at)),
    subst (λ s. IsScope s n) (sym (text_seen f.package)) (scopes_are (text_of f.package) n h),
  )

  pub single : (g h : Giving) → Contains (g ∷ []) h → g ≡ h
  single g h j = elim (contains_cases g [] h j) [ inl e ↦ e | inr k ↦ absurd (contains_none h k) ]

  -- what it is known for
  abbrev Told : Text → Definition → Type 0
  Told n d = ((is_package d.kind ≡ true) × IsPackage (outlines (map file_view files)) n
      × (n ≡ [] → ⊥))
      ⊎ ((is_package d.kind ≡ false) × IsDeclaredAs files n d)

  told_of : (n : Text) (d : Definition) → known_of_files files n ≡ Some d → Told n d
  told_of n d e =
      let x = given_in n d e in
      let r = batch_file nothing_before 0 files x.0 x.1 in
      let place : 0 + r.1 ≡ r.1 = omega arith in
      let inside = subst (λ m. Contains (file_declarations r.0 m r.2) x.0) place r.4 in
      let at_file : x.0.file ≡ r.1 =
      next_file r.1 r.0 (past_file r.0 r.2) (file_declarations r.0 r.1 r.2) x.0
      (file_next r.1 r.0 r.2) inside in
      elim (contains_cases (file_declaration [] r.1 r.2) (inner_declarations r.0 r.1 r.2) x.0 inside) [
        | inl same ↦ (
            let given_here = subst (λ (y : Declaration). Contains (gives y) (n, d)) (sym same) x.2 in
            let p = package_in r.1 (scopes (text_of r.2.package)) n d given_here in
            inl (
              ap (λ (y : Definition). is_package y.kind) p.2,
              package_of_file r.1 r.2 n r.3 p.0,
              p.1,
            ))
        | inr j ↦ (
            let one = one_given r.0 r.1 r.2 r.3 x.0 j in
            let own = single (x.0.name, definition_of x.0) (n, d)
            (subst (λ l. Contains l (n, d)) one.0 x.2) in
            let name : x.0.name ≡ n = ap (λ (y : Giving). y.0) own in
            let def : definition_of x.0 ≡ d = ap (λ (y : Giving). y.1) own in
            let h = head_there r.0 r.1 r.2 r.3 x.0 j in
            let file : r.1 ≡ d.file = sym at_file ∙ ap (λ (y : Definition). y.file) def in
            inr (
              sym (ap (λ (y : Definition). is_package y.kind) def) ∙ one.1,
              record {
                file = r.2;
                head = h.0;
                at = subst (λ m. slice_get files m ≡ Some r.2) file r.3;
                inside = h.1;
                name = h.2 ∙ name;
                sort = subst (λ (y : Definition). IsKindOf y.kind h.0.sort) def h.3;
              },
            ))
      ]

  pub known_where : (x : Declaration) (n : Text) (d : Definition) → Contains ds x
      → Contains (gives x) (n, d)
      → (e : Definition) × (known_of_files files n ≡ Some e) × IsSame e d
  known_where x n d h j =
      let r = given_known nothing_known (given ds) n d free (from_given ds (n, d) x h j) in
      (r.0, ap (λ (m : Known). m n) known_as ∙ r.1, r.2)

  package_found : (n : Text) → IsPackage (outlines (map file_view files)) n → (n ≡ [] → ⊥)
      → (d : Definition) × (known_of_files files n ≡ Some d) × (is_package d.kind ≡ true)
  package_found n (o, h, scope) full =
      let c = contains_map_cases outline_of (map file_view files) o h in
      let f = contains_map_cases file_view files c.0 c.1 in
      let i = contains_get files f.0 f.1 in
      let q = file_batch nothing_before 0 files i.0 f.0 i.1 in
      let own : outline_of (file_view f.0) ≡ o = ap outline_of f.2 ∙ c.2 in
      let scope' : IsScope (text_of f.0.package) n = subst (λ s. IsScope s n) (text_seen f.0.package)
      (subst (λ (p : Outline). IsScope p.package_name n) (sym own) scope) in
      let given_here = in_package (0 + i.0) (scopes (text_of f.0.package)) n
      (are_scopes (text_of f.0.package) n scope') full in
      let x = file_declaration [] (0 + i.0) f.0 in
      let k = known_where x n (package_of (0 + i.0)) (q.1 x (contains_here x _)) given_here in (
        k.0,
        k.1,
        elim k.2 [
          | inl e ↦ ap (λ (y : Definition). is_package y.kind) e
          | inr both ↦ both.0
        ],
      )

  declared_found : (i : ℕ) (f : FileDescriptorProto) (h : Head) → slice_get files i ≡ Some f
      → Contains (outline_of (file_view f)).heads h
      → (d : Definition) × (known_of_files files h.name ≡ Some d) × (d.file ≡ i)
      × IsKindOf d.kind h.sort
  declared_found i f h at j =
      let place : 0 + i ≡ i = omega arith in
      let q = file_batch nothing_before 0 files i f at in
      let x = there_head q.0 i f at h j in
      let inside : Contains (file_declarations q.0 i f) x.0 =
      contains_there (file_declaration [] i f) (inner_declarations q.0 i f) x.0 x.1 in
      let one = one_given q.0 i f at x.0 x.1 in
      let here = subst (λ l. Contains l (x.0.name, definition_of x.0)) (sym one.0)
      (contains_here (x.0.name, definition_of x.0) []) in
      let k = known_where x.0 x.0.name (definition_of x.0)
      (q.1 x.0 (subst (λ m. Contains (file_declarations q.0 m f) x.0) (sym place) inside)) here in
      let same : k.0 ≡ definition_of x.0 = elim k.2 [
        | inl e ↦ e
        | inr both ↦ absurd (cc (sym both.1 ∙ one.1))
      ] in
      let at_file = next_file i q.0 (past_file q.0 f) (file_declarations q.0 i f) x.0
      (file_next i q.0 f) inside in (
        k.0,
        ap (known_of_files files) (sym x.2) ∙ k.1,
        ap (λ (y : Definition). y.file) same ∙ at_file,
        subst (λ (y : Definition). IsKindOf y.kind h.sort) (sym same) x.3,
      )

  pub files_known : AreKnown files (known_of_files files)
  files_known = record {
    packages = λ n d e is. elim (told_of n d e) [
      | inl p ↦ (p.1, p.2)
      | inr p ↦ absurd (cc (sym is ∙ p.0))
    ];
    declared = λ n d e is. elim (told_of n d e) [
      | inl p ↦ absurd (cc (sym is ∙ p.0))
      | inr p ↦ p.1
    ];
    package_known = package_found;
    declared_known = declared_found;
  }
