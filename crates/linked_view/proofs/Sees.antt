-- Which files a file sees, by indexes and by names.
use Rattle.std.proofs.Common.{◌≡◌, ◌∙◌, ◌+◌, ◌⊎◌, inl, inr, ℕ, zero, suc, ℤ, pos, negsuc, Bool, true, false, ◌||◌, List, [], ◌∷◌, Option, Some, None, String, Global, string_bytes, map, slice_get, slice_index_or, ap, sym, subst, refl, arith}
use Rattle.std.specs.List.{Contains, filter_map}
use Rattle.std.specs.Ordering.{int_eq}
use Rattle.std.proofs.lemmas.Bool.Decides.{Decides-int_eq}
use Rattle.descriptor_records.specs.Content.{Text, file_view}
use Rattle.descriptor_records.specs.declared.file.FileDescriptorProto.{FileDescriptorProto}
use Rattle.reflect_scope.specs.FileIndexes.{Indexes, link_view}
use Rattle.reflect_scope.specs.Sees.{imports_at, publics_at}
use Rattle.reflect_scope.specs.Sees as by_index
use Rattle.reflect_scope.specs.declared.seen.Links.{Links}
use Rattle.reflect_declarations.specs.Tree.{text_of}
use Rattle.reflect_names.specs.ImportedFiles.{file_of, import_at, links_to}
use Rattle.reflect_index.proofs.Among.{get_map, got_map}
use Rattle.schema_view.specs.Files.{Import, has_place, imports_from, imports_of, file_name}
use Rattle.schema_view.specs.Outlines.{Outline, outline_of, IsChain, Sees}
use Rattle.schema_view.specs.Lawful.{outlines}
use Rattle.schema_view.proofs.Lists.{contains_here, contains_there, contains_cases, contains_none, contains_map, contains_map_cases}
use Rattle.schema_view.proofs.Renames.{map_same}
use Rattle.linked_view.proofs.Counts.{IsPlaced}
use Rattle.linked_view.proofs.NamedFiles.{import_in, in_import, names_in}
use Rattle.linked_view.proofs.Places.{get_contains, contains_get, index_map, found_in, in_found}
use Rattle.linked_view.proofs.Walked.{text_seen}

-- imports by their places
place_has : (q : ℕ) (publics : List ℤ) → has_place q publics ≡ true → Contains publics (pos q)
place_has q [] e = absurd (cc e)
place_has q (z ∷ zs) e = by (int_eq z (pos q)) refl (place_has q zs) where
  by : (b : Bool) → int_eq z (pos q) ≡ b → (has_place q zs ≡ true → Contains zs (pos q))
      → Contains (z ∷ zs) (pos q)
  by true is rest =
      subst (Contains (z ∷ zs)) ((Decides-int_eq z (pos q)).0 is) (contains_here z zs)
  by false is rest =
      contains_there z zs (pos q) (rest (sym (ap (λ b. b || has_place q zs) is) ∙ e))

has_a_place : (q : ℕ) (publics : List ℤ) → Contains publics (pos q) → has_place q publics ≡ true
has_a_place q [] h = absurd (contains_none (pos q) h)
has_a_place q (z ∷ zs) h = by (contains_cases z zs (pos q) h) (has_a_place q zs) where
  or_right : (a b : Bool) → b ≡ true → (a || b) ≡ true
  or_right true b e = refl
  or_right false b e = e

  by : (z ≡ pos q) ⊎ Contains zs (pos q) → (Contains zs (pos q) → has_place q zs ≡ true)
      → (int_eq z (pos q) || has_place q zs) ≡ true
  by (inl e) rest = ap (λ b. b || has_place q zs) ((Decides-int_eq z (pos q)).1 e)
  by (inr j) rest = or_right (int_eq z (pos q)) (has_place q zs) (rest j)

placed_import : (publics : List ℤ) (k : ℕ) (ts : List Text) (p : ℕ) (t : Text)
    → slice_get ts p ≡ Some t → has_place (k + p) publics ≡ true
    → Contains (imports_from publics k ts) (record { file = t; is_public = true })
placed_import publics k [] p t e h = absurd (cc e)
placed_import publics k (s ∷ ts) zero t e h =
    let same : s ≡ t = cc e in
    let place : k + 0 ≡ k = omega arith in
    let public : has_place k publics ≡ true = ap (λ n. has_place n publics) (sym place) ∙ h in
    let here : Import = record { file = s; is_public = has_place k publics } in
    let is : here ≡ record { file = t; is_public = true } =
    λ i. record { file = same i; is_public = public i } in
    subst (Contains (here ∷ imports_from publics (k + 1) ts)) is (contains_here here _)
placed_import publics k (s ∷ ts) (suc p) t e h =
    let place : k + suc p ≡ k + 1 + p = omega arith in
    contains_there _ _ _ (placed_import publics (k + 1) ts p t e
    (ap (λ n. has_place n publics) (sym place) ∙ h))

import_placed : (publics : List ℤ) (k : ℕ) (ts : List Text) (t : Text)
    → Contains (imports_from publics k ts) (record { file = t; is_public = true })
    → (p : ℕ) × (slice_get ts p ≡ Some t) × (has_place (k + p) publics ≡ true)
import_placed publics k [] t h = absurd (contains_none _ h)
import_placed publics k (s ∷ ts) t h = elim (contains_cases _ _ _ h) [
  | inl e ↦ (
      let file : s ≡ t = ap (λ (x : Import). x.file) e in
      let public : has_place k publics ≡ true = ap (λ (x : Import). x.is_public) e in
      let place : k + 0 ≡ k = omega arith in
      (0, ap Some file, ap (λ n. has_place n publics) place ∙ public))
  | inr j ↦ (
      let r = import_placed publics (k + 1) ts t j in
      let place : k + suc r.0 ≡ k + 1 + r.0 = omega arith in
      (suc r.0, r.1, ap (λ n. has_place n publics) place ∙ r.2))
]

-- files, their names and their links
module _ (indexes : Indexes) (links : List Links) (files : List FileDescriptorProto)
    (placed : IsPlaced indexes (names_in files))
    (linked : map link_view links ≡ map (links_to indexes) files) where
  abbrev os : List Outline
  os = outlines (map file_view files)

  abbrev named : FileDescriptorProto → Text
  named f = text_of f.name

  imports_are : (i : ℕ) (f : FileDescriptorProto) → slice_get files i ≡ Some f
      → imports_at links i ≡ filter_map (file_of indexes) f.dependency.items
  imports_are i f e =
      ap (λ ls. slice_index_or ls i [])
      (sym (map_same (λ (p : List ℕ × List ℕ). p.0) link_view (λ (l : Links). l.imports.items) (λ l. refl)
      links) ∙ ap (map (λ (p : List ℕ × List ℕ). p.0)) linked
      ∙ map_same (λ (p : List ℕ × List ℕ). p.0) (links_to indexes)
      (λ (g : FileDescriptorProto). filter_map (file_of indexes) g.dependency.items) (λ g. refl) files)
      ∙ index_map (λ (g : FileDescriptorProto). filter_map (file_of indexes) g.dependency.items) [] files
      i f e

  publics_are : (i : ℕ) (f : FileDescriptorProto) → slice_get files i ≡ Some f
      → publics_at links i
      ≡ filter_map (import_at indexes f.dependency.items) f.public_dependency.items
  publics_are i f e =
      let own = λ (g : FileDescriptorProto).
      filter_map (import_at indexes g.dependency.items) g.public_dependency.items in
      ap (λ ls. slice_index_or ls i [])
      (sym (map_same (λ (p : List ℕ × List ℕ). p.1) link_view (λ (l : Links). l.public.items) (λ l. refl)
      links) ∙ ap (map (λ (p : List ℕ × List ℕ). p.1)) linked
      ∙ map_same (λ (p : List ℕ × List ℕ). p.1) (links_to indexes) own (λ g. refl) files)
      ∙ index_map own [] files i f e

  -- the file of an index, and of a name
  file_at : (t : Text) (i : ℕ) → indexes t ≡ Some i
      → (f : FileDescriptorProto) × (slice_get files i ≡ Some f) × (named f ≡ t)
  file_at t i e = got_map named files i t ((placed t i).0 e)

  index_of : (i : ℕ) (f : FileDescriptorProto) → slice_get files i ≡ Some f → indexes (named f) ≡ Some i
  index_of i f e = (placed (named f) i).1 (get_map named files i f e)

  name_is : (f : FileDescriptorProto) → file_name (file_view f) ≡ named f
  name_is f = text_seen f.name

  there : (i : ℕ) (f : FileDescriptorProto) → slice_get files i ≡ Some f
      → Contains os (outline_of (file_view f))
  there i f e = contains_map outline_of (map file_view files) (file_view f)
      (contains_map file_view files f (get_contains files i f e))

  -- a file of this name
  of_name : (o : Outline) → Contains os o → (i : ℕ) × (f : FileDescriptorProto)
      × (slice_get files i ≡ Some f) × (outline_of (file_view f) ≡ o)
  of_name o h =
      let c = contains_map_cases outline_of (map file_view files) o h in
      let f = contains_map_cases file_view files c.0 c.1 in
      let i = contains_get files f.0 f.1 in
      (i.0, f.0, i.1, ap outline_of f.2 ∙ c.2)

  abbrev imports : FileDescriptorProto → List Import
  imports f = imports_of (file_view f)

  -- one step along a public import
  step_to : (i j : ℕ) (f : FileDescriptorProto) → slice_get files i ≡ Some f
      → Contains (publics_at links i) j
      → (t : Text) × (indexes t ≡ Some j)
      × Contains (imports f) (record { file = t; is_public = true })
  step_to i j f e h =
      let x = found_in (import_at indexes f.dependency.items) f.public_dependency.items j
      (subst (λ l. Contains l j) (publics_are i f e) h) in
      by x.0 x.1 x.2 where
        at : (p : ℕ) (o : Option (String Global)) → slice_get f.dependency.items p ≡ o
            → Contains f.public_dependency.items (pos p)
            → elim o [ None ↦ None | Some name ↦ file_of indexes name ] ≡ Some j
            → (t : Text) × (indexes t ≡ Some j)
            × Contains (imports f) (record { file = t; is_public = true })
        at p None is k found = absurd (cc found)
        at p (Some s) is k found = (
          string_bytes s,
          found,
          placed_import f.public_dependency.items 0 (map string_bytes f.dependency.items) p
              (string_bytes s) (get_map string_bytes f.dependency.items p s is)
              (let place : 0 + p ≡ p = omega arith in
              ap (λ n. has_place n f.public_dependency.items) place
              ∙ has_a_place p f.public_dependency.items k),
        )

        by : (z : ℤ) → Contains f.public_dependency.items z
            → import_at indexes f.dependency.items z ≡ Some j
            → (t : Text) × (indexes t ≡ Some j)
            × Contains (imports f) (record { file = t; is_public = true })
        by (pos p) k found = at p (slice_get f.dependency.items p) refl k found
        by (negsuc p) k found = absurd (cc found)

  step_from : (i j : ℕ) (f : FileDescriptorProto) (t : Text) → slice_get files i ≡ Some f
      → indexes t ≡ Some j → Contains (imports f) (record { file = t; is_public = true })
      → Contains (publics_at links i) j
  step_from i j f t e known h =
      let x = import_placed f.public_dependency.items 0 (map string_bytes f.dependency.items) t h in
      let place : 0 + x.0 ≡ x.0 = omega arith in
      let k = place_has x.0 f.public_dependency.items
      (ap (λ n. has_place n f.public_dependency.items) (sym place) ∙ x.2) in
      let s = got_map string_bytes f.dependency.items x.0 t x.1 in
      let found : import_at indexes f.dependency.items (pos x.0) ≡ Some j =
      ap (λ (o : Option (String Global)). elim o [ None ↦ None | Some name ↦ file_of indexes name ]) s.1
      ∙ ap indexes s.2 ∙ known in
      subst (λ l. Contains l j) (sym (publics_are i f e))
      (in_found (import_at indexes f.dependency.items) f.public_dependency.items (pos x.0) j k found)

  chain_to : (ms : List ℕ) (i j : ℕ) (f g : FileDescriptorProto) → slice_get files i ≡ Some f
      → slice_get files j ≡ Some g → by_index.IsChain (publics_at links) i ms j
      → (ks : List Text) × IsChain os (named f) ks (named g)
  chain_to [] i j f g e d h =
      let same : f ≡ g = cc (sym e ∙ ap (slice_get files) h ∙ d) in ([], ap named same)
  chain_to (m ∷ ms) i j f g e d (step, rest) =
      let s = step_to i m f e step in
      let k = file_at s.0 m s.1 in
      let more = chain_to ms m j k.0 g k.1 d rest in (
        s.0 ∷ more.0,
        (
          (outline_of (file_view f), there i f e, name_is f, s.2),
          subst (λ t. IsChain os t more.0 (named g)) k.2 more.1,
        ),
      )

  chain_from : (ks : List Text) (i j : ℕ) (f g : FileDescriptorProto) → slice_get files i ≡ Some f
      → slice_get files j ≡ Some g → IsChain os (named f) ks (named g)
      → (ms : List ℕ) × by_index.IsChain (publics_at links) i ms j
  chain_from [] i j f g e d h =
      let same : i ≡ j = cc (sym (index_of i f e) ∙ ap indexes h ∙ index_of j g d) in ([], same)
  chain_from (k ∷ ks) i j f g e d ((o, h, is, step), rest) =
      let x = of_name o h in
      let called : named x.1 ≡ named f =
      sym (name_is x.1) ∙ ap (λ (p : Outline). p.name) x.3 ∙ is in
      let at : x.0 ≡ i = cc (sym (index_of x.0 x.1 x.2) ∙ ap indexes called ∙ index_of i f e) in
      let own : x.1 ≡ f = cc (sym x.2 ∙ ap (slice_get files) at ∙ e) in
      let outline : outline_of (file_view f) ≡ o =
      ap (λ (y : FileDescriptorProto). outline_of (file_view y)) (sym own) ∙ x.3 in
      let step' : Contains (imports f) (record { file = k; is_public = true }) =
      subst (λ (p : Outline). Contains p.imports (record { file = k; is_public = true })) (sym outline)
      step in
      go ks k rest step' (chain_from ks) where
        go : (ks : List Text) (k : Text) → IsChain os k ks (named g)
            → Contains (imports f) (record { file = k; is_public = true })
            → ((i j : ℕ) (f g : FileDescriptorProto) → slice_get files i ≡ Some f
            → slice_get files j ≡ Some g → IsChain os (named f) ks (named g)
            → (ms : List ℕ) × by_index.IsChain (publics_at links) i ms j)
            → (ms : List ℕ) × by_index.IsChain (publics_at links) i ms j
        go [] k rest step again =
            let known : indexes k ≡ Some j = ap indexes rest ∙ index_of j g d in
            (j ∷ [], (step_from i j f k e known step, refl))
        go (l ∷ ls) k ((p, h, is, next), rest) step again =
            let x = of_name p h in
            let called : named x.1 ≡ k = sym (name_is x.1) ∙ ap (λ (q : Outline). q.name) x.3 ∙ is in
            let known : indexes k ≡ Some x.0 = ap indexes (sym called) ∙ index_of x.0 x.1 x.2 in
            let whole : IsChain os (named x.1) (l ∷ ls) (named g) =
            subst (λ t. IsChain os t (l ∷ ls) (named g)) (sym called) ((p, h, is, next), rest) in
            let more = again x.0 j x.1 g x.2 d whole in
            (x.0 ∷ more.0, (step_from i x.0 f k e known step, more.1))

  pub sees_to : (i j : ℕ) (f g : FileDescriptorProto) → slice_get files i ≡ Some f
      → slice_get files j ≡ Some g → by_index.Sees links i j
      → Sees os (outline_of (file_view f)) (file_name (file_view g))
  sees_to i j f g e d (inl same) =
      let own : g ≡ f = cc (sym d ∙ ap (slice_get files) same ∙ e) in
      inl (ap (λ (x : FileDescriptorProto). file_name (file_view x)) own)
  sees_to i j f g e d (inr (m, ms, start, chain)) =
      let x = found_in (file_of indexes) f.dependency.items m
      (subst (λ l. Contains l m) (imports_are i f e) start) in
      let k = file_at (string_bytes x.0) m x.2 in
      let t = contains_map string_bytes f.dependency.items x.0 x.1 in
      let import = in_import f.public_dependency.items 0 (map string_bytes f.dependency.items)
      (string_bytes x.0) t in
      let more = chain_to ms m j k.0 g k.1 d chain in
      inr (
        import.0,
        more.0,
        import.1,
        subst (λ n. IsChain os import.0.file more.0 n) (sym (name_is g))
            (subst (λ n. IsChain os n more.0 (named g)) (k.2 ∙ sym import.2) more.1),
      )

  pub sees_from : (i j : ℕ) (f g : FileDescriptorProto) → slice_get files i ≡ Some f
      → slice_get files j ≡ Some g
      → Sees os (outline_of (file_view f)) (file_name (file_view g)) → by_index.Sees links i j
  sees_from i j f g e d (inl same) =
      let called : named g ≡ named f = sym (name_is g) ∙ same ∙ name_is f in
      let at : j ≡ i = cc (sym (index_of j g d) ∙ ap indexes called ∙ index_of i f e) in
      inl at
  sees_from i j f g e d (inr (x, ks, h, chain)) =
      inr (go ks (subst (λ n. IsChain os x.file ks n) (name_is g) chain)) where
        start : (m : ℕ) → indexes x.file ≡ Some m → Contains (imports_at links i) m
        start m known =
            let t = import_in f.public_dependency.items 0 (map string_bytes f.dependency.items) x h in
            let s = contains_map_cases string_bytes f.dependency.items x.file t in
            subst (λ l. Contains l m) (sym (imports_are i f e))
            (in_found (file_of indexes) f.dependency.items s.0 m s.1 (ap indexes s.2 ∙ known))

        go : (ks : List Text) → IsChain os x.file ks (named g)
            → by_index.Reached (publics_at links) (imports_at links i) j
        go [] last =
            let known : indexes x.file ≡ Some j = ap indexes last ∙ index_of j g d in
            (j, [], start j known, refl)
        go (k ∷ ks) ((o, there_is, is, step), rest) =
            let y = of_name o there_is in
            let called : named y.1 ≡ x.file = sym (name_is y.1) ∙ ap (λ (p : Outline). p.name) y.3 ∙ is in
            let known : indexes x.file ≡ Some y.0 = ap indexes (sym called) ∙ index_of y.0 y.1 y.2 in
            let whole : IsChain os (named y.1) (k ∷ ks) (named g) =
            subst (λ t. IsChain os t (k ∷ ks) (named g)) (sym called)
            ((o, there_is, is, step), rest) in
            let more = chain_from (k ∷ ks) y.0 j y.1 g y.2 d whole in
            (y.0, more.0, start y.0 known, more.1)
