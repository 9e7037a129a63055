-- Linking reads nothing of lines, columns and comments: files without them are as lawful, and linked
-- to the same but for them.
use Rattle.std.proofs.Common.{◌≡◌, ◌≤◌, ◌∙◌, ℕ, List, [], ◌∷◌, ◌++◌, map, Bool, true, false, cond, Option, None, Some, refl, sym, ap, subst, sum_by, arith}
use Rattle.std.specs.List.{Contains}
use Rattle.std.specs.Str.{bytes_eq}
use Rattle.std.proofs.lemmas.List.{map-append}
use Rattle.std.proofs.lemmas.List.Elements.{Contains-append_right}
use Rattle.std.proofs.lemmas.Slice.Eq.{bytes_eq-Decides}
use Rattle.descriptor_records.specs.Content.{Text, FileContent, unlocated}
use Rattle.schema_view.specs.Files.{file_name, imports_of, is_proto3}
use Rattle.schema_view.specs.Declarations.{Body, Declaration, declarations}
use Rattle.schema_view.specs.References.{linked, references}
use Rattle.schema_view.specs.Outlines.{AreApart, IsNamed, Outline, outline_of}
use Rattle.schema_view.specs.Means.{ReferenceMeans}
use Rattle.schema_view.specs.Rules.{IsSound}
use Rattle.schema_view.specs.Lawful.{AddsLawful, AreSettled, Builds, IsFile, IsLawful, IsSettled, Meanings, SameFiles, all_linked, has_key, is_use, outlines, sources, times_by}
use Rattle.schema_view.specs.Plain.{IsPlainFile}
use Rattle.schema_view.specs.Views.{declared_at, extension_at, file_at, first, view_of, when}
use Rattle.schema_view.proofs.Batches.{same_view}
use Rattle.schema_view.proofs.Lists.{contains_here, contains_map, contains_map_cases, contains_there, first_from, first_some, one_of, sum_map}
use Rattle.schema_view.proofs.Renames.{map_same}
use Rattle.texts_view.proofs.ReadViews.{first_same}

-- ---- lists

maps_within : {X Y Z A : Type 0} (g : Y → Z) (f : X → Y) (k : A → Z) (h : X → A) (xs : List X)
    → ((x : X) → Contains xs x → g (f x) ≡ k (h x)) → map g (map f xs) ≡ map k (map h xs)
maps_within g f k h [] e = refl
maps_within g f k h (x ∷ xs) e =
    ap (λ z. z ∷ map g (map f xs)) (e x (contains_here x xs))
    ∙ ap (λ zs. k (h x) ∷ zs) (maps_within g f k h xs (λ y i. e y (contains_there x xs y i)))

-- ---- the file of a name

when_is : {Y : Type 0} (b : Bool) (y z : Y) → when b y ≡ Some z → (b ≡ true) × (y ≡ z)
when_is true y z e = (refl, cc e)
when_is false y z e = absurd (cc e)

one_if : (b : Bool) → b ≡ true → 1 ≤ cond b 1 0
one_if true e = omega arith
one_if false e = absurd (cc e)

abbrev called : Text → FileContent → Option FileContent
called n f = when (bytes_eq (file_name f) n) f

abbrev is_called : Text → FileContent → ℕ
is_called n f = cond (bytes_eq (file_name f) n) 1 0

-- the file of a list that is called as this one
abbrev chosen : List FileContent → FileContent → FileContent
chosen fs g = elim (first (called (file_name g)) fs) [ None ↦ g | Some f ↦ f ]

own_name : (n : Text) → bytes_eq n n ≡ true
own_name n = (bytes_eq-Decides n n).1 refl

found_by_name : (f : FileContent) → called (file_name f) f ≡ Some f
found_by_name f = ap (λ b. when b f) (own_name (file_name f))

-- ---- files without places

pub outlines_unlocated : (fs : List FileContent) → outlines (map unlocated fs) ≡ outlines fs
outlines_unlocated fs = map_same outline_of unlocated outline_of (λ f. refl) fs

pub times_unlocated : (test : Body → Bool) (fs : List FileContent)
    → times_by test (map unlocated fs) ≡ times_by test fs
times_unlocated test fs =
    sum_map (λ (f : FileContent). sum_by (λ (d : Declaration). cond (test d.body) 1 0) (declarations f))
    unlocated fs

file_unlocated : (f : FileContent) → IsFile f → IsFile (unlocated f)
file_unlocated f is = record { name = is.name; syntax = is.syntax; publics = is.publics }

pub plain_unlocated : (f : FileContent) → IsPlainFile f → IsPlainFile (unlocated f)
plain_unlocated f is = record {
  messages = is.messages;
  enums = is.enums;
  services = is.services;
  extensions = is.extensions;
}

pub plain_placed : (f : FileContent) → IsPlainFile (unlocated f) → IsPlainFile f
plain_placed f is = record {
  messages = is.messages;
  enums = is.enums;
  services = is.services;
  extensions = is.extensions;
}

settled_unlocated : (fs : List FileContent) → AreSettled fs → AreSettled (map unlocated fs)
settled_unlocated fs is = record {
  extended = λ k. subst (λ n. n ≤ 1) (sym (times_unlocated (has_key k) fs)) (is.extended k);
  entries = λ g d m i j body says.
      let p = contains_map_cases unlocated fs g i in
      let one = is.entries p.0 d m p.1 (subst (λ h. Contains (declarations h) d) (sym p.2) j) body says in
      record {
        once = times_unlocated (is_use d.name) fs ∙ one.once;
        map = λ h c k l.
            let q = contains_map_cases unlocated fs h k in
            one.map q.0 c q.1 (subst (λ x. Contains (declarations x) c) (sym q.2) l);
      };
}

-- ---- one batch

module _ (old new : List FileContent) (m : Meanings) (l : IsLawful old new m) where
  -- what references mean, told by the names of files
  abbrev by_name : Meanings
  by_name g r = m (chosen new g) r

  -- a file is the only one that is called so
  itself : (f : FileContent) → Contains new f → chosen new (unlocated f) ≡ f
  itself f i =
      let some = first_some (called (file_name f)) new f f i (found_by_name f) in
      let from = first_from (called (file_name f)) new some.0 some.1 in
      let is = when_is (bytes_eq (file_name from.0) (file_name f)) from.0 some.0 from.2 in
      let few : sum_by (is_called (file_name f)) (old ++ new) ≤ 1 =
      (let le = l.apart.files (file_name f) in let both = sum_map (λ (o : Outline). cond (bytes_eq o.name (file_name f)) 1 0) outline_of (old ++ new) in omega arith) in
      ap (λ (o : Option FileContent). elim o [ None ↦ unlocated f | Some g ↦ g ]) some.1 ∙ sym is.1
      ∙ one_of (is_called (file_name f)) (old ++ new) from.0 f few
      (Contains-append_right old new from.0 from.1) (Contains-append_right old new f i)
      (one_if (bytes_eq (file_name from.0) (file_name f)) is.0)
      (one_if (bytes_eq (file_name f) (file_name f)) (own_name (file_name f)))

  abbrev others : List Outline
  others = outlines (map unlocated old ++ map unlocated new)

  same_outlines : outlines (old ++ new) ≡ others
  same_outlines = sym (outlines_unlocated (old ++ new)) ∙ ap outlines (map-append unlocated old new)

  linked_itself : (f : FileContent) → Contains new f
      → linked (by_name (unlocated f)) (unlocated f) ≡ unlocated (linked (m f) f)
  linked_itself f i = ap (λ g. unlocated (linked (m g) f)) (itself f i)

  relinked : all_linked by_name (map unlocated new) ≡ map unlocated (all_linked m new)
  relinked =
      maps_within (λ f. linked (by_name f) f) unlocated unlocated (λ f. linked (m f) f) new linked_itself

  stand : map unlocated (old ++ all_linked m new)
      ≡ map unlocated old ++ all_linked by_name (map unlocated new)
  stand = map-append unlocated old (all_linked m new) ∙ ap (λ fs. map unlocated old ++ fs) (sym relinked)

  lawful : IsLawful (map unlocated old) (map unlocated new) by_name
  lawful = record {
    apart = subst AreApart same_outlines l.apart;
    files = λ g i.
        let p = contains_map_cases unlocated new g i in
        subst IsFile p.2 (file_unlocated p.0 (l.files p.0 p.1));
    imports = λ g k i j.
        let p = contains_map_cases unlocated new g i in
        subst (λ os. IsNamed os k.file) same_outlines
        (l.imports p.0 k p.1 (subst (λ h. Contains (imports_of h) k) (sym p.2) j));
    means = λ g r i j.
        let p = contains_map_cases unlocated new g i in
        let means = l.means p.0 r p.1 (subst (λ h. Contains (references h) r) (sym p.2) j) in
        subst (λ h. ReferenceMeans others (outline_of h) r (by_name h r)) p.2
        (subst (λ h. ReferenceMeans others (outline_of p.0) r (m h r)) (sym (itself p.0 p.1))
        (subst (λ os. ReferenceMeans os (outline_of p.0) r (m p.0 r)) same_outlines means));
    sound = λ g d i j.
        let p = contains_map_cases unlocated new g i in
        subst (λ h. IsSound (is_proto3 h) d.body) p.2
        (l.sound p.0 d p.1 (subst (λ h. Contains (declarations h) d) (sym p.2) j));
    settled = λ g d i j.
        let p = contains_map_cases unlocated new g i in
        subst (λ os. IsSettled os d.body) same_outlines
        (l.settled p.0 d p.1 (subst (λ h. Contains (declarations h) d) (linked_itself p.0 p.1)
        (subst (λ h. Contains (declarations (linked (by_name h) h)) d) (sym p.2) j)));
    together = subst AreSettled stand (settled_unlocated (old ++ all_linked m new) l.together);
  }

-- ---- batches

adds_unlocated : (old new after : List FileContent) → AddsLawful old new after
    → AddsLawful (map unlocated old) (map unlocated new) (map unlocated after)
adds_unlocated old new after (m, l, is) =
    (by_name old new m l, lawful old new m l, ap (map unlocated) is ∙ stand old new m l)

pub builds_unlocated : (batches : List (List FileContent)) (after : List FileContent) → Builds batches after
    → Builds (map (map unlocated) batches) (map unlocated after)
builds_unlocated [] after is = ap (map unlocated) is
builds_unlocated (new ∷ earlier) after (old, before, adds) =
    (map unlocated old, builds_unlocated earlier old before, adds_unlocated old new after adds)

pub sources_unlocated : (batches : List (List FileContent))
    → sources (map (map unlocated) batches) ≡ map unlocated (sources batches)
sources_unlocated [] = refl
sources_unlocated (new ∷ earlier) =
    ap (λ fs. map unlocated new ++ fs) (sources_unlocated earlier)
    ∙ sym (map-append unlocated new (sources earlier))

-- ---- views

pub view_unlocated : (fs : List FileContent) → view_of (map unlocated fs) ≡ view_of fs
view_unlocated fs = λ i. record {
  files = λ n. first_same (file_at n) unlocated (file_at n) (λ f. refl) fs i;
  declared = λ n. first_same (declared_at n) unlocated (declared_at n) (λ f. refl) fs i;
  extensions = λ k. first_same (extension_at k) unlocated (extension_at k) (λ f. refl) fs i;
}

-- files that are the same but for places, in whatever batches, are the same without places

pub plain_there : (batches : List (List FileContent))
    → ((f : FileContent) → Contains (sources batches) f → IsPlainFile f)
    → (f : FileContent) → Contains (sources (map (map unlocated) batches)) f → IsPlainFile f
plain_there batches plain f i =
    let p = contains_map_cases unlocated (sources batches) f (subst (λ fs. Contains fs f) (sources_unlocated batches) i) in
    subst IsPlainFile p.2 (plain_unlocated p.0 (plain p.0 p.1))

pub same_there : (batches others : List (List FileContent))
    → SameFiles (map unlocated (sources batches)) (map unlocated (sources others))
    → SameFiles (sources (map (map unlocated) batches)) (sources (map (map unlocated) others))
same_there batches others same =
    subst (λ fs. SameFiles fs (sources (map (map unlocated) others))) (sym (sources_unlocated batches))
    (subst (SameFiles (map unlocated (sources batches))) (sym (sources_unlocated others)) same)

-- and have one view
pub one_view : (batches others : List (List FileContent)) (after last : List FileContent)
    → ((f : FileContent) → Contains (sources batches) f → IsPlainFile f)
    → SameFiles (map unlocated (sources batches)) (map unlocated (sources others))
    → Builds batches after → Builds others last → view_of after ≡ view_of last
one_view batches others after last plain same built rebuilt =
    sym (view_unlocated after)
    ∙ same_view (map (map unlocated) batches) (map (map unlocated) others) (map unlocated after)
    (map unlocated last) (plain_there batches plain) (same_there batches others same)
    (builds_unlocated batches after built) (builds_unlocated others last rebuilt)
    ∙ view_unlocated last

-- the same files are the same but for places
pub same_unlocated : (fs gs : List FileContent) → SameFiles fs gs
    → SameFiles (map unlocated fs) (map unlocated gs)
same_unlocated fs gs same g = (
  (λ i.
      let p = contains_map_cases unlocated fs g i in
      subst (Contains (map unlocated gs)) p.2 (contains_map unlocated gs p.0 ((same p.0).0 p.1))),
  (λ i.
      let p = contains_map_cases unlocated gs g i in
      subst (Contains (map unlocated fs)) p.2 (contains_map unlocated fs p.0 ((same p.0).1 p.1))),
)
