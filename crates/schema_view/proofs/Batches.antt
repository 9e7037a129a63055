-- Files that come in other batches: each reference means the same, and so the view is the same.
use Rattle.std.proofs.Common.{◌≡◌, ◌≤◌, ℕ, List, [], ◌∷◌, ◌++◌, ◌⊎◌, inl, inr, Bool, true, false, cond, eqb, refl, sym, ap, ◌∙◌, subst, arith}
use Rattle.std.specs.List.{Contains}
use Rattle.std.specs.Str.{bytes_eq}
use Rattle.std.proofs.lemmas.Slice.Eq.{bytes_eq-Decides}
use Rattle.std.proofs.lemmas.List.{map-append, append_assoc}
use Rattle.std.proofs.lemmas.List.Elements.{Contains-append_left, Contains-append_right, Contains-append_cases}
use Rattle.descriptor_records.specs.Content.{Text, FileContent}
use Rattle.schema_view.specs.Files.{join, Import, imports_of}
use Rattle.schema_view.specs.References.{Want, Reference, Target, references, dotted, linked}
use Rattle.schema_view.specs.Outlines.{Sort, Outline, outline_of, IsNamed, IsDeclared, IsChain, Sees, AreApart}
use Rattle.schema_view.specs.Means.{has_dot, first_part, IsWanted, HoldsNames, HasType, ReferenceMeans}
use Rattle.schema_view.specs.Plain.{IsPlainFile}
use Rattle.schema_view.specs.Lawful.{outlines, Meanings, all_linked, IsLawful, AddsLawful, Builds, sources, SameFiles}
use Rattle.schema_view.specs.Views.{view_of}
use Rattle.schema_view.proofs.Lists.{contains_none, contains_here, contains_there, contains_map, contains_map_cases, one_of}
use Rattle.schema_view.proofs.Within.{Within, named_within, declared_within}
use Rattle.schema_view.proofs.Renames.{outline_renamed}
use Rattle.schema_view.proofs.Agreeing.{file_same}
use Rattle.schema_view.proofs.Targets.{one_sort, one_number}
use Rattle.schema_view.proofs.Orders.{one_view}
use Rattle.schema_view.proofs.Road.{outlines_linked, outlines_left, built_linked}
use Rattle.schema_view.proofs.OneMeaning.{means_one}
use Rattle.schema_view.proofs.Nested.{split_first, AreNested, file_nested}

abbrev IsClosed : List Outline → Type 0
IsClosed os = (o : Outline) (i : Import) → Contains os o → Contains o.imports i → IsNamed os i.file

same_name : (m n : Text) → m ≡ n → 1 ≤ cond (bytes_eq m n) 1 0
same_name m n e = let t : bytes_eq m n ≡ true = (bytes_eq-Decides m n).1 e in by (bytes_eq m n) t where
  by : (b : Bool) → b ≡ true → 1 ≤ cond b 1 0
  by true e = omega arith
  by false e = absurd (cc)

one_file : (us : List Outline) → AreApart us → (o p : Outline) → Contains us o → Contains us p → o.name ≡ p.name → o ≡ p
one_file us apart o p i j e = one_of (λ q. cond (bytes_eq q.name p.name) 1 0) us o p (apart.files p.name) i j (same_name o.name p.name e) (same_name p.name p.name refl)

-- what a file sees and means by some of the files, it does so by others, where all its imports are
module _ (us os ps : List Outline) (apart : AreApart us) (left : Within os us) (right : Within ps us) (closed : IsClosed ps) where
  chain_to : (ks : List Text) (m n : Text) → IsNamed ps m → IsChain os m ks n → IsChain ps m ks n × IsNamed ps n
  chain_to [] m n named e = (e, subst (IsNamed ps) e named)
  chain_to (k ∷ ks) m n (q, j, f) ((o, i, e, c), rest) =
      let same : o ≡ q = one_file us apart o q (left o i) (right q j) (e ∙ sym f) in
      let c' : Contains q.imports (record { file = k; is_public = true }) = subst (λ (x : Outline). Contains x.imports (record { file = k; is_public = true })) same c in
      let more = chain_to ks k n (closed q (record { file = k; is_public = true }) j c') rest in
      (((q, j, f, c'), more.0), more.1)

  sees_to : (from : Outline) (n : Text) → Contains ps from → Sees os from n → Sees ps from n × IsNamed ps n
  sees_to from n i (inl e) = (inl e, (from, i, sym e))
  sees_to from n i (inr (k, ks, c, h)) = let r = chain_to ks k.file n (closed from k i c) h in (inr (k, ks, c, r.0), r.1)

  pub wanted_to : (from : Outline) (w : Want) (full : Text) → Contains ps from → IsWanted os from w full → IsWanted ps from w full
  wanted_to from w full i (o, h, j, k, e, is, sees) =
      let r = sees_to from o.name i sees in
      let same : r.1.0 ≡ o = one_file us apart r.1.0 o (right r.1.0 r.1.1) (left o j) r.1.2 in
      (o, h, subst (Contains ps) same r.1.1, k, e, is, r.0)

join_first : (p : Text) (c : ℕ) (rest after : Text) → c ∷ rest ≡ first_part (c ∷ rest) ++ (46 ∷ after) → join p (c ∷ rest) ≡ join p (first_part (c ∷ rest)) ++ (46 ∷ after)
join_first [] c rest after e = e
join_first (x ∷ p) c rest after e = ap (λ xs. (x ∷ p) ++ (46 ∷ xs)) e ∙ sym (append_assoc (x ∷ p) (46 ∷ first_part (c ∷ rest)) (46 ∷ after))

join_some : (p : Text) (c : ℕ) (rest : Text) → eqb c 46 ≡ false → join p (first_part (c ∷ rest)) ≡ [] → ⊥
join_some [] c rest other e = let f : c ∷ first_part rest ≡ [] = sym (ap (λ v. cond v [] (c ∷ first_part rest)) other) ∙ e in cc
join_some (x ∷ p) c rest other e = cc

first_held : (os : List Outline) → AreNested os → (from : Outline) (w : Want) (c : ℕ) (rest : Text) → eqb c 46 ≡ false → has_dot (c ∷ rest) ≡ true
    → (p : Text) → IsWanted os from w (join p (c ∷ rest)) → HoldsNames os (join p (first_part (c ∷ rest)))
first_held os nested from w c rest other dot p (o, h, i, j, e, is, sees) =
    let s = split_first (c ∷ rest) dot in
    nested o h i j (join p (first_part (c ∷ rest))) s.0 (e ∙ join_first p c rest s.0 s.1) (join_some p c rest other)

first_holds : (os : List Outline) → AreNested os → (from : Outline) (w : Want) (name : Text) (c : ℕ) (rest : Text) → name ≡ c ∷ rest → eqb c 46 ≡ false → has_dot name ≡ true
    → (p : Text) → IsWanted os from w (join p name) → HoldsNames os (join p (first_part name))
first_holds os nested from w name c rest is other dot p wanted =
    subst (λ x. HoldsNames os (join p (first_part x))) (sym is) (first_held os nested from w c rest other (sym (ap has_dot is) ∙ dot) p (subst (λ x. IsWanted os from w (join p x)) is wanted))

-- what a file was linked by
record IsMeant (fs all : List Outline) (f : FileContent) (means : Reference → Target) : Type 0 where
  within : Within fs all
  closed : IsClosed fs
  nested : AreNested fs
  home : Contains fs (outline_of f)
  right : (r : Reference) → Contains (references f) r → ReferenceMeans fs (outline_of f) r (means r)

-- targets of one name are one, where names are apart
one_target : (us : List Outline) → AreApart us → (a b : Target) → a.name ≡ b.name → ((s : Sort) × IsDeclared us a.name s × HasType s a.type) → ((s : Sort) × IsDeclared us b.name s × HasType s b.type) → dotted a ≡ dotted b
one_target us apart a b e (s, h, i) (t, k, j) =
    let same : s ≡ t = one_sort us apart b.name s t (subst (λ n. IsDeclared us n s) e h) k in
    let type : a.type ≡ b.type = one_number t a.type b.type (subst (λ x. HasType x a.type) same i) j in
    ap (λ n. record { name = 46 ∷ n; type = a.type }) e ∙ ap (λ n. record { name = 46 ∷ b.name; type = n }) type

same_link : (us os ps : List Outline) → AreApart us → (f : FileContent) (m n : Reference → Target) → IsMeant os us f m → IsMeant ps us f n → linked m f ≡ linked n f
same_link us os ps apart f m n k l = file_same (λ r. dotted (m r)) (λ r. dotted (n r)) f (λ r i.
    let there : (full : Text) → IsWanted os (outline_of f) r.want full → IsWanted ps (outline_of f) r.want full = λ full w. wanted_to us os ps apart k.within l.within l.closed (outline_of f) r.want full l.home w in
    let back : (full : Text) → IsWanted ps (outline_of f) r.want full → IsWanted os (outline_of f) r.want full = λ full w. wanted_to us ps os apart l.within k.within k.closed (outline_of f) r.want full k.home w in
    let name : (m r).name ≡ (n r).name = means_one (IsWanted os (outline_of f) r.want) (HoldsNames os) (IsWanted ps (outline_of f) r.want) (HoldsNames ps) there back r.scope r.name (m r).name (n r).name
    (λ c rest is other dot. (
      λ p v g. first_holds os k.nested (outline_of f) r.want r.name c rest is other dot p (back (join p r.name) v),
      λ p w h. first_holds ps l.nested (outline_of f) r.want r.name c rest is other dot p (there (join p r.name) w),
    ))
    (k.right r i).named (l.right r i).named in
    one_target us apart (m r) (n r) name (first_typed os k.within (m r) (k.right r i).typed) (first_typed ps l.within (n r) (l.right r i).typed)) where
      first_typed : (vs : List Outline) → Within vs us → (t : Target) → ((s : Sort) × IsDeclared vs t.name s × HasType s t.type) → (s : Sort) × IsDeclared us t.name s × HasType s t.type
      first_typed vs within t h = (h.0, declared_within vs us within t.name h.0 h.1, h.2)

meant_within : (fs all more : List Outline) → Within all more → (f : FileContent) (means : Reference → Target) → IsMeant fs all f means → IsMeant fs more f means
meant_within fs all more there f means m = record { within = λ o i. there o (m.within o i); closed = m.closed; nested = m.nested; home = m.home; right = m.right }

-- each linked file comes from one of the sources, and each source became one
record ComesFrom (all : List Outline) (f : FileContent) (linked_file : FileContent) : Type 0 where
  by : List Outline
  means : Reference → Target
  meant : IsMeant by all f means
  is : linked means f ≡ linked_file

abbrev ArePlain : List FileContent → Type 0
ArePlain fs = (f : FileContent) → Contains fs f → IsPlainFile f

closed_from : (fs : List FileContent) → ((f : FileContent) (i : Import) → Contains fs f → Contains (imports_of f) i → IsNamed (outlines fs) i.file) → IsClosed (outlines fs)
closed_from fs named o i j k =
    let f = contains_map_cases outline_of fs o j in
    named f.0 i f.1 (subst (λ (x : Outline). Contains x.imports i) (sym f.2) k)

-- the outlines of what was built are those of its sources
built_outlines : (batches : List (List FileContent)) (after : List FileContent) → Builds batches after → (o : Outline) → Contains (outlines after) o → Contains (outlines (sources batches)) o
built_outlines [] after is o i = subst (λ (fs : List FileContent). Contains (outlines fs) o) is i
built_outlines (new ∷ earlier) after (old, before, (meanings, lawful, is)) o i =
    let j : Contains (outlines (old ++ new)) o = subst (λ os. Contains os o) (outlines_linked old new meanings) (subst (λ (fs : List FileContent). Contains (outlines fs) o) is i) in
    let k : Contains (outlines old ++ outlines new) o = subst (λ os. Contains os o) (map-append outline_of old new) j in
    subst (λ os. Contains os o) (sym (map-append outline_of new (sources earlier))) (by (Contains-append_cases (outlines old) (outlines new) o k) (built_outlines earlier old before o)) where
      by : Contains (outlines old) o ⊎ Contains (outlines new) o → (Contains (outlines old) o → Contains (outlines (sources earlier)) o) → Contains (outlines new ++ outlines (sources earlier)) o
      by (inl k) rest = Contains-append_right (outlines new) (outlines (sources earlier)) o (rest k)
      by (inr k) rest = Contains-append_left (outlines new) (outlines (sources earlier)) o k

nested_from : (os : List Outline) (fs : List FileContent) → Within os (outlines fs) → ArePlain fs → AreNested os
nested_from os fs within plain o h i j =
    let q = contains_map_cases outline_of fs o (within o i) in
    file_nested os q.0 (subst (Contains os) (sym q.2) i) (plain q.0 q.1) h (subst (λ (x : Outline). Contains x.heads h) (sym q.2) j)

step_meant : (new : List FileContent) (earlier : List (List FileContent)) (after old : List FileContent) → Builds earlier old → (meanings : Meanings) → IsLawful old new meanings → after ≡ old ++ all_linked meanings new
    → ArePlain (sources (new ∷ earlier)) → (f : FileContent) → Contains new f → IsMeant (outlines (old ++ new)) (outlines after) f (meanings f)
step_meant new earlier after old before meanings lawful is plain f i =
    let same : outlines after ≡ outlines (old ++ new) = ap outlines is ∙ outlines_linked old new meanings in
    let within : Within (outlines (old ++ new)) (outlines after) = λ o j. subst (λ os. Contains os o) (sym same) j in
    let linked_before = built_linked earlier old before in
    record {
      within = within;
      closed = closed_from (old ++ new) (λ g k j l. elim (Contains-append_cases old new g j) [
        | inl m ↦ named_within (outlines old) (outlines (old ++ new)) (outlines_left old new) k.file ((linked_before.each g m).imports k l)
        | inr m ↦ lawful.imports g k m l
      ]);
      nested = nested_from (outlines (old ++ new)) (sources (new ∷ earlier)) (λ o j. built_outlines (new ∷ earlier) after (old, before, (meanings, lawful, is)) o (within o j)) plain;
      home = contains_map outline_of (old ++ new) f (Contains-append_right old new f i);
      right = λ r j. lawful.means f r i j;
    }

after_old : (new after old : List FileContent) (meanings : Meanings) → after ≡ old ++ all_linked meanings new → Within (outlines old) (outlines after)
after_old new after old meanings is o i = subst (λ (fs : List FileContent). Contains (outlines fs) o) (sym is) (subst (λ os. Contains os o) (sym (outlines_linked old new meanings)) (outlines_left old new o i))

come_within : (all more : List Outline) → Within all more → (f g : FileContent) → ComesFrom all f g → ComesFrom more f g
come_within all more there f g c = record { by = c.by; means = c.means; meant = meant_within c.by all more there f c.means c.meant; is = c.is }

later : (new rest : List FileContent) → ArePlain (new ++ rest) → ArePlain rest
later new rest plain f i = plain f (Contains-append_right new rest f i)

origins : (batches : List (List FileContent)) (after : List FileContent) → Builds batches after → ArePlain (sources batches) → (g : FileContent) → Contains after g
    → (f : FileContent) × Contains (sources batches) f × ComesFrom (outlines after) f g
origins [] after is plain g i = absurd (contains_none g (subst (λ fs. Contains fs g) is i))
origins (new ∷ earlier) after (old, before, (meanings, lawful, is)) plain g i =
    by (Contains-append_cases old (all_linked meanings new) g (subst (λ fs. Contains fs g) is i)) (origins earlier old before (later new (sources earlier) plain) g) where
      by : Contains old g ⊎ Contains (all_linked meanings new) g → (Contains old g → (f : FileContent) × Contains (sources earlier) f × ComesFrom (outlines old) f g)
          → (f : FileContent) × Contains (new ++ sources earlier) f × ComesFrom (outlines after) f g
      by (inl j) rest = let r = rest j in (r.0, Contains-append_right new (sources earlier) r.0 r.1, come_within (outlines old) (outlines after) (after_old new after old meanings is) r.0 g r.2)
      by (inr j) rest =
          let q = contains_map_cases (λ (f : FileContent). linked (meanings f) f) new g j in (
            q.0,
            Contains-append_left new (sources earlier) q.0 q.1,
            record { by = outlines (old ++ new); means = meanings q.0; meant = step_meant new earlier after old before meanings lawful is plain q.0 q.1; is = q.2 },
          )

images : (batches : List (List FileContent)) (after : List FileContent) → Builds batches after → ArePlain (sources batches) → (f : FileContent) → Contains (sources batches) f
    → (g : FileContent) × Contains after g × ComesFrom (outlines after) f g
images [] after is plain f i = absurd (contains_none f i)
images (new ∷ earlier) after (old, before, (meanings, lawful, is)) plain f i =
    by (Contains-append_cases new (sources earlier) f i) (images earlier old before (later new (sources earlier) plain) f) where
      by : Contains new f ⊎ Contains (sources earlier) f → (Contains (sources earlier) f → (g : FileContent) × Contains old g × ComesFrom (outlines old) f g)
          → (g : FileContent) × Contains after g × ComesFrom (outlines after) f g
      by (inl j) rest = (
        linked (meanings f) f,
        subst (λ fs. Contains fs (linked (meanings f) f)) (sym is) (Contains-append_right old (all_linked meanings new) _ (contains_map (λ (g : FileContent). linked (meanings g) g) new f j)),
        record { by = outlines (old ++ new); means = meanings f; meant = step_meant new earlier after old before meanings lawful is plain f j; is = refl },
      )
      by (inr j) rest =
          let r = rest j in
          (r.0, subst (λ fs. Contains fs r.0) (sym is) (Contains-append_left old (all_linked meanings new) r.0 r.1), come_within (outlines old) (outlines after) (after_old new after old meanings is) f r.0 r.2)

module _ (batches others : List (List FileContent)) (after last : List FileContent) (plain : ArePlain (sources batches)) (same : SameFiles (sources batches) (sources others))
    (built : Builds batches after) (rebuilt : Builds others last) where
  plain_too : ArePlain (sources others)
  plain_too f i = plain f ((same f).1 i)

  outlines_there : Within (outlines after) (outlines last)
  outlines_there o i =
      let g = contains_map_cases outline_of after o i in
      let f = origins batches after built plain g.0 g.1 in
      let h = images others last rebuilt plain_too f.0 ((same f.0).0 f.1) in
      let first : outline_of f.0 ≡ outline_of g.0 = sym (outline_renamed (λ r. dotted (f.2.means r)) f.0) ∙ ap outline_of f.2.is in
      let second : outline_of f.0 ≡ outline_of h.0 = sym (outline_renamed (λ r. dotted (h.2.means r)) f.0) ∙ ap outline_of h.2.is in
      subst (Contains (outlines last)) (sym second ∙ first ∙ g.2) (contains_map outline_of last h.0 h.1)

  pub files_there : (g : FileContent) → Contains after g → Contains last g
  files_there g i =
      let f = origins batches after built plain g i in
      let h = images others last rebuilt plain_too f.0 ((same f.0).0 f.1) in
      let e = same_link (outlines last) f.2.by h.2.by (built_linked others last rebuilt).apart f.0 f.2.means h.2.means
      (meant_within f.2.by (outlines after) (outlines last) outlines_there f.0 f.2.means f.2.meant) h.2.meant in
      subst (Contains last) (sym h.2.is ∙ sym e ∙ f.2.is) h.1

-- whatever the batches, the view is the same
pub same_view : (batches others : List (List FileContent)) (after last : List FileContent) → ArePlain (sources batches) → SameFiles (sources batches) (sources others)
    → Builds batches after → Builds others last → view_of after ≡ view_of last
same_view batches others after last plain same built rebuilt =
    let back : SameFiles (sources others) (sources batches) = λ f. ((same f).1, (same f).0) in
    let l = built_linked others last rebuilt in
    one_view after last
    (files_there batches others after last plain same built rebuilt)
    (files_there others batches last after (λ f i. plain f ((same f).1 i)) back rebuilt built)
    l.apart l.together.extended

-- files are linked in one way by what their references mean
pub linked_once : (os : List Outline) → AreApart os → (m n : Meanings) (fs : List FileContent)
    → ((f : FileContent) (r : Reference) → Contains fs f → Contains (references f) r → ReferenceMeans os (outline_of f) r (m f r))
    → ((f : FileContent) (r : Reference) → Contains fs f → Contains (references f) r → ReferenceMeans os (outline_of f) r (n f r))
    → all_linked m fs ≡ all_linked n fs
linked_once os apart m n [] first second = refl
linked_once os apart m n (f ∷ fs) first second =
    let here : linked (m f) f ≡ linked (n f) f = file_same (λ r. dotted (m f r)) (λ r. dotted (n f r)) f (λ r i.
    let p = first f r (contains_here f fs) i in
    let q = second f r (contains_here f fs) i in
    one_target os apart (m f r) (n f r) (means_one
    (IsWanted os (outline_of f) r.want) (HoldsNames os) (IsWanted os (outline_of f) r.want) (HoldsNames os) (λ x w. w) (λ x w. w) r.scope r.name (m f r).name (n f r).name
    (λ c rest e other dot. (λ p v g. g, λ p w h. h)) p.named q.named) p.typed q.typed) in
    ap (λ g. g ∷ all_linked m fs) here ∙ ap (λ gs. linked (n f) f ∷ gs) (linked_once os apart m n fs (λ g r i. first g r (contains_there f fs g i)) (λ g r i. second g r (contains_there f fs g i)))

-- files are linked in one way
pub one_linking : (old new after last : List FileContent) → AddsLawful old new after → AddsLawful old new last → after ≡ last
one_linking old new after last (m, l, is) (n, k, be) = is ∙ ap (λ fs. old ++ fs) (linked_once (outlines (old ++ new)) l.apart m n new l.means k.means) ∙ sym be

-- and batches are built in one way
pub one_built : (batches : List (List FileContent)) (after last : List FileContent) → Builds batches after → Builds batches last → after ≡ last
one_built [] after last a b = a ∙ sym b
one_built (new ∷ earlier) after last (old, before, adds) (other, behind, also) =
    let same = one_built earlier other old behind before in
    one_linking old new after last adds (subst (λ fs. AddsLawful fs new last) same also)
