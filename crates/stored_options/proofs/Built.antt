-- What batches build is there when further batches have come, and its names are nested where those of
-- its sources have no dots.
use Rattle.std.proofs.Common.{◌≡◌, ◌∙◌, ◌++◌, ◌⊎◌, inl, inr, List, [], ◌∷◌, ap, sym, subst}
use Rattle.std.specs.List.{Contains}
use Rattle.std.proofs.lemmas.List.Elements.{Contains-append_left, Contains-append_right, Contains-append_cases}
use Rattle.descriptor_records.specs.Content.{FileContent}
use Rattle.schema_view.specs.Files.{Import}
use Rattle.schema_view.specs.Lawful.{Builds, all_linked, outlines, sources}
use Rattle.schema_view.specs.Outlines.{IsNamed, Outline, outline_of}
use Rattle.schema_view.specs.Plain.{IsPlainFile}
use Rattle.schema_view.specs.References.{dotted, linked}
use Rattle.schema_view.proofs.Batches.{one_built}
use Rattle.schema_view.proofs.Lists.{contains_map_cases, contains_none}
use Rattle.schema_view.proofs.Nested.{AreNested, file_nested}
use Rattle.schema_view.proofs.Renames.{outline_renamed}
use Rattle.schema_view.proofs.Road.{AreLinked}

-- what was built is there after further batches
pub earlier_there : (more batches : List (List FileContent)) (fs after : List FileContent)
    → Builds batches fs → Builds (more ++ batches) after → (f : FileContent) → Contains fs f
    → Contains after f
earlier_there [] batches fs after built also f i =
    subst (λ gs. Contains gs f) (one_built batches fs after built also) i
earlier_there (new ∷ more) batches fs after built (old, before, (meanings, lawful, is)) f i =
    subst (λ gs. Contains gs f) (sym is)
    (Contains-append_left old (all_linked meanings new) f
    (earlier_there more batches fs old built before f i))

pub earlier_sources : (more batches : List (List FileContent)) (f : FileContent)
    → Contains (sources batches) f → Contains (sources (more ++ batches)) f
earlier_sources [] batches f i = i
earlier_sources (new ∷ more) batches f i =
    Contains-append_right new (sources (more ++ batches)) f (earlier_sources more batches f i)

-- a built file has the outline of one of the sources
record HasSource (fs : List FileContent) (g : FileContent) : Type 0 where
  file : FileContent
  there : Contains fs file
  outline : outline_of file ≡ outline_of g

sourced : (batches : List (List FileContent)) (after : List FileContent) → Builds batches after
    → (g : FileContent) → Contains after g → HasSource (sources batches) g
sourced [] after is g i = absurd (contains_none g (subst (λ fs. Contains fs g) is i))
sourced (new ∷ earlier) after (old, before, (meanings, lawful, is)) g i =
    by (Contains-append_cases old (all_linked meanings new) g (subst (λ fs. Contains fs g) is i))
    (sourced earlier old before g) where
      by : Contains old g ⊎ Contains (all_linked meanings new) g
          → (Contains old g → HasSource (sources earlier) g) → HasSource (new ++ sources earlier) g
      by (inl j) rest =
          let r = rest j in
          record {
            file = r.file;
            there = Contains-append_right new (sources earlier) r.file r.there;
            outline = r.outline;
          }
      by (inr j) rest =
          let q = contains_map_cases (λ (f : FileContent). linked (meanings f) f) new g j in
          record {
            file = q.0;
            there = Contains-append_left new (sources earlier) q.0 q.1;
            outline = sym (outline_renamed (λ r. dotted (meanings q.0 r)) q.0) ∙ ap outline_of q.2;
          }

-- what stands before a dot of a name that built files declare holds names there
pub built_nested : (batches : List (List FileContent)) (fs : List FileContent) → Builds batches fs
    → ((f : FileContent) → Contains (sources batches) f → IsPlainFile f) → AreNested (outlines fs)
built_nested batches fs built plain o h i j =
    let g = contains_map_cases outline_of fs o i in
    let s = sourced batches fs built g.0 g.1 in
    let own : outline_of s.file ≡ o = s.outline ∙ g.2 in
    file_nested (outlines fs) s.file (subst (Contains (outlines fs)) (sym own) i)
    (plain s.file s.there) h (subst (λ (x : Outline). Contains x.heads h) (sym own) j)

-- what built files import is there
pub built_closed : (fs : List FileContent) → AreLinked fs → (o : Outline) (i : Import)
    → Contains (outlines fs) o → Contains o.imports i → IsNamed (outlines fs) i.file
built_closed fs l o i j k =
    let f = contains_map_cases outline_of fs o j in
    (l.each f.0 f.1).imports i (subst (λ (x : Outline). Contains x.imports i) (sym f.2) k)
