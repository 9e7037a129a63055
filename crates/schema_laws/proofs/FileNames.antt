-- The names of a pool's files are those of the files that it was built of.
use Rattle.std.proofs.Common.{◌≡◌, ◌∙◌, ◌++◌, inl, inr, ℕ, List, [], ◌∷◌, map, Some, ap, refl, sym, subst}
use Rattle.std.specs.List.{Contains}
use Rattle.std.proofs.lemmas.List.{map-append}
use Rattle.std.proofs.lemmas.List.Elements.{Contains-append_cases, Contains-append_left, Contains-append_right}
use Rattle.descriptor_records.specs.Content.{FileContent, Text, file_view}
use Rattle.descriptor_records.specs.declared.file.FileDescriptorProto.{FileDescriptorProto}
use Rattle.linked_view.proofs.NamedFiles.{names_in, names_recorded}
use Rattle.linked_view.proofs.Places.{contains_get, get_contains}
use Rattle.linked_view.proofs.Walked.{text_seen}
use Rattle.reflect_build.specs.Refusals.{IsOf, Linking}
use Rattle.reflect_declarations.specs.Tree.{text_of}
use Rattle.reflect_growth.specs.Settled.{bare_of}
use Rattle.reflect_pool.specs.Imports.{names_of_files}
use Rattle.reflect_tables.specs.Types.{PoolType}
use Rattle.schema_view.specs.Files.{file_name}
use Rattle.schema_view.specs.Lawful.{Builds, Meanings, all_linked, sources}
use Rattle.schema_view.specs.References.{linked}
use Rattle.schema_view.proofs.Lists.{contains_map, contains_map_cases, contains_none}
use Rattle.schema_view.proofs.Renames.{map_same}
use Rattle.types_view.specs.Pools.{IsPool}
use Rattle.types_view.specs.Typed.{IsTyped}

-- ---- what batches build: linking leaves the names of files

names_added : (old new : List FileContent) (meanings : Meanings) → map file_name (old ++ all_linked meanings new) ≡ map file_name old ++ map file_name new
names_added old new meanings =
    map-append file_name old (all_linked meanings new)
    ∙ ap (λ ns. map file_name old ++ ns) (map_same file_name (λ f. linked (meanings f) f) file_name (λ f. refl) new)

names_from : (batches : List (List FileContent)) (after : List FileContent) → Builds batches after → (n : Text) → Contains (map file_name after) n
    → (f : FileContent) × Contains (sources batches) f × (file_name f ≡ n)
names_from [] after is n i = absurd (contains_none n (subst (λ fs. Contains (map file_name fs) n) is i))
names_from (new ∷ earlier) after (old, before, (meanings, lawful, stand)) n i =
    elim (Contains-append_cases (map file_name old) (map file_name new) n (subst (λ ns. Contains ns n) (ap (map file_name) stand ∙ names_added old new meanings) i)) [
      | inl j ↦ (let r = names_from earlier old before n j in (r.0, Contains-append_right new (sources earlier) r.0 r.1, r.2))
      | inr j ↦ (let r = contains_map_cases file_name new n j in (r.0, Contains-append_left new (sources earlier) r.0 r.1, r.2))
    ]

names_to : (batches : List (List FileContent)) (after : List FileContent) → Builds batches after → (f : FileContent) → Contains (sources batches) f
    → Contains (map file_name after) (file_name f)
names_to [] after is f i = absurd (contains_none f i)
names_to (new ∷ earlier) after (old, before, (meanings, lawful, stand)) f i =
    subst (λ ns. Contains ns (file_name f)) (sym (ap (map file_name) stand ∙ names_added old new meanings))
    (elim (Contains-append_cases new (sources earlier) f i) [
      | inl j ↦ Contains-append_right (map file_name old) (map file_name new) (file_name f) (contains_map file_name new f j)
      | inr j ↦ Contains-append_left (map file_name old) (map file_name new) (file_name f) (names_to earlier old before f j)
    ])

-- ---- a pool that batches built, and whose options were settled since

module _ (batches : List (List FileContent)) (p : PoolType) (is : IsTyped batches p) (pool : IsPool p) where
  abbrev built : List FileDescriptorProto
  built = is.but.linked.records

  bare_names : (fs : List FileDescriptorProto) → map file_name (map bare_of fs) ≡ names_in fs
  bare_names fs = map_same file_name bare_of (λ (f : FileDescriptorProto). text_of f.name) (λ f. text_seen f.name) fs

  names_are : names_of_files p.files ≡ map file_name (map file_view built)
  names_are =
      ap names_of_files pool.recorded.headers ∙ names_recorded p.records ∙ sym (bare_names p.records)
      ∙ ap (map file_name) is.but.settles.bare ∙ bare_names built
      ∙ sym (map_same file_name file_view (λ (f : FileDescriptorProto). text_of f.name) (λ f. text_seen f.name) built)

  module _ (w : Linking) (of : IsOf p w) where
    -- what a name stands for is one of the files
    pub file_named : (n : Text) (i : ℕ) → w.indexes n ≡ Some i → (f : FileContent) × Contains (sources batches) f × (file_name f ≡ n)
    file_named n i e =
        let there : Contains (names_of_files p.files) n = get_contains (names_of_files p.files) i n ((of.files n i).0 e) in
        names_from batches (map file_view built) is.but.built.built n (subst (λ ns. Contains ns n) names_are there)

    -- and the name of each of them stands for something
    pub name_stands : (f : FileContent) → Contains (sources batches) f → (i : ℕ) × (w.indexes (file_name f) ≡ Some i)
    name_stands f i =
        let there : Contains (names_of_files p.files) (file_name f) =
        subst (λ ns. Contains ns (file_name f)) (sym names_are) (names_to batches (map file_view built) is.but.built.built f i) in
        let k = contains_get (names_of_files p.files) (file_name f) there in
        (k.0, (of.files (file_name f) k.0).1 k.1)
