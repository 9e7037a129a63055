-- New files behind those of a pool: what is known of all of them, and which files each of them sees.
use Rattle.std.proofs.Common.{◌≡◌, ◌∙◌, ◌+◌, ◌≤◌, ◌<◌, inl, inr, ℕ, Bool, List, [], ◌++◌, Some, map, length, slice_get, zero-add, ap, sym, subst, refl, arith}
use Rattle.std.specs.List.{Contains}
use Rattle.std.proofs.lemmas.List.{map-append, length-map}
use Rattle.std.proofs.lemmas.List.Elements.{Contains-append_left, Contains-append_cases}
use Rattle.descriptor_records.specs.Content.{FileContent, file_view}
use Rattle.descriptor_records.specs.declared.file.FileDescriptorProto.{FileDescriptorProto}
use Rattle.reflect_scope.specs.FileIndexes.{Indexes, link_view}
use Rattle.reflect_scope.specs.declared.seen.Links.{Links}
use Rattle.reflect_declarations.specs.Tree.{text_of}
use Rattle.reflect_declarations.specs.Batches.{batch_declarations}
use Rattle.reflect_known.specs.KnownNames.{known_behind, nothing_known, nothing_before, known_of_files, counts_of_files}
use Rattle.reflect_faults.specs.Faults.{batch_places}
use Rattle.reflect_names.specs.FileNames.{with_files, files_faults}
use Rattle.reflect_names.specs.ImportedFiles.{links_to}
use Rattle.reflect_names.specs.ReferencePass.{AreSeen}
use Rattle.reflect_tables.specs.Types.{PoolType}
use Rattle.reflect_tables.specs.Views.{record_file}
use Rattle.reflect_index.proofs.Batched.{known_on}
use Rattle.reflect_index.proofs.Behind.{get_behind}
use Rattle.reflect_index.proofs.Among.{get_map}
use Rattle.reflect_pool.specs.Imports.{names_of_files, imported_places}
use Rattle.reflect_pool.specs.Linked.{AreIndexed}
use Rattle.reflect_build.specs.Refusals.{AreLinked, Linking, with_declared, IsOf}
use Rattle.reflect_build.proofs.Indexed.{indexed_more}
use Rattle.reflect_build.proofs.Imported.{links_as, links_more}
use Rattle.reflect_build.proofs.Recorded.{batch_on}
use Rattle.schema_view.specs.Outlines.{outline_of}
use Rattle.schema_view.specs.Files.{file_name}
use Rattle.schema_view.specs.Lawful.{outlines}
use Rattle.schema_view.proofs.Renames.{map_same}
use Rattle.schema_view.proofs.Within.{named_within}
use Rattle.linked_view.specs.Alone.{IsWellNamed}
use Rattle.linked_view.specs.Known.{AreKnown}
use Rattle.linked_view.specs.Named.{AreWellNamed}
use Rattle.linked_view.specs.Referred.{AreSeenBy}
use Rattle.linked_view.proofs.Counts.{IsPlaced}
use Rattle.linked_view.proofs.Known.{files_known}
use Rattle.linked_view.proofs.NamedFiles.{names_recorded}
use Rattle.linked_view.proofs.Places.{get_less}
use Rattle.linked_view.proofs.Walked.{text_seen}
use Rattle.linked_view.proofs.Sees.{sees_to, sees_from}

known_more : (fs gs : List FileDescriptorProto) → known_of_files (fs ++ gs)
    ≡ known_behind (known_of_files fs) (batch_declarations (counts_of_files fs) (length fs) gs)
known_more fs gs =
    let front = batch_declarations nothing_before 0 fs in
    ap (known_behind nothing_known) (batch_on nothing_before 0 fs gs
    ∙ ap (λ n. front ++ batch_declarations (counts_of_files fs) n gs) (zero-add (length fs)))
    ∙ known_on nothing_known front (batch_declarations (counts_of_files fs) (length fs) gs)

-- all of the files, where the older ones and the new ones have names
pub named_all : (old new : List FileContent) → AreWellNamed [] old → AreWellNamed old new
    → AreWellNamed [] (old ++ new)
named_all old new h k = record {
  apart = k.apart;
  files = λ f i. elim (Contains-append_cases old new f i) [
    | inl j ↦ h.files f j
    | inr j ↦ k.files f j
  ];
  imports = λ f x i m. elim (Contains-append_cases old new f i) [
    | inl j ↦ named_within (outlines old) (outlines (old ++ new)) (λ o p.
        subst (λ os. Contains os o) (sym (map-append outline_of old new))
        (Contains-append_left (outlines old) (outlines new) o p)) x.file (h.imports f x j m)
    | inr j ↦ k.imports f x j m
  ];
  complete = λ f d i m. elim (Contains-append_cases old new f i) [
    | inl j ↦ h.complete f d j m
    | inr j ↦ k.complete f d j m
  ];
}

module _ (old : PoolType) (ns : List FileDescriptorProto) (w : Linking) (is : IsOf old w)
    (has : IsWellNamed old) where
  abbrev pub before : List FileDescriptorProto
  before = old.records

  abbrev pub all : List FileDescriptorProto
  all = before ++ ns

  pub first_is : w.first ≡ length before
  first_is = is.first ∙ ap length has.recorded.headers ∙ length-map before record_file

  pub placed : AreIndexed w.indexes (names_of_files (map record_file before))
  placed = subst (λ fs. AreIndexed w.indexes (names_of_files fs)) has.recorded.headers is.files

  module _ (have_names : AreWellNamed (map file_view before) (map file_view ns))
      (files_none : files_faults (batch_places ns w.first) w.indexes w.first ns ≡ []) (links : List Links)
      (linked_as : AreLinked (with_declared w ns) ns links) (sees : ℕ → ℕ → Bool)
      (right : AreSeen links w.first (length ns) sees) where
    views_of_all : map file_view all ≡ map file_view before ++ map file_view ns
    views_of_all = map-append file_view before ns

    pub all_named : AreWellNamed [] (map file_view all)
    all_named = subst (AreWellNamed []) (sym views_of_all)
        (named_all (map file_view before) (map file_view ns) has.named have_names)

    pub known_is : (with_declared w ns).known ≡ known_of_files all
    known_is =
        ap (λ k. known_behind k (batch_declarations w.before w.first ns)) is.known
        ∙ ap (λ o. known_behind (known_of_files before) (batch_declarations o w.first ns)) is.counts
        ∙ ap (λ n. known_behind (known_of_files before) (batch_declarations (counts_of_files before) n ns))
        first_is
        ∙ sym (known_more before ns)

    pub are_known : AreKnown all (with_declared w ns).known
    are_known = subst (AreKnown all) (sym known_is) (files_known all all_named)

    -- names of all files, and their links
    abbrev indexes : Indexes
    indexes = (with_declared w ns).indexes

    first_names : length (names_of_files old.files) ≡ w.first
    first_names = length-map old.files (λ f. f.name) ∙ sym is.first

    names_both : names_of_files (old.files ++ map record_file ns)
        ≡ names_of_files old.files ++ names_of_files (map record_file ns)
    names_both = map-append (λ f. f.name) old.files (map record_file ns)

    indexed : AreIndexed indexes (names_of_files (old.files ++ map record_file ns))
    indexed =
        subst (AreIndexed indexes) (sym names_both)
        (subst (λ n. AreIndexed (with_files w.indexes n ns)
        (names_of_files old.files ++ names_of_files (map record_file ns))) first_names
        (indexed_more (batch_places ns w.first) w.indexes (names_of_files old.files) ns
        (subst (λ n. files_faults (batch_places ns w.first) w.indexes n ns ≡ []) (sym first_names) files_none)
        is.files))

    files_all : old.files ++ map record_file ns ≡ map record_file all
    files_all = ap (λ fs. fs ++ map record_file ns) has.recorded.headers ∙ sym (map-append record_file before ns)

    linked : map link_view links ≡ map (links_to indexes) all
    linked =
        links_more w.indexes indexes old.files (old.files ++ map record_file ns) ns refl is.files indexed
        has.recorded.imports w.links links is.links linked_as
        ∙ ap (map (imported_places indexes)) files_all
        ∙ map_same (imported_places indexes) record_file (links_to indexes)
        (λ f. sym (links_as indexes f)) all

    placed_all : IsPlaced indexes (map (λ (f : FileDescriptorProto). text_of f.name) all)
    placed_all =
        subst (IsPlaced indexes) (names_recorded all)
        (subst (λ fs. AreIndexed indexes (names_of_files fs)) files_all indexed)

    many_links : length links ≡ length all
    many_links = sym (length-map links link_view) ∙ ap length linked ∙ length-map all (links_to indexes)

    pub seen_by : AreSeenBy all w.first ns sees
    seen_by k f e = λ j g d.
        let here = get_less ns k f e in
        let there = get_less all j g d in
        let within : w.first + k < w.first + length ns = omega (arith, here) in
        let from : w.first ≤ w.first + k = omega arith in
        let known : j < length links = omega (arith, there, many_links) in
        let both = right (w.first + k) j from within known in
        let at : slice_get all (w.first + k) ≡ Some f =
        ap (λ n. slice_get all (n + k)) first_is ∙ get_behind before ns k f e in (
          λ s. sees_to indexes links all placed_all linked (w.first + k) j f g at d (both.0 s),
          λ s. both.1 (sees_from indexes links all placed_all linked (w.first + k) j f g at d s),
        )

    pub name_at : (k : ℕ) (f : FileDescriptorProto) → slice_get ns k ≡ Some f
        → indexes (file_name (file_view f)) ≡ Some (w.first + k)
    name_at k f e =
        let at : slice_get all (w.first + k) ≡ Some f =
        ap (λ n. slice_get all (n + k)) first_is ∙ get_behind before ns k f e in
        ap indexes (text_seen f.name)
        ∙ (placed_all (text_of f.name) (w.first + k)).1
        (get_map (λ (g : FileDescriptorProto). text_of g.name) all (w.first + k) f at)
