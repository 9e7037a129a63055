-- What a pool's files import, as these come and go.
use Rattle.std.proofs.Common.{◌≡◌, ℕ, ℤ, pos, negsuc, ◌+◌, List, [], ◌∷◌, ◌++◌, Bool, true, false, cond, Option, Some, None, is_some, String, Global, string_bytes, map, take, length, slice_get, ap, sym, subst, ◌∙◌, refl}
use Rattle.std.proofs.Math.ListN.{length-map}
use Rattle.std.proofs.Math.Path.{fun_ext}
use Rattle.std.proofs.lemmas.List.{take-map}
use Rattle.std.proofs.lemmas.Option.{slice_get-map, slice_get-get_or, slice_get_within, get_or_from_slice_get}
use Rattle.std.proofs.lemmas.Simd.{map-map}
use Rattle.std.specs.List.{AllByRecursion, Contains, cons_option, filter_map}
use Rattle.std.specs.Option.{option_map}
use Rattle.descriptor_records.specs.declared.file.FileDescriptorProto.{FileDescriptorProto}
use Rattle.reflect_scope.specs.declared.seen.Links.{Links}
use Rattle.reflect_declarations.specs.Batches.{batch_declarations}
use Rattle.reflect_declarations.specs.Declarations.{each, file_declarations, past_file}
use Rattle.reflect_declarations.specs.declared.offsets.Offsets.{Offsets}
use Rattle.reflect_faults.specs.Faults.{Fault}
use Rattle.reflect_scope.specs.FileIndexes.{Indexes, link_view, is_index}
use Rattle.reflect_names.specs.ImportedFiles.{file_of, import_at as import_of, links_to}
use Rattle.reflect_scope.specs.Known.{Known}
use Rattle.reflect_known.specs.KnownNames.{known_behind}
use Rattle.reflect_names.specs.NamePass.{faults_along}
use Rattle.reflect_names.specs.Names.{Places, import_fault, public_fault, import_faults}
use Rattle.reflect_tables.specs.Types.{FileType}
use Rattle.reflect_tables.specs.Views.{record_file}
use Rattle.reflect_index.proofs.Batched.{faults_on}
use Rattle.reflect_tables.proofs.Founds.{front}
use Rattle.reflect_index.proofs.Known.{none_left, none_right}
use Rattle.reflect_pool.specs.Imports.{import_at, imported_places, ImportsAmong, names_of_files}
use Rattle.reflect_pool.specs.Linked.{AreIndexed}
use Rattle.reflect_pool.proofs.Grown.{all_behind, all_through}
use Rattle.reflect_build.proofs.Indexed.{taken}
use Rattle.reflect_pool.proofs.Places.{all_get}
use Rattle.reflect_pool.proofs.ImportsAt.{of_name}
use Rattle.reflect_build.proofs.Pooled.{map-append}

-- what is given for the views of a list
filter_map-map : {X Y Z : Type 0} (h : Y → Option Z) (g : X → Y) (xs : List X) → filter_map (λ x. h (g x)) xs ≡ filter_map h (map g xs)
filter_map-map h g [] = refl
filter_map-map h g (x ∷ xs) = ap (cons_option (h (g x))) (filter_map-map h g xs)

-- what two functions give that agree on a list
filter_map-same : {X Y : Type 0} (P : X → Type 0) (g h : X → Option Y) → ((x : X) → P x → g x ≡ h x) → (xs : List X) → AllByRecursion P xs → filter_map g xs ≡ filter_map h xs
filter_map-same P g h same [] all = refl
filter_map-same P g h same (x ∷ xs) all = ap (λ o. cons_option o (filter_map g xs)) (same x all.0) ∙ ap (cons_option (h x)) (filter_map-same P g h same xs all.1)

abbrev of_text : Indexes → Option (String Global) → Option ℕ
of_text indexes o = elim o [ None ↦ None | Some name ↦ file_of indexes name ]

-- the import at an index, by the texts and by their bytes
import_as : (indexes : Indexes) (names : List (String Global)) (i : ℤ) → import_of indexes names i ≡ import_at indexes (map string_bytes names) i
import_as indexes names (pos i) = by (slice_get names i) ∙ sym (ap (of_name indexes) (slice_get-map string_bytes names i)) where
  by : (o : Option (String Global)) → of_text indexes o ≡ of_name indexes (option_map string_bytes o)
  by None = refl
  by (Some s) = refl
import_as indexes names (negsuc i) = refl

-- the links of a record are to what its file imports
pub links_as : (indexes : Indexes) (f : FileDescriptorProto) → links_to indexes f ≡ imported_places indexes (record_file f)
links_as indexes f =
    let imports = filter_map-map indexes string_bytes f.dependency.items in
    let public = ap (λ h. filter_map h f.public_dependency.items) (fun_ext (import_as indexes f.dependency.items)) in
    λ i. (imports i, public i)

-- names of files that keep their places stand for the same files
pub same_places : (a b : Indexes) (ns ms : List (List ℕ)) → AreIndexed a ns → AreIndexed b ms → ((t : List ℕ) (i : ℕ) → slice_get ns i ≡ Some t → slice_get ms i ≡ Some t) → (t : List ℕ) → Contains ns t → a t ≡ b t
same_places a b ns ms are now keep t has =
    let at = slice_get-get_or ns has.0 t has.1 ∙ ap Some has.2 in
    (are t has.0).1 at ∙ sym ((now t has.0).1 (keep t has.0 at))

-- files whose imports are among names import the same files wherever these names stand for the same
module _ (a b : Indexes) (names : List (List ℕ)) (same : (t : List ℕ) → Contains names t → a t ≡ b t) where
  same_import : (ts : List (List ℕ)) → AllByRecursion (Contains names) ts → (i : ℤ) → import_at a ts i ≡ import_at b ts i
  same_import ts all (pos i) = by (slice_get ts i) refl where
    by : (o : Option (List ℕ)) → slice_get ts i ≡ o → of_name a o ≡ of_name b o
    by None e = refl
    by (Some t) e = same t (all_get (Contains names) ts i t all e)
  same_import ts all (negsuc i) = refl

  same_imports : (f : FileType) → ImportsAmong names f → imported_places a f ≡ imported_places b f
  same_imports f h =
      let imports = filter_map-same (Contains names) a b same f.imports h.imports in
      let public = ap (λ g. filter_map g f.public_imports) (fun_ext (same_import f.imports h.imports)) in
      λ i. (imports i, public i)

  pub all_same : (fs : List FileType) → AllByRecursion (ImportsAmong names) fs → map (imported_places a) fs ≡ map (imported_places b) fs
  all_same [] all = refl
  all_same (f ∷ fs) all = ap (λ p. p ∷ map (imported_places a) fs) (same_imports f all.0) ∙ ap (λ ps. imported_places b f ∷ ps) (all_same fs all.1)

-- imports are among more names
among_more : (ns ms : List (List ℕ)) → ((t : List ℕ) → Contains ns t → Contains ms t) → (f : FileType) → ImportsAmong ns f → ImportsAmong ms f
among_more ns ms more f h = record { imports = all_through (Contains ns) (Contains ms) f.imports more h.imports; places = h.places }

-- a name in front of others is among all of them
in_front : (ns more : List (List ℕ)) (t : List ℕ) → Contains ns t → Contains (ns ++ more) t
in_front ns more t has =
    let at = front ns more has.0 t (slice_get-get_or ns has.0 t has.1 ∙ ap Some has.2) in
    (has.0, slice_get_within (ns ++ more) has.0 t at, get_or_from_slice_get (ns ++ more) has.0 t t at)

-- the imports of a file without faults
module _ (indexes : Indexes) (names : List (List ℕ)) (are : AreIndexed indexes names) where
  found : (t : List ℕ) (x : Fault) → cond (is_some (indexes t)) [] (x ∷ []) ≡ [] → Contains names t
  found t x none = by (indexes t) refl none where
    by : (o : Option ℕ) → indexes t ≡ o → cond (is_some o) [] (x ∷ []) ≡ [] → Contains names t
    by None is e = absurd (cc)
    by (Some i) is e = let at = (are t i).0 is in (i, slice_get_within names i t at, get_or_from_slice_get names i t t at)

  all_found : (at : Places) (k : ℕ) (ts : List (String Global)) → each (import_fault at indexes) k ts ≡ [] → AllByRecursion (Contains names) (map string_bytes ts)
  all_found at k [] none = tt
  all_found at k (t ∷ ts) none = (found (string_bytes t) _ (none_left _ _ none), all_found at (k + 1) ts (none_right (import_fault at indexes k t) _ none))

  in_range : (i : ℤ) (count : ℕ) (x : Fault) → cond (is_index i count) [] (x ∷ []) ≡ [] → is_index i count ≡ true
  in_range i count x none = by (is_index i count) none where
    by : (b : Bool) → cond b [] (x ∷ []) ≡ [] → b ≡ true
    by true e = refl
    by false e = absurd (cc)

  all_in_range : (at : Places) (count k : ℕ) (is : List ℤ) → each (public_fault at count) k is ≡ [] → AllByRecursion (λ i. is_index i count ≡ true) is
  all_in_range at count k [] none = tt
  all_in_range at count k (i ∷ is) none = (in_range i count _ (none_left _ _ none), all_in_range at count (k + 1) is (none_right (public_fault at count k i) _ none))

  file_found : (at : Places) (f : FileDescriptorProto) → import_faults at indexes f ≡ [] → ImportsAmong names (record_file f)
  file_found at f none = record {
    imports = all_found at 0 f.dependency.items (none_left _ _ none);
    places = subst (λ n. AllByRecursion (λ i. is_index i n ≡ true) f.public_dependency.items) (sym (length-map f.dependency.items string_bytes))
        (all_in_range at (length f.dependency.items) 0 f.public_dependency.items (none_right (each (import_fault at indexes) 0 f.dependency.items) _ none));
  }

  -- the imports of a batch without faults
  pub batch_found : (at : ℕ → Places) (known : Known) (o : Offsets) (first : ℕ) (fs : List FileDescriptorProto) → faults_along at indexes known (batch_declarations o first fs) ≡ [] → AllByRecursion (ImportsAmong names) (map record_file fs)
  batch_found at known o first [] none = tt
  batch_found at known o first (f ∷ fs) none =
      let ds = file_declarations o first f in
      let rest = batch_declarations (past_file o f) (first + 1) fs in
      let split = sym (faults_on at indexes known ds rest) ∙ none in
      let here = none_left (faults_along at indexes known ds) (faults_along at indexes (known_behind known ds) rest) split in
      let later = none_right (faults_along at indexes known ds) (faults_along at indexes (known_behind known ds) rest) split in
      (file_found (at first) f (none_left _ _ (none_left _ _ here)), batch_found at (known_behind known ds) (past_file o f) (first + 1) fs later)

-- behind a batch
module _ (had has : Indexes) (olds news : List FileType) (fs : List FileDescriptorProto) (more : news ≡ olds ++ map record_file fs)
    (were : AreIndexed had (names_of_files olds)) (are : AreIndexed has (names_of_files news)) (there : AllByRecursion (ImportsAmong (names_of_files olds)) olds) where
  names_more : names_of_files news ≡ names_of_files olds ++ names_of_files (map record_file fs)
  names_more = ap names_of_files more ∙ map-append (λ (f : FileType). f.name) olds (map record_file fs)

  stays : (t : List ℕ) (i : ℕ) → slice_get (names_of_files olds) i ≡ Some t → slice_get (names_of_files news) i ≡ Some t
  stays t i e = subst (λ ns. slice_get ns i ≡ Some t) (sym names_more) (front (names_of_files olds) (names_of_files (map record_file fs)) i t e)

  pub imports_more : (at : ℕ → Places) (known : Known) (o : Offsets) (first : ℕ) → faults_along at has known (batch_declarations o first fs) ≡ [] → AllByRecursion (ImportsAmong (names_of_files news)) news
  imports_more at known o first none =
      let all = ImportsAmong (names_of_files news) in
      let wider = λ (t : List ℕ) (h : Contains (names_of_files olds) t). subst (λ ns. Contains ns t) (sym names_more) (in_front (names_of_files olds) (names_of_files (map record_file fs)) t h) in
      let old = all_through (ImportsAmong (names_of_files olds)) all olds (among_more (names_of_files olds) (names_of_files news) wider) there in
      subst (AllByRecursion all) (sym more) (all_behind all olds (map record_file fs) old (batch_found has (names_of_files news) are at known o first fs none))

  pub links_more : (old new : List Links) → map link_view old ≡ map (imported_places had) olds → map link_view new ≡ map link_view old ++ map (links_to has) fs → map link_view new ≡ map (imported_places has) news
  links_more old new before added =
      let kept = before ∙ all_same had has (names_of_files olds) (same_places had has (names_of_files olds) (names_of_files news) were are stays) olds there in
      let behind = ap (λ g. map g fs) (fun_ext (links_as has)) ∙ sym (map-map (imported_places has) record_file fs) in
      added ∙ ap (λ l. l ++ map (links_to has) fs) kept ∙ ap (λ l. map (imported_places has) olds ++ l) behind
      ∙ sym (ap (map (imported_places has)) more ∙ map-append (imported_places has) olds (map record_file fs))

-- of a pool that is cut back
pub links_cut : (mark : ℕ) (old new : Indexes) (files : List FileType) (ls ks : List Links) → AreIndexed old (names_of_files files) → AreIndexed new (names_of_files (take mark files))
    → AllByRecursion (ImportsAmong (names_of_files (take mark files))) (take mark files) → ks ≡ take mark ls → map link_view ls ≡ map (imported_places old) files → map link_view ks ≡ map (imported_places new) (take mark files)
links_cut mark old new files ls ks were are there e links =
    let name = λ (f : FileType). f.name in
    let left = take mark files in
    let stays = λ (t : List ℕ) (i : ℕ) (q : slice_get (names_of_files left) i ≡ Some t). ((taken mark (names_of_files files) i t).0 (ap (λ ns. slice_get ns i) (take-map name mark files) ∙ q)).0 in
    ap (map link_view) e ∙ sym (take-map link_view mark ls) ∙ ap (take mark) links ∙ take-map (imported_places old) mark files
    ∙ sym (all_same new old (names_of_files left) (same_places new old (names_of_files left) (names_of_files files) are were stays) left there)

-- behind a refusal, which may have put in links of further files
pub links_back : (mark : ℕ) (old new : Indexes) (files : List FileType) (ls mid ks : List Links) → mark ≡ length files → AreIndexed old (names_of_files files) → AreIndexed new (names_of_files files)
    → AllByRecursion (ImportsAmong (names_of_files files)) files → take (length ls) mid ≡ ls → ks ≡ take mark mid → map link_view ls ≡ map (imported_places old) files → map link_view ks ≡ map (imported_places new) files
links_back mark old new files ls mid ks count were are there kept e links =
    let long : length ls ≡ length files = sym (length-map ls link_view) ∙ ap length links ∙ length-map files (imported_places old) in
    let same : ks ≡ ls = e ∙ ap (λ n. take n mid) (count ∙ sym long) ∙ kept in
    ap (map link_view) same ∙ links ∙ all_same old new (names_of_files files) (same_places old new (names_of_files files) (names_of_files files) were are (λ t i q. q)) files there
