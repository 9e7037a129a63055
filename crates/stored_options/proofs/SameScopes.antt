-- Where names of options are looked up in two pools of the same files, from one name, and by what one file
-- sees, each means one extension.
use Rattle.std.proofs.Common.{◌≡◌, ◌⊎◌, ◌<◌, ◌∙◌, ℕ, true, List, [], ◌∷◌, Some, map, length, slice_index_or, ap, refl, sym, subst, arith}
use Rattle.std.proofs.lemmas.List.{length-map}
use Rattle.std.specs.List.{position}
use Rattle.std.specs.Prelude.{bytes_eq}
use Rattle.descriptor_records.specs.Content.{file_view}
use Rattle.descriptor_records.specs.declared.file.FileDescriptorProto.{FileDescriptorProto}
use Rattle.option_setter.specs.OptionNames.{MeansThere}
use Rattle.option_setter.specs.declared.option_setter.NameScope.{NameScope}
use Rattle.protox_lex.specs.Class.{Text}
use Rattle.reflect_index.proofs.Among.{got_map, of_all, of_place}
use Rattle.reflect_growth.proofs.Told.{file_seen, file_told, header_seen, header_told, through}
use Rattle.reflect_known.specs.GivenNames.{names_of_file}
use Rattle.reflect_known.specs.KnownNames.{known_of_files, nothing_before, nothing_known}
use Rattle.reflect_known.proofs.GivenNames.{known_told}
use Rattle.reflect_options.specs.Entities.{Entity}
use Rattle.reflect_options.specs.Settling.{IsScopeOf, SeesFrom}
use Rattle.reflect_pool.specs.Imports.{imported_places, names_of_files, place_named}
use Rattle.reflect_scope.specs.FileIndexes.{link_view}
use Rattle.reflect_scope.specs.Known.{Known}
use Rattle.reflect_scope.specs.Means.{Meaning, means}
use Rattle.reflect_scope.specs.Says.{NameMeans}
use Rattle.reflect_scope.specs.Seen.{tells}
use Rattle.reflect_scope.specs.Sees.{Reached, Sees}
use Rattle.reflect_scope.specs.declared.definition.ResolveNameFilter.TheVariants as filters
use Rattle.reflect_scope.specs.declared.seen.Links.{Links}
use Rattle.reflect_scope.specs.declared.seen.SeenFiles.{SeenFiles}
use Rattle.reflect_tables.specs.Names.{FullName, extension_name, extensions, found, place_in, place_of, with_file}
use Rattle.reflect_tables.specs.Types.{ExtensionWithin, FileType, PoolType, counts_of}
use Rattle.reflect_tables.specs.Views.{record_file}
use Rattle.types_view.specs.Pools.{IsPool}
use Rattle.stored_options.proofs.LooksUp.{extension_kind, extension_seen}
use Rattle.stored_options.proofs.OneTarget.{NameAlike}
use Rattle.stored_options.proofs.SameMeaning.{IsNamed, WantedToo, same_meaning}

-- ---- two scopes by which the same extensions are seen

module _ (s t : NameScope) (known : Known) (by_one : known_of_files s.pool.now.records ≡ known) (by_other : known_of_files t.pool.now.records ≡ known)
    (name : s.name.now ≡ t.name.now)
    (to : WantedToo known filters.Extension (tells s.seen.now) (tells t.seen.now)) (back : WantedToo known filters.Extension (tells t.seen.now) (tells s.seen.now)) where
  first : (n : Text) (m : Meaning) → MeansThere s n m → NameMeans known (tells s.seen.now) filters.Extension t.name.now n m
  first n m h =
      subst (λ around. NameMeans known (tells s.seen.now) filters.Extension around n m) name
      (subst (λ k. NameMeans k (tells s.seen.now) filters.Extension s.name.now n m) by_one h)

  second : (n : Text) (m : Meaning) → MeansThere t n m → NameMeans known (tells t.seen.now) filters.Extension t.name.now n m
  second n m h = subst (λ k. NameMeans k (tells t.seen.now) filters.Extension t.name.now n m) by_other h

  pub name_alike : NameAlike s t
  name_alike = record {
    one = λ n x y here there.
        let told : IsNamed x (means y there.0) =
        same_meaning known filters.Extension (tells s.seen.now) (tells t.seen.now) to back t.name.now n x here.0 (means y there.0) (first n (means x here.0) here.1) (second n (means y there.0) there.1) in
        let same : y ≡ x = cc told.1 in
        sym same;
    none = λ n y nothing there.
        let told : IsNamed y nothing.0 =
        same_meaning known filters.Extension (tells t.seen.now) (tells s.seen.now) back to t.name.now n y there.0 nothing.0 (second n (means y there.0) there.1) (first n nothing.0 nothing.1) in
        nothing.2 y told.0 told.1;
  }

-- in one scope
pub alike_itself : (s : NameScope) → NameAlike s s
alike_itself s = name_alike s s (known_of_files s.pool.now.records) refl refl refl (λ n d wanted. wanted) (λ n d wanted. wanted)

-- ---- what a file sees

-- by what files import, and what publicly
abbrev SeesIn : List (List ℕ) → List (List ℕ) → ℕ → ℕ → Type 0
SeesIn imports publics f g = (g ≡ f) ⊎ Reached (λ k. slice_index_or publics k []) (slice_index_or imports f []) g

abbrev imports_of : List Links → List (List ℕ)
imports_of links = map (λ (l : Links). l.imports.items) links

abbrev publics_of : List Links → List (List ℕ)
publics_of links = map (λ (l : Links). l.public.items) links

imports_seen : (links : List Links) → map (λ (p : List ℕ × List ℕ). p.0) (map link_view links) ≡ imports_of links
imports_seen [] = refl
imports_seen (l ∷ links) = ap (λ xs. l.imports.items ∷ xs) (imports_seen links)

publics_seen : (links : List Links) → map (λ (p : List ℕ × List ℕ). p.1) (map link_view links) ≡ publics_of links
publics_seen [] = refl
publics_seen (l ∷ links) = ap (λ xs. l.public.items ∷ xs) (publics_seen links)

sees_same : (links more : List Links) → map link_view links ≡ map link_view more → (f g : ℕ) → Sees links f g → Sees more f g
sees_same links more is f g sees =
    let imports : imports_of links ≡ imports_of more = sym (imports_seen links) ∙ ap (map (λ (p : List ℕ × List ℕ). p.0)) is ∙ imports_seen more in
    let publics : publics_of links ≡ publics_of more = sym (publics_seen links) ∙ ap (map (λ (p : List ℕ × List ℕ). p.1)) is ∙ publics_seen more in
    let moved : SeesIn (imports_of more) (publics_of links) f g = subst (λ xs. SeesIn xs (publics_of links) f g) imports sees in
    subst (λ xs. SeesIn (imports_of more) xs f g) publics moved

-- which files import which
abbrev places : List FileType → List (List ℕ × List ℕ)
places files = map (imported_places (λ name. position (bytes_eq name) (names_of_files files))) files

-- of the files of two pools that have the same ones both tell the same ones
seen_too : (p q : PoolType) → p.files ≡ q.files → (i j : ℕ) → i ≡ j → (x y : SeenFiles) → SeesFrom p i x → SeesFrom q j y → (g : ℕ) → g < length p.files → tells x g ≡ true → tells y g ≡ true
seen_too p q files i j place x y (links, is, sees) (more, same, see) g less e =
    let many : length links ≡ length p.files = sym (length-map links link_view) ∙ ap length is ∙ length-map p.files (imported_places (place_named p)) in
    let too : length more ≡ length q.files = sym (length-map more link_view) ∙ ap length same ∙ length-map q.files (imported_places (place_named q)) in
    let long : length p.files ≡ length q.files = ap length files in
    let one : map link_view links ≡ map link_view more = is ∙ ap places files ∙ sym same in
    let seen : Sees more i g = sees_same links more one i g ((sees g (omega (arith, less, many))).0 e) in
    (see g (omega (arith, less, too, long))).1 (subst (λ k. Sees more k g) place seen)

-- ---- files of one content

-- make the same known
pub known_same : (fs gs : List FileDescriptorProto) → map file_view fs ≡ map file_view gs → known_of_files fs ≡ known_of_files gs
known_same fs gs same =
    known_told nothing_known nothing_before 0 fs gs
    (through file_told file_view names_of_file file_seen fs ∙ ap (map file_told) same ∙ sym (through file_told file_view names_of_file file_seen gs))

-- and import the same
headers_same : (fs gs : List FileDescriptorProto) → map file_view fs ≡ map file_view gs → map record_file fs ≡ map record_file gs
headers_same fs gs same = through header_told file_view record_file header_seen fs ∙ ap (map header_told) same ∙ sym (through header_told file_view record_file header_seen gs)

-- ---- the scopes of one entity in two pools of the same files

module _ (p q : PoolType) (whole : IsPool p) (whole_too : IsPool q) (same : map file_view p.records ≡ map file_view q.records) where
  files : p.files ≡ q.files
  files = whole.recorded.headers ∙ headers_same p.records q.records same ∙ sym whole_too.recorded.headers

  abbrev known : Known
  known = known_of_files p.records

  -- an extension that is seen by the one is seen by the other
  wanted_too : (x y : SeenFiles) → ((g : ℕ) → g < length p.files → tells x g ≡ true → tells y g ≡ true) → WantedToo known filters.Extension (tells x) (tells y)
  wanted_too x y see_too n d h =
      let k = extension_kind d.kind h.wanted in
      let at : found extensions known n ≡ Some (k.0, d.file) = ap (place_in extensions) h.known_as ∙ ap (λ x. with_file d (place_of extensions x)) k.1 in
      let e = got_map extension_name p.extensions k.0 (n, d.file) ((whole.indexed.named.found extensions n k.0 d.file).0 at) in
      let file : e.0.file ≡ d.file = ap (λ (y : FullName). y.1) e.2 in
      let within = of_all (ExtensionWithin (counts_of p)) e.0 p.extensions whole.kept.pooled.extensions (of_place e.0 p.extensions k.0 e.1) in
      let less : d.file < length p.files = subst (λ n. n < length p.files) file within.file in
      let see : tells x d.file ≡ true = sym (extension_seen (tells x) d k.0 k.1) ∙ h.seen in
      record { known_as = h.known_as; seen = extension_seen (tells y) d k.0 k.1 ∙ see_too d.file less see; wanted = h.wanted }

  pub entity_alike : (c d : Entity) → c.file ≡ d.file → c.name ≡ d.name → (s t : NameScope) → IsScopeOf p c s → IsScopeOf q d t → NameAlike s t
  entity_alike c d file name s t a b =
      name_alike s t known (ap (λ (r : PoolType). known_of_files r.records) a.pool) (ap (λ (r : PoolType). known_of_files r.records) b.pool ∙ sym (known_same p.records q.records same)) (a.name ∙ name ∙ sym b.name)
      (wanted_too s.seen.now t.seen.now (seen_too p q files c.file d.file file s.seen.now t.seen.now a.seen b.seen))
      (wanted_too t.seen.now s.seen.now
      (λ g less. seen_too q p (sym files) d.file c.file (sym file) t.seen.now s.seen.now b.seen a.seen g (subst (λ (fs : List FileType). g < length fs) files less)))
