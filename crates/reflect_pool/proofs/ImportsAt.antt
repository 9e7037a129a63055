-- What the links of the file at a place lead to.
use Rattle.std.proofs.Common.{◌≡◌, ℕ, ℤ, pos, negsuc, ◌<◌, arith, List, [], ◌∷◌, true, Option, Some, None, String, Global, map, length, slice_get, get_or, ap, sym, subst, ◌∙◌, refl}
use Rattle.std.proofs.Math.ListN.{length-map}
use Rattle.std.proofs.Math.Path.{fun_ext}
use Rattle.std.proofs.lemmas.List as lists
use Rattle.std.proofs.lemmas.List.{map-id}
use Rattle.std.proofs.lemmas.Option.{slice_get-get_or, slice_get_within, get_or_from_slice_get}
use Rattle.std.proofs.lemmas.List.Elements.{All-from_recursion}
use Rattle.std.specs.List.{All, AllByRecursion, Contains, cons_option, filter_map}
use Rattle.std.specs.BTreeMap.{BTreeMap}
use Rattle.name_table.specs.declared.table.NameTable.{NameTable}
use Rattle.reflect_scope.specs.declared.definition.Definition.{Definition}
use Rattle.reflect_scope.specs.declared.seen.Links.{Links}
use Rattle.reflect_scope.specs.FileIndexes.{Indexes, indexes_of, link_view, is_index}
use Rattle.reflect_tables.specs.Types.{FileType, PoolType}
use Rattle.reflect_tables.specs.declared.kind.Syntax.TheVariants.{Proto2}
use Rattle.reflect_tables.proofs.Founds.{no_some}
use Rattle.reflect_tables.specs.ExtensionNumbers.{KeyType}
use Rattle.reflect_tables.specs.declared.stored.StoredMessage.{StoredMessage}
use Rattle.reflect_pool.specs.Imports.{import_at, import_name, imported, imported_places, imported_publicly, ImportsAmong, name_at, names_of_files, place_named}
use Rattle.reflect_pool.specs.Linked.{AreIndexed, IsLinked}
use Rattle.reflect_pool.proofs.Grown.{all_through}
use Rattle.reflect_pool.proofs.Indexed.{at_first}
use Rattle.reflect_pool.proofs.Places.{all_get, at_place, view_there}

-- what the name of an import stands for, if there is one
abbrev pub of_name : Indexes → Option (List ℕ) → Option ℕ
of_name indexes o = elim o [ None ↦ None | Some name ↦ indexes name ]

-- all that is given from a list has what each that is given has
all_given : {X Y : Type 0} (P : Y → Type 0) (h : X → Option Y) → ((x : X) (y : Y) → h x ≡ Some y → P y) → (xs : List X) → All P (filter_map h xs)
all_given {X = X} {Y = Y} P h given xs = All-from_recursion P (filter_map h xs) (along xs) where
  one : (o : Option Y) (ys : List Y) → ((y : Y) → o ≡ Some y → P y) → AllByRecursion P ys → AllByRecursion P (cons_option o ys)
  one None ys here all = all
  one (Some y) ys here all = (here y refl, all)

  along : (xs : List X) → AllByRecursion P (filter_map h xs)
  along [] = tt
  along (x ∷ xs) = one (h x) (filter_map h xs) (given x) (along xs)

-- where each of a list gives one, nothing is left out
none_left_out : {X : Type 0} (h : X → Option ℕ) (name : ℕ → List ℕ) (is : X → List ℕ) (xs : List X) → AllByRecursion (λ x. (k : ℕ) × (h x ≡ Some k) × (name k ≡ is x)) xs → map name (filter_map h xs) ≡ map is xs
none_left_out h name is [] all = refl
none_left_out h name is (x ∷ xs) all =
    ap (λ o. map name (cons_option o (filter_map h xs))) all.0.1 ∙ ap (λ t. t ∷ map name (filter_map h xs)) all.0.2 ∙ ap (λ ts. is x ∷ ts) (none_left_out h name is xs all.1)

-- the names of what a file imports are its imports
module _ (indexes : Indexes) (names : List (List ℕ)) (are : AreIndexed indexes names) (f : FileType) (among : ImportsAmong names f) where
  gives : (t : List ℕ) → Contains names t → (k : ℕ) × (indexes t ≡ Some k) × (get_or names k [] ≡ t)
  gives t has =
      let at = slice_get-get_or names has.0 t has.1 ∙ ap Some has.2 in
      (has.0, (are t has.0).1 at, get_or_from_slice_get names has.0 t [] at)

  pub imported_names : map (λ k. get_or names k []) (imported indexes f) ≡ f.imports
  imported_names =
      none_left_out indexes (λ k. get_or names k []) (λ t. t) f.imports (all_through (Contains names) _ f.imports gives among.imports) ∙ map-id f.imports

  gives_public : (i : ℤ) → is_index i (length f.imports) ≡ true → (k : ℕ) × (import_at indexes f.imports i ≡ Some k) × (get_or names k [] ≡ import_name f.imports i)
  gives_public (pos i) lies =
      let lt : i < length f.imports = grind (arith, lies) in
      let at = slice_get-get_or f.imports i [] lt in
      let found = gives (get_or f.imports i []) (all_get (Contains names) f.imports i (get_or f.imports i []) among.imports at) in
      (found.0, ap (of_name indexes) at ∙ found.1, found.2)
  gives_public (negsuc i) lies = absurd (cc)

  pub publicly_imported_names : map (λ k. get_or names k []) (imported_publicly indexes f) ≡ map (import_name f.imports) f.public_imports
  publicly_imported_names =
      none_left_out (import_at indexes f.imports) (λ k. get_or names k []) (import_name f.imports) f.public_imports (all_through (λ i. is_index i (length f.imports) ≡ true) _ f.public_imports gives_public among.places)

-- what a file imports is there
module _ (indexes : Indexes) (files : List FileType) (are : AreIndexed indexes (names_of_files files)) (f : FileType) where
  there : (t : List ℕ) (i : ℕ) → indexes t ≡ Some i → i < length files
  there t i e =
      let long = slice_get_within (names_of_files files) i t ((are t i).0 e) in
      let all : length (names_of_files files) ≡ length files = length-map files (λ (g : FileType). g.name) in
      omega (arith, long, all)

  publicly_there : (i : ℤ) (k : ℕ) → import_at indexes f.imports i ≡ Some k → k < length files
  publicly_there (pos i) k = by (slice_get f.imports i) where
    by : (o : Option (List ℕ)) → of_name indexes o ≡ Some k → k < length files
    by None e = absurd (no_some k e)
    by (Some t) e = there t k e
  publicly_there (negsuc i) k = λ e. absurd (no_some k e)

  pub imported_there : All (λ place. place < length files) (imported indexes f)
  imported_there = all_given (λ place. place < length files) indexes there f.imports

  pub publicly_imported_there : All (λ place. place < length files) (imported_publicly indexes f)
  publicly_imported_there = all_given (λ place. place < length files) (import_at indexes f.imports) publicly_there f.public_imports

-- the links of a pool's files
module _ (q pool : PoolType) (names : NameTable Definition) (file_names : BTreeMap (String Global) ℕ) (places : BTreeMap KeyType ℕ) (links : List Links)
    {messages : List StoredMessage} (same : q ≡ pool)
    (linked : IsLinked q names file_names places links messages) where
  here : IsLinked pool names file_names places links messages
  here = subst (λ p. IsLinked p names file_names places links messages) same linked

  by_names : indexes_of file_names ≡ place_named pool
  by_names = fun_ext (at_first (indexes_of file_names) pool.files here.files)

  pub links_are : map link_view links ≡ map (imported_places (place_named pool)) pool.files
  links_are = here.to_imports ∙ ap (λ g. map (imported_places g) pool.files) by_names

  -- those of the file at a place
  module _ (i : ℕ) (l : Links) (lt : i < length pool.files) (is : l ≡ get_or links i l) where
    pub links_at : (d : FileType) → link_view l ≡ imported_places (place_named pool) (get_or pool.files i d)
    links_at d =
        let views = imported_places (indexes_of file_names) in
        let long : i < length (map link_view links) = subst (λ n. i < n) (sym (ap length here.to_imports ∙ length-map pool.files views)) lt in
        sym (view_there link_view links i l (views d) long is) ∙ ap (λ ps. get_or ps i (views d)) here.to_imports ∙ lists.get_or-map views pool.files i d (views d) lt
        ∙ ap (λ g. imported_places g (get_or pool.files i d)) by_names

    none : FileType
    none = record { name = []; package_name = []; syntax = Proto2; imports = []; public_imports = [] }

    are : AreIndexed (place_named pool) (names_of_files pool.files)
    are = subst (λ g. AreIndexed g (names_of_files pool.files)) by_names here.files

    pub imports_inside : All (λ place. place < length pool.files) l.imports.items
    imports_inside = subst (All (λ place. place < length pool.files)) (sym (ap (λ (p : List ℕ × List ℕ). p.0) (links_at none))) (imported_there (place_named pool) pool.files are (get_or pool.files i none))

    pub public_inside : All (λ place. place < length pool.files) l.public.items
    public_inside = subst (All (λ place. place < length pool.files)) (sym (ap (λ (p : List ℕ × List ℕ). p.1) (links_at none))) (publicly_imported_there (place_named pool) pool.files are (get_or pool.files i none))

    among : (d : FileType) → ImportsAmong (names_of_files pool.files) (get_or pool.files i d)
    among d = at_place (ImportsAmong (names_of_files pool.files)) pool.files i d here.imports lt

    pub names_at : (d : FileType) → map (name_at pool) l.imports.items ≡ (get_or pool.files i d).imports
    names_at d =
        ap (λ (p : List ℕ × List ℕ). map (name_at pool) p.0) (links_at d) ∙ imported_names (place_named pool) (names_of_files pool.files) are (get_or pool.files i d) (among d)

    pub public_names_at : (d : FileType) → map (name_at pool) l.public.items ≡ map (import_name (get_or pool.files i d).imports) (get_or pool.files i d).public_imports
    public_names_at d =
        ap (λ (p : List ℕ × List ℕ). map (name_at pool) p.1) (links_at d) ∙ publicly_imported_names (place_named pool) (names_of_files pool.files) are (get_or pool.files i d) (among d)
