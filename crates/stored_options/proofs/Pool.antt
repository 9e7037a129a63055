-- What a pool knows as an extension, where a file of it sees that, is an extension that its records
-- declare there.
use Rattle.std.proofs.Common.{◌≡◌, ◌∙◌, ℕ, Bool, true, List, Some, bytes_eq, map, length, slice_get, ap, sym, subst, arith}
use Rattle.std.specs.List.{Contains, position}
use Rattle.std.proofs.lemmas.List.{length-map}
use Rattle.descriptor_records.specs.Content.{FileContent, Text, file_view}
use Rattle.descriptor_records.specs.declared.file.FileDescriptorProto.{FileDescriptorProto}
use Rattle.reflect_build.proofs.Imported.{links_as}
use Rattle.reflect_declarations.specs.Tree.{text_of}
use Rattle.reflect_index.proofs.Among.{get_map, got_map}
use Rattle.reflect_known.specs.KnownNames.{known_of_files}
use Rattle.reflect_names.specs.ImportedFiles.{links_to}
use Rattle.reflect_pool.specs.Imports.{imported_places, names_of_files, place_named}
use Rattle.reflect_scope.specs.FileIndexes.{link_view}
use Rattle.reflect_scope.specs.Known.{Known, is_package}
use Rattle.reflect_scope.specs.Means.{is_wanted}
use Rattle.reflect_scope.specs.Seen.{tells}
use Rattle.reflect_scope.specs.declared.definition.Definition.{Definition}
use Rattle.reflect_scope.specs.declared.definition.ResolveNameFilter.TheVariants as filters
use Rattle.reflect_tables.specs.Names.{FullName, extension_name, extensions, found, place_in, place_of, with_file}
use Rattle.reflect_tables.specs.Types.{PoolType}
use Rattle.reflect_tables.specs.Views.{record_file}
use Rattle.option_setter.specs.declared.option_setter.NameScope.{NameScope}
use Rattle.schema_view.specs.Declarations.{Declaration, declarations, of_extension}
use Rattle.schema_view.specs.Files.{file_name}
use Rattle.schema_view.specs.Lawful.{outlines}
use Rattle.schema_view.specs.Outlines.{Head, Outline, Sees, head_of, outline_of}
use Rattle.schema_view.specs.References.{a_message}
use Rattle.schema_view.proofs.Lists.{contains_map, contains_map_cases}
use Rattle.schema_view.proofs.Looking.{one_declaration}
use Rattle.schema_view.proofs.Renames.{map_same}
use Rattle.schema_view.proofs.Road.{AreLinked, built_linked}
use Rattle.linked_view.specs.Known.{AreKnown}
use Rattle.linked_view.specs.Resolved.{SeesThose}
use Rattle.linked_view.proofs.Counts.{IsPlaced}
use Rattle.linked_view.proofs.Found.{found_place}
use Rattle.linked_view.proofs.Known.{files_known}
use Rattle.linked_view.proofs.Means.{Wanted}
use Rattle.linked_view.proofs.NamedFiles.{names_in, names_recorded}
use Rattle.linked_view.proofs.Places.{contains_get, get_contains, get_less}
use Rattle.linked_view.proofs.Resolved.{holds_from}
use Rattle.linked_view.proofs.Sees.{sees_from, sees_to}
use Rattle.linked_view.proofs.Walked.{text_seen}
use Rattle.settled_view.proofs.Transfer.{headers_same, known_same, pool_before}
use Rattle.types_view.specs.Pools.{IsPool}
use Rattle.stored_options.specs.Standing.{StandsIn}
use Rattle.stored_options.proofs.Entries.{HasEntry, entry_of}
use Rattle.stored_options.proofs.LooksUp.{LooksUp, StandsAmong, extension_kind, extension_place, extension_seen}
use Rattle.stored_options.proofs.Placed.{names_placed}
use Rattle.stored_options.proofs.Seen.{IsSeenExtension}

module _ (batches : List (List FileContent)) (p : PoolType) (s : NameScope) (file scope : Text)
    (is : StandsIn batches p s file scope) where
  abbrev linked : PoolType
  linked = is.typed.but.linked

  abbrev files : List FileDescriptorProto
  files = linked.records

  abbrev fs : List FileContent
  fs = map file_view files

  abbrev os : List Outline
  os = outlines fs

  lawful : AreLinked fs
  lawful = built_linked batches fs is.typed.but.built.built

  -- ---- files by their places

  headers : p.files ≡ map record_file files
  headers = is.whole.recorded.headers ∙ headers_same linked p is.typed.but.settles

  names_are : names_of_files p.files ≡ names_in files
  names_are = ap names_of_files headers ∙ names_recorded files

  placed : IsPlaced (place_named p) (names_in files)
  placed t i =
      subst (λ ns. IsPlaced (λ u. position (bytes_eq u) ns) (names_in files)) (sym names_are)
      (names_placed files lawful.apart) t i

  pub record HasHome : Type 0 where
    pub own : FileDescriptorProto
    pub at : slice_get files is.index ≡ Some own
    pub name : file_name (file_view own) ≡ file

  home : HasHome
  home =
      let f = got_map (λ (f : FileDescriptorProto). text_of f.name) files is.index file
      (ap (λ ns. slice_get ns is.index) (sym names_are) ∙ is.there) in
      record { own = f.0; at = f.1; name = text_seen f.0.name ∙ f.2 }

  abbrev from : Outline
  from = outline_of (file_view home.own)

  -- ---- what is seen

  abbrev sees : ℕ → Bool
  sees = tells s.seen.now

  linked_by : map link_view is.seen.0 ≡ map (links_to (place_named p)) files
  linked_by =
      is.seen.1 ∙ ap (map (imported_places (place_named p))) headers
      ∙ map_same (imported_places (place_named p)) record_file (links_to (place_named p))
      (λ f. sym (links_as (place_named p) f)) files

  many : length is.seen.0 ≡ length files
  many =
      sym (length-map is.seen.0 link_view) ∙ ap length linked_by
      ∙ length-map files (links_to (place_named p))

  those : SeesThose files from sees
  those j g d =
      let there = get_less files j g d in
      let same = many in
      let both = is.seen.2 j (omega (arith, there, same)) in (
        λ e. sees_to (place_named p) is.seen.0 files placed linked_by is.index j home.own g home.at d
            (both.0 e),
        λ h. both.1 (sees_from (place_named p) is.seen.0 files placed linked_by is.index j home.own g
            home.at d h),
      )

  -- ---- what is known

  abbrev known : Known
  known = known_of_files files

  are_known : AreKnown files known
  are_known = files_known files is.typed.but.built.named.named

  whole : IsPool linked
  whole = pool_before linked p is.typed.but.settles is.whole

  there : (i : ℕ) (f : FileDescriptorProto) → slice_get files i ≡ Some f → Contains fs (file_view f)
  there i f e = contains_map file_view files f (get_contains files i f e)

  wanted_to : (n : Text) → Wanted known sees filters.Extension n → IsSeenExtension fs from n
  wanted_to n (d, h) =
      let k = extension_kind d.kind h.wanted in
      let at : found extensions known n ≡ Some (k.0, d.file) =
      ap (place_in extensions) h.known_as ∙ ap (λ x. with_file d (place_of extensions x)) k.1 in
      let x = got_map extension_name linked.extensions k.0 (n, d.file)
      ((whole.indexed.named.found extensions n k.0 d.file).0 at) in
      let told = is.typed.tells.extensions x.0 (get_contains linked.extensions k.0 x.0 x.1) in
      let name : x.0.field.full_name ≡ n = ap (λ (y : FullName). y.0) x.2 in
      let declared : Declaration = record { name = n; body = of_extension told.field.content } in
      let inside : Contains (declarations told.field.file) declared =
      subst (λ m. Contains (declarations told.field.file)
      (record { name = m; body = of_extension told.field.content })) name told.field.inside in
      let own = are_known.declared n d h.known_as (ap is_package k.1) in
      let e = contains_map_cases head_of (declarations (file_view own.file)) own.head own.inside in
      let also : n ≡ e.0.name = sym (ap (λ (y : Head). y.name) e.2 ∙ own.name) in
      let same = one_declaration fs lawful told.field.file (file_view own.file) declared e.0
      told.field.there (there d.file own.file own.at) inside e.1 also in
      let see : sees d.file ≡ true = sym (extension_seen sees d k.0 k.1) ∙ h.seen in
      record {
        file = told.field.file;
        content = told.field.content;
        there = told.field.there;
        inside = inside;
        seen = subst (λ (g : FileContent). Sees os from (file_name g)) (sym same.0)
            ((those d.file own.file own.at).0 see);
      }

  wanted_from : (n : Text) → IsSeenExtension fs from n → Wanted known sees filters.Extension n
  wanted_from n h =
      let built = is.typed.but.built in
      let f = contains_map_cases file_view files h.file h.there in
      let j = contains_get files f.0 f.1 in
      let declared : Declaration = record { name = n; body = of_extension h.content } in
      let inside : Contains (declarations (file_view f.0)) declared =
      subst (λ (g : FileContent). Contains (declarations g) declared) (sym f.2) h.inside in
      let d = are_known.declared_known j.0 f.0 (head_of declared) j.1
      (contains_map head_of (declarations (file_view f.0)) declared inside) in
      let y : HasEntry linked lawful is.typed.tells built.values built.entries built.declared
      whole.kept.names built.extensions n =
      entry_of linked lawful is.typed.tells built.values built.entries built.declared
      whole.kept.names built.extensions h.file n h.content h.there h.inside in
      let named = get_map extension_name linked.extensions y.place y.entry y.at
      ∙ ap (λ m. Some (m, y.entry.file)) y.name in
      let at = (whole.indexed.named.found extensions n y.place y.entry.file).1 named in
      let e = found_place extensions (known n) y.place y.entry.file at in
      let same : e.0 ≡ d.0 = cc (sym e.1 ∙ d.1) in
      let is_one = extension_place e.0.kind y.place e.2 in
      let place : e.0.file ≡ j.0 = ap (λ (x : Definition). x.file) same ∙ d.2 in
      let see : Sees os from (file_name (file_view f.0)) =
      subst (λ (g : FileContent). Sees os from (file_name g)) (sym f.2) h.seen in (
        e.0,
        record {
          known_as = e.1;
          seen = extension_seen sees e.0 y.place is_one ∙ ap sees place ∙ (those j.0 f.0 j.1).1 see;
          wanted = ap (is_wanted filters.Extension) is_one;
        },
      )

  looks_up : LooksUp fs from known sees
  looks_up = record {
    to = wanted_to;
    back = wanted_from;
    holds = λ n some h. holds_from files known are_known from sees those a_message n some h;
  }

  records_are : known_of_files s.pool.now.records ≡ known
  records_are =
      ap (λ (q : PoolType). known_of_files q.records) is.in_pool
      ∙ known_same linked p is.typed.but.settles

  pub stands_among : StandsAmong fs s file
  stands_among = record {
    home = file_view home.own;
    there = there is.index home.own home.at;
    name = home.name;
    looks_up = subst (λ k. LooksUp fs from k sees) (sym records_are) looks_up;
  }
