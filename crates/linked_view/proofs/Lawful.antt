-- Lawful files have no fault: none of names, none of references, none of numbers, and no extension
-- whose message and number are taken.
use Rattle.std.proofs.Common.{◌≡◌, ◌∙◌, ◌+◌, inl, inr, ℕ, Bool, true, List, [], ◌∷◌, ◌++◌, Some, map, length, ap, sym, subst, refl}
use Rattle.std.specs.List.{AllZip, Contains, filter, flat_map}
use Rattle.std.proofs.lemmas.List.{map-append}
use Rattle.std.proofs.lemmas.List.Concat.{flat_map-append}
use Rattle.std.proofs.lemmas.List.Elements.{Contains-append_right}
use Rattle.descriptor_records.specs.Content.{FileContent, file_view}
use Rattle.descriptor_records.specs.declared.file.FileDescriptorProto.{FileDescriptorProto}
use Rattle.reflect_build.proofs.Stored.{zip_both}
use Rattle.reflect_build.specs.Refusals.{AreTypes, Linking, with_declared, Faulty, FaultyExtensions, FaultyNumbers, FaultyReferences, IsOf, ReferencesMean}
use Rattle.reflect_index.specs.Along.{before_files}
use Rattle.reflect_index.specs.DraftNames.{stored_enum_name}
use Rattle.reflect_known.specs.DeclaredNames.{with_names}
use Rattle.reflect_known.specs.KnownNames.{definition_of, known_of_files}
use Rattle.reflect_faults.specs.Faults.{Fault, batch_places}
use Rattle.reflect_names.specs.FileNames.{files_faults}
use Rattle.reflect_names.specs.ReferencePass.{views_of, reference_faults_along}
use Rattle.reflect_names.specs.References.{View, reference_faults_at}
use Rattle.reflect_names.specs.declared.resolve_visitor.Reference.{Reference}
use Rattle.reflect_passes.specs.Linked.{linked_says, linked_values}
use Rattle.reflect_passes.specs.NameFaults.{name_faults}
use Rattle.reflect_passes.specs.NumberFaults.{NumberFaults, doubled}
use Rattle.reflect_passes.specs.declared.linked_types.LinkedTypes.{LinkedTypes}
use Rattle.reflect_rules.specs.Rules.{is_one_map}
use Rattle.reflect_rules.specs.Uses.{users}
use Rattle.reflect_rules.specs.Walks.{Facts}
use Rattle.reflect_scope.specs.FileIndexes.{Indexes}
use Rattle.reflect_scope.specs.Known.{Known}
use Rattle.reflect_scope.specs.declared.definition.DefinitionKind.TheVariants as kind
use Rattle.reflect_tables.specs.Names.{FullName, AreFound, found, enum_name, enums, messages, names_of}
use Rattle.reflect_tables.specs.Types.{ArePooled, ExtensionType, PoolType}
use Rattle.reflect_tables.specs.Views.{enum_of, extension_of}
use Rattle.reflect_tables.specs.declared.stored.StoredEnum.{StoredEnum}
use Rattle.reflect_tables.specs.declared.tables.Tables.{Tables}
use Rattle.reflect_declarations.specs.Batches.{batch_declarations}
use Rattle.reflect_declarations.specs.Declarations as walk
use Rattle.reflect_declarations.specs.Declarations.{Declaration}
use Rattle.reflect_walk.specs.MapEntries.{says_entry}
use Rattle.reflect_declarations.specs.Tree.{MessageParts}
use Rattle.schema_view.specs.Declarations as view
use Rattle.schema_view.specs.Files.{is_proto3}
use Rattle.schema_view.specs.Lawful.{outlines, all_linked, IsLawful, IsOneMap, KeepsForExtensions, Meanings}
use Rattle.schema_view.specs.Means.{ReferenceMeans}
use Rattle.schema_view.specs.Outlines.{head_of, outline_of, sort_of, IsDeclared}
use Rattle.schema_view.specs.References.{Reference as Naming, Target, dotted, linked}
use Rattle.schema_view.proofs.Batches.{linked_once}
use Rattle.schema_view.proofs.Lists.{contains_map}
use Rattle.schema_view.proofs.Renames.{map_same, rename_body, renamed, declarations_renamed}
use Rattle.schema_view.proofs.Road.{AreLinked, built_linked, outlines_linked}
use Rattle.linked_view.specs.Alone.{IsWellNamed}
use Rattle.linked_view.specs.AtHand.{AreMetBy, IsMetBy}
use Rattle.linked_view.specs.Built.{IsBuilt}
use Rattle.linked_view.specs.Extended.{keys_of, written_keys, HasWritten}
use Rattle.linked_view.specs.Known.{AreKnown}
use Rattle.linked_view.specs.Named.{AreWellNamed}
use Rattle.linked_view.specs.Passed.{facts_of, start_of, AreTold}
use Rattle.linked_view.specs.Referred.{AreMeant, AreSeenBy}
use Rattle.linked_view.specs.Ruled.{TellsOf}
use Rattle.linked_view.specs.Valued.{kept_values}
use Rattle.linked_view.proofs.Accepted.{batch_told}
use Rattle.linked_view.proofs.Agreed.{IsAgreed, TypesTell, met_seen, none_at, view_of}
use Rattle.linked_view.proofs.Along.{ruled_only}
use Rattle.linked_view.proofs.AtHand.{met_by_to}
use Rattle.linked_view.proofs.Behind.{all_named, are_known, known_is, name_at, placed, seen_by}
use Rattle.linked_view.proofs.Defaulted.{value_told}
use Rattle.linked_view.proofs.Doubled.{none_doubled}
use Rattle.linked_view.proofs.Extensions.{keys_zipped}
use Rattle.linked_view.proofs.Faults.{none_both}
use Rattle.linked_view.proofs.Found.{found_behind}
use Rattle.linked_view.proofs.Linked as pass
use Rattle.linked_view.proofs.Linked.{AreAt, files_mean, sees_at}
use Rattle.linked_view.proofs.Listed.{batch_listed}
use Rattle.linked_view.proofs.Marked.{declares_behind, declares_linked, entry_once, older_unused}
use Rattle.linked_view.proofs.Named.{all_in, in_all, named_from}
use Rattle.linked_view.proofs.Once.{names_it, times_used, used_as_map, written_uses}
use Rattle.linked_view.proofs.Places.{get_contains}
use Rattle.linked_view.proofs.Ranged.{known_message, number_told}
use Rattle.linked_view.proofs.References.{referred_from}
use Rattle.linked_view.proofs.Shown.{IsShown, shown_in}
use Rattle.linked_view.proofs.Sound.{sound_parts}
use Rattle.linked_view.proofs.Telling.{zip_more}
use Rattle.linked_view.proofs.Unused.{map_right_only, unused_before}
use Rattle.linked_view.proofs.Used.{gives_uses, map_one, used, uses_along, uses_by, uses_of}
use Rattle.linked_view.proofs.Valued.{all_values}
use Rattle.linked_view.proofs.Walked.{facts_in, seen_body}
use Rattle.reflect_pool.specs.Linked.{empty_pool}
use Rattle.linked_view.proofs.Together.{empty_built}
use Rattle.linked_view.proofs.Stays.{empty_sound}

module _ (old : PoolType) (w : Linking) (ns : List FileDescriptorProto) (meanings : Meanings)
    (has : IsWellNamed old) (is : IsOf old w)
    (lawful : IsLawful (map file_view old.records) (map file_view ns) meanings) where
  have_names : AreWellNamed (map file_view old.records) (map file_view ns)
  have_names = record {
    apart = lawful.apart;
    files = lawful.files;
    imports = lawful.imports;
    complete = (sound_parts (map file_view ns) lawful.sound).0;
  }

  are_meant : AreMeant (outlines (map file_view (old.records ++ ns))) (map file_view ns)
  are_meant = subst (λ fs. AreMeant (outlines fs) (map file_view ns))
      (sym (map-append file_view old.records ns))
      (λ f r i j. (meanings f r, lawful.means f r i j))

  pub no_name_faults : name_faults w.indexes w.known w.before w.first ns ≡ []
  no_name_faults =
      ap (λ k. name_faults w.indexes k w.before w.first ns) is.known
      ∙ named_from (batch_places ns w.first) w.indexes w.before w.first old.records ns
      (placed old ns w is has) has.named have_names

  files_none : files_faults (batch_places ns w.first) w.indexes w.first ns ≡ []
  files_none =
      (none_both (files_faults (batch_places ns w.first) w.indexes w.first ns) _ no_name_faults).0

  pub no_reference_faults : (xs : List Fault) → FaultyReferences (with_declared w ns) ns xs → xs ≡ []
  no_reference_faults xs (links, linked, (means, right)) =
      let parts = sound_parts (map file_view ns) lawful.sound in
      right.faults
      ∙ referred_from (old.records ++ ns) (with_declared w ns).known
      (are_known old ns w is has have_names files_none links linked right.sees right.right)
      (batch_places ns w.first) right.sees w.before w.first ns
      (seen_by old ns w is has have_names files_none links linked right.sees right.right)
      (parts.2, parts.1, are_meant)

-- where their references are found and their types are made
module _ (earlier : List (List FileContent)) (old : PoolType) (w : Linking)
    (ns : List FileDescriptorProto) (meanings : Meanings) (built : IsBuilt earlier old)
    (pooled : ArePooled old) (is : IsOf old w)
    (lawful : IsLawful (map file_view old.records) (map file_view ns) meanings)
    (rs : List Reference) (t : LinkedTypes) (means : ReferencesMean (with_declared w ns) ns rs)
    (declared : AreTypes (with_declared w ns) ns rs t) where
  abbrev given : List FileContent
  given = map file_view old.records

  abbrev more : List FileContent
  more = map file_view ns

  abbrev all : List FileDescriptorProto
  all = old.records ++ ns

  abbrev ds : List Declaration
  ds = batch_declarations w.before w.first ns

  abbrev known : Known
  known = (with_declared w ns).known

  abbrev indexes : Indexes
  indexes = (with_declared w ns).indexes

  abbrev sees : ℕ → ℕ → Bool
  sees = means.right.sees

  named : AreWellNamed given more
  named = have_names old w ns meanings built.named is lawful

  no_files : files_faults (batch_places ns w.first) w.indexes w.first ns ≡ []
  no_files = files_none old w ns meanings built.named is lawful

  known_all : AreKnown all known
  known_all =
      are_known old ns w is built.named named no_files means.links means.linked sees means.right.right

  seen_all : AreSeenBy all w.first ns sees
  seen_all =
      seen_by old ns w is built.named named no_files means.links means.linked sees means.right.right

  names_at : AreAt all known known_all indexes sees w.first ns
  names_at =
      name_at old ns w is built.named named no_files means.links means.linked sees means.right.right

  none : reference_faults_along (batch_places ns w.first) (views_of known sees) ds ≡ []
  none = sym means.right.faults

  -- what the references are found to mean is what they mean
  abbrev meant : Meanings
  meant = pass.meanings all known known_all indexes sees

  linked_same : all_linked meanings more ≡ all_linked meant more
  linked_same = linked_once (outlines (given ++ more)) lawful.apart meanings meant more lawful.means
      (λ f r i j. subst (λ fs. ReferenceMeans (outlines fs) (outline_of f) r (meant f r))
      (map-append file_view old.records ns)
      (files_mean all known known_all indexes sees w.first ns names_at seen_all
      (are_meant old w ns meanings built.named is lawful) f r i j))

  abbrev after : List FileContent
  after = given ++ all_linked meant more

  linked_after : AreLinked after
  linked_after =
      built_linked (more ∷ earlier) after
      (given, built.built, (meanings, lawful, ap (λ fs. given ++ fs) (sym linked_same)))

  -- ---- extensions

  abbrev message_names : List FullName
  message_names = names_of old messages ++ with_names messages [] ds

  messages_found : AreFound (found messages known) message_names
  messages_found = found_behind old ns w is pooled
      (no_name_faults old w ns meanings built.named is lawful) messages

  abbrev new_extensions : List ExtensionType
  new_extensions = map extension_of t.new.now.extensions.items

  extensions_written : AllZip (HasWritten message_names) (written_keys after)
      (old.extensions ++ new_extensions)
  extensions_written =
      subst (λ ks. AllZip (HasWritten message_names) ks (old.extensions ++ new_extensions))
      (sym (flat_map-append (λ f. flat_map keys_of (view.declarations f)) given (all_linked meant more)))
      (zip_both (HasWritten message_names) (written_keys given)
      (written_keys (all_linked meant more)) old.extensions new_extensions
      (zip_more (names_of old messages) (with_names messages [] ds) (written_keys given)
      old.extensions built.extensions)
      (keys_zipped all known known_all indexes sees w.before w.first ns names_at message_names
      messages_found (batch_places ns w.first) (before_files rs) new_extensions none
      means.right.targets declared.entries.extensions))

  no_doubled : doubled w.numbers t (batch_places ns w.first) ≡ []
  no_doubled = none_doubled old w is t message_names after linked_after extensions_written
      (batch_places ns w.first)

  -- ---- what the types tell

  abbrev facts : Facts
  facts = facts_of t w.before w.first ns rs

  abbrev views : ℕ → View
  views = views_of known sees

  abbrev new : List FileContent
  new = all_linked meant more

  linked_before : AreLinked given
  linked_before = built_linked earlier given built.built

  named_all : AreWellNamed [] (map file_view all)
  named_all =
      all_named old ns w is built.named named no_files means.links means.linked sees means.right.right

  known_files : known ≡ known_of_files all
  known_files =
      known_is old ns w is built.named named no_files means.links means.linked sees means.right.right

  abbrev enum_names : List FullName
  enum_names = names_of old enums ++ with_names enums [] ds

  abbrev stored_enums : List StoredEnum
  stored_enums = t.old.now.enums.items ++ t.new.now.enums.items

  enums_are : map enum_of stored_enums ≡ old.enums ++ map enum_of t.new.now.enums.items
  enums_are =
      map-append enum_of t.old.now.enums.items t.new.now.enums.items
      ∙ ap (λ (s : Tables). map enum_of s.enums.items ++ map enum_of t.new.now.enums.items)
      declared.old
      ∙ ap (λ (p : PoolType). p.enums ++ map enum_of t.new.now.enums.items) is.tables

  enums_named : enum_names ≡ map enum_name (map enum_of stored_enums)
  enums_named = sym (ap (map enum_name) enums_are
      ∙ map-append enum_name old.enums (map enum_of t.new.now.enums.items)
      ∙ ap (λ l. names_of old enums ++ l)
      (map_same enum_name enum_of stored_enum_name (λ e. refl) t.new.now.enums.items
      ∙ declared.enums))

  enums_found : AreFound (found enums known) enum_names
  enums_found = found_behind old ns w is pooled
      (no_name_faults old w ns meanings built.named is lawful) enums

  outlines_same : outlines after ≡ outlines (map file_view all)
  outlines_same = outlines_linked given more meant
      ∙ ap outlines (sym (map-append file_view old.records ns))

  tell : TypesTell all known known_all indexes sees t facts (outlines after)
  tell = record {
    numbers = λ i full n d knows same keeps.
        number_told old ns w is built.named rs t declared named_all known known_files i full n d knows
        same (subst (λ os. KeepsForExtensions os full n) outlines_same keeps);
    values = λ full text d knows value.
        value_told t after known enum_names enums_found enums_named
        (ap (map kept_values) enums_are ∙ all_values old w ns rs t meant declared built.values) full
        text d knows value;
  }

  told : AreTold t w.before w.first ns
  told = batch_told old ns w is rs t declared

  -- ---- a declaration of the batch, in the linked files

  module _ (d : Declaration) (s : IsShown w.first ns d) where
    abbrev content : FileContent
    content = file_view s.own

    abbrev namings : Naming → Target
    namings r = dotted (meant content r)

    abbrev own_file : FileContent
    own_file = linked (meant content) content

    in_more : Contains more content
    in_more = contains_map file_view ns s.own (get_contains ns s.place s.own s.at)

    in_new : Contains new own_file
    in_new = contains_map (λ f. linked (meant f) f) more content in_more

    in_after : Contains after own_file
    in_after = Contains-append_right given new own_file in_new

    declared_in : (v : view.Declaration) → Contains (view.declarations content) v
        → Contains (view.declarations own_file) (renamed namings v)
    declared_in v h =
        subst (λ l. Contains l (renamed namings v)) (sym (declarations_renamed namings content))
        (contains_map (renamed namings) (view.declarations content) v h)

    abbrev Agreed : view.Body → Type 0
    Agreed = IsAgreed all known known_all indexes sees t facts (outlines after)

    agreed : (b : view.Body) → seen_body d.body ≡ Some b → Agreed (rename_body namings d.name b)
    agreed b e =
        let x = s.shown b e in
        let own = linked_after.each own_file in_after in
        let v = renamed namings x.0 in
        let inside = declared_in x.0 x.1 in
        let here : Agreed (rename_body namings x.0.name x.0.body) = record {
          proto3 = is_proto3 own_file;
          sound = own.sound v inside;
          settled = own.settled v inside;
          unused = λ full e. older_unused old w is built.declared t declared.old
              (with_names messages [] ds) known messages_found new linked_before linked_after e.index
              full e.definition e.knows e.is_message e.is_entry own_file v in_new inside;
        } in
        subst (λ c. Agreed (rename_body namings d.name c)) x.3
        (subst (λ n. Agreed (rename_body namings n x.0.body)) x.2 here)

    -- the type of a map's entries has one use, which is a map, among the new files
    entry_map : (own : MessageParts) → d.body ≡ walk.of_message own
        → says_entry own.options ≡ true → IsOneMap new d.name
    entry_map own body says =
        let x = s.shown (view.of_message (facts_in own)) (ap seen_body body) in
        let entry = declares_behind given new d.name
        (declares_linked meant w.first ns d s own body says) in
        let there : IsDeclared (outlines more) d.name (sort_of x.0.body) = (
          outline_of content,
          head_of x.0,
          contains_map outline_of more content in_more,
          contains_map head_of (view.declarations content) x.0 x.1,
          x.2,
          refl,
        ) in
        map_right_only d.name given new (entry_once after linked_after d.name entry)
        (unused_before given more linked_before lawful.apart d.name (sort_of x.0.body) there)

    view_is : views d.file ≡ view_of all known known_all indexes sees t facts (outlines after) tell content
    view_is = ap (λ (f : ℕ → Bool). record { known = known; sees = f })
        (ap sees s.file
        ∙ sym (sees_at all known known_all indexes sees s.own (w.first + s.place)
        (names_at s.place s.own s.at)))

  -- its users among the references are the uses that are written
  entry_used : (d : Declaration) (own : MessageParts) → Contains ds d → d.body ≡ walk.of_message own
      → says_entry own.options ≡ true → is_one_map (facts.uses d.index) ≡ true
  entry_used d own h body says =
      let one = entry_map d (shown_in w.before w.first ns d h) own body says in
      let knows = known_message old ns w is built.named named_all known known_files d own h body in
      let is_message : (definition_of d).kind ≡ kind.Message d.index =
      ap (λ b. (definition_of (record d { body = b })).kind) body in
      let own_told = subst (λ b. TellsOf (linked_says t) (record d { body = b })) body
      (in_all (TellsOf (linked_says t)) ds told d h) in
      let is_entry : (linked_says t).is_entry d.index ≡ true = own_told.is_entry ∙ says in
      let zip = used message_names known messages_found (linked_says t) d.name (definition_of d) d.index
      knows is_message is_entry sees (batch_places ns w.first) rs ds none means.right.targets in
      let uses : uses_along views ds ≡ written_uses new = batch_listed uses_by uses_of all known
      known_all indexes sees (gives_uses all known known_all indexes sees) w.before w.first ns names_at in
      let named_uses = filter (names_it d.name) (uses_along views ds) in
      let once : length named_uses ≡ 1 =
      ap (λ us. length (filter (names_it d.name) us)) uses ∙ sym (times_used d.name new) ∙ one.once in
      map_one named_uses (users (linked_says t) d.index rs ds) zip once (λ u i.
      used_as_map d.name new one.map u
      (subst (λ us. Contains (filter (names_it d.name) us) u) uses i))

  all_met : AreMetBy facts (linked_values t) views ds
  all_met = all_in (λ (d : Declaration). IsMetBy facts (linked_values t) (views d.file) d) ds
      (λ d h. let s = shown_in w.before w.first ns d h in
      let at = batch_places ns w.first in
      let same = view_is d s in
      subst (λ v. IsMetBy facts (linked_values t) v d) (sym same)
      (met_seen all known known_all indexes sees t facts (outlines after) tell (content d s)
      (at d.file) d d.body
      (subst (λ v. reference_faults_at (at d.file) v d ≡ []) same (none_at at views ds none d h))
      (agreed d s) (λ own body says. entry_used d own h body says)))

  no_faulty_numbers : (xs : List Fault) → NumberFaults t w.before w.first ns rs xs → xs ≡ []
  no_faulty_numbers xs h =
      let at = batch_places ns w.first in
      let parts = sound_parts more lawful.sound in
      ruled_only facts (linked_values t) at (start_of rs) w.before w.first ns parts.0 parts.1 told
      (λ i text suits has decides. decides.1 (has.0 refl)) (
        parts.3,
        met_by_to facts (linked_values t) views at (start_of rs) ds none means.right.targets
            all_met,
      ) xs h

module _ (earlier : List (List FileContent)) (old : PoolType) (w : Linking)
    (ns : List FileDescriptorProto) (meanings : Meanings) (built : IsBuilt earlier old)
    (pooled : ArePooled old) (is : IsOf old w)
    (lawful : IsLawful (map file_view old.records) (map file_view ns) meanings) where
  pub no_extension_faults : (xs : List Fault) → FaultyExtensions (with_declared w ns) ns xs → xs ≡ []
  no_extension_faults xs (rs, t, means, declared, numbers, same) =
      same ∙ no_doubled earlier old w ns meanings built pooled is lawful rs t means declared

  pub no_number_faults : (xs : List Fault) → FaultyNumbers (with_declared w ns) ns xs → xs ≡ []
  no_number_faults xs (rs, t, means, declared, h) =
      no_faulty_numbers earlier old w ns meanings built pooled is lawful rs t means declared xs h

  pub no_faults : (xs : List Fault) → Faulty w ns xs → xs ≡ []
  no_faults xs (inl same) = same ∙ no_name_faults old w ns meanings built.named is lawful
  no_faults xs (inr (no_names, inl h)) =
      no_reference_faults old w ns meanings built.named is lawful xs h
  no_faults xs (inr (no_names, inr (inl h))) = no_number_faults xs h
  no_faults xs (inr (no_names, inr (inr h))) = no_extension_faults xs h

-- a pool without files is one that no batch built
pub no_first_faults : (w : Linking) (ns : List FileDescriptorProto) (meanings : Meanings)
    → IsOf empty_pool w → IsLawful [] (map file_view ns) meanings
    → (xs : List Fault) → Faulty w ns xs → xs ≡ []
no_first_faults w ns meanings is lawful =
    no_faults [] empty_pool w ns meanings empty_built empty_sound.pooled is lawful
