-- Accepted files are added: what they say of others agrees with these.
use Rattle.std.proofs.Common.{◌≡◌, ◌≤◌, ◌<◌, ◌∙◌, inl, inr, ℕ, true, false, is_some, List, [], ◌∷◌, ◌++◌, Some, map, slice_get, ap, sym, subst, refl, arith}
use Rattle.std.specs.List.{Contains}
use Rattle.std.proofs.lemmas.List.Elements.{Contains-append_cases}
use Rattle.descriptor_records.specs.Content.{FileContent, file_view}
use Rattle.descriptor_records.specs.declared.file.FileDescriptorProto.{FileDescriptorProto}
use Rattle.reflect_build.specs.Accepted.{FaultlessBatch, FaultlessFiles}
use Rattle.reflect_build.specs.Refusals.{Linking, with_declared, IsOf, new_files}
use Rattle.reflect_faults.specs.Faults.{batch_places}
use Rattle.reflect_names.specs.ReferencePass.{views_of}
use Rattle.reflect_passes.specs.Linked.{linked_says}
use Rattle.reflect_passes.specs.NameFaults.{name_faults}
use Rattle.reflect_pool.specs.Linked.{empty_pool}
use Rattle.reflect_pool.specs.Stored.{SaysEntry as MarksEntry}
use Rattle.reflect_scope.specs.Known.{Known}
use Rattle.reflect_scope.specs.declared.definition.Definition.{Definition}
use Rattle.reflect_scope.specs.declared.definition.DefinitionKind.TheVariants as kind
use Rattle.reflect_tables.specs.Names.{AreFound, found, message_name, messages, names_of}
use Rattle.reflect_tables.specs.Types.{MessageType, PoolType}
use Rattle.reflect_tables.specs.Views.{message_of}
use Rattle.reflect_tables.specs.declared.stored.StoredMessage.{StoredMessage}
use Rattle.reflect_tables.proofs.Founds.{front}
use Rattle.reflect_declarations.specs.Batches.{batch_declarations}
use Rattle.reflect_index.proofs.Among.{get_map, got_map}
use Rattle.linked_view.specs.Kept.{IsKept}
use Rattle.schema_view.specs.Declarations.{MessageFacts, of_message, Declaration, declarations}
use Rattle.schema_view.specs.Lawful.{outlines, AddsLawful, all_linked, IsOneMap, Key, has_key, is_use, times_by}
use Rattle.schema_view.specs.Outlines.{head_of, outline_of, sort_of, IsDeclared}
use Rattle.schema_view.specs.References.{linked}
use Rattle.schema_view.specs.Rules.{SaysEntry}
use Rattle.schema_view.proofs.Lists.{contains_map, contains_map_cases}
use Rattle.schema_view.proofs.Road.{AreLinked, built_linked, outlines_linked}
use Rattle.linked_view.specs.Alone.{AreLawfulAlone, AreSettledAlone, IsRecorded, IsWellNamed}
use Rattle.linked_view.specs.Built.{IsBuilt}
use Rattle.linked_view.specs.Entries.{TellsEntries}
use Rattle.linked_view.specs.Extended.{IsIndexed, TellsExtensions}
use Rattle.linked_view.specs.Passed.{facts_of}
use Rattle.linked_view.specs.Valued.{TellsValues}
use Rattle.linked_view.proofs.Accepted.{all_met, known, known_all, indexes, names_at, lawful_alone, meanings_alone}
use Rattle.linked_view.proofs.Added.{alone_added}
use Rattle.linked_view.proofs.Defaulted.{defaults_suit}
use Rattle.linked_view.proofs.Entries.{are_found, entries_once}
use Rattle.linked_view.proofs.Extended.{key_once}
use Rattle.linked_view.proofs.Found.{found_place, message_place}
use Rattle.linked_view.proofs.Kept.{empty_has_names, pool_keeps}
use Rattle.linked_view.proofs.Linked.{meanings}
use Rattle.linked_view.proofs.Marked.{marks_by, older_at}
use Rattle.linked_view.proofs.Named.{in_all}
use Rattle.linked_view.proofs.Parted.{empty_declared, empty_entries, pool_declared, pool_entries}
use Rattle.linked_view.proofs.Places.{contains_get, get_contains, get_less}
use Rattle.linked_view.proofs.Ranged.{numbers_keep}
use Rattle.linked_view.proofs.Settling.{all_good, batch_holds}
use Rattle.linked_view.proofs.Telling.{pool_tells, tells_new}
use Rattle.linked_view.proofs.Valued.{pool_values}
use Rattle.linked_view.proofs.Unused.{Unused, one_map_left, one_map_right, unused_before, unused_seen}

module _ (old new : PoolType) (ns : List FileDescriptorProto) (w : Linking) (is : IsOf old w)
    (has : IsWellNamed old) (names : name_faults w.indexes w.known w.before w.first ns ≡ [])
    (batch : FaultlessBatch (with_declared w ns) ns new) (kept : IsKept new) (index : IsIndexed new)
  where
    abbrev given : List FileContent
    given = map file_view old.records

    abbrev more : List FileContent
    more = map file_view ns

    abbrev all_known : Known
    all_known = known old new ns w is has names batch kept

    abbrev alone : AreLawfulAlone given more (map file_view new.records)
    alone = lawful_alone old new ns w is has names batch kept

    abbrev stored : List StoredMessage
    stored = w.tables.messages.items

    abbrev stand : AreFound (found messages all_known) (names_of new messages)
    stand = are_found old new ns w is has names batch kept index

    types_are : new.messages ≡ old.messages ++ map message_of batch.types.new.now.messages.items
    types_are =
        batch.added.messages
        ∙ ap (λ (p : PoolType). p.messages ++ map message_of batch.types.new.now.messages.items) is.tables

    -- the type at a place of the older ones, as it is known
    older_known : (i : ℕ) (t : MessageType) → slice_get old.messages i ≡ Some t
        → (d : Definition) × (all_known t.full_name ≡ Some d) × (d.kind ≡ kind.Message i)
    older_known i t e =
        let here = front old.messages (map message_of batch.types.new.now.messages.items) i t e in
        let named : slice_get (names_of new messages) i ≡ Some (t.full_name, t.file) =
        get_map message_name new.messages i t
        (ap (λ (ms : List MessageType). slice_get ms i) types_are ∙ here) in
        let d = found_place messages (all_known t.full_name) i t.file
        ((stand t.full_name i t.file).1 named) in
        (d.0, d.1, message_place d.0.kind i d.2)

    -- one that has the parts of an entry is told to be one
    older_entry : (i : ℕ) (t : MessageType) → slice_get old.messages i ≡ Some t
        → is_some t.entry ≡ true → (linked_says batch.types).is_entry i ≡ true
    older_entry i t e parts =
        let x = got_map message_of stored i t
        (ap (λ (p : PoolType). slice_get p.messages i) is.tables ∙ e) in
        let marks : x.0.is_entry ≡ is_some x.0.entry =
        in_all MarksEntry stored is.stored.entries x.0 (get_contains stored i x.0 x.1) in
        let says : x.0.is_entry ≡ true =
        marks ∙ ap (λ (y : MessageType). is_some y.entry) x.2 ∙ parts in
        ap marks_by (older_at w batch.types batch.declared.old i x.0 x.1) ∙ says

    -- new files do not use an older type of entries
    unused_by_new : (i : ℕ) (t : MessageType) → slice_get old.messages i ≡ Some t
        → is_some t.entry ≡ true → Unused t.full_name (all_linked alone.meanings more)
    unused_by_new i t e parts =
        let g = facts_of batch.types w.before w.first ns batch.references in
        let views = views_of all_known batch.means.right.sees in
        let ds = batch_declarations w.before w.first ns in
        let at = batch_places ns w.first in
        let met = all_met old new ns w is has names batch kept in
        let are = known_all old new ns w is has names batch kept in
        let named = indexes old new ns w is has names batch kept in
        let all = old.records ++ ns in
        let good = all_good all all_known are named batch.means.right.sees batch.types g at
        views ds (sym batch.means.right.faults) met in
        let d = older_known i t e in
        let less = get_less old.messages i t e in
        let count = is.before.messages in
        let early : i < w.before.messages = omega (arith, less, count) in
        subst (λ ms. Unused t.full_name (all_linked ms more))
        (sym (meanings_alone old new ns w is has names batch kept))
        (λ c v j k.
        let q = contains_map_cases (λ (x : FileContent). linked (meanings all all_known are named
        batch.means.right.sees x) x) more c j in
        let f = contains_map_cases file_view ns q.0 q.1 in
        batch_holds all all_known are named batch.means.right.sees batch.types g at
        (λ b. is_use t.full_name b ≡ false)
        (unused_seen all all_known are named batch.means.right.sees batch.types g at
        (names_of new messages) stand t.full_name d.0 i d.1 d.2 (older_entry i t e parts) early)
        w.before w.first ns (names_at old new ns w is has names batch kept) good f.0 f.1 v
        (subst (λ x. Contains (declarations (linked (meanings all all_known are named
        batch.means.right.sees x) x)) v) (sym f.2)
        (subst (λ (x : FileContent). Contains (declarations x) v) (sym q.2) k)))

    -- the outlines of the new files, linked
    outlines_new : outlines (all_linked alone.meanings more) ≡ outlines more
    outlines_new = outlines_linked [] more alone.meanings

    module _ (tells : TellsEntries old) (linked_before : AreLinked given) where
      entries_agree : (f : FileContent) (d : Declaration) (m : MessageFacts)
          → Contains (given ++ all_linked alone.meanings more) f → Contains (declarations f) d
          → d.body ≡ of_message m → SaysEntry m.options
          → IsOneMap (given ++ all_linked alone.meanings more) d.name
      entries_agree f d m i j body says =
          let after = all_linked alone.meanings more in
          elim (Contains-append_cases given after f i) [
            | inl k ↦ (
                let t = tells f d m k j body says in
                let at = contains_get old.messages t.0 t.1 in
                one_map_left d.name given after (linked_before.together.entries f d m k j body says)
                (subst (λ n. Unused n after) t.2 (unused_by_new at.0 t.0 at.1 t.3)))
            | inr k ↦ (
                let declared : IsDeclared (outlines more) d.name (sort_of d.body) =
                subst (λ os. IsDeclared os d.name (sort_of d.body)) outlines_new (
                  outline_of f,
                  head_of d,
                  contains_map outline_of after f k,
                  contains_map head_of (declarations f) d j,
                  refl,
                  refl,
                ) in
                one_map_right d.name given after
                (entries_once old new ns w is has names batch kept index f d m k j body says)
                (unused_before given more linked_before alone.names.apart d.name (sort_of d.body)
                declared))
          ]

      module _ (extensions : TellsExtensions old) (values : TellsValues old) where
        keys_apart : (k : Key) → times_by (has_key k) (given ++ all_linked alone.meanings more) ≤ 1
        keys_apart k = subst (λ fs. times_by (has_key k) fs ≤ 1) alone.stand
            (key_once k new index (tells_new old new ns w is has names batch kept index extensions))

        settled_alone : AreSettledAlone given more alone.meanings
        settled_alone = record {
          settled = λ f d i j. record {
            numbers = numbers_keep old new ns w is has names batch kept f d i j;
            defaults = defaults_suit old new ns w is has names batch kept index values f d i j;
          };
          together = record { extended = keys_apart; entries = entries_agree };
        }

        pub added_all : AddsLawful given more (map file_view new.records)
        added_all = alone_added given more (map file_view new.records) alone settled_alone

-- accepted files are added to those that were built before
pub adds_files : (earlier : List (List FileContent)) (old new : PoolType)
    (fs : List FileDescriptorProto) → IsBuilt earlier old → IsIndexed new → IsKept new
    → FaultlessFiles old fs new
    → (w : Linking) × IsOf old w
    × AddsLawful (map file_view old.records) (map file_view (new_files w.indexes fs))
    (map file_view new.records)
adds_files earlier old new fs is index kept (w, of, (names, batch)) = (
  w,
  of,
  added_all old new (new_files w.indexes fs) w of is.named names batch kept index is.entries
      (built_linked earlier (map file_view old.records) is.built) is.extensions is.values,
)

-- and so they are built with these
pub built_more : (earlier : List (List FileContent)) (old new : PoolType)
    (fs : List FileDescriptorProto) → IsBuilt earlier old → IsRecorded new → IsIndexed new
    → IsKept new → FaultlessFiles old fs new
    → (w : Linking) × IsOf old w
    × IsBuilt (map file_view (new_files w.indexes fs) ∷ earlier) new
built_more earlier old new fs is recorded index kept faultless =
    let r = adds_files earlier old new fs is index kept faultless in (
      r.0,
      r.1,
      record {
        named = pool_keeps old new fs is.named recorded kept faultless;
        extensions = pool_tells old new fs is.named index kept is.extensions faultless;
        values = pool_values old new fs is.named kept is.values faultless;
        entries = pool_entries old new fs is.named index kept is.entries faultless;
        declared = pool_declared old new fs is.named index kept is.declared faultless;
        built = (map file_view old.records, is.built, r.2);
      },
    )

-- nothing builds a pool without files
pub empty_built : IsBuilt [] empty_pool
empty_built = record {
  named = empty_has_names;
  extensions = tt;
  values = refl;
  entries = empty_entries;
  declared = empty_declared;
  built = refl;
}
