-- Where no pass finds a fault in files, they have names as they should, their references mean
-- something, and their declarations are sound.
use Rattle.std.proofs.Common.{◌≡◌, ◌∙◌, ◌+◌, ◌-◌, ℕ, zero, suc, Bool, false, cond, nat_lt, List, [], ◌∷◌, ◌++◌, Option, Some, None, map, length, slice_get, ap, sym, subst, refl, arith}
use Rattle.std.specs.List.{Contains, flat_map}
use Rattle.std.proofs.lemmas.List.{map-append, length-map}
use Rattle.descriptor_records.specs.Content.{FileContent, file_view}
use Rattle.descriptor_records.specs.declared.file.FileDescriptorProto.{FileDescriptorProto}
use Rattle.reflect_scope.specs.FileIndexes.{Indexes}
use Rattle.reflect_scope.specs.Known.{Known}
use Rattle.reflect_scope.specs.declared.seen.Links.{Links}
use Rattle.reflect_declarations.specs.declared.offsets.Offsets.{Offsets}
use Rattle.reflect_declarations.specs.Tree.{MessageParts}
use Rattle.reflect_declarations.specs.Declarations.{Declaration, Body, of_message}
use Rattle.reflect_declarations.specs.Batches.{batch_declarations}
use Rattle.reflect_known.specs.KnownNames.{known_of_files}
use Rattle.reflect_faults.specs.Faults.{batch_places}
use Rattle.reflect_names.specs.FileNames.{files_faults}
use Rattle.reflect_tables.specs.Types.{PoolType}
use Rattle.reflect_tables.specs.Views.{message_of, ranges_of}
use Rattle.reflect_tables.specs.declared.stored.StoredMessage.{StoredMessage}
use Rattle.reflect_tables.specs.declared.tables.Tables.{Tables}
use Rattle.reflect_names.specs.ReferencePass.{views_of}
use Rattle.reflect_names.specs.ReferenceSteps.{target_of}
use Rattle.reflect_names.specs.declared.resolve_visitor.Reference.{Reference}
use Rattle.reflect_index.specs.Rewriting.{write_each, write_file, written}
use Rattle.reflect_index.specs.OfDeclarations.{RangesType, AreDeclared, AllDeclared, messages_in, stored_ranges}
use Rattle.reflect_passes.specs.Linked.{message_at, linked_says, linked_values}
use Rattle.reflect_rules.specs.Walks.{Facts}
use Rattle.reflect_passes.specs.NameFaults.{name_faults}
use Rattle.reflect_passes.specs.declared.linked_types.LinkedTypes.{LinkedTypes}
use Rattle.reflect_build.specs.Accepted.{FaultlessBatch, FaultlessFiles}
use Rattle.reflect_build.specs.Refusals.{AreTypes, Linking, with_declared, IsOf, new_files}
use Rattle.linked_view.specs.Kept.{IsKept}
use Rattle.reflect_index.proofs.Among.{Among, all_of, get_map, got_map}
use Rattle.linked_view.proofs.Declared.{stands_in_batch, declared_at}
use Rattle.schema_view.specs.Outlines.{outline_of}
use Rattle.schema_view.specs.Files.{file_name}
use Rattle.schema_view.specs.References.{Reference as Naming, references}
use Rattle.schema_view.specs.Means.{ReferenceMeans}
use Rattle.schema_view.specs.Lawful.{outlines, all_linked}
use Rattle.linked_view.specs.Alone.{IsWellNamed, AreLawfulAlone}
use Rattle.linked_view.specs.Known.{AreKnown}
use Rattle.linked_view.specs.Named.{AreWellNamed}
use Rattle.linked_view.specs.AtHand.{AreMetBy}
use Rattle.linked_view.specs.Passed.{facts_of, start_of, AreTold, ReferTo}
use Rattle.linked_view.specs.Referred.{AreMeant, AreSeenBy}
use Rattle.linked_view.specs.Ruled.{AreRuled, IsTyped, TellsOf, Each}
use Rattle.linked_view.specs.Taken.{in_order}
use Rattle.linked_view.specs.Whole.{IsLabelled}
use Rattle.linked_view.proofs.Along.{ruled_to}
use Rattle.linked_view.proofs.AtHand.{met_to_by}
use Rattle.linked_view.proofs.Behind.{placed, all_named, are_known, known_is, seen_by, name_at}
use Rattle.linked_view.proofs.Faults.{none_both}
use Rattle.linked_view.proofs.Fitting.{batch_fits}
use Rattle.linked_view.proofs.Named.{named_to}
use Rattle.linked_view.proofs.Linked.{meanings, targets_in, batch_targets, files_mean}
use Rattle.linked_view.proofs.Taken.{files_written}
use Rattle.linked_view.proofs.References.{referred_to}
use Rattle.linked_view.proofs.Sound.{parts_sound}

-- what is kept of each declared message
pub kept_at : (ms : List MessageParts) (rs : List RangesType) (j : ℕ) (m : MessageParts)
    → AllDeclared ms rs → slice_get ms j ≡ Some m → (r : RangesType) × (slice_get rs j ≡ Some r)
kept_at [] rs j m h e = absurd (cc e)
kept_at (x ∷ ms) [] j m h e = absurd h
kept_at (x ∷ ms) (r ∷ rs) zero m h e = (r, refl)
kept_at (x ∷ ms) (r ∷ rs) (suc j) m h e = kept_at ms rs j m h.1 e

module _ (t : LinkedTypes) (before : Offsets) (first : ℕ) (files : List FileDescriptorProto)
    (count : before.messages ≡ length t.old.now.messages.items)
    (ranges : AllDeclared (messages_in (batch_declarations before first files))
    (map stored_ranges t.new.now.messages.items)) where
  abbrev ds : List Declaration
  ds = batch_declarations before first files

  message_behind : (i j : ℕ) (m : StoredMessage) → i ≡ before.messages + j
      → slice_get t.new.now.messages.items j ≡ Some m → message_at t i ≡ Some m
  message_behind i j m place e =
      let far : nat_lt i (length t.old.now.messages.items) ≡ false = grind (arith, place, count) in
      let back : i - length t.old.now.messages.items ≡ j = omega (arith, place, count) in
      ap (λ b. cond b (slice_get t.old.now.messages.items i)
      (slice_get t.new.now.messages.items (i - length t.old.now.messages.items))) far
      ∙ ap (slice_get t.new.now.messages.items) back ∙ e

  tells_one : (d : Declaration) (b : Body) → d.body ≡ b → Among d ds
      → TellsOf (linked_says t) (record d { body = b })
  tells_one d (of_message own) is h =
      let place = stands_in_batch before first files d own h is in
      let r = kept_at (messages_in ds) (map stored_ranges t.new.now.messages.items) place.0 own ranges
      place.2 in
      let m = got_map stored_ranges t.new.now.messages.items place.0 r.0 r.1 in
      let declared = declared_at (messages_in ds) (map stored_ranges t.new.now.messages.items) place.0
      own (stored_ranges m.0) ranges place.2
      (get_map stored_ranges t.new.now.messages.items place.0 m.0 m.1) in
      let at = message_behind d.index place.0 m.0 place.1 m.1 in
      subst (AreDeclared own) (sym (says_as (message_at t d.index) m.0 at)) declared where
        says : Option StoredMessage → RangesType
        says o = record {
          reserved = elim o [ None ↦ [] | Some x ↦ ranges_of x.reserved_numbers ];
          extensions = elim o [ None ↦ [] | Some x ↦ ranges_of x.extension_numbers ];
          is_entry = elim o [ None ↦ false | Some x ↦ x.is_entry ];
        }

        says_as : (o : Option StoredMessage) (m : StoredMessage) → o ≡ Some m
            → says o ≡ stored_ranges m
        says_as o m e = ap says e
  tells_one d b is h = tt

  types_tell : AreTold t before first files
  types_tell = all_of (TellsOf (linked_says t)) ds (λ d h. tells_one d d.body refl h)

-- the types of a batch tell what it declares
pub batch_told : (old : PoolType) (ns : List FileDescriptorProto) (w : Linking) → IsOf old w
    → (rs : List Reference) (t : LinkedTypes) → AreTypes (with_declared w ns) ns rs t
    → AreTold t w.before w.first ns
batch_told old ns w is rs t declared = types_tell t w.before w.first ns
    (is.before.messages ∙ ap (λ (p : PoolType). length p.messages) (sym is.tables)
    ∙ length-map w.tables.messages.items message_of
    ∙ ap (λ (s : Tables). length s.messages.items) (sym declared.old))
    declared.ranges

module _ (old new : PoolType) (ns : List FileDescriptorProto) (w : Linking) (is : IsOf old w)
    (has : IsWellNamed old) (names : name_faults w.indexes w.known w.before w.first ns ≡ [])
    (batch : FaultlessBatch (with_declared w ns) ns new) (kept : IsKept new) where
  none : name_faults w.indexes (known_of_files old.records) w.before w.first ns ≡ []
  none = ap (λ k. name_faults w.indexes k w.before w.first ns) (sym is.known) ∙ names

  have_names : AreWellNamed (map file_view old.records) (map file_view ns)
  have_names = named_to (batch_places ns w.first) w.indexes w.before w.first old.records ns
      (placed old ns w is has) has.named none

  files_none : files_faults (batch_places ns w.first) w.indexes w.first ns ≡ []
  files_none = (none_both (files_faults (batch_places ns w.first) w.indexes w.first ns) _ names).0

  abbrev pub links : List Links
  links = batch.means.links

  abbrev pub sees : ℕ → ℕ → Bool
  sees = batch.means.right.sees

  abbrev pub all_files : List FileDescriptorProto
  all_files = old.records ++ ns

  abbrev pub indexes : Indexes
  indexes = (with_declared w ns).indexes

  abbrev pub known : Known
  known = (with_declared w ns).known

  views_of_both : map file_view all_files ≡ map file_view old.records ++ map file_view ns
  views_of_both = map-append file_view old.records ns

  pub known_all : AreKnown all_files known
  known_all = are_known old ns w is has have_names files_none links batch.means.linked sees
      batch.means.right.right

  pub named_files : AreWellNamed [] (map file_view all_files)
  named_files = all_named old ns w is has have_names files_none links batch.means.linked sees
      batch.means.right.right

  pub known_files : known ≡ known_of_files all_files
  known_files = known_is old ns w is has have_names files_none links batch.means.linked sees
      batch.means.right.right

  seen_all : AreSeenBy all_files w.first ns sees
  seen_all = seen_by old ns w is has have_names files_none links batch.means.linked sees
      batch.means.right.right

  pub names_at : (k : ℕ) (f : FileDescriptorProto) → slice_get ns k ≡ Some f
      → indexes (file_name (file_view f)) ≡ Some (w.first + k)
  names_at = name_at old ns w is has have_names files_none links batch.means.linked sees
      batch.means.right.right

  pub told : AreTold batch.types w.before w.first ns
  told = batch_told old ns w is batch.references batch.types batch.declared

  refs : Each IsLabelled (map file_view ns) × Each IsTyped (map file_view ns)
      × AreMeant (outlines (map file_view all_files)) (map file_view ns)
  refs = referred_to all_files known known_all (batch_places ns w.first) sees
      w.before w.first ns seen_all have_names.complete
      (sym batch.means.right.faults)

  targets_are : map target_of batch.references
      ≡ flat_map (λ f. in_order (targets_in all_files known known_all indexes sees f) f) (map file_view ns)
  targets_are =
      batch.means.right.targets
      ∙ batch_targets all_files known known_all indexes sees w.before
      w.first ns names_at seen_all refs.2

  written_is : written batch.references (map file_view ns)
      ≡ all_linked (meanings all_files known known_all indexes sees)
      (map file_view ns)
  written_is =
      ap (λ ts. (write_each write_file ts (map file_view ns)).0) targets_are
      ∙ ap (λ (p : List FileContent × List _). p.0) (files_written
      (targets_in all_files known known_all indexes sees)
      (map file_view ns))

  means_of : (f : FileContent) (r : Naming) → Contains (map file_view ns) f
      → Contains (references f) r → ReferenceMeans (outlines (map file_view all_files)) (outline_of f) r
      (meanings all_files known known_all indexes sees f r)
  means_of = files_mean all_files known known_all indexes sees w.first ns names_at seen_all refs.2

  pub stand_linked : map file_view new.records ≡ map file_view old.records
      ++ all_linked (meanings all_files known known_all indexes sees) (map file_view ns)
  stand_linked =
      batch.records
      ∙ ap (λ (p : PoolType). map file_view p.records ++ written batch.references (map file_view ns))
      is.tables
      ∙ ap (λ fs. map file_view old.records ++ fs) written_is

  abbrev facts : Facts
  facts = facts_of batch.types w.before w.first ns batch.references

  -- the declarations meet the rules by themselves, and by what they refer to
  ruled : AreRuled (map file_view ns)
      × ReferTo batch.types w.before w.first ns batch.references
  ruled = ruled_to facts (linked_values batch.types) (batch_places ns w.first)
      (start_of batch.references) w.before w.first ns have_names.complete refs.1 told batch.numbers

  -- and so by what their names mean
  pub all_met : AreMetBy facts (linked_values batch.types) (views_of known sees)
      (batch_declarations w.before w.first ns)
  all_met = met_to_by facts (linked_values batch.types) (views_of known sees)
      (batch_places ns w.first) (start_of batch.references)
      (batch_declarations w.before w.first ns) (sym batch.means.right.faults)
      batch.means.right.targets ruled.1

  pub lawful_alone : AreLawfulAlone (map file_view old.records) (map file_view ns) (map file_view new.records)
  lawful_alone = record {
    meanings = meanings all_files known known_all indexes sees;
    names = have_names;
    means = λ f r j k. subst (λ fs. ReferenceMeans (outlines fs) (outline_of f) r
        (meanings all_files known known_all indexes sees f r))
        views_of_both (means_of f r j k);
    sound = parts_sound (map file_view ns) (
      have_names.complete,
      refs.1,
      refs.0,
      ruled.0,
      batch_fits (with_declared w ns) ns new batch kept.numbers,
    );
    stand = stand_linked;
  }

  pub meanings_alone : lawful_alone.meanings
      ≡ meanings all_files known known_all indexes sees
  unfolding lawful_alone
  meanings_alone = refl

pub accepted_alone : (old new : PoolType) (fs : List FileDescriptorProto) → IsWellNamed old
    → IsKept new → FaultlessFiles old fs new
    → (w : Linking) × IsOf old w × AreLawfulAlone (map file_view old.records)
    (map file_view (new_files w.indexes fs)) (map file_view new.records)
accepted_alone old new fs has kept (w, is, (names, batch)) =
    (w, is, lawful_alone old new (new_files w.indexes fs) w is has names batch kept)
