-- The numbers of accepted extensions are kept for extensions by the messages that they extend.
use Rattle.std.proofs.Common.{◌≡◌, ◌∙◌, ◌+◌, ℕ, List, [], ◌∷◌, ◌++◌, Option, Some, None, map, length, slice_get, ap, sym, subst, refl}
use Rattle.std.specs.List.{AllZip, Contains, flat_map}
use Rattle.std.proofs.lemmas.List.{map-append}
use Rattle.std.proofs.lemmas.List.Concat.{flat_map-append}
use Rattle.descriptor_records.specs.Content.{Text, FileContent, file_view}
use Rattle.descriptor_records.specs.declared.file.FileDescriptorProto.{FileDescriptorProto}
use Rattle.reflect_scope.specs.declared.definition.Definition.{Definition}
use Rattle.reflect_scope.specs.declared.definition.DefinitionKind.TheVariants as kind
use Rattle.reflect_scope.specs.Known.{Known}
use Rattle.reflect_faults.specs.Faults.{batch_places}
use Rattle.reflect_names.specs.ReferencePass.{views_of}
use Rattle.reflect_passes.specs.NameFaults.{name_faults}
use Rattle.reflect_tables.specs.Types.{PoolType}
use Rattle.reflect_tables.specs.declared.tables.Tables.{Tables}
use Rattle.reflect_declarations.specs.Batches.{batch_declarations}
use Rattle.reflect_build.specs.Accepted.{FaultlessBatch, FaultlessFiles}
use Rattle.reflect_build.specs.Refusals.{AreTypes, Linking, with_declared, IsOf, new_files}
use Rattle.linked_view.specs.Kept.{IsKept}
use Rattle.schema_view.specs.Declarations.{Body, of_message, Declaration, declarations}
use Rattle.schema_view.specs.Lawful.{outlines}
use Rattle.schema_view.specs.References.{linked}
use Rattle.schema_view.proofs.Lists.{contains_none, contains_map, contains_map_cases}
use Rattle.linked_view.specs.Alone.{IsWellNamed, AreLawfulAlone}
use Rattle.linked_view.specs.Named.{AreWellNamed}
use Rattle.linked_view.specs.Passed.{facts_of}
use Rattle.linked_view.proofs.Accepted.{all_met, known_files, named_files, known, known_all, indexes, names_at, lawful_alone, meanings_alone}
use Rattle.linked_view.proofs.Along.{none_reserved}
use Rattle.linked_view.proofs.Linked.{meanings}
use Rattle.linked_view.proofs.Settling.{all_good, batch_holds}
use Rattle.std.specs.Prelude.{ℤ}
use Rattle.std.proofs.lemmas.List.Sorted.{Contains-permutation, IsPermutation-sym}
use Rattle.std.proofs.lemmas.List.Elements.{All-contains, Contains-append_right}
use Rattle.std.proofs.Common.{zero-add}
use Rattle.descriptor_records.specs.Content.{extension_range_view}
use Rattle.descriptor_records.specs.Content as content
use Rattle.reflect_index.specs.OfDeclarations.{message_in, messages_in}
use Rattle.reflect_index.proofs.Among.{get_map}
use Rattle.reflect_known.specs.KnownNames.{definition_of, nothing_before, known_of_files}
use Rattle.reflect_passes.specs.Linked.{message_at, linked_says}
use Rattle.reflect_passes.specs.declared.linked_types.LinkedTypes.{LinkedTypes}
use Rattle.reflect_names.specs.declared.resolve_visitor.Reference.{Reference}
use Rattle.reflect_tables.specs.Ranges as pool
use Rattle.reflect_pool.specs.Stored.{HasRanges, MessageRanges, declared_ranges, ranges_in}
use Rattle.reflect_tables.specs.Views.{ranges_of}
use Rattle.reflect_tables.specs.declared.stored.StoredMessage.{StoredMessage}
use Rattle.reflect_declarations.specs.Declarations as walk
use Rattle.reflect_declarations.specs.Tree.{MessageParts}
use Rattle.schema_view.specs.Declarations as view
use Rattle.schema_view.specs.Lawful.{KeepsForExtensions, KeepsNumber}
use Rattle.schema_view.specs.Rules.{IsIn, HasBounds}
use Rattle.reflect_build.proofs.Recorded.{batch_on}
use Rattle.reflect_build.proofs.Stored.{all_declared, zip_both}
use Rattle.linked_view.specs.Ranged.{KeepNumbers}
use Rattle.linked_view.specs.Ruled.{IsExtensionNumber}
use Rattle.linked_view.proofs.Along.{range_in, in_range}
use Rattle.linked_view.proofs.Behind.{first_is}
use Rattle.linked_view.proofs.Defaulted.{at_both, both_at}
use Rattle.linked_view.proofs.Extended.{zip_at}
use Rattle.linked_view.proofs.Indexed.{IsMessageAt, message_index, message_known}
use Rattle.linked_view.proofs.Named.{in_all}
use Rattle.linked_view.proofs.Reserved.{kept_seen}
use Rattle.linked_view.proofs.Walked.{facts_in}
use Rattle.schema_view.specs.Outlines.{message_sort, sort_of}
use Rattle.schema_view.proofs.Targets.{one_sort}

-- the ranges among declarations are those of the messages
one_ranged : (d : walk.Declaration) (b : walk.Body) (ds : List walk.Declaration)
    → flat_map ranges_in ds ≡ map declared_ranges (messages_in ds)
    → ranges_in (record d { body = b }) ++ flat_map ranges_in ds
    ≡ map declared_ranges (message_in b ++ messages_in ds)
one_ranged d (walk.of_message m) ds rest = ap (λ l. declared_ranges m ∷ l) rest
one_ranged d b ds rest = rest

all_ranged : (ds : List walk.Declaration) → flat_map ranges_in ds
    ≡ map declared_ranges (messages_in ds)
all_ranged [] = refl
all_ranged (d ∷ ds) = one_ranged d d.body ds (all_ranged ds)

-- the declarations of a pool's records, and behind them those of new files
batch_all : (old : PoolType) (ns : List FileDescriptorProto) (w : Linking) → IsOf old w
    → IsWellNamed old → batch_declarations nothing_before 0 (old.records ++ ns)
    ≡ batch_declarations nothing_before 0 old.records ++ batch_declarations w.before w.first ns
batch_all old ns w is has =
    let front = batch_declarations nothing_before 0 old.records in
    let place : w.first ≡ 0 + length old.records =
    first_is old ns w is has ∙ sym (zero-add (length old.records)) in
    batch_on nothing_before 0 old.records ns
    ∙ ap (λ o. front ++ batch_declarations o (0 + length old.records) ns) (sym is.counts)
    ∙ ap (λ n. front ++ batch_declarations w.before n ns) (sym place)

-- what a message of a batch is known for by its name
pub known_message : (old : PoolType) (ns : List FileDescriptorProto) (w : Linking) → IsOf old w
    → IsWellNamed old → AreWellNamed [] (map file_view (old.records ++ ns)) → (known : Known)
    → known ≡ known_of_files (old.records ++ ns) → (x : walk.Declaration) (own : MessageParts)
    → Contains (batch_declarations w.before w.first ns) x → x.body ≡ walk.of_message own
    → known x.name ≡ Some (definition_of x)
known_message old ns w is has named knows all_known x own there body =
    ap (λ (k : Known). k x.name) all_known
    ∙ message_index (old.records ++ ns) named x own
    (subst (λ l. Contains l x) (sym (batch_all old ns w is has))
    (Contains-append_right (batch_declarations nothing_before 0 old.records)
    (batch_declarations w.before w.first ns) x there)) body

abbrev reserved_by : Option StoredMessage → List pool.Range
reserved_by o = elim o [ None ↦ [] | Some m ↦ ranges_of m.reserved_numbers ]

abbrev extensions_by : Option StoredMessage → List pool.Range
extensions_by o = elim o [ None ↦ [] | Some m ↦ ranges_of m.extension_numbers ]

-- the ranges that are stored of all messages are those that are declared
module _ (old : PoolType) (ns : List FileDescriptorProto) (w : Linking) (is : IsOf old w)
    (has : IsWellNamed old) (rs : List Reference) (t : LinkedTypes)
    (declared : AreTypes (with_declared w ns) ns rs t) where
  abbrev pub stored : List StoredMessage
  stored = t.old.now.messages.items ++ t.new.now.messages.items

  abbrev pub all_declarations : List walk.Declaration
  all_declarations = batch_declarations nothing_before 0 (old.records ++ ns)

  all_stored : AllZip HasRanges (flat_map ranges_in all_declarations) stored
  all_stored =
      let front = batch_declarations nothing_before 0 old.records in
      let back = batch_declarations w.before w.first ns in
      let olds = t.old.now.messages.items in
      let news = t.new.now.messages.items in
      let older = subst (λ (s : Tables). AllZip HasRanges (flat_map ranges_in front) s.messages.items)
      (sym declared.old) is.stored.ranges in
      subst (λ ds. AllZip HasRanges (flat_map ranges_in ds) stored) (sym (batch_all old ns w is has))
      (subst (λ rs. AllZip HasRanges rs stored) (sym (flat_map-append ranges_in front back))
      (zip_both HasRanges (flat_map ranges_in front) (flat_map ranges_in back) olds news older
      (all_declared back news declared.ranges)))

  stored_for : (i : ℕ) (own : MessageParts)
      → slice_get (messages_in all_declarations) i ≡ Some own
      → (s : StoredMessage) × (slice_get stored i ≡ Some s) × HasRanges (declared_ranges own) s
  stored_for i own place =
      zip_at HasRanges (flat_map ranges_in all_declarations) stored i (declared_ranges own) all_stored
      (ap (λ (l : List MessageRanges). slice_get l i) (all_ranged all_declarations)
      ∙ get_map declared_ranges (messages_in all_declarations) i own place)

  -- so a number that a message keeps for extensions by its record is one that its type keeps
  module _ (named : AreWellNamed [] (map file_view (old.records ++ ns))) (known : Known)
      (all_known : known ≡ known_of_files (old.records ++ ns)) where
    pub number_told : (i : ℕ) (full : Text) (n : ℤ) (d : Definition) → known full ≡ Some d
        → d.kind ≡ kind.Message i → KeepsForExtensions (outlines (map file_view (old.records ++ ns))) full n
        → IsExtensionNumber (linked_says t) n (Some i)
    number_told i full n d knows same (extensions, reserved, sort, (r, inside, within), none) =
        let files = old.records ++ ns in
        let m = message_known files named full d i
        (ap (λ (k : Known). k full) (sym all_known) ∙ knows) same in
        let own = m.own in
        let s = stored_for i own m.place in
        let at : message_at t i ≡ Some s.0 =
        both_at t.old.now.messages.items t.new.now.messages.items i s.0 s.1 in
        let sorts : message_sort extensions reserved ≡ sort_of (view.of_message (facts_in own)) =
        one_sort (outlines (map file_view files)) named.apart full (message_sort extensions reserved)
        (sort_of (view.of_message (facts_in own))) sort m.declared in
        let shown = map extension_range_view own.extension_range in
        let given : extensions ≡ map view.extension_range shown = cc sorts in
        let held : reserved ≡ map view.reserved_range own.reserved_range = cc sorts in
        let x = contains_map_cases view.extension_range shown r
        (subst (λ l. Contains l r) given inside) in
        let y = contains_map_cases extension_range_view own.extension_range x.0 x.1 in
        let within' : IsIn n (view.extension_range (extension_range_view y.0)) =
        subst (IsIn n) (sym (ap view.extension_range y.2 ∙ x.2)) within in
        let there = Contains-permutation (map pool.extension_range own.extension_range)
        (ranges_of s.0.extension_numbers) (pool.extension_range y.0) s.2.extensions
        (contains_map pool.extension_range own.extension_range y.0 y.1) in
        let unreserved = none_reserved own.reserved_range (ranges_of s.0.reserved_numbers) n
        s.2.reserved m.complete.2 (λ q k inside. none (view.reserved_range q)
        (subst (λ l. Contains l (view.reserved_range q)) (sym held)
        (contains_map view.reserved_range own.reserved_range q k)) inside) in (
          subst (λ l. pool.IsRangeOf l n None) (sym (ap reserved_by at)) unreserved,
          pool.extension_range y.0,
          subst (λ l. pool.IsRangeOf l n (Some (pool.extension_range y.0)))
              (sym (ap extensions_by at)) (there, range_in n y.0.start y.0.end within'),
        )

module _ (old new : PoolType) (ns : List FileDescriptorProto) (w : Linking) (is : IsOf old w)
    (has : IsWellNamed old) (names : name_faults w.indexes w.known w.before w.first ns ≡ [])
    (batch : FaultlessBatch (with_declared w ns) ns new) (kept : IsKept new) where
  abbrev given : List FileContent
  given = map file_view old.records

  abbrev more : List FileContent
  more = map file_view ns

  abbrev all_known : Known
  all_known = known old new ns w is has names batch kept

  abbrev all : List FileDescriptorProto
  all = old.records ++ ns

  abbrev stored_all : List StoredMessage
  stored_all = batch.types.old.now.messages.items ++ batch.types.new.now.messages.items

  stored_at : (i : ℕ) (own : MessageParts) (s : StoredMessage)
      → slice_get (messages_in (batch_declarations nothing_before 0 all)) i ≡ Some own
      → slice_get stored_all i ≡ Some s → HasRanges (declared_ranges own) s
  stored_at i own s place at =
      let r = stored_for old ns w is has batch.references batch.types batch.declared i own place in
      let same : r.0 ≡ s = cc (sym r.1 ∙ at) in
      subst (HasRanges (declared_ranges own)) same r.2

  -- the ranges of a message, as they are kept and as its record has them
  ranges_keep : (full : Text) (n : ℤ) (i : ℕ) (m : IsMessageAt all (named_files old new ns w is has names batch kept) full i)
      (s : StoredMessage) → HasRanges (declared_ranges m.own) s → (r : pool.Range)
      → Contains (ranges_of s.extension_numbers) r → pool.IsIn n r
      → pool.IsRangeOf (ranges_of s.reserved_numbers) n None
      → KeepsForExtensions (outlines (map file_view all)) full n
  ranges_keep full n i m s declared r inside within none =
      let own = m.own in
      let shown = map extension_range_view own.extension_range in
      let back = Contains-permutation (ranges_of s.extension_numbers)
      (map pool.extension_range own.extension_range) r
      (IsPermutation-sym (map pool.extension_range own.extension_range)
      (ranges_of s.extension_numbers) declared.extensions) inside in
      let x = contains_map_cases pool.extension_range own.extension_range r back in
      let there = contains_map extension_range_view own.extension_range x.0 x.1 in
      let bounds = in_all (λ (q : content.ExtensionRangeContent). HasBounds (view.extension_range q))
      shown m.complete.1 (extension_range_view x.0) there in (
        map view.extension_range shown,
        map view.reserved_range own.reserved_range,
        m.declared,
        (
          view.extension_range (extension_range_view x.0),
          contains_map view.extension_range shown (extension_range_view x.0) there,
          in_range n x.0.start x.0.end bounds (subst (pool.IsIn n) (sym x.2) within),
        ),
        λ q j k.
            let y = contains_map_cases view.reserved_range own.reserved_range q j in
            let kept_there = Contains-permutation (map pool.reserved_range own.reserved_range)
            (ranges_of s.reserved_numbers) (pool.reserved_range y.0) declared.reserved
            (contains_map pool.reserved_range own.reserved_range y.0 y.1) in
            All-contains (λ q. pool.IsIn n q → ⊥) (ranges_of s.reserved_numbers)
            (pool.reserved_range y.0) none kept_there
            (range_in n y.0.start y.0.end (subst (IsIn n) (sym y.2) k)),
      )

  number_kept : (i : ℕ) (full : Text) (n : ℤ) (d : Definition) → all_known full ≡ Some d
      → d.kind ≡ kind.Message i → IsExtensionNumber (linked_says batch.types) n (Some i)
      → KeepsForExtensions (outlines (map file_view all)) full n
  number_kept i full n d knows same (none, r, (inside, within)) =
      by (message_at batch.types i) refl where
        by : (o : Option StoredMessage) → message_at batch.types i ≡ o
            → KeepsForExtensions (outlines (map file_view all)) full n
        by None e = absurd (contains_none r (subst (λ l. Contains l r) (ap extensions_by e) inside))
        by (Some s) e =
            let m = message_known all (named_files old new ns w is has names batch kept) full d i
            (ap (λ (k : Known). k full) (sym (known_files old new ns w is has names batch kept)) ∙ knows) same in
            let declared = stored_at i m.own s m.place (at_both batch.types.old.now.messages.items
            batch.types.new.now.messages.items i s e) in
            ranges_keep full n i m s declared r
            (subst (λ l. Contains l r) (ap extensions_by e) inside) within
            (subst (λ l. pool.IsRangeOf l n None) (ap reserved_by e) none)

  pub numbers_keep : KeepNumbers given more (lawful_alone old new ns w is has names batch kept).meanings
  numbers_keep =
      let g = facts_of batch.types w.before w.first ns batch.references in
      let views = views_of all_known batch.means.right.sees in
      let ds = batch_declarations w.before w.first ns in
      let at = batch_places ns w.first in
      let met = all_met old new ns w is has names batch kept in
      let are = known_all old new ns w is has names batch kept in
      let named = indexes old new ns w is has names batch kept in
      let good = all_good all all_known are named batch.means.right.sees batch.types g at
      views ds (sym batch.means.right.faults) met in
      let os = outlines (map file_view all) in
      let same : os ≡ outlines (given ++ more) = ap outlines (map-append file_view old.records ns) in
      subst (KeepNumbers given more) (sym (meanings_alone old new ns w is has names batch kept))
      (λ c d i j.
      let f = contains_map_cases file_view ns c i in
      subst (λ ps. KeepsNumber ps d.body) same
      (batch_holds all all_known are named batch.means.right.sees batch.types g at
      (KeepsNumber os)
      (kept_seen all all_known are named batch.means.right.sees batch.types g at os number_kept)
      w.before w.first ns
      (names_at old new ns w is has names batch kept) good f.0 f.1 d
      (subst (λ x. Contains (declarations (linked (meanings all all_known are named
      batch.means.right.sees x) x)) d) (sym f.2) j)))

pub numbers_are : (old new : PoolType) (fs : List FileDescriptorProto) → IsWellNamed old
    → IsKept new → FaultlessFiles old fs new
    → (w : Linking) × IsOf old w
    × (l : AreLawfulAlone (map file_view old.records) (map file_view (new_files w.indexes fs))
    (map file_view new.records))
    × KeepNumbers (map file_view old.records) (map file_view (new_files w.indexes fs)) l.meanings
numbers_are old new fs has kept (w, is, (names, batch)) = (
  w,
  is,
  lawful_alone old new (new_files w.indexes fs) w is has names batch kept,
  numbers_keep old new (new_files w.indexes fs) w is has names batch kept,
)
