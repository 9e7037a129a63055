-- The names of a pool and of a batch behind it.
use Rattle.std.proofs.Common.{◌≡◌, ◌<◌, ◌+◌, ℕ, List, [], ◌∷◌, ◌++◌, map, length, Option, String, Global, ap, sym, subst, ◌∙◌, arith}
use Rattle.std.proofs.Math.ListN.{length-map, length-append}
use Rattle.std.proofs.lemmas.List.{append-nil}
use Rattle.std.specs.List.{AllByRecursion}
use Rattle.std.specs.BTreeMap.{BTreeMap}
use Rattle.descriptor_records.specs.declared.file.FileDescriptorProto.{FileDescriptorProto}
use Rattle.name_table.specs.declared.table.NameTable.{NameTable}
use Rattle.reflect_scope.specs.declared.definition.Definition.{Definition}
use Rattle.reflect_scope.specs.declared.seen.Links.{Links}
use Rattle.reflect_declarations.specs.Declarations.{Declaration}
use Rattle.reflect_declarations.specs.declared.offsets.Offsets.{Offsets}
use Rattle.reflect_declarations.specs.Batches.{batch_declarations, past_files}
use Rattle.reflect_scope.specs.Known.{Known, known_of}
use Rattle.reflect_scope.specs.FileIndexes.{indexes_of, link_view}
use Rattle.reflect_names.specs.FileNames.{with_files, files_faults}
use Rattle.reflect_names.specs.ImportedFiles.{links_to}
use Rattle.reflect_names.specs.Names.{Places}
use Rattle.reflect_names.specs.NameSteps.{KeepsFrom}
use Rattle.reflect_names.proofs.Declared.{below_more}
use Rattle.reflect_known.specs.KnownNames.{known_behind, counts_of_files}
use Rattle.reflect_names.specs.NamePass.{faults_along}
use Rattle.reflect_tables.specs.Types.{PoolType, FileType, ArePooled, MessageWithin, EnumWithin, ExtensionWithin, ServiceWithin, counts_of}
use Rattle.reflect_tables.specs.Names.{Sort, messages, enums, extensions, services, FullName, AreFound, AreInOrder, AreNamed, names_of, message_name, enum_name, extension_name, service_name, found}
use Rattle.reflect_known.specs.DeclaredNames.{with_names}
use Rattle.reflect_tables.specs.Views.{file_of, record_of, record_file, message_of, enum_of, extension_of, service_of, pool_of}
use Rattle.reflect_index.specs.DraftNames.{stored_message_name, stored_enum_name, stored_extension_name, stored_service_name}
use Rattle.reflect_tables.specs.declared.tables.Tables.{Tables}
use Rattle.reflect_index.proofs.Known.{offset}
use Rattle.reflect_index.proofs.Orders.{AreUpTo}
use Rattle.reflect_index.proofs.Batched.{Stand, batch_stands, names_behind}
use Rattle.reflect_tables.specs.ExtensionNumbers.{KeyType, numbers_of}
use Rattle.reflect_pool.specs.Linked.{IsLinked, AreIndexed, AreNumbered, AreRecorded, key_of}
use Rattle.reflect_pool.specs.AtPaths.{HaveRecords}
use Rattle.reflect_pool.specs.Stored.{AreStored}
use Rattle.reflect_build.specs.Accepted.{AddsRecords}
use Rattle.reflect_build.specs.Refusals.{CountsOf}
use Rattle.reflect_build.proofs.Recorded.{known_added, recorded_added, recorded_count}
use Rattle.reflect_build.proofs.Imported.{imports_more, links_more}
use Rattle.reflect_build.proofs.Indexed.{indexed_more}
use Rattle.reflect_build.proofs.Pooled.{map-append}
use Rattle.reflect_growth.proofs.Filters.{map_map}

up_to : {Y : Type 0} (name : Y → FullName) (P : Y → Type 0) (n : ℕ) → ((y : Y) → P y → (name y).1 < n) → (ys : List Y) → AllByRecursion P ys → AreUpTo n (map name ys)
up_to name P n step [] all = tt
up_to name P n step (y ∷ ys) all = let low = step y all.0 in (omega (arith, low), up_to name P n step ys all.1)

all_up_to : (p : PoolType) → ArePooled p → (s : Sort) → AreUpTo (length p.files) (names_of p s)
all_up_to p h messages = up_to message_name (MessageWithin (counts_of p)) (length p.files) (λ m w. w.file) p.messages h.messages
all_up_to p h enums = up_to enum_name (EnumWithin (counts_of p)) (length p.files) (λ m w. w.file) p.enums h.enums
all_up_to p h extensions = up_to extension_name (ExtensionWithin (counts_of p)) (length p.files) (λ m w. w.file) p.extensions h.extensions
all_up_to p h services = up_to service_name (ServiceWithin (counts_of p)) (length p.files) (λ m w. w.file) p.services h.services

all_counted : (p : PoolType) (o : Offsets) → CountsOf p o → (s : Sort) → length (names_of p s) ≡ offset s o
all_counted p o c messages = length-map p.messages message_name ∙ sym c.messages
all_counted p o c enums = length-map p.enums enum_name ∙ sym c.enums
all_counted p o c extensions = length-map p.extensions extension_name ∙ sym c.extensions
all_counted p o c services = length-map p.services service_name ∙ sym c.services

-- how much there is in a pool is what its records declare
pub counts_are : (p : PoolType) (o : Offsets) → CountsOf p o → AreRecorded p → o
    ≡ counts_of_files p.records
counts_are p o c recorded =
    let all : (s : Sort) → offset s o
    ≡ offset s (counts_of_files p.records) = λ s. sym (all_counted p o c s)
    ∙ recorded_count p recorded s in
    let ms = all messages in
    let es = all enums in
    let xs = all extensions in
    let ss = all services in
    λ i. record { messages = ms i; enums = es i; extensions = xs i; services = ss i }

-- the names of a pool, and behind them those of a batch without faults
pub named_more : (old new : PoolType) (known : Known) (at : ℕ → Places) (files : List ℕ → Option ℕ) (o : Offsets) (fs : List FileDescriptorProto) (now : Known)
    → ArePooled old → AreNamed known (names_of old) → CountsOf old o
    → now ≡ known_behind known (batch_declarations o (length old.files) fs) → faults_along at files known (batch_declarations o (length old.files) fs) ≡ []
    → ((s : Sort) → names_of new s ≡ names_of old s ++ with_names s [] (batch_declarations o (length old.files) fs))
    → AreNamed now (names_of new)
named_more old new known at files o fs now pooled named counts is none more =
    let ds = batch_declarations o (length old.files) fs in
    let stands : (s : Sort) → Stand s (known_behind known ds) (with_names s (names_of old s) ds) (length old.files + length fs) (past_files o fs) =
    λ s. batch_stands s at files known (names_of old s) o (length old.files) fs (record { found = named.found s; count = all_counted old o counts s; up_to = all_up_to old pooled s; in_order = named.in_order s }) none in
    let same : (s : Sort) → with_names s (names_of old s) ds ≡ names_of new s =
    λ s. ap (λ ns. with_names s ns ds) (sym (append-nil (names_of old s))) ∙ names_behind s (names_of old s) [] ds ∙ sym (more s) in
    record {
      found = λ s. subst (λ k. AreFound (found s k) (names_of new s)) (sym is) (subst (AreFound (found s (known_behind known ds))) (same s) (stands s).found);
      in_order = λ s. subst AreInOrder (same s) (stands s).in_order;
    }

-- the names of the tables' entries are those of the pool's
named_as : {X Y : Type 0} (f : Y → FullName) (g : X → Y) (news olds : List X) (more : List FullName) → map (λ x. f (g x)) news ≡ map (λ x. f (g x)) olds ++ more → map f (map g news) ≡ map f (map g olds) ++ more
named_as f g news olds more e = map_map f g news ∙ e ∙ ap (λ ns. ns ++ more) (sym (map_map f g olds))

-- each sort of names goes on with those of declarations
pub record GoesOn (old new : Tables) (ds : List Declaration) : Type 0 where
  pub messages : map stored_message_name new.messages.items ≡ map stored_message_name old.messages.items ++ with_names messages [] ds
  pub enums : map stored_enum_name new.enums.items ≡ map stored_enum_name old.enums.items ++ with_names enums [] ds
  pub extensions : map stored_extension_name new.extensions.items ≡ map stored_extension_name old.extensions.items ++ with_names extensions [] ds
  pub services : map stored_service_name new.services.items ≡ map stored_service_name old.services.items ++ with_names services [] ds

pub all_go_on : (old new : Tables) (ds : List Declaration) → GoesOn old new ds → (s : Sort) → names_of (pool_of new) s ≡ names_of (pool_of old) s ++ with_names s [] ds
all_go_on old new ds g messages = named_as message_name message_of new.messages.items old.messages.items _ g.messages
all_go_on old new ds g enums = named_as enum_name enum_of new.enums.items old.enums.items _ g.enums
all_go_on old new ds g extensions = named_as extension_name extension_of new.extensions.items old.extensions.items _ g.extensions
all_go_on old new ds g services = named_as service_name service_of new.services.items old.services.items _ g.services

pub linked_more : (old new : Tables) (were are : NameTable Definition) (had has : BTreeMap (String Global) ℕ) (marked marks : BTreeMap KeyType ℕ) (ls ks : List Links) (at : ℕ → Places) (o : Offsets) (first : ℕ) (fs : List FileDescriptorProto)
    → IsLinked (pool_of old) were had marked ls old.messages.items → CountsOf (pool_of old) o → first ≡ length old.files.items
    → indexes_of has ≡ with_files (indexes_of had) first fs → files_faults at (indexes_of had) first fs ≡ []
    → known_of are ≡ known_behind (known_of were) (batch_declarations o first fs) → faults_along at (with_files (indexes_of had) first fs) (known_of were) (batch_declarations o first fs) ≡ []
    → KeepsFrom first (length fs) (known_of were) (known_of are)
    → ArePooled (pool_of new) → map file_of new.files.items ≡ map file_of old.files.items ++ map record_file fs → GoesOn old new (batch_declarations o first fs)
    → AreNumbered (numbers_of marks) (map key_of (pool_of new).extensions) → map link_view ks
    ≡ map link_view ls ++ map (links_to (indexes_of has)) fs
    → AddsRecords (pool_of old) fs (pool_of new)
    → AreStored (pool_of new).records new.messages.items
    → HaveRecords (pool_of new)
    → IsLinked (pool_of new) are has marks ks new.messages.items
linked_more old new were are had has marked marks ls ks at o first fs linked counts start indexes
    single is none keeps pooled files goes numbered links adds stored placed =
    let olds : length (pool_of old).files ≡ length old.files.items = length-map old.files.items file_of in
    let count : length (pool_of new).files ≡ length (pool_of old).files + length fs = ap length files ∙ length-append (map file_of old.files.items) (map record_file fs) ∙ ap (λ n. length (pool_of old).files + n) (length-map fs record_file) in
    let from : first ≡ length (pool_of old).files = start ∙ sym olds in
    let name = λ (x : FileType). x.name in
    let place : length (map name (pool_of old).files) ≡ first = length-map (pool_of old).files name ∙ sym from in
    let indexed = subst (λ ns. AreIndexed (indexes_of has) ns) (sym (ap (map name) files ∙ map-append name (pool_of old).files (map record_file fs)))
    (subst (λ g. AreIndexed g (map name (pool_of old).files ++ map name (map record_file fs))) (sym indexes)
    (subst (λ n. AreIndexed (with_files (indexes_of had) n fs) (map name (pool_of old).files ++ map name (map record_file fs))) place
    (indexed_more at (indexes_of had) (map name (pool_of old).files) fs (subst (λ n. files_faults at (indexes_of had) n fs ≡ []) (sym place) single) linked.files))) in
    let same = counts_are (pool_of old) o counts linked.entries in
    let records : first ≡ length (pool_of old).records = start
    ∙ sym (length-map old.files.items record_of) in
    let found = subst (λ g. faults_along at g (known_of were) (batch_declarations o first fs) ≡ []) (sym indexes) none in
    record {
      pooled = pooled;
      named = named_more (pool_of old) (pool_of new) (known_of were) at (with_files (indexes_of had) first fs) o fs (known_of are) linked.pooled linked.named counts
          (subst (λ n. known_of are ≡ known_behind (known_of were) (batch_declarations o n fs)) from is)
          (subst (λ n. faults_along at (with_files (indexes_of had) first fs) (known_of were) (batch_declarations o n fs) ≡ []) from none)
          (λ s. subst (λ n. names_of (pool_of new) s ≡ names_of (pool_of old) s ++ with_names s [] (batch_declarations o n fs)) from (all_go_on old new (batch_declarations o first fs) goes s));
      below = keeps.bound (length (pool_of new).files) (omega (arith, count, from))
          (below_more (length (pool_of old).files) (length (pool_of new).files) (known_of were) (omega (arith, count)) linked.below);
      files = indexed;
      numbers = numbered;
      imports = imports_more (indexes_of had) (indexes_of has) (pool_of old).files (pool_of new).files fs files linked.files indexed linked.imports at (known_of were) o first found;
      to_imports = links_more (indexes_of had) (indexes_of has) (pool_of old).files (pool_of new).files fs files linked.files indexed linked.imports ls ks linked.to_imports links;
      known =
          known_added (pool_of old) (pool_of new) fs o first adds same records (known_of were)
          (known_of are) linked.known is;
      headers = sym (map_map record_file record_of new.files.items);
      entries =
          recorded_added (pool_of old) (pool_of new) fs o first adds same records linked.entries
          (all_go_on old new (batch_declarations o first fs) goes);
      stored = stored;
      placed = placed;
    }
