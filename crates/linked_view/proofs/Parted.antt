-- The types of maps' entries that accepted files declare have their parts in the pool, and no other
-- type has such parts.
use Rattle.std.proofs.Common.{◌≡◌, ◌+◌, ◌∙◌, inl, inr, ℕ, true, is_some, List, [], ◌++◌, Some, map, length, slice_get, ap, sym, subst, refl, arith}
use Rattle.std.specs.List.{AllByRecursion, Contains}
use Rattle.std.proofs.lemmas.List.Elements.{Contains-append_cases, Contains-append_left}
use Rattle.descriptor_records.specs.Content.{Text, FileContent, file_view}
use Rattle.descriptor_records.specs.declared.file.FileDescriptorProto.{FileDescriptorProto}
use Rattle.reflect_build.proofs.Marked.{all_say, marked}
use Rattle.reflect_build.specs.Accepted.{FaultlessBatch, FaultlessFiles}
use Rattle.reflect_build.specs.Refusals.{Linking, with_declared, IsOf, new_files}
use Rattle.reflect_index.proofs.Among.{place_of, get_map, got_map}
use Rattle.reflect_index.proofs.Behind.{get_behind}
use Rattle.reflect_index.specs.OfDeclarations.{messages_in, stored_ranges}
use Rattle.reflect_known.specs.KnownNames.{definition_of}
use Rattle.reflect_passes.specs.NameFaults.{name_faults}
use Rattle.reflect_pool.specs.Linked.{empty_pool}
use Rattle.reflect_pool.specs.Stored.{SaysEntry as MarksEntry}
use Rattle.reflect_scope.specs.declared.definition.DefinitionKind.TheVariants as kind
use Rattle.reflect_tables.specs.Names.{FullName, message_name, messages, place_in, place_of as place_by, with_file}
use Rattle.reflect_tables.specs.Types.{MessageType, PoolType}
use Rattle.reflect_tables.specs.Views.{message_of}
use Rattle.reflect_tables.specs.declared.stored.StoredMessage.{StoredMessage}
use Rattle.reflect_declarations.specs.Batches.{batch_declarations}
use Rattle.reflect_declarations.specs.Declarations as walk
use Rattle.reflect_walk.specs.MapEntries.{says_entry}
use Rattle.linked_view.specs.Kept.{IsKept}
use Rattle.linked_view.proofs.Declared.{declared_at, stands_in_batch}
use Rattle.schema_view.specs.Declarations.{MessageFacts}
use Rattle.schema_view.specs.Lawful.{Meanings, all_linked}
use Rattle.schema_view.specs.Rules.{SaysEntry}
use Rattle.schema_view.proofs.Lists.{contains_none, contains_map_cases}
use Rattle.linked_view.specs.Alone.{IsWellNamed}
use Rattle.linked_view.specs.Entries.{DeclaresEntry, HasDeclaredEntries, TellsEntries}
use Rattle.linked_view.specs.Extended.{IsIndexed}
use Rattle.linked_view.proofs.Accepted.{kept_at, lawful_alone}
use Rattle.linked_view.proofs.Entries.{IsAlong, are_found, knows_along, message_along}
use Rattle.linked_view.proofs.Indexed.{among}
use Rattle.linked_view.proofs.Marked.{declares_behind, declares_linked, declares_more}
use Rattle.linked_view.proofs.Named.{in_all}
use Rattle.linked_view.proofs.Places.{contains_get, get_contains}
use Rattle.linked_view.proofs.Shapes.{entry_from}
use Rattle.linked_view.proofs.Shown.{shown_in}
use Rattle.linked_view.proofs.Walked.{facts_in}

module _ (old new : PoolType) (ns : List FileDescriptorProto) (w : Linking) (is : IsOf old w)
    (has : IsWellNamed old) (names : name_faults w.indexes w.known w.before w.first ns ≡ [])
    (batch : FaultlessBatch (with_declared w ns) ns new) (kept : IsKept new) (index : IsIndexed new)
  where
    abbrev given : List FileContent
    given = map file_view old.records

    abbrev more : List FileContent
    more = map file_view ns

    abbrev ds : List walk.Declaration
    ds = batch_declarations w.before w.first ns

    abbrev items : List StoredMessage
    items = batch.types.new.now.messages.items

    types_are : new.messages ≡ old.messages ++ map message_of items
    types_are =
        batch.added.messages
        ∙ ap (λ (p : PoolType). p.messages ++ map message_of items) is.tables

    abbrev HasEntry : Text → Type 0
    HasEntry n =
        (t : MessageType) × Contains new.messages t × (t.full_name ≡ n) × (is_some t.entry ≡ true)

    -- the message at a place of the new ones has the name of its declaration
    name_at : (n : Text) (m : MessageFacts) (x : IsAlong ds n m) (j : ℕ) (s : StoredMessage)
        → x.own.index ≡ w.before.messages + j → slice_get items j ≡ Some s
        → Contains new.messages (message_of s) × ((message_of s).full_name ≡ n)
    name_at n m x j s place at =
        let d = x.own in
        let count = is.before.messages in
        let far : length old.messages + j ≡ d.index = omega (arith, count, place) in
        let there : slice_get new.messages d.index ≡ Some (message_of s) =
        ap (λ (ms : List MessageType). slice_get ms d.index) types_are
        ∙ ap (slice_get (old.messages ++ map message_of items)) (sym far)
        ∙ get_behind old.messages (map message_of items) j (message_of s)
        (get_map message_of items j s at) in
        let is_message : (definition_of d).kind ≡ kind.Message d.index =
        ap (λ b. (definition_of (record d { body = b })).kind) x.body in
        let named = (are_found old new ns w is has names batch kept index d.name d.index d.file).0
        (ap (place_in messages) (knows_along old new ns w is has names batch kept index n m x)
        ∙ ap (λ k. with_file (definition_of d) (place_by messages k)) is_message) in
        let same : ◌≡◌ {A = FullName} (message_name (message_of s)) (d.name, d.file) =
        cc (sym (get_map message_name new.messages d.index (message_of s) there) ∙ named) in (
          get_contains new.messages d.index (message_of s) there,
          ap (λ (q : FullName). q.0) same ∙ x.name,
        )

    -- the messages of the batch say that they are entries exactly where they have the parts
    all_marked : AllByRecursion MarksEntry items
    all_marked = all_say (with_declared w ns) ns batch.references batch.types batch.declared
        batch.numbers

    entry_parted : (n : Text) (m : MessageFacts) → IsAlong ds n m → SaysEntry m.options → HasEntry n
    entry_parted n m x says =
        let own = x.parts in
        let place = stands_in_batch w.before w.first ns x.own own (among ds x.own x.there) x.body in
        let r = kept_at (messages_in ds) (map stored_ranges items) place.0 own batch.declared.ranges
        place.2 in
        let s = got_map stored_ranges items place.0 r.0 r.1 in
        let declared = declared_at (messages_in ds) (map stored_ranges items) place.0 own
        (stored_ranges s.0) batch.declared.ranges place.2
        (get_map stored_ranges items place.0 s.0 s.1) in
        let entry = entry_from own.options
        (subst (λ (y : MessageFacts). SaysEntry y.options) (sym x.facts) says) in
        let marks : s.0.is_entry ≡ is_some s.0.entry =
        in_all MarksEntry items all_marked s.0 (get_contains items place.0 s.0 s.1) in
        let named = name_at n m x place.0 s.0 place.1 s.1 in
        (message_of s.0, named.0, named.1, sym marks ∙ declared.is_entry ∙ entry)

    entries_new : TellsEntries old → TellsEntries new
    entries_new tells f d m i j body says =
        let alone = lawful_alone old new ns w is has names batch kept in
        let after = all_linked alone.meanings more in
        elim (Contains-append_cases given after f (subst (λ fs. Contains fs f) alone.stand i)) [
          | inl k ↦ (
              let t = tells f d m k j body says in (
                t.0,
                subst (λ ms. Contains ms t.0) (sym types_are)
                    (Contains-append_left old.messages (map message_of items) t.0 t.1),
                t.2,
                t.3,
              ))
          | inr k ↦ (
              let x = message_along old new ns w is has names batch kept index alone.meanings f d m k j body in
              entry_parted d.name m x says)
        ]

    -- a new type that has the parts of an entry is declared as one by the linked files
    entry_declared : (meanings : Meanings) (t : MessageType) → Contains (map message_of items) t
        → is_some t.entry ≡ true → DeclaresEntry (all_linked meanings more) t.full_name
    entry_declared meanings t h parts =
        let s = contains_map_cases message_of items t h in
        let place = contains_get items s.0 s.1 in
        let its = marked (with_declared w ns) ns batch.references batch.types batch.declared place.0
        s.0 place.1 in
        let d = its.declared.declaration in
        let stands = place_of d ds its.declared.among in
        let there = get_contains ds stands.0 d stands.1 in
        let x : IsAlong ds d.name (facts_in its.own) = record {
          own = d;
          parts = its.own;
          there = there;
          body = its.declared.body;
          name = refl;
          facts = refl;
        } in
        let named = name_at d.name (facts_in its.own) x place.0 s.0 its.declared.is place.1 in
        let marks : s.0.is_entry ≡ is_some s.0.entry =
        in_all MarksEntry items all_marked s.0 s.1 in
        let says : says_entry its.own.options ≡ true =
        sym its.says ∙ marks ∙ ap (λ (y : MessageType). is_some y.entry) s.2 ∙ parts in
        subst (DeclaresEntry (all_linked meanings more))
        (sym named.1 ∙ ap (λ (y : MessageType). y.full_name) s.2)
        (declares_linked meanings w.first ns d (shown_in w.before w.first ns d there) its.own
        its.declared.body says)

    declared_new : HasDeclaredEntries old → HasDeclaredEntries new
    declared_new declared t h parts =
        let alone = lawful_alone old new ns w is has names batch kept in
        let after = all_linked alone.meanings more in
        subst (λ fs. DeclaresEntry fs t.full_name) (sym alone.stand)
        (elim (Contains-append_cases old.messages (map message_of items) t
        (subst (λ ms. Contains ms t) types_are h)) [
          | inl k ↦ declares_more given after t.full_name (declared t k parts)
          | inr k ↦ declares_behind given after t.full_name
              (entry_declared alone.meanings t k parts)
        ])

pub pool_entries : (old new : PoolType) (fs : List FileDescriptorProto) → IsWellNamed old
    → IsIndexed new → IsKept new → TellsEntries old → FaultlessFiles old fs new → TellsEntries new
pool_entries old new fs has index kept tells (w, is, (names, batch)) =
    entries_new old new (new_files w.indexes fs) w is has names batch kept index tells

pub pool_declared : (old new : PoolType) (fs : List FileDescriptorProto) → IsWellNamed old
    → IsIndexed new → IsKept new → HasDeclaredEntries old → FaultlessFiles old fs new
    → HasDeclaredEntries new
pool_declared old new fs has index kept declared (w, is, (names, batch)) =
    declared_new old new (new_files w.indexes fs) w is has names batch kept index declared

-- a pool without files has no messages
pub empty_entries : TellsEntries empty_pool
empty_entries f d m i j body says = absurd (contains_none f i)

pub empty_declared : HasDeclaredEntries empty_pool
empty_declared t h parts = absurd (contains_none t h)
