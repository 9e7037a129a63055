-- The types of maps' entries of accepted files are used once among these, as maps.
use Rattle.std.proofs.Common.{◌≡◌, ◌∙◌, ◌+◌, List, [], ◌++◌, Some, map, ap, sym, subst, refl}
use Rattle.std.specs.List.{filter, Contains}
use Rattle.descriptor_records.specs.Content.{Text, FileContent, file_view}
use Rattle.descriptor_records.specs.declared.file.FileDescriptorProto.{FileDescriptorProto}
use Rattle.reflect_scope.specs.declared.definition.DefinitionKind.TheVariants as kind
use Rattle.reflect_scope.specs.Known.{Known}
use Rattle.reflect_faults.specs.Faults.{batch_places}
use Rattle.reflect_names.specs.ReferencePass.{views_of}
use Rattle.reflect_passes.specs.Linked.{linked_values}
use Rattle.reflect_passes.specs.NameFaults.{name_faults}
use Rattle.reflect_tables.specs.Types.{PoolType}
use Rattle.reflect_declarations.specs.Batches.{batch_declarations}
use Rattle.reflect_build.specs.Accepted.{FaultlessBatch}
use Rattle.reflect_build.specs.Refusals.{Linking, with_declared, IsOf, new_files}
use Rattle.linked_view.specs.Kept.{IsKept}
use Rattle.schema_view.specs.Declarations.{Body, of_message, Declaration, declarations}
use Rattle.schema_view.specs.References.{linked}
use Rattle.schema_view.proofs.Lists.{contains_map, contains_map_cases}
use Rattle.linked_view.specs.Alone.{IsWellNamed, AreLawfulAlone}
use Rattle.linked_view.specs.Passed.{facts_of}
use Rattle.linked_view.proofs.Accepted.{all_met, known_files, named_files, told, known, known_all, indexes, names_at, lawful_alone, meanings_alone}
use Rattle.linked_view.proofs.Linked.{meanings}
use Rattle.reflect_passes.specs.Linked.{linked_says}
use Rattle.reflect_declarations.specs.Declarations as walk
use Rattle.reflect_declarations.specs.Tree.{MessageParts}
use Rattle.schema_view.specs.Declarations as view
use Rattle.linked_view.proofs.Named.{in_all}
use Rattle.std.specs.Prelude.{true}
use Rattle.linked_view.specs.Extended.{IsIndexed}
use Rattle.reflect_tables.specs.Names.{names_of}
use Rattle.reflect_tables.specs.Names.{found}
use Rattle.reflect_build.specs.Accepted.{FaultlessFiles}
use Rattle.linked_view.proofs.Telling.{known_new}
use Rattle.reflect_declarations.specs.Batches.{batch_declarations}
use Rattle.reflect_walk.specs.MapEntries.{says_entry}
use Rattle.reflect_rules.specs.Uses.{users}
use Rattle.reflect_known.specs.KnownNames.{definition_of}
use Rattle.reflect_tables.specs.Names.{AreFound, messages}
use Rattle.schema_view.specs.Lawful.{all_linked, IsOneMap, Meanings}
use Rattle.schema_view.specs.Rules.{SaysEntry}
use Rattle.schema_view.specs.References.{Reference, Target, dotted}
use Rattle.schema_view.proofs.Renames.{rename_body, renamed, declarations_renamed}
use Rattle.schema_view.proofs.Lists.{contains_there}
use Rattle.linked_view.specs.AtHand.{IsMetBy}
use Rattle.linked_view.specs.Entries.{HaveOneUse}
use Rattle.linked_view.specs.Ruled.{TellsOf}
use Rattle.linked_view.proofs.Known.{file_batch}
use Rattle.linked_view.proofs.Listed.{batch_listed}
use Rattle.linked_view.proofs.Once.{names_it, written_uses, one_use_map}
use Rattle.linked_view.proofs.Places.{contains_get}
use Rattle.linked_view.proofs.Ranged.{known_message}
use Rattle.linked_view.proofs.Shapes.{entry_from}
use Rattle.linked_view.proofs.Used.{uses_by, uses_of, uses_along, gives_uses, used, one_map}
use Rattle.linked_view.proofs.Walked.{Seen, seen, seen_body, told as told_of, facts_in, inner_declarations, file_seen}
use Rattle.reflect_declarations.specs.Declarations.{file_declaration}

-- a message stays one under other names
message_stays : (names : Reference → Target) (n : Text) (b : Body) (m : view.MessageFacts)
    → rename_body names n b ≡ of_message m → b ≡ of_message m
message_stays names n (of_message x) m e = e
message_stays names n b m e = absurd (cc e)

-- what is seen as a message is one
message_seen : (b : walk.Body) (m : view.MessageFacts) → seen_body b ≡ Some (of_message m)
    → (own : MessageParts) × (b ≡ walk.of_message own) × (facts_in own ≡ m)
message_seen (walk.of_message own) m e =
    let whole : view.of_message (facts_in own) ≡ of_message m = cc e in
    let same : facts_in own ≡ m = cc whole in (own, refl, same)
message_seen b m e = absurd (cc e)

-- a message of a batch, linked, is that of a declaration along it
pub record IsAlong (ds : List walk.Declaration) (n : Text) (m : view.MessageFacts) : Type 0 where
  pub own : walk.Declaration
  pub parts : MessageParts
  pub there : Contains ds own
  pub body : own.body ≡ walk.of_message parts
  pub name : own.name ≡ n
  pub facts : facts_in parts ≡ m

module _ (old new : PoolType) (ns : List FileDescriptorProto) (w : Linking) (is : IsOf old w)
    (has : IsWellNamed old) (names : name_faults w.indexes w.known w.before w.first ns ≡ [])
    (batch : FaultlessBatch (with_declared w ns) ns new) (kept : IsKept new)
    (index : IsIndexed new) where
  abbrev given : List FileContent
  given = map file_view old.records

  abbrev more : List FileContent
  more = map file_view ns

  abbrev all_known : Known
  all_known = known old new ns w is has names batch kept

  abbrev all : List FileDescriptorProto
  all = old.records ++ ns

  abbrev ds : List walk.Declaration
  ds = batch_declarations w.before w.first ns

  -- a message of the linked files, as it was before
  message_source : (meanings : Meanings) (f : FileContent) (d : Declaration)
      (m : view.MessageFacts)
      → Contains (all_linked meanings more) f → Contains (declarations f) d → d.body ≡ of_message m
      → (c : FileContent) × (x : Declaration) × Contains more c × Contains (declarations c) x
      × (x.body ≡ of_message m) × (x.name ≡ d.name)
  message_source meanings f d m i j e =
      let c = contains_map_cases (λ (x : FileContent). linked (meanings x) x) more f i in
      let namings : Reference → Target = λ r. dotted (meanings c.0 r) in
      let x = contains_map_cases (renamed namings) (declarations c.0) d
      (subst (λ l. Contains l d) (declarations_renamed namings c.0)
      (subst (λ (y : FileContent). Contains (declarations y) d) (sym c.2) j)) in (
        c.0,
        x.0,
        c.1,
        x.1,
        message_stays namings x.0.name x.0.body m (ap (λ (y : Declaration). y.body) x.2 ∙ e),
        ap (λ (y : Declaration). y.name) x.2,
      )

  pub message_along : (meanings : Meanings) (f : FileContent) (d : Declaration)
      (m : view.MessageFacts)
      → Contains (all_linked meanings more) f → Contains (declarations f) d → d.body ≡ of_message m
      → IsAlong ds d.name m
  message_along meanings f d m i j e =
      let s = message_source meanings f d m i j e in
      let g = contains_map_cases file_view ns s.0 s.2 in
      let k = contains_get ns g.0 g.1 in
      let q = file_batch w.before w.first ns k.0 g.0 k.1 in
      let inner = inner_declarations q.0 (w.first + k.0) g.0 in
      let x = contains_map_cases seen inner (told_of s.1)
      (subst (λ l. Contains l (told_of s.1)) (sym (file_seen q.0 (w.first + k.0) g.0))
      (contains_map told_of (declarations (file_view g.0)) s.1
      (subst (λ (y : FileContent). Contains (declarations y) s.1) (sym g.2) s.3))) in
      let own = message_seen x.0.body m (ap (λ (y : Seen). y.1) x.2 ∙ ap Some s.4) in
      record {
        own = x.0;
        parts = own.0;
        there = q.1 x.0 (contains_there (file_declaration [] (w.first + k.0) g.0) inner x.0 x.1);
        body = own.1;
        name = ap (λ (y : Seen). y.0) x.2 ∙ s.5;
        facts = own.2;
      }

  -- it is known by its name, for its index
  pub knows_along : (n : Text) (m : view.MessageFacts) → (along : IsAlong ds n m)
      → all_known along.own.name ≡ Some (definition_of along.own)
  knows_along n m along = known_message old ns w is has (named_files old new ns w is has names batch kept) all_known (known_files old new ns w is has names batch kept)
      along.own along.parts along.there along.body

  pub are_found : AreFound (found messages all_known) (names_of new messages)
  are_found = subst (λ k. AreFound (found messages k) (names_of new messages))
      (known_new old new ns w is has names batch kept) (index.named.found messages)

  abbrev meant : Meanings
  meant = meanings all all_known (known_all old new ns w is has names batch kept)
      (indexes old new ns w is has names batch kept) batch.means.right.sees

  uses_are : uses_along (views_of all_known batch.means.right.sees) ds
      ≡ written_uses (all_linked meant more)
  uses_are = batch_listed uses_by uses_of all all_known (known_all old new ns w is has names batch kept)
      (indexes old new ns w is has names batch kept) batch.means.right.sees
      (gives_uses all all_known (known_all old new ns w is has names batch kept)
      (indexes old new ns w is has names batch kept) batch.means.right.sees) w.before w.first ns
      (names_at old new ns w is has names batch kept)

  entry_once : (n : Text) (m : view.MessageFacts) → IsAlong ds n m → SaysEntry m.options
      → IsOneMap (all_linked meant more) n
  entry_once n m along says =
      let x = along.own in
      let g = facts_of batch.types w.before w.first ns batch.references in
      let views = views_of all_known batch.means.right.sees in
      let at = batch_places ns w.first in
      let met = all_met old new ns w is has names batch kept in
      let own_met = subst (λ b. IsMetBy g (linked_values batch.types) (views x.file)
      (record x { body = b })) along.body
      (in_all (λ (d : walk.Declaration). IsMetBy g (linked_values batch.types) (views d.file) d) ds met x
      along.there) in
      let own_told = subst (λ b. TellsOf (linked_says batch.types) (record x { body = b })) along.body
      (in_all (TellsOf (linked_says batch.types)) ds (told old new ns w is has names batch kept) x
      along.there) in
      let entry : says_entry along.parts.options ≡ true = entry_from along.parts.options
      (subst (λ (y : view.MessageFacts). SaysEntry y.options) (sym along.facts) says) in
      let knows = knows_along n m along in
      let is_message : (definition_of x).kind ≡ kind.Message x.index =
      ap (λ b. (definition_of (record x { body = b })).kind) along.body in
      let is_entry : (linked_says batch.types).is_entry x.index ≡ true = own_told.is_entry ∙ entry in
      let zip = used (names_of new messages) all_known are_found (linked_says batch.types) x.name
      (definition_of x) x.index knows is_message is_entry batch.means.right.sees at batch.references ds
      (sym batch.means.right.faults) batch.means.right.targets in
      let one = one_map (names_of new messages) all_known are_found (linked_says batch.types) x.name
      (definition_of x) x.index knows is_message is_entry batch.means.right.sees at
      (filter (names_it x.name) (uses_along views ds))
      (users (linked_says batch.types) x.index batch.references ds) zip (own_met entry) in
      subst (IsOneMap (all_linked meant more)) along.name
      (one_use_map x.name (all_linked meant more) one.0
      (ap (filter (names_it x.name)) (sym uses_are) ∙ one.1) one.2 one.3)

  pub entries_once : HaveOneUse (all_linked (lawful_alone old new ns w is has names batch kept).meanings more)
  entries_once =
      subst (λ ms. HaveOneUse (all_linked ms more))
      (sym (meanings_alone old new ns w is has names batch kept))
      (λ f d m i j e says. entry_once d.name m (message_along meant f d m i j e) says)

pub entries_are : (old new : PoolType) (fs : List FileDescriptorProto) → IsWellNamed old
    → IsIndexed new → IsKept new → FaultlessFiles old fs new
    → (w : Linking) × IsOf old w
    × (l : AreLawfulAlone (map file_view old.records) (map file_view (new_files w.indexes fs))
    (map file_view new.records))
    × HaveOneUse (all_linked l.meanings (map file_view (new_files w.indexes fs)))
entries_are old new fs has index kept (w, is, (names, batch)) = (
  w,
  is,
  lawful_alone old new (new_files w.indexes fs) w is has names batch kept,
  entries_once old new (new_files w.indexes fs) w is has names batch kept index,
)
