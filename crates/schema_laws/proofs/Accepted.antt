-- Where files are accepted, the new pool tells of the messages of the old one and of those of the
-- files.
use Rattle.std.proofs.Common.{◌≡◌, ◌+◌, ◌++◌, inl, inr, ℕ, true, List, map, length, Some, string_bytes, refl, sym, ap, ◌∙◌, subst, arith, slice_get}
use Rattle.std.specs.List.{Contains}
use Rattle.std.proofs.lemmas.List.{map-append}
use Rattle.descriptor_records.specs.Content.{extension_range_view, file_view}
use Rattle.descriptor_records.specs.declared.file.FileDescriptorProto.{FileDescriptorProto}
use Rattle.descriptor_records.specs.declared.message.DescriptorProto.{DescriptorProto}
use Rattle.reflect_build.specs.Accepted.{FaultlessBatch, FaultlessFiles}
use Rattle.reflect_build.specs.Refusals.{Linking, with_declared, IsOf, new_files}
use Rattle.reflect_build.proofs.Paths.{Leads, each_declared}
use Rattle.reflect_declarations.specs.Batches.{batch_declarations}
use Rattle.reflect_declarations.specs.Declarations.{Declaration, Body, of_message}
use Rattle.reflect_declarations.specs.Tree.{MessageParts, text_of}
use Rattle.reflect_index.specs.Along.{AtHand, Met, along, all_of, before_files, is_message}
use Rattle.reflect_index.specs.Entries.{Head, IsHeadOf, written_name}
use Rattle.reflect_index.specs.Grown.{message_head}
use Rattle.reflect_index.specs.Rewriting.{written}
use Rattle.reflect_index.proofs.Among.{Among, of_filter, of_place, place_of, get_map, zip_place}
use Rattle.reflect_index.proofs.Behind.{get_behind, which}
use Rattle.reflect_index.proofs.Declared.{of_along}
use Rattle.reflect_pool.specs.AtPaths.{Stands, message_name}
use Rattle.reflect_pool.specs.Linked.{empty_pool}
use Rattle.reflect_pool.specs.Records.{message_along}
use Rattle.reflect_tables.specs.Types.{PoolType, no_type, type_at}
use Rattle.reflect_tables.specs.Views.{message_of, pool_of}
use Rattle.reflect_tables.specs.declared.stored.StoredMessage.{StoredMessage}
use Rattle.linked_view.proofs.Places.{get_contains}
use Rattle.linked_view.proofs.Shown.{shown_in}
use Rattle.linked_view.proofs.Walked.{facts_in, seen_body}
use Rattle.schema_view.specs.Declarations as view
use Rattle.schema_view.proofs.Lists.{contains_map}
use Rattle.schema_view.proofs.Renames.{map_same}
use Rattle.settled_view.proofs.Many.{as_many}
use Rattle.settled_view.proofs.Unsettled.{rest_same}
use Rattle.schema_laws.specs.ToldMessages.{TellsMessages, ranges_of}
use Rattle.schema_laws.proofs.AlongPaths.{at_path, same_name, same_ranges}
use Rattle.schema_laws.proofs.Keepings.{kept_in, kept_of, written_keep}
use Rattle.schema_laws.proofs.Stays.{TellsType, kept_file, type_more}
use Rattle.schema_laws.proofs.Tellings.{told_alike}

message_body : (b : Body) → is_message b ≡ true → (own : MessageParts) × (b ≡ of_message own)
message_body (of_message own) is = (own, refl)
message_body b is = absurd (cc is)

module _ (old new : PoolType) (ns : List FileDescriptorProto) (w : Linking) (is : IsOf old w)
    (batch : FaultlessBatch (with_declared w ns) ns new) where
  abbrev all : List Declaration
  all = batch_declarations w.before w.first ns

  abbrev hand : AtHand
  hand = before_files batch.references

  abbrev items : List StoredMessage
  items = batch.types.new.now.messages.items

  -- ---- the records of the new pool

  abbrev more : List FileDescriptorProto
  more = batch.added.records.more

  records_are : new.records ≡ old.records ++ more
  records_are =
      batch.added.records.records ∙ ap (λ (p : PoolType). p.records ++ more) is.tables

  first_is : w.first ≡ length old.records
  first_is = is.first ∙ as_many old w is

  more_written : map file_view more ≡ written batch.references (map file_view ns)
  more_written =
      let olds : List FileDescriptorProto = (pool_of w.tables).records in
      rest_same (map file_view olds) (map file_view more)
      (written batch.references (map file_view ns))
      (sym (map-append file_view olds more)
      ∙ sym (ap (map file_view) batch.added.records.records) ∙ batch.records)

  more_kept : map kept_of ns ≡ map kept_of more
  more_kept =
      sym (map_same kept_in file_view kept_of (λ f. refl) ns)
      ∙ sym (written_keep batch.references (map file_view ns))
      ∙ ap (map kept_in) (sym more_written)
      ∙ map_same kept_in file_view kept_of (λ f. refl) more

  more_at : (k : ℕ) (f : FileDescriptorProto) → slice_get more k ≡ Some f
      → slice_get new.records (w.first + k) ≡ Some f
  more_at k f at =
      ap (λ n. slice_get new.records (n + k)) first_is
      ∙ ap (λ l. slice_get l (length old.records + k)) records_are
      ∙ get_behind old.records more k f at

  -- ---- a message of the batch

  -- the entry is that of a declaration
  record IsOfDeclaration (m : StoredMessage) : Type 0 where
    declaration : Declaration
    here : Among declaration all
    parts : MessageParts
    body : declaration.body ≡ of_message parts
    path : m.path.items ≡ declaration.path
    name : string_bytes m.name ≡ text_of parts.name
    full_name : string_bytes m.full_name ≡ declaration.name
    file : m.file ≡ declaration.file

  of_declaration : (k : ℕ) (m : StoredMessage) → slice_get items k ≡ Some m → IsOfDeclaration m
  of_declaration k m at =
      let zipped = zip_place IsHeadOf (all_of is_message (along hand all)) (map message_head items)
      k (message_head m) batch.declared.entries.messages (get_map message_head items k m at) in
      let found = of_filter (λ (x : Met). is_message x.declaration.body) zipped.0 (along hand all)
      (of_place zipped.0 (all_of is_message (along hand all)) k zipped.1) in
      let d : Declaration = zipped.0.declaration in
      let own = message_body d.body found.1 in
      record {
        declaration = d;
        here = of_along hand all zipped.0 found.0;
        parts = own.0;
        body = own.1;
        path = ap (λ (h : Head). h.path) zipped.2;
        name = ap (λ (h : Head). h.name) zipped.2 ∙ ap written_name own.1;
        full_name = ap (λ (h : Head). h.full_name) zipped.2;
        file = ap (λ (h : Head). h.file) zipped.2;
      }

  -- its record stands at its path in one of the files, which declares it under the full name
  record IsInFile (m : StoredMessage) : Type 0 where
    place : ℕ
    own : FileDescriptorProto
    at : slice_get ns place ≡ Some own
    file : m.file ≡ w.first + place
    described : DescriptorProto
    leads : message_along own m.path.items ≡ Some described
    named : message_name described ≡ string_bytes m.name
    facts : view.MessageFacts
    inside : Contains (view.declarations (file_view own))
        (record { name = string_bytes m.full_name; body = view.of_message facts })
    ranges : map view.extension_range facts.extensions ≡ ranges_of described

  in_file : (k : ℕ) (m : StoredMessage) → slice_get items k ≡ Some m → IsInFile m
  in_file k m at =
      let x = of_declaration k m at in
      let d : Declaration = x.declaration in
      let its = each_declared w.before w.first ns d x.here in
      let leads : Leads its.own d.path (of_message x.parts) =
      subst (Leads its.own d.path) x.body its.placed.leads in
      let spot = place_of d all x.here in
      let shown = shown_in w.before w.first ns d (get_contains all spot.0 d spot.1) in
      let file_is = its.placed.file_is in
      let file_shown = shown.file in
      let places : shown.place ≡ its.place = omega (arith, file_is, file_shown) in
      let files : shown.own ≡ its.own = cc (sym shown.at ∙ ap (slice_get ns) places ∙ its.at) in
      let facts : view.MessageFacts = facts_in x.parts in
      let v = shown.shown (view.of_message facts) (ap seen_body x.body) in
      let named : v.0.name ≡ string_bytes m.full_name = v.2 ∙ sym x.full_name in
      let bodies : v.0.body ≡ view.of_message facts = v.3 in
      let own : view.Declaration =
      record { name = string_bytes m.full_name; body = view.of_message facts } in
      let declared : ◌≡◌ {A = view.Declaration} v.0 own =
      λ i. record { name = named i; body = bodies i } in
      record {
        place = its.place;
        own = its.own;
        at = its.at;
        file = x.file ∙ file_is;
        described = leads.0;
        leads = ap (message_along its.own) x.path ∙ leads.1;
        named = ap (λ (p : MessageParts). text_of p.name) leads.2 ∙ sym x.name;
        facts = facts;
        inside = subst (λ (f : FileDescriptorProto). Contains (view.declarations (file_view f)) own)
            files (subst (Contains (view.declarations (file_view shown.own))) declared v.1);
        ranges = map_same view.extension_range extension_range_view
            (λ r. view.extension_range (extension_range_view r)) (λ r. refl) x.parts.extension_range
            ∙ ap (λ (p : MessageParts).
            map (λ r. view.extension_range (extension_range_view r)) p.extension_range)
            (sym leads.2);
      }

  -- and so it is of the linked record
  new_type : (k : ℕ) (m : StoredMessage) → slice_get items k ≡ Some m
      → TellsType new (message_of m)
  new_type k m at =
      let x = in_file k m at in
      let g = kept_file ns more more_kept x.place x.own x.at in
      let there = more_at x.place g.own g.at in
      let s = at_path x.own g.own g.same m.path.items x.described x.leads in
      let stands : Stands message_along message_name new m.file m.path.items
      (string_bytes m.name) = record {
        of_file = g.own;
        own = s.0;
        there = ap (slice_get new.records) x.file ∙ there;
        at = s.1;
        named = sym (same_name x.described s.0 s.2) ∙ x.named;
      } in
      let told = told_alike (file_view x.own) (file_view g.own) g.same (string_bytes m.full_name)
      x.facts x.inside in (
        s.0,
        (stands, refl),
        record {
          file = file_view g.own;
          facts = told.facts;
          there = contains_map file_view new.records g.own
              (get_contains new.records (w.first + x.place) g.own there);
          inside = told.inside;
          ranges = told.keeps ∙ x.ranges ∙ same_ranges x.described s.0 s.2;
        },
      )

  -- ---- all messages

  types_are : new.messages ≡ old.messages ++ map message_of items
  types_are =
      batch.added.messages ∙ ap (λ (p : PoolType). p.messages ++ map message_of items) is.tables

  batch_tells : TellsMessages old → TellsMessages new
  batch_tells tells i lt =
      elim (which message_of old.messages new.messages items i no_type types_are) [
        | inl (here, same) ↦ subst (TellsType new) (sym same)
            (type_more old new more records_are (type_at old i) (tells i here))
        | inr (inl later) ↦ subst (TellsType new) (sym later.is)
            (new_type later.place later.own later.at)
        | inr (inr past) ↦ (let le = past.0 in absurd (omega (arith, le, lt)))
      ]

pub accepted_tell : (old linked : PoolType) (files : List FileDescriptorProto)
    → TellsMessages old → FaultlessFiles old files linked → TellsMessages linked
accepted_tell old linked files tells (w, is, (names, batch)) =
    batch_tells old linked (new_files w.indexes files) w is batch tells

pub empty_tells : TellsMessages empty_pool
empty_tells i lt = absurd (omega (arith, lt))
