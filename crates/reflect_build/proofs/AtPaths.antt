-- Where no pass finds a fault in files, each entry of the pool that they are added to has its record.
use Rattle.std.proofs.Common.{◌≡◌, inl, inr, ◌<◌, ◌+◌, ◌++◌, ℕ, ℤ, Bool, true, List, map, length, Option, Some, refl, sym, ap, ◌∙◌, subst, arith, slice_get, slice_index_or}
use Rattle.std.proofs.lemmas.List.{length-map}
use Rattle.std.specs.List.{AllZip}
use Rattle.descriptor_records.specs.declared.enums.EnumDescriptorProto.{EnumDescriptorProto}
use Rattle.descriptor_records.specs.declared.enums.EnumValueDescriptorProto.{EnumValueDescriptorProto}
use Rattle.descriptor_records.specs.declared.field.OneofDescriptorProto.{OneofDescriptorProto}
use Rattle.descriptor_records.specs.declared.file.FileDescriptorProto.{FileDescriptorProto}
use Rattle.descriptor_records.specs.declared.message.DescriptorProto.{DescriptorProto}
use Rattle.descriptor_records.specs.declared.service.MethodDescriptorProto.{MethodDescriptorProto}
use Rattle.descriptor_records.specs.declared.service.ServiceDescriptorProto.{ServiceDescriptorProto}
use Rattle.reflect_declarations.specs.Batches.{batch_declarations}
use Rattle.reflect_declarations.specs.Declarations.{Declaration, Body, of_message, of_oneof, of_enum, of_enum_value, of_service, of_method}
use Rattle.reflect_declarations.specs.Tree.{text_of, MessageParts}
use Rattle.reflect_declarations.specs.declared.offsets.Offsets.{Offsets}
use Rattle.reflect_known.specs.GivenNames.{names_of_file}
use Rattle.reflect_index.specs.Along.{AtHand, Met, along, before_files, parts, is_part, is_message, is_oneof, is_enum, is_value, is_service, is_method}
use Rattle.reflect_index.specs.BatchEntries.{IsBatchOf}
use Rattle.reflect_index.specs.Entries.{OneofName, declared_oneof, IsOneofOf, declared_value, IsValueOf, IsMethodBy, IsMethodOf, written_name}
use Rattle.reflect_index.specs.Grown.{list_at, message_head, enum_head, service_head, oneof_name, stored_oneofs, stored_value_types, stored_methods}
use Rattle.reflect_index.specs.declared.batch.Batch.{Batch}
use Rattle.reflect_tables.specs.Types.{PoolType, FieldType, OneofType, ValueType, MethodType, MessageType, EnumType, ServiceType, ExtensionType, no_type, no_field, no_oneof, no_enum, no_extension, no_service}
use Rattle.reflect_tables.specs.Views.{record_file, oneof_of, message_of, enum_of, extension_of, service_of}
use Rattle.reflect_tables.specs.declared.stored.StoredEnum.{StoredEnum}
use Rattle.reflect_tables.specs.declared.stored.StoredMessage.{StoredMessage}
use Rattle.reflect_tables.specs.declared.stored.StoredService.{StoredService}
use Rattle.reflect_tables.proofs.Founds.{front}
use Rattle.reflect_pool.specs.Parts.{no_value, no_method}
use Rattle.reflect_pool.specs.Records.{message_along, field_along, oneof_along, enum_along, value_along, extension_along, service_along, method_along}
use Rattle.reflect_build.specs.Accepted.{FaultlessBatch}
use Rattle.reflect_build.specs.Refusals.{Linking, with_declared, IsOf}
use Rattle.reflect_index.proofs.Among.{Among, of_filter, of_place, in_map, get_at, get_map, got_map, zip_place}
use Rattle.reflect_index.proofs.Behind.{get_behind, which}
use Rattle.reflect_index.proofs.Declared.{both_true, parent_is, list_of, field_declared, extension_declared, of_along}
use Rattle.reflect_pool.specs.AtPaths.{Stands, HaveRecords, message_name, field_name, enum_name, value_name, service_name, method_name}
use Rattle.reflect_pool.specs.AtPaths as names
use Rattle.reflect_build.proofs.Alike.{Moves, AllMove, all_move}
use Rattle.reflect_build.proofs.Paths.{Leads, IsPartOf, HasWhole, IsDeclared, each_declared}
use Rattle.reflect_build.proofs.Stays.{KeepFiles, stays}
use Rattle.reflect_build.proofs.Wholes.{AreCounted, batch_counted, messages_counted, enums_counted, services_counted, headed, same_file}

-- ---- what a declaration leads to, by its sort

message_leads : (f : FileDescriptorProto) (path : List ℤ) (b : Body) → is_message b ≡ true
    → Leads f path b
    → (m : DescriptorProto) × (message_along f path ≡ Some m) × (message_name m ≡ written_name b)
message_leads f path (of_message own) is h =
    (h.0, h.1, ap (λ (p : MessageParts). text_of p.name) h.2)
message_leads f path b is h = absurd (cc is)

enum_leads : (f : FileDescriptorProto) (path : List ℤ) (b : Body) → is_enum b ≡ true
    → Leads f path b
    → (e : EnumDescriptorProto) × (enum_along f path ≡ Some e) × (enum_name e ≡ written_name b)
enum_leads f path (of_enum e) is h = (e, h, refl)
enum_leads f path b is h = absurd (cc is)

service_leads : (f : FileDescriptorProto) (path : List ℤ) (b : Body) → is_service b ≡ true
    → Leads f path b
    → (s : ServiceDescriptorProto) × (service_along f path ≡ Some s)
    × (service_name s ≡ written_name b)
service_leads f path (of_service s) is h = (s, h, refl)
service_leads f path b is h = absurd (cc is)

abbrev IsOneofFrom : Met → Body → OneofName → Type 0
IsOneofFrom m b o = elim b [ of_oneof r ↦ o ≡ declared_oneof m r | _ ↦ ⊥ ]

oneof_body : (m : Met) (b : Body) (o : OneofName) → IsOneofFrom m b o
    → (r : OneofDescriptorProto) × (b ≡ of_oneof r) × (o ≡ declared_oneof m r)
oneof_body m (of_oneof r) o h = (r, refl, h)
oneof_body m b o h = absurd h

abbrev IsValueFrom : Met → Body → ValueType → Type 0
IsValueFrom m b v = elim b [ of_enum_value r ↦ v ≡ declared_value m r | _ ↦ ⊥ ]

value_body : (m : Met) (b : Body) (v : ValueType) → IsValueFrom m b v
    → (r : EnumValueDescriptorProto) × (b ≡ of_enum_value r) × (v ≡ declared_value m r)
value_body m (of_enum_value r) v h = (r, refl, h)
value_body m b v h = absurd h

abbrev IsMethodFrom : Met → Body → MethodType → Type 0
IsMethodFrom m b x = elim b [ of_method r ↦ IsMethodBy m r x | _ ↦ ⊥ ]

method_body : (m : Met) (b : Body) (x : MethodType) → IsMethodFrom m b x
    → (r : MethodDescriptorProto) × (b ≡ of_method r) × IsMethodBy m r x
method_body m (of_method r) x h = (r, refl, h)
method_body m b x h = absurd h

module _ (old new : PoolType) (ns : List FileDescriptorProto) (w : Linking) (is : IsOf old w)
    (headers : old.files ≡ map record_file old.records)
    (batch : FaultlessBatch (with_declared w ns) ns new) where
  abbrev all : List Declaration
  all = batch_declarations w.before w.first ns

  abbrev b : Batch
  b = batch.types.new.now

  abbrev hand : AtHand
  hand = before_files batch.references

  abbrev kept : IsBatchOf batch.references w.before w.first all b
  kept = batch.declared.entries

  abbrev end : Offsets
  end = (batch_counted w.before w.first ns).0

  all_counted : AreCounted w.before all end
  all_counted = (batch_counted w.before w.first ns).1

  -- ---- the records of the new pool

  abbrev more : List FileDescriptorProto
  more = batch.added.records.more

  records_are : new.records ≡ old.records ++ more
  records_are = batch.added.records.records
      ∙ ap (λ (p : PoolType). p.records ++ more) is.tables

  first_is : w.first ≡ length old.records
  first_is = is.first ∙ ap (λ (l : List _). length l) headers
      ∙ length-map old.records record_file

  old_files : KeepFiles old new
  old_files n f at = record {
    own = f;
    at = ap (λ l. slice_get l n) records_are ∙ front old.records more n f at;
    moves = all_move f f refl;
  }

  record IsNewFile (q : ℕ) (f : FileDescriptorProto) : Type 0 where
    own : FileDescriptorProto
    at : slice_get new.records (w.first + q) ≡ Some own
    moves : AllMove f own

  new_file : (q : ℕ) (f : FileDescriptorProto) → slice_get ns q ≡ Some f → IsNewFile q f
  new_file q f at =
      let found = got_map names_of_file more q (names_of_file f)
      (ap (λ l. slice_get l q) batch.added.records.names ∙ get_map names_of_file ns q f at) in
      record {
        own = found.0;
        at = ap (slice_get new.records) (ap (λ n. n + q) first_is)
            ∙ ap (λ l. slice_get l (length old.records + q)) records_are
            ∙ get_behind old.records more q found.0 found.1;
        moves = all_move f found.0 found.2;
      }

  -- a record that a declaration leads to stands in the new pool
  stands_by : {X : Type 0} (along_path : FileDescriptorProto → List ℤ → Option X)
      (name_of : X → List ℕ)
      → ((f g : FileDescriptorProto) → AllMove f g → Moves along_path name_of f g)
      → (d : Declaration) (its : IsDeclared all ns w.first d) (x : X)
      → along_path its.own d.path ≡ Some x
      → (file : ℕ) (path : List ℤ) (name : List ℕ) → file ≡ w.first + its.place
      → path ≡ d.path → name ≡ name_of x → Stands along_path name_of new file path name
  stands_by along_path name_of moves d its x leads file path name in_file at_path called =
      let f = new_file its.place its.own its.at in
      let found = moves its.own f.own f.moves d.path x leads in
      record {
        of_file = f.own;
        own = found.0;
        there = ap (slice_get new.records) in_file ∙ f.at;
        at = ap (along_path f.own) at_path ∙ found.1;
        named = found.2 ∙ sym called;
      }

  declared : (d : Declaration) → Among d all → IsDeclared all ns w.first d
  declared = each_declared w.before w.first ns

  -- ---- messages, enums and services

  module _ (k : ℕ) (m : StoredMessage) (at : slice_get b.messages.items k ≡ Some m) where
    message_place : slice_get (map message_head b.messages.items) k ≡ Some (message_head m)
    message_place = get_map message_head b.messages.items k m at

    new_message : Stands message_along message_name new (message_of m).file (message_of m).path
        (message_of m).name
    new_message =
        let h = headed is_message (λ o. o.messages) messages_counted w.before hand all end
        all_counted (map message_head b.messages.items) kept.messages k (message_head m)
        message_place in
        let d = h.declaration in
        let its = declared d h.here in
        let r = message_leads its.own d.path d.body h.is its.placed.leads in
        stands_by message_along message_name (λ f g x. x.messages) d its r.0 r.1 (message_of m).file
        (message_of m).path (message_of m).name (h.file ∙ its.placed.file_is) h.path
        (h.name ∙ sym r.2)

    -- a part of the message stands in its file
    message_file : (w_file : ℕ) (parent : Option ℕ) → IsPartOf is_message w_file all parent
        → parent ≡ Some (w.before.messages + k) → (message_of m).file ≡ w_file
    message_file w_file parent whole up =
        let index : whole.whole.index ≡ w.before.messages + k = cc (sym whole.parent ∙ up) in
        same_file is_message (λ o. o.messages) messages_counted w.before hand all end all_counted
        (map message_head b.messages.items) kept.messages k (message_head m) message_place
        whole.whole whole.among whole.is index ∙ whole.file

  module _ (k : ℕ) (e : StoredEnum) (at : slice_get b.enums.items k ≡ Some e) where
    enum_place : slice_get (map enum_head b.enums.items) k ≡ Some (enum_head e)
    enum_place = get_map enum_head b.enums.items k e at

    new_enum : Stands enum_along enum_name new (enum_of e).file (enum_of e).path (enum_of e).name
    new_enum =
        let h = headed is_enum (λ o. o.enums) enums_counted w.before hand all end
        all_counted (map enum_head b.enums.items) kept.enums k (enum_head e) enum_place in
        let d = h.declaration in
        let its = declared d h.here in
        let r = enum_leads its.own d.path d.body h.is its.placed.leads in
        stands_by enum_along enum_name (λ f g x. x.enums) d its r.0 r.1 (enum_of e).file
        (enum_of e).path (enum_of e).name (h.file ∙ its.placed.file_is) h.path (h.name ∙ sym r.2)

    enum_file : (w_file : ℕ) (parent : Option ℕ) → IsPartOf is_enum w_file all parent
        → parent ≡ Some (w.before.enums + k) → (enum_of e).file ≡ w_file
    enum_file w_file parent whole up =
        let index : whole.whole.index ≡ w.before.enums + k = cc (sym whole.parent ∙ up) in
        same_file is_enum (λ o. o.enums) enums_counted w.before hand all end all_counted
        (map enum_head b.enums.items) kept.enums k (enum_head e) enum_place whole.whole whole.among
        whole.is index ∙ whole.file

  module _ (k : ℕ) (s : StoredService) (at : slice_get b.services.items k ≡ Some s) where
    service_place : slice_get (map service_head b.services.items) k ≡ Some (service_head s)
    service_place = get_map service_head b.services.items k s at

    new_service : Stands service_along service_name new (service_of s).file (service_of s).path
        (service_of s).name
    new_service =
        let h = headed is_service (λ o. o.services) services_counted w.before hand all end
        all_counted (map service_head b.services.items) kept.services k (service_head s)
        service_place in
        let d = h.declaration in
        let its = declared d h.here in
        let r = service_leads its.own d.path d.body h.is its.placed.leads in
        stands_by service_along service_name (λ f g x. x.services) d its r.0 r.1 (service_of s).file
        (service_of s).path (service_of s).name (h.file ∙ its.placed.file_is) h.path
        (h.name ∙ sym r.2)

    service_file : (w_file : ℕ) (parent : Option ℕ) → IsPartOf is_service w_file all parent
        → parent ≡ Some (w.before.services + k) → (service_of s).file ≡ w_file
    service_file w_file parent whole up =
        let index : whole.whole.index ≡ w.before.services + k = cc (sym whole.parent ∙ up) in
        same_file is_service (λ o. o.services) services_counted w.before hand all end all_counted
        (map service_head b.services.items) kept.services k (service_head s) service_place
        whole.whole whole.among whole.is index ∙ whole.file

  -- ---- their parts

  -- what an entry of a part is paired with
  record IsPart {X : Type 0} (OfMet : Met → X → Type 0) (whole : ℕ) (x : X) : Type 0 where
    its : Met
    here : Among its.declaration all
    up : its.declaration.parent ≡ Some whole
    says : OfMet its x

  part_at : {X : Type 0} (sort : Body → Bool) (OfMet : Met → X → Type 0) (i : ℕ) (xs : List X)
      → AllZip OfMet (parts sort i (along hand all)) xs → (j : ℕ) (x : X)
      → slice_get xs j ≡ Some x → IsPart OfMet i x
  part_at sort OfMet i xs zip j x at =
      let zipped = zip_place OfMet (parts sort i (along hand all)) xs j x zip at in
      let d = zipped.0.declaration in
      let whole = of_filter (is_part sort i) zipped.0 (along hand all)
      (of_place zipped.0 (parts sort i (along hand all)) j zipped.1) in
      record {
        its = zipped.0;
        here = of_along hand all zipped.0 whole.0;
        up = parent_is i d.parent (both_true (sort d.body) _ whole.1).1;
        says = zipped.2;
      }

  module _ (k : ℕ) (m : StoredMessage) (at : slice_get b.messages.items k ≡ Some m) (j : ℕ) where
    new_field : j < length (message_of m).fields
        → Stands field_along field_name new (message_of m).file
        (slice_index_or (message_of m).fields j no_field).path
        (slice_index_or (message_of m).fields j no_field).name
    new_field lt =
        let f : FieldType = slice_index_or (message_of m).fields j no_field in
        let d = field_declared batch.references w.before w.first ns b kept k m j f at
        (get_at (message_of m).fields j no_field lt) in
        let x = d.met.declaration in
        let its = declared x (of_along hand all d.met d.here) in
        let leads = subst (Leads its.own x.path) d.body its.placed.leads in
        let whole = subst (HasWhole (w.first + its.place) all x.parent) d.body its.placed.whole in
        stands_by field_along field_name (λ f g y. y.fields) x its d.own leads (message_of m).file
        f.path f.name (message_file k m at (w.first + its.place) x.parent whole d.parent)
        d.says.says.path d.says.says.name

    new_oneof : j < length (message_of m).oneofs
        → Stands oneof_along names.oneof_name new (message_of m).file
        (slice_index_or (message_of m).oneofs j no_oneof).path
        (slice_index_or (message_of m).oneofs j no_oneof).name
    new_oneof lt =
        let o : OneofType = slice_index_or (message_of m).oneofs j no_oneof in
        let stored = got_map oneof_of m.oneofs.items j o
        (get_at (message_of m).oneofs j no_oneof lt) in
        let p = part_at is_oneof IsOneofOf (w.before.messages + k)
        (list_at (map stored_oneofs b.messages.items) k) (kept.oneofs k) j (oneof_name stored.0)
        (ap (λ l. slice_get l j) (list_of stored_oneofs b.messages.items k m at)
        ∙ get_map oneof_name m.oneofs.items j stored.0 stored.1) in
        let x = p.its.declaration in
        let r = oneof_body p.its x.body (oneof_name stored.0) p.says in
        let its = declared x p.here in
        let leads = subst (Leads its.own x.path) r.1 its.placed.leads in
        let whole = subst (HasWhole (w.first + its.place) all x.parent) r.1 its.placed.whole in
        stands_by oneof_along names.oneof_name (λ f g y. y.oneofs) x its r.0 leads
        (message_of m).file o.path o.name
        (message_file k m at (w.first + its.place) x.parent whole p.up)
        (ap (λ (y : OneofType). y.path) (sym stored.2) ∙ ap (λ (y : OneofName). y.path) r.2)
        (ap (λ (y : OneofType). y.name) (sym stored.2) ∙ ap (λ (y : OneofName). y.name) r.2)

  new_value : (k : ℕ) (e : StoredEnum) (at : slice_get b.enums.items k ≡ Some e) (j : ℕ)
      → j < length (enum_of e).values
      → Stands value_along value_name new (enum_of e).file
      (slice_index_or (enum_of e).values j no_value).path
      (slice_index_or (enum_of e).values j no_value).name
  new_value k e at j lt =
      let v : ValueType = slice_index_or (enum_of e).values j no_value in
      let p = part_at is_value IsValueOf (w.before.enums + k)
      (list_at (map stored_value_types b.enums.items) k) (kept.values k) j v
      (ap (λ l. slice_get l j) (list_of stored_value_types b.enums.items k e at)
      ∙ get_at (enum_of e).values j no_value lt) in
      let x = p.its.declaration in
      let r = value_body p.its x.body v p.says in
      let its = declared x p.here in
      let leads = subst (Leads its.own x.path) r.1 its.placed.leads in
      let whole = subst (HasWhole (w.first + its.place) all x.parent) r.1 its.placed.whole in
      stands_by value_along value_name (λ f g y. y.values) x its r.0 leads (enum_of e).file v.path
      v.name (enum_file k e at (w.first + its.place) x.parent whole p.up)
      (ap (λ (y : ValueType). y.path) r.2) (ap (λ (y : ValueType). y.name) r.2)

  new_method : (k : ℕ) (s : StoredService) (at : slice_get b.services.items k ≡ Some s) (j : ℕ)
      → j < length (service_of s).methods
      → Stands method_along method_name new (service_of s).file
      (slice_index_or (service_of s).methods j no_method).path
      (slice_index_or (service_of s).methods j no_method).name
  new_method k s at j lt =
      let y : MethodType = slice_index_or (service_of s).methods j no_method in
      let p = part_at is_method IsMethodOf (w.before.services + k)
      (list_at (map stored_methods b.services.items) k) (kept.methods k) j y
      (ap (λ l. slice_get l j) (list_of stored_methods b.services.items k s at)
      ∙ get_at (service_of s).methods j no_method lt) in
      let x = p.its.declaration in
      let r = method_body p.its x.body y p.says in
      let its = declared x p.here in
      let leads = subst (Leads its.own x.path) r.1 its.placed.leads in
      let whole = subst (HasWhole (w.first + its.place) all x.parent) r.1 its.placed.whole in
      stands_by method_along method_name (λ f g z. z.methods) x its r.0 leads (service_of s).file
      y.path y.name (service_file k s at (w.first + its.place) x.parent whole p.up)
      r.2.path r.2.name

  new_extension : (x : ExtensionType) → Among x (map extension_of b.extensions.items)
      → Stands extension_along field_name new x.file x.field.path x.field.name
  new_extension x h =
      let d = extension_declared batch.references w.before w.first ns b kept x h in
      let y = d.met.declaration in
      let its = declared y (of_along hand all d.met d.here) in
      let leads = subst (Leads its.own y.path) d.body its.placed.leads in
      stands_by extension_along field_name (λ f g z. z.extensions) y its d.own leads x.file
      x.field.path x.field.name (d.by.file ∙ its.placed.file_is) d.by.field.says.path
      d.by.field.says.name

  -- ---- all entries of the new pool

  types_are : new.messages ≡ old.messages ++ map message_of b.messages.items
  types_are = batch.added.messages
      ∙ ap (λ (p : PoolType). p.messages ++ map message_of b.messages.items) is.tables

  enums_are : new.enums ≡ old.enums ++ map enum_of b.enums.items
  enums_are = batch.added.enums
      ∙ ap (λ (p : PoolType). p.enums ++ map enum_of b.enums.items) is.tables

  extensions_are : new.extensions ≡ old.extensions ++ map extension_of b.extensions.items
  extensions_are = batch.added.extensions
      ∙ ap (λ (p : PoolType). p.extensions ++ map extension_of b.extensions.items) is.tables

  services_are : new.services ≡ old.services ++ map service_of b.services.items
  services_are = batch.added.services
      ∙ ap (λ (p : PoolType). p.services ++ map service_of b.services.items) is.tables

  -- an entry is one of the old ones, or one of the batch
  entry_by : {X Y : Type 0} (view : Y → X) (olds news : List X) (stored : List Y) (none : X)
      → news ≡ olds ++ map view stored → (P : X → Type 0)
      → ((i : ℕ) → i < length olds → P (slice_index_or olds i none))
      → ((k : ℕ) (y : Y) → slice_get stored k ≡ Some y → P (view y))
      → (i : ℕ) → i < length news → P (slice_index_or news i none)
  entry_by view olds news stored none are P before behind i lt =
      elim (which view olds news stored i none are) [
        | inl (here, same) ↦ subst P (sym same) (before i here)
        | inr (inl later) ↦ subst P (sym later.is) (behind later.place later.own later.at)
        | inr (inr past) ↦ (let le = past.0 in absurd (omega (arith, le, lt)))
      ]

  module _ (has : HaveRecords old) where
    abbrev FieldsStand : MessageType → Type 0
    FieldsStand t = (j : ℕ) → j < length t.fields
        → Stands field_along field_name new t.file (slice_index_or t.fields j no_field).path
        (slice_index_or t.fields j no_field).name

    abbrev OneofsStand : MessageType → Type 0
    OneofsStand t = (j : ℕ) → j < length t.oneofs
        → Stands oneof_along names.oneof_name new t.file
        (slice_index_or t.oneofs j no_oneof).path (slice_index_or t.oneofs j no_oneof).name

    abbrev ValuesStand : EnumType → Type 0
    ValuesStand e = (j : ℕ) → j < length e.values
        → Stands value_along value_name new e.file (slice_index_or e.values j no_value).path
        (slice_index_or e.values j no_value).name

    abbrev MethodsStand : ServiceType → Type 0
    MethodsStand s = (j : ℕ) → j < length s.methods
        → Stands method_along method_name new s.file (slice_index_or s.methods j no_method).path
        (slice_index_or s.methods j no_method).name

    fields_has : (i : ℕ) → i < length new.messages
        → FieldsStand (slice_index_or new.messages i no_type)
    fields_has = entry_by message_of old.messages new.messages b.messages.items no_type types_are
        FieldsStand (λ i lt j less. stays old new old_files _ _ (λ f g m. m.fields) _ _ _ (has.fields i j lt less))
        (λ k m at j lt. new_field k m at j lt)

    oneofs_has : (i : ℕ) → i < length new.messages
        → OneofsStand (slice_index_or new.messages i no_type)
    oneofs_has = entry_by message_of old.messages new.messages b.messages.items no_type types_are
        OneofsStand (λ i lt j less. stays old new old_files _ _ (λ f g m. m.oneofs) _ _ _ (has.oneofs i j lt less))
        (λ k m at j lt. new_oneof k m at j lt)

    values_has : (i : ℕ) → i < length new.enums → ValuesStand (slice_index_or new.enums i no_enum)
    values_has = entry_by enum_of old.enums new.enums b.enums.items no_enum enums_are ValuesStand
        (λ i lt j less. stays old new old_files _ _ (λ f g m. m.values) _ _ _ (has.values i j lt less))
        (λ k e at j lt. new_value k e at j lt)

    methods_has : (i : ℕ) → i < length new.services
        → MethodsStand (slice_index_or new.services i no_service)
    methods_has = entry_by service_of old.services new.services b.services.items no_service
        services_are MethodsStand
        (λ i lt j less. stays old new old_files _ _ (λ f g m. m.methods) _ _ _ (has.methods i j lt less))
        (λ k s at j lt. new_method k s at j lt)

    pub added_has : HaveRecords new
    added_has = record {
      messages = entry_by message_of old.messages new.messages b.messages.items no_type types_are
          (λ t. Stands message_along message_name new t.file t.path t.name)
          (λ i lt. stays old new old_files _ _ (λ f g m. m.messages) _ _ _ (has.messages i lt))
          (λ k m at. new_message k m at);
      fields = λ i j lt less. fields_has i lt j less;
      oneofs = λ i j lt less. oneofs_has i lt j less;
      enums = entry_by enum_of old.enums new.enums b.enums.items no_enum enums_are
          (λ e. Stands enum_along enum_name new e.file e.path e.name)
          (λ i lt. stays old new old_files _ _ (λ f g m. m.enums) _ _ _ (has.enums i lt))
          (λ k e at. new_enum k e at);
      values = λ i j lt less. values_has i lt j less;
      extensions = entry_by extension_of old.extensions new.extensions b.extensions.items
          no_extension extensions_are
          (λ x. Stands extension_along field_name new x.file x.field.path x.field.name)
          (λ i lt. stays old new old_files _ _ (λ f g m. m.extensions) _ _ _ (has.extensions i lt))
          (λ k x at. new_extension (extension_of x)
          (in_map extension_of x b.extensions.items (of_place x b.extensions.items k at)));
      services = entry_by service_of old.services new.services b.services.items no_service
          services_are (λ s. Stands service_along service_name new s.file s.path s.name)
          (λ i lt. stays old new old_files _ _ (λ f g m. m.services) _ _ _ (has.services i lt))
          (λ k s at. new_service k s at);
      methods = λ i j lt less. methods_has i lt j less;
    }
