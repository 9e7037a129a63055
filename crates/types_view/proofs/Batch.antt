-- The entries of accepted files tell of their fields.
use Rattle.std.proofs.Common.{◌≡◌, ◌∙◌, inl, inr, ◌+◌, ◌<◌, ◌&&◌, ◌==◌, ℕ, suc, Bool, true, false, List, [], ◌∷◌, ◌++◌, Option, Some, is_some, length, map, slice_get, slice_index_or, unwrap_or, ap, sym, subst, refl, arith}
use Rattle.std.specs.List.{AllZip, Contains, filter, flat_map}
use Rattle.std.proofs.lemmas.List.{map-append}
use Rattle.std.proofs.lemmas.List.Concat.{flat_map-append}
use Rattle.std.proofs.lemmas.List.Elements.{Contains-append_cases, Contains-append_left, Contains-append_right}
use Rattle.descriptor_records.specs.Content.{Text, FieldContent, FileContent, field_view, file_view, text_view}
use Rattle.descriptor_records.specs.declared.field.FieldDescriptorProto.{FieldDescriptorProto}
use Rattle.descriptor_records.specs.declared.file.FileDescriptorProto.{FileDescriptorProto}
use Rattle.reflect_build.proofs.Stored.{zip_both}
use Rattle.reflect_build.specs.Accepted.{FaultlessBatch, FaultlessFiles}
use Rattle.reflect_build.specs.Refusals.{IsOf, Linking, new_files, with_declared}
use Rattle.reflect_fields.specs.Fields as fields
use Rattle.reflect_index.proofs.Among.{Among, got_map, of_all, of_place, place_of, get_map, zip_place}
use Rattle.reflect_index.proofs.Declared.{ExtensionDeclared, FieldDeclared, extension_declared, field_declared, list_of, of_along}
use Rattle.reflect_index.specs.Along.{AtHand, Met, along, all_of, before_files, hand_behind, is_field, is_message, parts}
use Rattle.reflect_index.specs.Entries.{DeclaredField, HasKind, Head, IsFieldBy, IsFieldOf, IsHeadOf}
use Rattle.reflect_index.specs.Grown.{declared_field, list_at, message_head, stored_fields}
use Rattle.reflect_index.specs.Members.{MarksOneofs}
use Rattle.reflect_faults.specs.Faults.{batch_places}
use Rattle.reflect_names.specs.Names.{Places}
use Rattle.reflect_names.specs.ReferencePass.{views_of}
use Rattle.reflect_names.specs.References.{View, reference_faults, reference_faults_at, targets_of}
use Rattle.reflect_names.specs.ReferenceSteps.{target_of}
use Rattle.reflect_passes.specs.NameFaults.{name_faults}
use Rattle.reflect_pool.specs.Linked.{empty_pool}
use Rattle.reflect_scope.specs.FileIndexes.{Indexes}
use Rattle.reflect_scope.specs.Known.{Known}
use Rattle.reflect_scope.specs.declared.definition.DefinitionKind.TheVariants as kind
use Rattle.reflect_scope.specs.declared.definition.ResolveNameFilter.TheVariants as filter
use Rattle.reflect_tables.specs.Names.{AreFound, FullName, enum_name, enums, found, message_name, messages, names_of}
use Rattle.reflect_tables.specs.Types.{ExtensionType, FieldType, IsAmong, KindType, ListsMembers, MessageType, MessageWithin, PoolType, counts_of, is_member, no_oneof}
use Rattle.reflect_tables.specs.Types as types
use Rattle.reflect_tables.specs.Views.{enum_of, extension_of, field_of, message_of, syntax_type}
use Rattle.reflect_tables.specs.declared.stored.StoredField.{StoredField}
use Rattle.reflect_tables.specs.declared.stored.StoredMessage.{StoredMessage}
use Rattle.reflect_tables.proofs.Founds.{front}
use Rattle.reflect_declarations.specs.Batches.{batch_declarations}
use Rattle.reflect_declarations.specs.Declarations.{Body, Declaration, of_file, of_message, of_field, of_oneof, of_enum, of_enum_value, of_service, of_method, of_extension}
use Rattle.reflect_declarations.specs.Tree.{MessageParts}
use Rattle.linked_view.specs.Kept.{IsKept}
use Rattle.schema_view.specs.Declarations as view
use Rattle.schema_view.specs.Files.{is_proto3}
use Rattle.schema_view.specs.Lawful.{Meanings, all_linked}
use Rattle.schema_view.specs.References as linking
use Rattle.schema_view.specs.References.{fill_type, linked, rename_message_type, rename_type}
use Rattle.schema_view.proofs.Lists.{contains_map, contains_map_cases, contains_none}
use Rattle.schema_view.proofs.Renames.{declarations_renamed, rename_body, renamed}
use Rattle.linked_view.specs.Alone.{IsWellNamed}
use Rattle.linked_view.specs.AtHand.{kind_by}
use Rattle.linked_view.specs.Extended.{IsIndexed}
use Rattle.linked_view.specs.Known.{AreKnown}
use Rattle.linked_view.proofs.Accepted.{indexes, known, known_all, names_at, stand_linked}
use Rattle.linked_view.proofs.AtHand.{IsResolved, at_hand, extension_at_hand, resolved_one, resolved_type}
use Rattle.linked_view.proofs.Faults.{none_both}
use Rattle.linked_view.proofs.Indexed.{among}
use Rattle.linked_view.proofs.Linked.{meanings, sees_at}
use Rattle.linked_view.proofs.Listed.{batch_listed, listed_along, listed_seen, see}
use Rattle.linked_view.proofs.Places.{contains_get, get_contains}
use Rattle.linked_view.proofs.Shown.{IsShown, shown_in}
use Rattle.linked_view.proofs.Telling.{known_new}
use Rattle.linked_view.proofs.Walked.{facts_in, name_seen, seen, seen_body, text_seen}
use Rattle.types_view.specs.Fields.{HoldsKind, IsListed, IsTold, IsToldExtension, IsToldField, IsWrittenAt, ListsFields, NamedMessage, TellsFields, messages_in, written_messages}
use Rattle.types_view.proofs.Entered as entered
use Rattle.types_view.proofs.Entered.{extension_entered, field_entered, linked_extendee, linked_group, linked_holds, linked_unnamed, syntax_is}
use Rattle.types_view.proofs.Listed.{number_same}
use Rattle.types_view.proofs.Lone.{marked}
use Rattle.types_view.proofs.Walk.{HasNext, IsOwn, Pending, batch_pending, contains_among, fields_own, has_next, has_syntax, past_files}

-- ---- more names, and more files

written_more : (names more : List FullName) (o : Option Text) (i : ℕ) → IsWrittenAt names o i
    → IsWrittenAt (names ++ more) o i
written_more names more o i w = record {
  full = w.full;
  file = w.file;
  written = w.written;
  there = front names more i (w.full, w.file) w.there;
}

holds_more : (ms es more others : List FullName) (c : FieldContent) (k : KindType) → HoldsKind ms es c k
    → HoldsKind (ms ++ more) (es ++ others) c k
holds_more ms es more others c (types.message i) h = written_more ms more c.type_name i h
holds_more ms es more others c (types.enumeration i) h = written_more es others c.type_name i h
holds_more ms es more others c k h = h

told_more : (ms es more others : List FullName) (fs gs : List FileContent) (extension : Bool)
    (e : FieldType) → IsTold ms es fs extension e
    → IsTold (ms ++ more) (es ++ others) (fs ++ gs) extension e
told_more ms es more others fs gs extension e t = record {
  file = t.file;
  content = t.content;
  there = Contains-append_left fs gs t.file t.there;
  inside = t.inside;
  entry = record {
    holds = holds_more ms es more others t.content e.kind t.entry.holds;
    number = t.entry.number;
    repeated = t.entry.repeated;
    group = t.entry.group;
    packed = t.entry.packed;
    presence = t.entry.presence;
    oneof = t.entry.oneof;
    default = t.entry.default;
  };
}

field_more : (ms es more others : List FullName) (fs gs : List FileContent) (m : MessageType)
    (e : FieldType) → IsToldField ms es fs m e
    → IsToldField (ms ++ more) (es ++ others) (fs ++ gs) m e
unfolding told_more
field_more ms es more others fs gs m e t = record {
  field = told_more ms es more others fs gs false e t.field;
  synthetic = t.synthetic;
}

extension_more : (ms es more others : List FullName) (fs gs : List FileContent) (x : ExtensionType)
    → IsToldExtension ms es fs x
    → IsToldExtension (ms ++ more) (es ++ others) (fs ++ gs) x
unfolding told_more
extension_more ms es more others fs gs x t = record {
  field = told_more ms es more others fs gs true x.field t.field;
  extendee = written_more ms more t.field.content.extendee x.extendee t.extendee;
}

-- ---- lists of fields

through : {X Y Z : Type 0} (R : X → Y → Type 0) (S : Y → Z → Type 0) (T : X → Z → Type 0)
    → ((x : X) (y : Y) (z : Z) → R x y → S y z → T x z)
    → (xs : List X) (ys : List Y) (zs : List Z) → AllZip R xs ys → AllZip S ys zs → AllZip T xs zs
through R S T t [] [] [] a b = tt
through R S T t [] [] (z ∷ zs) a b = absurd b
through R S T t [] (y ∷ ys) zs a b = absurd a
through R S T t (x ∷ xs) [] zs a b = absurd a
through R S T t (x ∷ xs) (y ∷ ys) [] a b = absurd b
through R S T t (x ∷ xs) (y ∷ ys) (z ∷ zs) a b =
    (t x y z a.0 b.0, through R S T t xs ys zs a.1 b.1)

abbrev Lists : List ℕ → FieldDescriptorProto → DeclaredField → Type 0
Lists full r f = IsListed full (view.facts_of (field_view r)) f.field

abbrev IsFieldFrom : Met → Body → DeclaredField → Type 0
IsFieldFrom m b f = elim b [ of_field r ↦ IsFieldBy m r f | _ ↦ ⊥ ]

field_listed : (full : List ℕ) (r : FieldDescriptorProto) (m : Met) (f : DeclaredField)
    → IsOwn full r m → IsFieldOf m f → Lists full r f
field_listed full r m f own is =
    let by : IsFieldBy m r f = subst (λ b. IsFieldFrom m b f) own.body is in
    record {
      full_name = by.2.says.full_name ∙ own.name ∙ sym (name_seen full r.name);
      name = by.2.says.name ∙ sym (text_seen r.name);
      number = by.2.says.number ∙ number_same r.number;
      oneof = by.2.oneof;
    }

mapped : (full : List ℕ) (rs : List FieldDescriptorProto) (fs : List StoredField)
    → AllZip (Lists full) rs (map declared_field fs)
    → AllZip (IsListed full) (map view.facts_of (map field_view rs)) (map field_of fs)
mapped full [] [] z = tt
mapped full [] (f ∷ fs) z = absurd z
mapped full (r ∷ rs) [] z = absurd z
mapped full (r ∷ rs) (f ∷ fs) z = (z.0, mapped full rs fs z.1)

-- ---- messages along a batch

abbrev messages_by : View → Declaration → List NamedMessage
messages_by v d = elim d.body [
  | of_file f ↦ []
  | of_message m ↦ (d.name, facts_in m) ∷ []
  | of_field f ↦ []
  | of_oneof o ↦ []
  | of_enum e ↦ []
  | of_enum_value x ↦ []
  | of_service s ↦ []
  | of_method m ↦ []
  | of_extension x ↦ []
]

abbrev messages_along : (ℕ → View) → List Declaration → List NamedMessage
messages_along views ds = listed_along messages_by messages_in views ds

abbrev HasFields : List ℕ → MessageParts → StoredMessage → Type 0
HasFields full own y = AllZip (IsListed full) (facts_in own).fields (message_of y).fields

module _ (views : ℕ → View) where
  -- each message of a walk that has its fields
  abbrev HaveFields : ℕ → List Declaration → List StoredMessage → Type 0
  HaveFields n ds ys = (d : Declaration) (own : MessageParts) (j : ℕ) (y : StoredMessage)
      → Among d ds → d.body ≡ of_message own → d.index ≡ n + j → slice_get ys j ≡ Some y
      → HasFields d.name own y

  messages_zipped : (n : ℕ) (full : List ℕ) (fs : List FieldDescriptorProto) (h : AtHand)
      (ds : List Declaration) (k : ℕ) (ys : List StoredMessage) → Pending n full fs ds k
      → AllZip IsHeadOf (all_of is_message (along h ds)) (map message_head ys)
      → HaveFields n ds ys → AllZip ListsFields (messages_along views ds) (map message_of ys)
  messages_zipped n full fs h [] k [] a z have = tt
  messages_zipped n full fs h [] k (y ∷ ys) a z have = absurd z
  messages_zipped n full fs h (d ∷ ds) k ys a z have =
      by (λ m g gs hand xs b y more. messages_zipped m g gs hand ds k xs b y more) d.body ys a z have
    where
      by : ((m : ℕ) (g : List ℕ) (gs : List FieldDescriptorProto) (hand : AtHand)
          (xs : List StoredMessage) → Pending m g gs ds k
          → AllZip IsHeadOf (all_of is_message (along hand ds)) (map message_head xs)
          → HaveFields m ds xs
          → AllZip ListsFields (messages_along views ds) (map message_of xs))
          → (b : Body) (ys : List StoredMessage)
          → Pending n full fs (record d { body = b } ∷ ds) k
          → AllZip IsHeadOf (all_of is_message (along h (record d { body = b } ∷ ds)))
          (map message_head ys)
          → HaveFields n (record d { body = b } ∷ ds) ys
          → AllZip ListsFields (messages_along views (record d { body = b } ∷ ds))
          (map message_of ys)
      by rest (of_message own) [] a z have = absurd z
      by rest (of_message own) (y ∷ ys) a z have =
          let here = record d { body = of_message own } in
          let index = a.1 in (
            record {
              full_name = ap (λ (x : Head). x.full_name) z.0;
              name = ap (λ (x : Head). x.name) z.0 ∙ sym (text_seen own.name);
              fields = have here own 0 y (inl refl) refl (omega (arith, index)) refl;
            },
            rest (n + 1) d.name own.field (hand_behind h here) ys a.2 z.1
                (λ e x j q k is at get. have e x (suc j) q (inr k) is (omega (arith, at)) get),
          )
      by rest (of_field r) ys a z have =
          rest n full a.0 (hand_behind h (record d { body = of_field r })) ys a.6 z
          (λ e x j q k is at get. have e x j q (inr k) is at get)
      by rest b ys a z have =
          rest n full fs (hand_behind h (record d { body = b })) ys a z
          (λ e x j q k is at get. have e x j q (inr k) is at get)

-- ---- a batch

module _ (old new : PoolType) (ns : List FileDescriptorProto) (w : Linking) (is : IsOf old w)
    (has : IsWellNamed old) (names : name_faults w.indexes w.known w.before w.first ns ≡ [])
    (batch : FaultlessBatch (with_declared w ns) ns new) (kept : IsKept new) (index : IsIndexed new)
    (tells : TellsFields old) where
  abbrev given : List FileContent
  given = map file_view old.records

  abbrev more : List FileContent
  more = map file_view ns

  abbrev all : List FileDescriptorProto
  all = old.records ++ ns

  abbrev all_known : Known
  all_known = known old new ns w is has names batch kept

  abbrev are : AreKnown all all_known
  are = known_all old new ns w is has names batch kept

  abbrev ixs : Indexes
  ixs = indexes old new ns w is has names batch kept

  abbrev sees : ℕ → ℕ → Bool
  sees = batch.means.right.sees

  abbrev views : ℕ → View
  views = views_of all_known sees

  abbrev at : ℕ → Places
  at = batch_places ns w.first

  abbrev hand : AtHand
  hand = before_files batch.references

  abbrev ds : List Declaration
  ds = batch_declarations w.before w.first ns

  abbrev meant : Meanings
  meant = meanings all all_known are ixs sees

  abbrev after : List FileContent
  after = all_linked meant more

  stand : map file_view new.records ≡ given ++ after
  stand = stand_linked old new ns w is has names batch kept

  abbrev ms : List FullName
  ms = names_of new messages

  abbrev es : List FullName
  es = names_of new enums

  ms_stand : AreFound (found messages all_known) ms
  ms_stand = subst (λ k. AreFound (found messages k) ms)
      (known_new old new ns w is has names batch kept) (index.named.found messages)

  es_stand : AreFound (found enums all_known) es
  es_stand = subst (λ k. AreFound (found enums k) es)
      (known_new old new ns w is has names batch kept) (index.named.found enums)

  abbrev items : List StoredMessage
  items = batch.types.new.now.messages.items

  messages_are : new.messages ≡ old.messages ++ map message_of items
  messages_are =
      batch.added.messages ∙ ap (λ (p : PoolType). p.messages ++ map message_of items) is.tables

  abbrev new_extensions : List ExtensionType
  new_extensions = map extension_of batch.types.new.now.extensions.items

  extensions_are : new.extensions ≡ old.extensions ++ new_extensions
  extensions_are =
      batch.added.extensions ∙ ap (λ (p : PoolType). p.extensions ++ new_extensions) is.tables

  ms_are : ms ≡ names_of old messages ++ map message_name (map message_of items)
  ms_are = ap (map message_name) messages_are ∙ map-append message_name old.messages (map message_of items)

  es_are : es ≡ names_of old enums
      ++ map enum_name (map enum_of batch.types.new.now.enums.items)
  es_are =
      ap (map enum_name) (batch.added.enums
      ∙ ap (λ (p : PoolType). p.enums ++ map enum_of batch.types.new.now.enums.items) is.tables)
      ∙ map-append enum_name old.enums (map enum_of batch.types.new.now.enums.items)

  -- ---- what is met, in its file as that is linked

  module _ (m : Met) (here : Among m (along hand ds)) (b : view.Body)
      (sight : seen_body m.declaration.body ≡ Some b) where
    abbrev d : Declaration
    d = m.declaration

    shown : IsShown w.first ns d
    shown = shown_in w.before w.first ns d (contains_among ds d (of_along hand ds m here))

    abbrev content : FileContent
    content = file_view shown.own

    abbrev file : FileContent
    file = linked (meant content) content

    file_there : Contains (map file_view new.records) file
    file_there =
        subst (λ fs. Contains fs file) (sym stand)
        (Contains-append_right given after file
        (contains_map (λ (f : FileContent). linked (meant f) f) more content
        (contains_map file_view ns shown.own
        (get_contains ns shown.place shown.own shown.at))))

    abbrev namings : linking.Reference → linking.Target
    namings = entered.namings all all_known are ixs sees ms es ms_stand es_stand content

    inside : Contains (view.declarations file)
        (record { name = d.name; body = rename_body namings d.name b })
    inside =
        let x = shown.shown b sight in
        let v : Contains (view.declarations file) (renamed namings x.0) =
        subst (λ l. Contains l (renamed namings x.0)) (sym (declarations_renamed namings content))
        (contains_map (renamed namings) (view.declarations content) x.0 x.1) in
        subst (λ c. Contains (view.declarations file)
        (record { name = d.name; body = rename_body namings d.name c })) x.3
        (subst (λ n. Contains (view.declarations file)
        (record { name = n; body = rename_body namings n x.0.body })) x.2 v)

    view_is : views d.file ≡ entered.see all all_known are ixs sees ms es ms_stand es_stand content
    view_is = ap (λ (f : ℕ → Bool). record { known = all_known; sees = f })
        (ap sees shown.file
        ∙ sym (sees_at all all_known are ixs sees shown.own (w.first + shown.place)
        (names_at old new ns w is has names batch kept shown.place shown.own shown.at)))

    syntax : fields.is_proto3 m.hand.syntax ≡ is_proto3 file
    syntax =
        let s = has_syntax w.before w.first ns hand m here (ap is_some sight) in
        let first = s.file in
        let second = shown.file in
        let place : s.place ≡ shown.place = omega (arith, first, second) in
        let own : s.own ≡ shown.own =
        cc (sym s.at ∙ ap (slice_get ns) place ∙ shown.at) in
        ap fields.is_proto3 (s.syntax ∙ ap (λ (f : FileDescriptorProto). syntax_type f.syntax) own)
        ∙ syntax_is shown.own

  next : (m : Met) → Among m (along hand ds)
      → HasNext ms all_known ms_stand sees at m
  next m here =
      has_next ms all_known ms_stand sees at hand ds (sym batch.means.right.faults)
      batch.means.right.targets m here

  -- ---- fields

  -- of a message of the batch an entry's field, whose oneof is called so
  abbrev CallsOneof : MessageType → FieldType → FieldDescriptorProto → Type 0
  CallsOneof m e r = (k : ℕ) → e.oneof ≡ Some k → (slice_index_or m.oneofs k no_oneof).synthetic
      ≡ (unwrap_or r.proto3_optional false && (length (filter (is_member k) m.fields) == 1))

  field_told : (x : MessageType) (e : FieldType) (i j : ℕ)
      (f : FieldDeclared batch.references ds i j e) → CallsOneof x e f.own
      → IsToldField ms es (map file_view new.records) x e
  field_told x e i j f called =
      let m = f.met in
      let d = m.declaration in
      let r = f.own in
      let sight : seen_body d.body ≡ Some (view.of_field (field_view r)) = ap seen_body f.body in
      let n = next m f.here in
      let none = subst (λ b. reference_faults_at (at d.file) (views d.file) (record d { body = b }) ≡ [])
      f.body n.none in
      let rest = subst (λ b. map target_of m.hand.rest
      ≡ targets_of (views d.file) (record d { body = b }) ++ n.more) f.body n.next in
      let resolved = resolved_type (at d.file) (views d.file) d.path d.name r none in
      let hands = at_hand (views d.file) filter.FieldType d.name r.type_name m.hand.rest n.more resolved
      rest in
      let same = view_is m f.here (view.of_field (field_view r)) sight in
      let c = content m f.here (view.of_field (field_view r)) sight in
      let names = namings m f.here (view.of_field (field_view r)) sight in
      let held = linked_holds all all_known are ixs sees ms es ms_stand es_stand c d.name r
      (text_view r.extendee) f.holds
      (subst (λ v. IsResolved v filter.FieldType d.name r.type_name) same resolved)
      (subst (λ v. HasKind r (kind_by v filter.FieldType d.name r.type_name) f.holds) same
      (subst (λ k. HasKind r k f.holds) hands.kind f.kind)) in
      record {
        field = record {
          file = file m f.here (view.of_field (field_view r)) sight;
          content = _;
          there = file_there m f.here (view.of_field (field_view r)) sight;
          inside = subst (λ n. Contains (view.declarations
              (file m f.here (view.of_field (field_view r)) sight))
              (record { name = n; body = rename_body names d.name (view.of_field (field_view r)) }))
              (sym f.says.says.full_name) (inside m f.here (view.of_field (field_view r)) sight);
          entry = field_entered ms es m.hand.syntax
              (is_proto3 (file m f.here (view.of_field (field_view r)) sight))
              (syntax m f.here (view.of_field (field_view r)) sight) r f.holds (text_view r.extendee)
              (rename_type names d.name r.field_type (text_view r.type_name))
              (fill_type names d.name r.field_type (text_view r.type_name)) held
              (linked_group all all_known are ixs sees ms es ms_stand es_stand c d.name r.field_type
              (text_view r.type_name))
              (linked_unnamed all all_known are ixs sees ms es ms_stand es_stand c d.name r.field_type
              (text_view r.type_name)) d.path d.name e f.says;
        };
        synthetic = called;
      }

  -- the entry of the field, as it is kept
  abbrev Kept : StoredMessage → ℕ → FieldType → Type 0
  Kept y j e = (s : StoredField) × (slice_get y.fields.list.items j ≡ Some s) × (field_of s ≡ e)

  optional_is : (y : StoredMessage) (e : FieldType) (k j : ℕ)
      (f : FieldDeclared batch.references ds (w.before.messages + k) j e) → slice_get items k ≡ Some y
      → (s : Kept y j e) → s.0.is_proto3_optional ≡ unwrap_or f.own.proto3_optional false
  optional_is y e k j f get s =
      let fields = parts is_field (w.before.messages + k) (along hand ds) in
      let zipped = subst (AllZip IsFieldOf fields) (list_of stored_fields items k y get)
      (batch.declared.entries.fields k) in
      let z = zip_place IsFieldOf fields (stored_fields y) j (declared_field s.0) zipped
      (get_map declared_field y.fields.list.items j s.0 s.1) in
      let same : z.0 ≡ f.met = cc (sym z.1 ∙ f.place) in
      let by : IsFieldBy f.met f.own (declared_field s.0) =
      subst (λ b. IsFieldFrom f.met b (declared_field s.0)) f.body
      (subst (λ m. IsFieldOf m (declared_field s.0)) same z.2) in
      by.3

  calls_oneof : (y : StoredMessage) (e : FieldType) (k j : ℕ)
      (f : FieldDeclared batch.references ds (w.before.messages + k) j e) → slice_get items k ≡ Some y
      → slice_get (message_of y).fields j ≡ Some e → Contains new.messages (message_of y) → Contains (message_of y).fields e
      → CallsOneof (message_of y) e f.own
  calls_oneof y e k j f get place there inside n is =
      let x = message_of y in
      let s : Kept y j e = got_map field_of y.fields.list.items j e place in
      let within = of_all (MessageWithin (counts_of new)) x new.messages kept.pooled.messages
      (among new.messages x there) in
      let less : n < length x.oneofs =
      subst (IsAmong (length x.oneofs)) is
      (of_all (λ (g : FieldType). IsAmong (length x.oneofs) g.oneof) e x.fields within.oneofs
      (among x.fields e inside)) in
      marked y j n s.0 (of_all MarksOneofs y items batch.declared.entries.synthetic
      (of_place y items k get))
      (of_all ListsMembers x new.messages kept.pooled.listed (among new.messages x there))
      s.1 (get_map field_of y.fields.list.items j s.0 s.1) (ap (λ (g : FieldType). g.oneof) s.2 ∙ is)
      less
      ∙ ap (λ b. b && (length (filter (is_member n) x.fields) == 1)) (optional_is y e k j f get s)

  -- ---- extensions

  extension_told : (x : ExtensionType) → ExtensionDeclared batch.references ds x
      → IsToldExtension ms es (map file_view new.records) x
  extension_told x f =
      let m = f.met in
      let d = m.declaration in
      let r = f.own in
      let body = view.of_extension (field_view r) in
      let sight : seen_body d.body ≡ Some body = ap seen_body f.body in
      let n = next m f.here in
      let v = views d.file in
      let faultless = subst (λ b. reference_faults_at (at d.file) v (record d { body = b }) ≡ []) f.body
      n.none in
      let none = none_both (reference_faults (at d.file) v filter.Message d.path d.name _ r.extendee) _
      faultless in
      let rest = subst (λ b. map target_of m.hand.rest
      ≡ targets_of v (record d { body = b }) ++ n.more) f.body n.next in
      let extends = resolved_one (at d.file) v d.path d.name filter.Message _ r.extendee none.0 in
      let typed = resolved_type (at d.file) v d.path d.name r none.1 in
      let hands = extension_at_hand (at d.file) v d r m.hand.rest n.more faultless rest in
      let same = view_is m f.here body sight in
      let c = content m f.here body sight in
      let names = namings m f.here body sight in
      let extendee = linked_extendee all all_known are ixs sees ms es ms_stand es_stand c d.name
      r.extendee x.extendee
      (subst (λ u. IsResolved u filter.Message d.name r.extendee) same extends)
      (subst (λ u. kind_by u filter.Message d.name r.extendee ≡ Some (kind.Message x.extendee)) same
      (sym hands.0.kind ∙ f.by.extendee)) in
      let full = rename_message_type names d.name (text_view r.extendee) in
      let held = linked_holds all all_known are ixs sees ms es ms_stand es_stand c d.name r full
      f.by.holds
      (subst (λ u. IsResolved u filter.FieldType d.name r.type_name) same typed)
      (subst (λ u. HasKind r (kind_by u filter.FieldType d.name r.type_name) f.by.holds) same
      (subst (λ k. HasKind r k f.by.holds) hands.1.kind f.by.kind)) in
      record {
        field = record {
          file = file m f.here body sight;
          content = _;
          there = file_there m f.here body sight;
          inside = subst (λ n. Contains (view.declarations (file m f.here body sight))
              (record { name = n; body = rename_body names d.name body }))
              (sym f.by.field.says.full_name) (inside m f.here body sight);
          entry = extension_entered ms es m.hand.syntax (is_proto3 (file m f.here body sight))
              (syntax m f.here body sight) r f.by.holds full
              (rename_type names d.name r.field_type (text_view r.type_name))
              (fill_type names d.name r.field_type (text_view r.type_name)) held
              (linked_group all all_known are ixs sees ms es ms_stand es_stand c d.name r.field_type
              (text_view r.type_name))
              (linked_unnamed all all_known are ixs sees ms es ms_stand es_stand c d.name r.field_type
              (text_view r.type_name)) d.path d.name x.field f.by.field;
        };
        extendee = extendee;
      }

  -- ---- the fields that messages list

  body_messages : (f : FileContent) (d : Declaration) (b : Body)
      → messages_by (see messages_by messages_in all all_known are ixs sees f) (record d { body = b })
      ≡ listed_seen messages_by messages_in all all_known are ixs sees f (seen (record d { body = b }))
  body_messages f d (of_file x) = refl
  body_messages f d b = refl

  batch_messages : messages_along views ds ≡ written_messages after
  batch_messages = batch_listed messages_by messages_in all all_known are ixs sees
      (record { none = λ v i f. refl; one = body_messages }) w.before w.first ns
      (names_at old new ns w is has names batch kept)

  have_fields : HaveFields views w.before.messages ds items
  have_fields d own j y among is at get =
      let entries = batch.declared.entries in
      let met_fields = fields_own w.before w.first ns hand d own among is in
      let kept_fields = subst (λ i. AllZip IsFieldOf (parts is_field i (along hand ds))
      (list_at (map stored_fields items) j)) (sym at) (entries.fields j) in
      let stored : list_at (map stored_fields items) j ≡ stored_fields y =
      list_of stored_fields items j y get in
      mapped d.name own.field y.fields.list.items
      (through (IsOwn d.name) IsFieldOf (Lists d.name) (field_listed d.name) own.field
      (parts is_field d.index (along hand ds)) (stored_fields y) met_fields
      (subst (AllZip IsFieldOf (parts is_field d.index (along hand ds))) stored kept_fields))

  batch_zipped : AllZip ListsFields (written_messages after) (map message_of items)
  batch_zipped = subst (λ ws. AllZip ListsFields ws (map message_of items)) batch_messages
      (messages_zipped views w.before.messages [] [] hand ds (past_files w.before ns).messages items
      (batch_pending w.before w.first [] ns) batch.declared.entries.messages have_fields)

  listed_new : AllZip ListsFields (written_messages (map file_view new.records)) new.messages
  listed_new =
      subst (λ fs. AllZip ListsFields (written_messages fs) new.messages) (sym stand)
      (subst (λ ws. AllZip ListsFields ws new.messages)
      (sym (flat_map-append (λ f. flat_map messages_in (view.declarations f)) given after))
      (subst (AllZip ListsFields (written_messages given ++ written_messages after)) (sym messages_are)
      (zip_both ListsFields (written_messages given) (written_messages after) old.messages
      (map message_of items) tells.listed batch_zipped)))

  -- ---- all

  abbrev more_names : List FullName
  more_names = map message_name (map message_of items)

  abbrev more_enums : List FullName
  more_enums = map enum_name (map enum_of batch.types.new.now.enums.items)

  -- what holds by names and files holds by all of these
  grown : (P : List FullName → List FullName → List FileContent → Type 0)
      → P (names_of old messages ++ more_names) (names_of old enums ++ more_enums) (given ++ after)
      → P ms es (map file_view new.records)
  grown P h =
      subst (λ xs. P xs es (map file_view new.records)) (sym ms_are)
      (subst (λ xs. P (names_of old messages ++ more_names) xs (map file_view new.records))
      (sym es_are)
      (subst (P (names_of old messages ++ more_names) (names_of old enums ++ more_enums)) (sym stand)
      h))

  fields_new : (m : MessageType) (e : FieldType) → Contains new.messages m → Contains m.fields e
      → IsToldField ms es (map file_view new.records) m e
  fields_new m e i j = elim (Contains-append_cases old.messages (map message_of items) m
      (subst (λ xs. Contains xs m) messages_are i)) [
        | inl k ↦ grown (λ xs ys fs. IsToldField xs ys fs m e)
            (field_more (names_of old messages) (names_of old enums) more_names more_enums given after
            m e (tells.fields m e k j))
        | inr k ↦ (
            let y = contains_map_cases message_of items m k in
            let place = contains_get items y.0 y.1 in
            let inside = subst (λ (q : MessageType). Contains q.fields e) (sym y.2) j in
            let own = place_of e (message_of y.0).fields (among (message_of y.0).fields e inside) in
            let f = field_declared batch.references w.before w.first ns batch.types.new.now
            batch.declared.entries place.0 y.0 own.0 e place.1 own.1 in
            subst (λ (q : MessageType). IsToldField ms es (map file_view new.records) q e) y.2
            (field_told (message_of y.0) e (w.before.messages + place.0) own.0 f
            (calls_oneof y.0 e place.0 own.0 f place.1 own.1
            (subst (Contains new.messages) (sym y.2) i) inside)))
      ]

  extensions_new : (x : ExtensionType) → Contains new.extensions x
      → IsToldExtension ms es (map file_view new.records) x
  extensions_new x i = elim (Contains-append_cases old.extensions new_extensions x
      (subst (λ xs. Contains xs x) extensions_are i)) [
        | inl k ↦ grown (λ xs ys fs. IsToldExtension xs ys fs x)
            (extension_more (names_of old messages) (names_of old enums) more_names more_enums given after
            x (tells.extensions x k))
        | inr k ↦ extension_told x (extension_declared batch.references w.before w.first ns
            batch.types.new.now batch.declared.entries x (among new_extensions x k))
      ]

  fields_tell : TellsFields new
  fields_tell = record { listed = listed_new; fields = fields_new; extensions = extensions_new }

pub pool_fields : (old new : PoolType) (fs : List FileDescriptorProto) → IsWellNamed old
    → IsIndexed new → IsKept new → TellsFields old → FaultlessFiles old fs new → TellsFields new
pool_fields old new fs has index kept tells (w, is, (names, batch)) =
    fields_tell old new (new_files w.indexes fs) w is has names batch kept index tells

pub empty_fields : TellsFields empty_pool
empty_fields = record {
  listed = tt;
  fields = λ m e i j. absurd (contains_none m i);
  extensions = λ x i. absurd (contains_none x i);
}
