-- What the types of a batch say of names, by their declarations.
use Rattle.std.proofs.Common.{◌≡◌, inl, inr, ◌<◌, ◌+◌, ◌++◌, ℕ, zero, suc, ℤ, Bool, true, false, cond, List, [], ◌∷◌, map, length, Option, None, Some, String, Global, slice_get, slice_index_or, refl, sym, ap, ◌∙◌, subst}
use Rattle.std.specs.Char.{to_ascii_lowercase}
use Rattle.descriptor_records.specs.Content.{Text, enum_view, enum_value_view}
use Rattle.descriptor_records.specs.FieldNumbers.{type_number}
use Rattle.descriptor_records.specs.declared.enums.EnumDescriptorProto.{EnumDescriptorProto}
use Rattle.descriptor_records.specs.declared.enums.EnumValueDescriptorProto.{EnumValueDescriptorProto}
use Rattle.descriptor_records.specs.declared.field.FieldDescriptorProto.{FieldDescriptorProto}
use Rattle.descriptor_records.specs.declared.field.FieldType.TheVariants as numbers
use Rattle.descriptor_records.specs.declared.file.FileDescriptorProto.{FileDescriptorProto}
use Rattle.reflect_scope.specs.Known.{Known}
use Rattle.reflect_scope.specs.Means.{join, has_dot}
use Rattle.reflect_scope.specs.declared.definition.Definition.{Definition}
use Rattle.reflect_scope.specs.declared.definition.DefinitionKind.{DefinitionKind}
use Rattle.reflect_scope.specs.declared.definition.DefinitionKind.TheVariants as kind
use Rattle.reflect_declarations.specs.Declarations.{Declaration, Body, of_message, of_field, of_enum}
use Rattle.reflect_declarations.specs.Tree.{text_of, MessageParts}
use Rattle.reflect_names.specs.declared.resolve_visitor.Reference.{Reference}
use Rattle.reflect_references.specs.Meanings.{meaning}
use Rattle.reflect_fields.specs.Fields.{is_number}
use Rattle.reflect_passes.specs.NameFaults.{name_faults}
use Rattle.reflect_index.specs.Along.{AtHand, Met, along, met, before_files, hand_behind, all_of, is_message}
use Rattle.reflect_index.specs.BatchEntries.{IsBatchOf}
use Rattle.reflect_index.specs.Entries.{Head, IsHeadOf, HasKind, IsMeant, written_name}
use Rattle.reflect_index.specs.Grown.{message_head}
use Rattle.reflect_index.specs.OfDeclarations.{NamedNumber, message_in, messages_in, enum_in, enums_in, stored_ranges, stored_value, stored_values, declared_value, declared_values}
use Rattle.reflect_index.specs.declared.batch.Batch.{Batch}
use Rattle.reflect_tables.specs.Types.{PoolType, KindType, MessageType, ValueType, EnumType, ExtensionType, FileType, ArePooled, no_field, no_type, type_at, type_of_field}
use Rattle.reflect_tables.specs.Types as types
use Rattle.reflect_tables.specs.Views.{message_of, enum_of, value_of, extension_of, record_file}
use Rattle.reflect_tables.specs.declared.stored.StoredEnum.{StoredEnum}
use Rattle.reflect_tables.specs.declared.stored.StoredMessage.{StoredMessage}
use Rattle.reflect_pool.specs.Parts.{no_value}
use Rattle.reflect_link.specs.FileTypes.{no_file, file_type_at}
use Rattle.reflect_build.specs.Accepted.{FaultlessBatch}
use Rattle.reflect_build.specs.Refusals.{Linking, with_declared, IsOf}
use Rattle.text_model.specs.Identifiers.{is_identifier, is_full_name}
use Rattle.text_model.specs.Printed.{parts}
use Rattle.text_view.specs.SourceNames as pools
use Rattle.source_records.specs.SourceNames.{IsSpelled, HasSpelledValues}
use Rattle.reflect_index.proofs.Among.{Among, of_all, of_place, get_at, get_map, got_map, zip_place}
use Rattle.linked_view.proofs.Declared.{InMessage, in_message, stands_in_batch}
use Rattle.linked_view.proofs.DefaultValues.{IsHeld}
use Rattle.linked_view.proofs.Accepted.{kept_at}
use Rattle.linked_view.proofs.Extended.{number_is}
use Rattle.linked_names.specs.SourcePools.{scope_in, scope_of, IsScoped}
use Rattle.linked_names.proofs.Apart.{IsApart, Apart, field_text, value_text}
use Rattle.linked_names.proofs.Batch.{ds, known, b, are_apart, message_known, field_known, message_at, same_message, type_named, types_are, texts_same, first_is}
use Rattle.linked_names.proofs.Groups.{group_meant}
use Rattle.reflect_index.proofs.Behind.{later_is}
use Rattle.reflect_index.proofs.Declared.{FieldDeclared, field_declared, extension_declared, of_along}
use Rattle.linked_names.proofs.Sourced.{IsSourced, IsSourcedMessage, IsSourcedField, IsScopeOf, spelled_text, named_text}

-- ---- declarations by their places

-- an enum among declarations
enum_among : (xs : List Declaration) (e : EnumDescriptorProto) → Among e (enums_in xs)
    → (x : Declaration) × Among x xs × (x.body ≡ of_enum e)
enum_among [] e h = absurd h
enum_among (d ∷ xs) e h = by d.body refl h (enum_among xs e) where
  later : (x : Declaration) × Among x xs × (x.body ≡ of_enum e)
      → (x : Declaration) × Among x (d ∷ xs) × (x.body ≡ of_enum e)
  later r = (r.0, inr r.1, r.2)

  by : (b : Body) → d.body ≡ b → Among e (enum_in b ++ enums_in xs)
      → (Among e (enums_in xs) → (x : Declaration) × Among x xs × (x.body ≡ of_enum e))
      → (x : Declaration) × Among x (d ∷ xs) × (x.body ≡ of_enum e)
  by (of_enum x) is (inl same) rest = (d, inl refl, is ∙ ap of_enum same)
  by (of_enum x) is (inr k) rest = later (rest k)
  by b is k rest = later (rest k)

-- the message at a place among those that a walk meets is the one at this place among all
pub record IsMetMessage (xs : List Declaration) (k : ℕ) (m : Met) : Type 0 where
  pub own : MessageParts
  pub here : Among m.declaration xs
  pub body : m.declaration.body ≡ of_message own
  pub place : slice_get (messages_in xs) k ≡ Some own

met_message : (h : AtHand) (xs : List Declaration) (k : ℕ) (m : Met)
    → slice_get (all_of is_message (along h xs)) k ≡ Some m → IsMetMessage xs k m
met_message h [] k m e = absurd (cc e)
met_message h (d ∷ xs) k m e =
    let r = by d.body refl k e (λ j. met_message (hand_behind h d) xs j m) in
    record { own = r.0; here = r.1; body = r.2; place = r.3 } where
      rest : List Met
      rest = all_of is_message (along (hand_behind h d) xs)

      by : (b : Body) → d.body ≡ b → (k : ℕ)
          → slice_get (cond (is_message b) (met h d ∷ rest) rest) k ≡ Some m
          → ((j : ℕ) → slice_get rest j ≡ Some m → IsMetMessage xs j m)
          → (own : MessageParts) × Among m.declaration (d ∷ xs)
          × (m.declaration.body ≡ of_message own)
          × (slice_get (message_in b ++ messages_in xs) k ≡ Some own)
      by (of_message own) is zero e more =
          let same : ◌≡◌ {A = Met} (met h d) m = cc e in (
            own,
            inl (ap (λ (x : Met). x.declaration) same),
            ap (λ (x : Met). x.declaration.body) (sym same) ∙ is,
            refl,
          )
      by (of_message own) is (suc j) e more =
          let r = more j e in (r.own, inr r.here, r.body, r.place)
      by b is j e more = let r = more j e in (r.own, inr r.here, r.body, r.place)

pub number_other : (n : ℤ) (o : Option ℤ) → (o ≡ Some n → ⊥) → is_number n o ≡ false
number_other n o none = by (is_number n o) refl where
  by : (v : Bool) → is_number n o ≡ v → is_number n o ≡ false
  by true is = absurd (none (number_is n o is))
  by false is = is

holds_message : (r : FieldDescriptorProto) (s : String Global) (m : Option DefinitionKind) (i : ℕ)
    (k : KindType) → r.type_name ≡ Some s → m ≡ Some (kind.Message i) → HasKind r m k
    → k ≡ types.message i
holds_message r s m i k named meant h =
    subst (λ o. IsMeant o k) meant
    (subst (λ o. IsHeld o r.field_type m k) named h)

module _ (old new : PoolType) (ns : List FileDescriptorProto) (w : Linking) (is : IsOf old w)
    (pooled : ArePooled old) (names : name_faults w.indexes w.known w.before w.first ns ≡ [])
    (batch : FaultlessBatch (with_declared w ns) ns new) where
  abbrev all : List Declaration
  all = ds old new ns w is pooled names batch

  abbrev knows : Known
  knows = known old new ns w is pooled names batch

  abbrev rs : List Reference
  rs = batch.references

  abbrev stored : Batch
  stored = batch.types.new.now

  abbrev kept : IsBatchOf rs w.before w.first all stored
  kept = batch.declared.entries

  -- ---- messages

  -- the type at a place, by its declaration
  pub record IsHeaded (k : ℕ) (m : StoredMessage) : Type 0 where
    pub declaration : Declaration
    pub own : MessageParts
    pub here : Among declaration all
    pub body : declaration.body ≡ of_message own
    pub place : slice_get (messages_in all) k ≡ Some own
    pub name : (message_of m).name ≡ text_of own.name
    pub full_name : (message_of m).full_name ≡ declaration.name
    pub file : (message_of m).file ≡ declaration.file
    pub parent : (message_of m).parent ≡ declaration.parent

  headed : (k : ℕ) (m : StoredMessage) → slice_get stored.messages.items k ≡ Some m
      → IsHeaded k m
  headed k m at =
      let zipped = zip_place IsHeadOf (all_of is_message (along (before_files rs) all))
      (map message_head stored.messages.items) k (message_head m) kept.messages
      (get_map message_head stored.messages.items k m at) in
      let found = met_message (before_files rs) all k zipped.0 zipped.1 in
      let same = zipped.2 in
      record {
        declaration = zipped.0.declaration;
        own = found.own;
        here = found.here;
        body = found.body;
        place = found.place;
        name = ap (λ (h : Head). h.name) same ∙ ap written_name found.body;
        full_name = ap (λ (h : Head). h.full_name) same;
        file = ap (λ (h : Head). h.file) same;
        parent = ap (λ (h : Head). h.parent) same;
      }

  -- what is declared as a message has its name
  type_called : (x : Declaration) (own : MessageParts) → Among x all
      → x.body ≡ of_message own → (type_at new x.index).name ≡ text_of own.name
  type_called x own h body =
      let stands = stands_in_batch w.before w.first ns x own h body in
      let r = kept_at (messages_in all) (map stored_ranges stored.messages.items) stands.0 own
      batch.declared.ranges stands.2 in
      let m = got_map stored_ranges stored.messages.items stands.0 r.0 r.1 in
      let its = headed stands.0 m.0 m.1 in
      let same : its.own ≡ own = cc (sym its.place ∙ stands.2) in
      let place : x.index ≡ length old.messages + stands.0 =
      stands.1 ∙ ap (λ n. n + stands.0) is.before.messages in
      ap (λ n. (type_at new n).name) place
      ∙ ap (λ (t : MessageType). t.name)
      (later_is message_of old.messages new.messages stored.messages.items stands.0 m.0 no_type
      (types_are old new ns w is pooled names batch) m.1)
      ∙ its.name ∙ ap (λ (o : MessageParts). text_of o.name) same

  -- ---- the fields of a type

  module _ (i k : ℕ) (m : StoredMessage) (at : slice_get stored.messages.items k ≡ Some m)
      (type : type_at new i ≡ message_of m) where
    abbrev IsThere : ℕ → Type 0
    IsThere j = j < length (type_at new i).fields

    pub declared : (j : ℕ) → IsThere j
        → FieldDeclared rs all (w.before.messages + k) j (type_of_field new i j)
    declared j lt =
        field_declared rs w.before w.first ns stored kept k m j (type_of_field new i j) at
        (ap (λ (t : MessageType). slice_get t.fields j) (sym type)
        ∙ get_at (type_at new i).fields j no_field lt)

    pub inside : (j : ℕ) → (lt : IsThere j)
        → InMessage rs w.before w.first ns stored kept k j (declared j lt).own
    inside j lt = in_message rs w.before w.first ns stored kept k j (type_of_field new i j)
        (declared j lt)

    -- no two have one name
    pub names_apart : (j l : ℕ) → IsThere j → IsThere l
        → (type_of_field new i j).name ≡ (type_of_field new i l).name → j ≡ l
    names_apart j l lt less same =
        let d = declared j lt in
        let e = declared l less in
        let one = inside j lt in
        let two = inside l less in
        let message : two.declared.own ≡ one.declared.own = cc (sym two.place ∙ one.place) in
        let here = one.declared.declaration in
        let apart : Apart field_text one.declared.own.field =
        subst (λ c. IsApart (record here { body = c })) one.declared.body
        (are_apart old new ns w is pooled names batch here one.declared.here) in
        apart j l d.own e.own one.declared.field
        (ap (λ (o : MessageParts). slice_get o.field l) (sym message) ∙ two.declared.field)
        (sym d.says.says.name ∙ same ∙ e.says.says.name)

  -- ---- the values of an enum

  pub record IsEnumOf (e : StoredEnum) : Type 0 where
    pub declaration : Declaration
    pub own : EnumDescriptorProto
    pub here : Among declaration all
    pub body : declaration.body ≡ of_enum own
    pub values : stored_values e ≡ declared_values own

  pub enum_of_batch : (k : ℕ) (e : StoredEnum) → slice_get stored.enums.items k ≡ Some e
      → IsEnumOf e
  enum_of_batch k e at =
      let own = got_map declared_values (enums_in all) k (stored_values e)
      (subst (λ l. slice_get l k ≡ Some (stored_values e)) batch.declared.values
      (get_map stored_values stored.enums.items k e at)) in
      let x = enum_among all own.0 (of_place own.0 (enums_in all) k own.1) in
      record { declaration = x.0; own = own.0; here = x.1; body = x.2; values = sym own.2 }

  abbrev value_in : EnumType → ℕ → ValueType
  value_in e j = slice_index_or e.values j no_value

  pub record IsValueAt (own : EnumDescriptorProto) (j : ℕ) (v : ValueType) : Type 0 where
    pub record_of : EnumValueDescriptorProto
    pub at : slice_get own.value.items j ≡ Some record_of
    pub name : v.name ≡ text_of record_of.name

  value_at : (e : StoredEnum) (d : IsEnumOf e) (j : ℕ) → j < length (enum_of e).values
      → IsValueAt d.own j (value_in (enum_of e) j)
  value_at e d j lt =
      let v = got_map value_of e.values.list.items j (value_in (enum_of e) j)
      (get_at (enum_of e).values j no_value lt) in
      let r = got_map declared_value d.own.value.items j (stored_value v.0)
      (subst (λ l. slice_get l j ≡ Some (stored_value v.0)) d.values
      (get_map stored_value e.values.list.items j v.0 v.1)) in
      record {
        record_of = r.0;
        at = r.1;
        name = ap (λ (x : ValueType). x.name) (sym v.2)
            ∙ ap (λ (n : NamedNumber). n.0) (sym r.2);
      }

  pub values_apart : (e : StoredEnum) → IsEnumOf e → (j l : ℕ) → j < length (enum_of e).values
      → l < length (enum_of e).values
      → (value_in (enum_of e) j).name ≡ (value_in (enum_of e) l).name → j ≡ l
  values_apart e d j l lt less same =
      let one = value_at e d j lt in
      let two = value_at e d l less in
      let apart : Apart value_text d.own.value.items =
      subst (λ c. IsApart (record d.declaration { body = c })) d.body
      (are_apart old new ns w is pooled names batch d.declaration d.here) in
      apart j l one.record_of two.record_of one.at two.at (sym one.name ∙ same ∙ two.name)

  -- ---- what sources say

  module _ (sourced : (d : Declaration) → Among d all → IsSourced ns w.first all d) where
    pub message_sourced : (d : Declaration) (own : MessageParts) → Among d all
        → d.body ≡ of_message own
        → IsSourcedMessage ns w.first all (record d { body = of_message own }) own
    message_sourced d own h body =
        subst (λ c. IsSourced ns w.first all (record d { body = c })) body (sourced d h)

    field_sourced : (d : Declaration) (r : FieldDescriptorProto) → Among d all
        → d.body ≡ of_field r
        → IsSourcedField ns w.first all (record d { body = of_field r }) r
    field_sourced d r h body =
        subst (λ c. IsSourced ns w.first all (record d { body = c })) body (sourced d h)

    -- ---- scopes

    files_are : new.files ≡ old.files ++ map record_file ns
    files_are = batch.added.files
        ∙ ap (λ (p : PoolType). p.files ++ map record_file ns) is.tables

    scope_named : (o : Option ℕ) (n : ℕ) (s : Text) → IsScopeOf ns w.first all o n s
        → scope_in new o n ≡ s
    scope_named None n s (f, same) =
        let place : n ≡ length old.files + f.place =
        f.index ∙ ap (λ k. k + f.place) (first_is old new ns w is pooled names batch) in
        ap (λ k. (file_type_at new k).package_name) place
        ∙ ap (λ (t : FileType). t.package_name)
        (later_is record_file old.files new.files ns f.place f.own no_file files_are f.at)
        ∙ texts_same f.own.package ∙ same
    scope_named (Some p) n s x =
        sym (ap (λ k. (type_at new k).full_name) x.index)
        ∙ (type_named old new ns w is pooled names batch x.declaration.index x.declaration.name
        x.declaration.file
        (message_at old new ns w is pooled names batch x.declaration x.own x.here x.body)).full
        ∙ x.name

    pub new_scoped : (k : ℕ) (m : StoredMessage) → slice_get stored.messages.items k ≡ Some m
        → IsScoped new (message_of m)
    new_scoped k m at =
        let h = headed k m at in
        let src = message_sourced h.declaration h.own h.here h.body in
        let scope : scope_of new (message_of m) ≡ src.scope =
        (λ i. scope_in new (h.parent i) (h.file i))
        ∙ scope_named h.declaration.parent h.declaration.file src.scope src.scoped in
        record {
          full = h.full_name ∙ src.called
              ∙ (λ i. join (sym scope i) (sym h.name i));
          own = ap has_dot h.name ∙ src.undotted;
        }

    -- ---- spelling

    module _ (i k : ℕ) (m : StoredMessage) (at : slice_get stored.messages.items k ≡ Some m)
        (type : type_at new i ≡ message_of m) where
      abbrev Here : ℕ → Type 0
      Here j = j < length (type_at new i).fields

      -- a field, by its declaration and by what sources say of it
      record IsSpelledField (j : ℕ) : Type 0 where
        field : FieldDeclared rs all (w.before.messages + k) j (type_of_field new i j)
        among : Among field.met.declaration all
        its : IsSourcedField ns w.first all
            (record field.met.declaration { body = of_field field.own }) field.own

      spelled_field : (j : ℕ) → Here j → IsSpelledField j
      spelled_field j lt =
          let d = declared i k m at type j lt in
          let here = of_along (before_files rs) all d.met d.here in
          record {
            field = d;
            among = here;
            its = field_sourced d.met.declaration d.own here d.body;
          }

      pub field_spelled : (j : ℕ) → Here j → is_identifier (type_of_field new i j).name ≡ true
      field_spelled j lt =
          let d = spelled_field j lt in
          ap is_identifier d.field.says.says.name ∙ spelled_text d.field.own.name d.its.spelled

      -- fields of one type are declared in one message
      one_outer : (j l : ℕ) (d : IsSpelledField j) (e : IsSpelledField l)
          → e.its.outer.name ≡ d.its.outer.name
      one_outer j l d e =
          let whole : Some e.its.outer.index ≡ Some d.its.outer.index =
          sym e.its.parent ∙ e.field.parent ∙ sym d.field.parent ∙ d.its.parent in
          let index : e.its.outer.index ≡ d.its.outer.index = cc whole in
          (same_message old new ns w is pooled names batch e.its.outer d.its.outer e.its.own
          d.its.own e.its.here e.its.body d.its.here d.its.body index).0

      -- no field has the name of a message that is declared beside it
      beside : (l : ℕ) (e : IsSpelledField l) (x : Declaration) (own : MessageParts)
          → Among x all → x.body ≡ of_message own
          → x.name ≡ join e.its.outer.name (type_of_field new i l).name → ⊥
      beside l e x own h body same =
          let d = e.field.met.declaration in
          let name : x.name ≡ d.name =
          same ∙ ap (join e.its.outer.name) e.field.says.says.name ∙ sym e.its.called in
          let both : Some (record { file = x.file; kind = kind.Message x.index })
          ≡ Some (record { file = d.file; kind = kind.Field }) =
          sym (message_known old new ns w is pooled names batch x own h body)
          ∙ ap knows name
          ∙ field_known old new ns w is pooled names batch d e.field.own e.among e.field.body in
          cc (ap is_field both) where
            is_field : Option Definition → Bool
            is_field None = false
            is_field (Some y) = elim y.kind [ kind.Field ↦ true | _ ↦ false ]

      pub group_spelled : ((l : ℕ) → l < length new.messages → IsScoped new (type_at new l))
          → (j : ℕ) → Here j → (type_of_field new i j).group ≡ true
          → pools.IsGroupField new i (type_of_field new i j)
      group_spelled scoped j lt is_group =
          let d = spelled_field j lt in
          let r = d.field.own in
          let group = number_is (type_number numbers.Group) r.field_type
          (sym d.field.says.says.group ∙ is_group) in
          let g = d.its.grouped group in
          let x = g.nested.declaration in
          let meant = group_meant old new ns w is pooled names batch scoped d.field.met r
          d.field.here d.among d.field.body d.its group in
          let called : (type_at new x.index).name ≡ g.type =
          type_called x g.nested.own g.nested.here g.nested.body ∙ g.nested.called in
          record {
            place = x.index;
            kind = d.field.says.says.kind
                ∙ holds_message r meant.0 (meaning r.type_name d.field.met.hand.rest) x.index
                d.field.holds meant.1 meant.2 d.field.kind;
            spelled = ap is_identifier called ∙ g.spelled;
            lower = d.field.says.says.name
                ∙ named_text r.name (map to_ascii_lowercase g.type) g.lower
                ∙ ap (map to_ascii_lowercase) (sym called);
            own = λ l less plain same.
                let e = spelled_field l less in
                beside l e x g.nested.own g.nested.here g.nested.body
                (g.nested.name
                ∙ (λ i. join (sym (one_outer j l d e) i) ((sym called ∙ sym same) i)));
          }

    -- ---- values and extensions

    pub value_spelled : (e : StoredEnum) → IsEnumOf e → (j : ℕ) → j < length (enum_of e).values
        → is_identifier (value_in (enum_of e) j).name ≡ true
    value_spelled e d j lt =
        let v = value_at e d j lt in
        let spelled : HasSpelledValues (enum_view d.own) =
        subst (λ c. IsSourced ns w.first all (record d.declaration { body = c })) d.body
        (sourced d.declaration d.here) in
        ap is_identifier v.name
        ∙ spelled_text v.record_of.name
        (of_all (λ x. IsSpelled x.name) (enum_value_view v.record_of)
        (map enum_value_view d.own.value.items) spelled
        (of_place (enum_value_view v.record_of) (map enum_value_view d.own.value.items) j
        (get_map enum_value_view d.own.value.items j v.record_of v.at)))

    pub extension_spelled : (x : ExtensionType) → Among x (map extension_of stored.extensions.items)
        → is_full_name (parts x.field.full_name) ≡ true
    extension_spelled x h =
        let d = extension_declared rs w.before w.first ns stored kept x h in
        let here = of_along (before_files rs) all d.met d.here in
        let full : is_full_name (parts d.met.declaration.name) ≡ true =
        subst (λ c. IsSourced ns w.first all (record d.met.declaration { body = c })) d.body
        (sourced d.met.declaration here) in
        ap (λ n. is_full_name (parts n)) d.by.field.says.full_name ∙ full
