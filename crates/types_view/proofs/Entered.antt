-- The entry of a field's record is that of the record as it is linked.
use Rattle.std.proofs.Common.{◌≡◌, ◌∙◌, ℕ, ℤ, pos, Bool, true, false, not, ◌&&◌, ◌||◌, cond, bytes_eq, codes, List, [], ◌∷◌, Option, Some, None, String, Global, string_bytes, is_some, option_map, slice_get, unwrap_or, ap, sym, subst, refl}
use Rattle.std.specs.Ordering.{int_eq}
use Rattle.std.proofs.lemmas.Bool.Decides.{Decides-int_eq}
use Rattle.descriptor_records.specs.Content.{Text, FieldContent, FileContent, field_view, file_view, options_view, text_view}
use Rattle.descriptor_records.specs.declared.field.FieldDescriptorProto.{FieldDescriptorProto}
use Rattle.descriptor_records.specs.declared.field.FieldType.{FieldType as TypeNumber}
use Rattle.descriptor_records.specs.declared.file.FileDescriptorProto.{FileDescriptorProto}
use Rattle.descriptor_records.specs.declared.options.Options.{Options}
use Rattle.reflect_fields.specs.FieldDefaults.{IsWritten}
use Rattle.reflect_fields.specs.Fields as fields
use Rattle.reflect_fields.specs.Fields.{IsExtension, IsField, Says, is_message, is_packable, label_of, natural, scalar_type}
use Rattle.reflect_index.specs.Entries.{HasKind, IsMeant, IsTyped}
use Rattle.reflect_names.specs.References.{View, kind_meant, meaning_of}
use Rattle.reflect_pool.specs.Shapes as shapes
use Rattle.reflect_scope.specs.FileIndexes.{Indexes}
use Rattle.reflect_scope.specs.Known.{Known}
use Rattle.reflect_scope.specs.Means.{means}
use Rattle.reflect_scope.specs.declared.definition.Definition.{Definition}
use Rattle.reflect_scope.specs.declared.definition.DefinitionKind.{DefinitionKind}
use Rattle.reflect_scope.specs.declared.definition.DefinitionKind.TheVariants as kind
use Rattle.reflect_scope.specs.declared.definition.ResolveNameFilter.TheVariants as filter
use Rattle.reflect_tables.specs.Names.{AreFound, FullName, Sort, enums, found, messages, place_in, place_of, with_file}
use Rattle.reflect_tables.specs.Types.{DefaultType, FieldType, KindType}
use Rattle.reflect_tables.specs.Types as types
use Rattle.reflect_tables.specs.Views.{syntax_type}
use Rattle.reflect_tables.specs.declared.kind.Cardinality.{Cardinality}
use Rattle.reflect_tables.specs.declared.kind.Cardinality.TheVariants.{Optional, Required, Repeated}
use Rattle.reflect_tables.specs.declared.kind.Syntax.{Syntax}
use Rattle.reflect_tables.specs.declared.kind.Syntax.TheVariants.{Proto2, Proto3}
use Rattle.schema_view.specs.Fields.{asks_packed, is_repeated, packed_option}
use Rattle.schema_view.specs.Files.{is_proto3}
use Rattle.schema_view.specs.References.{Reference, Target, a_type, dotted, fill_type, rename_message_type, rename_type}
use Rattle.schema_view.specs.Rules.{is_number}
use Rattle.linked_view.specs.AtHand.{kind_by}
use Rattle.linked_view.specs.Known.{AreKnown}
use Rattle.linked_view.specs.Taken.{type_of}
use Rattle.linked_view.proofs.AtHand.{IsResolved}
use Rattle.linked_view.proofs.Linked.{found_by, meaning_in, meanings, sees_of}
use Rattle.linked_view.proofs.Means.{resolved_to}
use Rattle.types_view.specs.Fields.{HasDefault, HoldsKind, HoldsScalar, IsEntryOf, IsGiven, IsWrittenAt}
use Rattle.types_view.proofs.KindNumbers.{Sorted, a_message, a_scalar, an_enum, each_scalar, sorted}

-- ---- labels

label_repeats : (l : Option ℤ) → shapes.is_repeated (label_of l) ≡ is_number (pos 3) l
label_repeats None = refl
label_repeats (Some m) = by (int_eq m (pos 2)) refl where
  last : (b : Bool) → shapes.is_repeated (cond b Repeated Optional) ≡ b
  last true = refl
  last false = refl

  by : (b : Bool) → int_eq m (pos 2) ≡ b
      → shapes.is_repeated (cond (int_eq m (pos 2)) Required (cond (int_eq m (pos 3)) Repeated Optional))
      ≡ int_eq m (pos 3)
  by true is =
      ap (λ b. shapes.is_repeated (cond b Required (cond (int_eq m (pos 3)) Repeated Optional))) is
      ∙ sym (ap (λ z. int_eq z (pos 3)) ((Decides-int_eq m (pos 2)).0 is))
  by false is =
      ap (λ b. shapes.is_repeated (cond b Required (cond (int_eq m (pos 3)) Repeated Optional))) is
      ∙ last (int_eq m (pos 3))

one_repeats : (c : Cardinality) → fields.is_repeated c ≡ shapes.is_repeated c
one_repeats Optional = refl
one_repeats Required = refl
one_repeats Repeated = refl

repeats : (l : Option ℤ) → fields.is_repeated (label_of l) ≡ is_number (pos 3) l
repeats l = one_repeats (label_of l) ∙ label_repeats l

asks : (b : Bool) (o : Option Options) → unwrap_or (fields.packed_option o) b
    ≡ asks_packed b (packed_option (option_map options_view o))
asks b None = refl
asks b (Some x) = by x.packed where
  by : (q : Option Bool) → unwrap_or q b ≡ asks_packed b q
  by None = refl
  by (Some c) = refl

pub syntax_is : (f : FileDescriptorProto) → fields.is_proto3 (syntax_type f.syntax)
    ≡ is_proto3 (file_view f)
syntax_is f = by f.syntax where
  one : (b : Bool) → fields.is_proto3 (cond b Proto3 Proto2) ≡ b
  one true = refl
  one false = refl

  by : (o : Option (String Global)) → fields.is_proto3 (syntax_type o)
      ≡ bytes_eq (elim (text_view o) as (λ _. Text) [ None ↦ [] | Some t ↦ t ]) (codes "proto3")
  by None = refl
  by (Some s) = one (bytes_eq (string_bytes s) (codes "proto3"))

or_none : (b : Bool) → b ≡ (b || false)
or_none true = refl
or_none false = refl

all_present : (a b c : Bool) → (a || (b || (c || true))) ≡ true
all_present true b c = refl
all_present false true c = refl
all_present false false true = refl
all_present false false false = refl

and_true : (a : Bool) → a ≡ (a && true)
and_true true = refl
and_true false = refl

-- ---- what is said of both

module _ (ms es : List FullName) (s : Syntax) (proto3 : Bool) (syntax : fields.is_proto3 s ≡ proto3)
    (r : FieldDescriptorProto) (holds : KindType) (full name : Option Text) (type : Option ℤ) where
  -- the record as it is linked
  abbrev linked : FieldContent
  linked = record (field_view r) { extendee = full; field_type = type; type_name = name }

  module _ (held : HoldsKind ms es linked holds) (group : is_number (pos 10) r.field_type ≡ is_number (pos 10) type)
      (unnamed : name ≡ None → r.field_type ≡ type) where
    given_of : (k : KindType) (z : Option ℤ) (t : Text) (d : Option DefaultType) → IsWritten k z t d
        → IsGiven k z t d
    given_of (types.message i) z t d h = tt
    given_of k z t d h = h

    one_given : (k : KindType) (t : Text) (d : Option DefaultType) → Sorted ms es linked k
        → IsWritten k r.field_type t d → IsGiven k type t d
    one_given k t d (a_scalar h) w =
        given_of k type t d (subst (λ z. IsWritten k z t d) (unnamed h.unnamed) w)
    one_given _ t d (a_message w') w = tt
    one_given _ t d (an_enum w') w = w

    default_given : (o : Option (String Global)) (d : Option DefaultType)
        → elim o as (λ _. Type 0)
        [ None ↦ d ≡ None | Some t ↦ IsWritten holds r.field_type (string_bytes t) d ]
        → elim (text_view o) as (λ _. Type 0)
        [ None ↦ d ≡ None | Some t ↦ IsGiven holds type t d ]
    default_given None d h = h
    default_given (Some t) d h =
        one_given holds (string_bytes t) d (sorted ms es linked holds held) h

    module _ (at : List ℤ) (called : List ℕ) (e : FieldType) (says : Says s at called holds r e) where
      packed_is : e.packed
          ≡ (is_repeated linked && (is_packable e.kind && asks_packed proto3 (packed_option linked.options)))
      packed_is =
          says.packed
          ∙ ap (λ b. b && (is_packable holds && unwrap_or (fields.packed_option r.options) (fields.is_proto3 s)))
          (repeats r.label)
          ∙ ap (λ b. is_repeated linked && (is_packable holds && b))
          (asks (fields.is_proto3 s) r.options)
          ∙ ap (λ b. is_repeated linked && (is_packable holds && asks_packed b (packed_option linked.options)))
          syntax
          ∙ ap (λ k. is_repeated linked && (is_packable k && asks_packed proto3 (packed_option linked.options)))
          (sym says.kind)

      entered : (extension : Bool)
          → e.presence ≡ (not (is_repeated linked)
          && (is_message e.kind || (is_some r.oneof_index || (not proto3 || extension))))
          → e.oneof ≡ cond extension None (natural r.oneof_index)
          → IsEntryOf ms es proto3 extension linked e
      entered extension presence oneof = record {
        holds = subst (HoldsKind ms es linked) (sym says.kind) held;
        number = says.number;
        repeated = ap shapes.is_repeated says.cardinality ∙ label_repeats r.label;
        group = says.group ∙ group;
        packed = packed_is;
        presence = presence;
        oneof = oneof;
        default = subst (λ k. HasDefault k linked e.default) (sym says.kind)
            (default_given r.default_value e.default says.default);
      }

    pub field_entered : (at : List ℤ) (called : List ℕ) (e : FieldType)
        → IsField s at called holds r e → IsEntryOf ms es proto3 false linked e
    field_entered at called e h = entered at called e h.says false
        (h.presence
        ∙ ap (λ b. not b && (is_message holds || (is_some r.oneof_index || not (fields.is_proto3 s))))
        (repeats r.label)
        ∙ ap (λ b. not (is_repeated linked) && (is_message holds || (is_some r.oneof_index || not b)))
        syntax
        ∙ ap (λ b. not (is_repeated linked) && (is_message holds || (is_some r.oneof_index || b)))
        (or_none (not proto3))
        ∙ ap (λ k. not (is_repeated linked)
        && (is_message k || (is_some r.oneof_index || (not proto3 || false)))) (sym h.says.kind))
        h.oneof

    pub extension_entered : (at : List ℤ) (called : List ℕ) (e : FieldType)
        → IsExtension s at called holds r e → IsEntryOf ms es proto3 true linked e
    extension_entered at called e h = entered at called e h.says true
        (h.presence
        ∙ ap not (repeats r.label)
        ∙ and_true (not (is_repeated linked))
        ∙ ap (λ b. not (is_repeated linked) && b)
        (sym (all_present (is_message e.kind) (is_some r.oneof_index) (not proto3))))
        h.oneof

-- ---- names

module _ (files : List FileDescriptorProto) (known : Known) (are : AreKnown files known)
    (indexes : Indexes) (sees : ℕ → ℕ → Bool) (ms es : List FullName)
    (ms_stand : AreFound (found messages known) ms) (es_stand : AreFound (found enums known) es)
    (f : FileContent) where
  abbrev pub namings : Reference → Target
  namings r = dotted (meanings files known are indexes sees f r)

  abbrev pub see : View
  see = record { known = known; sees = sees_of files known are indexes sees f }

  -- what is meant stands at its index
  stands_at : (s : Sort) (names : List FullName) → AreFound (found s known) names → (full : Text)
      (d : Definition) (i : ℕ) → known full ≡ Some d → place_of s d.kind ≡ Some i
      → slice_get names i ≡ Some (full, d.file)
  stands_at s names stand full d i knows place =
      (stand full i d.file).0 (ap (place_in s) knows ∙ ap (with_file d) place)

  module _ (scope : Text) (type : Option ℤ) where
    abbrev name_of : Option (String Global) → Option Text
    name_of o = rename_type namings scope type (text_view o)

    meant_holds : (s : String Global) (full : Text) (d : Definition) (k : KindType) (c : FieldContent)
        → meaning_of see filter.FieldType scope (string_bytes s) ≡ means full d
        → c.type_name ≡ name_of (Some s) → (j : DefinitionKind) → d.kind ≡ j → IsMeant (Some j) k
        → HoldsKind ms es c k
    meant_holds s full d k c m named (kind.Message i) is same =
        let r = resolved_to known see.sees filter.FieldType scope (string_bytes s) full d m in
        subst (HoldsKind ms es c) (sym same) (record {
          full = full;
          file = d.file;
          written = named ∙ ap (λ x. Some (46 ∷ (found_by x).0)) m;
          there = stands_at messages ms ms_stand full d i r.1.known_as (ap (place_of messages) is);
        })
    meant_holds s full d k c m named (kind.Enum i) is same =
        let r = resolved_to known see.sees filter.FieldType scope (string_bytes s) full d m in
        subst (HoldsKind ms es c) (sym same) (record {
          full = full;
          file = d.file;
          written = named ∙ ap (λ x. Some (46 ∷ (found_by x).0)) m;
          there = stands_at enums es es_stand full d i r.1.known_as (ap (place_of enums) is);
        })
    meant_holds s full d k c m named j is same = absurd same

  typed_holds : (c : FieldContent) (k : KindType) → c.type_name ≡ None → IsTyped c.field_type k
      → HoldsKind ms es c k
  typed_holds c k unnamed typed = by c.field_type refl typed where
    of_scalar : (t : TypeNumber) (j : KindType) → scalar_type t ≡ Some j → HoldsScalar c j
        → HoldsKind ms es c j
    of_scalar =
        each_scalar (λ j. HoldsScalar c j → HoldsKind ms es c j) (λ h. h) (λ h. h) (λ h. h) (λ h. h)
        (λ h. h) (λ h. h) (λ h. h) (λ h. h) (λ h. h) (λ h. h) (λ h. h) (λ h. h) (λ h. h) (λ h. h)
        (λ h. h)

    by : (o : Option ℤ) → c.field_type ≡ o → IsTyped o k → HoldsKind ms es c k
    by None e h = absurd h
    by (Some n) e (t, number, type) = of_scalar t k type (record {
      type = t;
      unnamed = unnamed;
      number = e ∙ ap Some (sym number);
      holds = type;
    })

  -- what a record holds as it is linked
  pub linked_holds : (scope : Text) (r : FieldDescriptorProto) (extendee : Option Text) (k : KindType)
      → IsResolved see filter.FieldType scope r.type_name
      → HasKind r (kind_by see filter.FieldType scope r.type_name) k
      → HoldsKind ms es (record (field_view r) {
        extendee = extendee;
        field_type = fill_type namings scope r.field_type (text_view r.type_name);
        type_name = rename_type namings scope r.field_type (text_view r.type_name);
      }) k
  linked_holds scope r extendee k resolved has = by r.type_name resolved has where
    filled : (o : Option ℤ) → fill_type namings scope o None ≡ o
    filled None = refl
    filled (Some n) = refl

    by : (o : Option (String Global)) → IsResolved see filter.FieldType scope o
        → elim o as (λ _. Type 0) [
          | None ↦ IsTyped r.field_type k
          | Some name ↦ IsMeant (kind_by see filter.FieldType scope o) k
        ]
        → HoldsKind ms es (record (field_view r) {
          extendee = extendee;
          field_type = fill_type namings scope r.field_type (text_view o);
          type_name = rename_type namings scope r.field_type (text_view o);
        }) k
    by None res typed = typed_holds _ k refl (subst (λ z. IsTyped z k) (sym (filled r.field_type)) typed)
    by (Some s) (full, d, m) meant =
        meant_holds scope r.field_type s full d k _ m refl d.kind refl
        (subst (λ x. IsMeant (kind_meant x) k) m meant)

  -- no name fills in the number of a group
  pub linked_group : (scope : Text) (o : Option ℤ) (name : Option Text)
      → is_number (pos 10) o ≡ is_number (pos 10) (fill_type namings scope o name)
  linked_group scope (Some n) name = refl
  linked_group scope None None = refl
  linked_group scope None (Some name) =
      by (found_by (meaning_in known (sees_of files known are indexes sees f)
      (record { want = a_type None; scope = scope; name = name }))).1.kind where
        by : (k : DefinitionKind) → false ≡ is_number (pos 10) (Some (type_of k))
        by (kind.Enum i) = refl
        by k = refl

  -- and what has no name keeps its number
  pub linked_unnamed : (scope : Text) (o : Option ℤ) (name : Option Text)
      → rename_type namings scope o name ≡ None → o ≡ fill_type namings scope o name
  linked_unnamed scope (Some n) name e = refl
  linked_unnamed scope None None e = refl
  linked_unnamed scope None (Some name) e = absurd (cc e)

  -- the message that is extended
  pub linked_extendee : (scope : Text) (o : Option (String Global)) (i : ℕ)
      → IsResolved see filter.Message scope o
      → kind_by see filter.Message scope o ≡ Some (kind.Message i)
      → IsWrittenAt ms (rename_message_type namings scope (text_view o)) i
  linked_extendee scope None i res e = absurd (cc e)
  linked_extendee scope (Some s) i (full, d, m) e =
      let r = resolved_to known see.sees filter.Message scope (string_bytes s) full d m in
      let is : d.kind ≡ kind.Message i = cc (sym (ap kind_meant m) ∙ e) in
      record {
        full = full;
        file = d.file;
        written = ap (λ x. Some (46 ∷ (found_by x).0)) m;
        there = stands_at messages ms ms_stand full d i r.1.known_as (ap (place_of messages) is);
      }
