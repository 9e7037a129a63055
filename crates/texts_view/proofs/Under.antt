-- What texts call what messages hold under numbers, by a pool and by the view of its records.
use Rattle.std.proofs.Common.{◌&&◌, ◌≡◌, ◌∙◌, ℕ, ℤ, Bool, true, false, cond, List, [], Option, Some, None, map, ap, sym, subst, refl}
use Rattle.std.specs.Option.{option_and_then, option_map, option_or}
use Rattle.descriptor_records.specs.Content.{Text, EnumValueContent, FieldContent, file_view}
use Rattle.protobuf_model.specs.Types.{Name}
use Rattle.reflect_print.specs.Named as print
use Rattle.reflect_tables.specs.Names.{enums, messages, names_of}
use Rattle.reflect_tables.specs.Types.{FieldType, KindType, PoolType}
use Rattle.schema_view.specs.Fields.{is_repeated}
use Rattle.schema_view.specs.Files.{text_of}
use Rattle.schema_view.specs.Types.{field_at, name_of_field, names_entry, type_at, type_name, value_number, values_of}
use Rattle.schema_view.specs.Views.{View, view_of}
use Rattle.schema_view.proofs.Road.{AreLinked}
use Rattle.linked_view.specs.Entries.{HasDeclaredEntries, TellsEntries}
use Rattle.linked_view.specs.Extended.{TellsExtensions}
use Rattle.linked_view.specs.Valued.{TellsValues}
use Rattle.reflect_message.specs.Known.{known_extension, known_field}
use Rattle.reflect_pool.specs.Shapes.{holds_map}
use Rattle.message_view.specs.Sound.{HaveNames}
use Rattle.message_view.specs.Types as types
use Rattle.text_view.specs.Names as pool
use Rattle.types_view.specs.Fields.{TellsFields}
use Rattle.types_view.proofs.Held.{map_same, map_values}
use Rattle.types_view.proofs.KindNumbers.{sorted}
use Rattle.texts_view.specs.Named.{entry_type, enum_values, extension_under, field_under, label_of, message_name, message_of, name_of_value, of_values, printed_name, record_under}
use Rattle.texts_view.proofs.Fields.{IsKnown, full, known_under}
use Rattle.texts_view.proofs.FieldKinds as kinds
use Rattle.texts_view.proofs.FieldKinds.{kind_is}

both_full : (f x : Option FieldType) → option_or (option_map full f) (option_map full x)
    ≡ option_map full (option_or f x)
both_full (Some f) x = refl
both_full None x = refl

module _ (p : PoolType) (l : AreLinked (map file_view p.records)) (tells : TellsFields p)
    (values : TellsValues p) (entries : TellsEntries p) (declared : HasDeclaredEntries p)
    (names : HaveNames p) (extensions : TellsExtensions p) where
  abbrev V : View
  V = view_of (map file_view p.records)

  abbrev Known : Bool → FieldType → Type 0
  Known = IsKnown p l tells values entries declared names extensions

  -- a field, which bears its own name
  pub record IsNamed (e : FieldType) : Type 0 where
    pub known : Known false e
    pub name : e.name ≡ text_of known.content.name

  -- under a full name and at a place stand the same
  pub record AreAlike (t : Name) (i : ℕ) : Type 0 where
    pub fields : (n : ℕ) → field_under V t n ≡ option_map full (known_field p i n)
    pub extended : (n : ℕ) → extension_under V t n ≡ option_map full (known_extension p i n)
    pub known : (n : ℕ) (e : FieldType) → known_field p i n ≡ Some e → IsNamed e

  -- ---- what values are of

  -- the values of a field by the records and by the entries
  record AreOf (c : FieldContent) (e : FieldType) : Type 0 where
    content : FieldContent
    found : of_values V c ≡ Some content
    kind : kinds.IsOf p l tells values content (types.values_of p e).kind

  module _ (extension : Bool) (e : FieldType) (k : Known extension e) where
    values_are : AreOf k.content e
    values_are = by (holds_map p e) refl where
      mapped : holds_map p e ≡ (is_repeated k.content && names_entry V k.content)
      mapped = map_same p l tells values entries declared names k.proto3 extension k.content e k.both
          e.kind refl (sorted (names_of p messages) (names_of p enums) k.content e.kind k.both.entry.holds)

      by : (b : Bool) → holds_map p e ≡ b → AreOf k.content e
      by true is =
          let v = map_values p l tells values entries declared names k.proto3 extension k.content e
          k.both is in
          record {
            content = v.content;
            found = ap (λ b. cond b (option_and_then (field_at V)
                (name_of_field V (type_name k.content) 2)) (Some k.content)) (sym mapped ∙ is) ∙ v.at;
            kind = subst (λ (x : FieldType). kinds.IsOf p l tells values v.content x.kind)
                (sym v.is ∙ sym (ap (λ b. cond b (types.entry_part p e 2) e) is))
                (kind_is p l tells values v.content v.entry.kind v.both.entry.holds);
          }
      by false is = record {
        content = k.content;
        found = ap (λ b. cond b (option_and_then (field_at V)
            (name_of_field V (type_name k.content) 2)) (Some k.content)) (sym mapped ∙ is);
        kind = subst (λ (x : FieldType). kinds.IsOf p l tells values k.content x.kind)
            (sym (ap (λ b. cond b (types.entry_part p e 2) e) is))
            (kind_is p l tells values k.content e.kind k.both.entry.holds);
      }

  -- ---- what stands under a number

  module _ (t : Name) (i : ℕ) (alike : AreAlike t i) (n : ℕ) where
    abbrev field : Option FieldType
    field = known_field p i n

    abbrev extended : Option FieldType
    extended = known_extension p i n

    abbrev either : Option FieldType
    either = option_or field extended

    abbrev Some_known : FieldType → Type 0
    Some_known e = (extension : Bool) × Known extension e

    known_either : (e : FieldType) → either ≡ Some e → Some_known e
    known_either e = by field refl where
      by : (o : Option FieldType) → field ≡ o → option_or o extended ≡ Some e → Some_known e
      by (Some f) is h = (false, (alike.known n e (is ∙ h)).known)
      by None is h =
          (true, known_under p l tells values entries declared names extensions i n e h)

    record_same : record_under V t n ≡ option_and_then (field_at V) (option_map full either)
    record_same =
        ap (λ o. option_and_then (field_at V) (option_or o (extension_under V t n))) (alike.fields n)
        ∙ ap (λ o. option_and_then (field_at V) (option_or (option_map full field) o))
        (alike.extended n)
        ∙ ap (option_and_then (field_at V)) (both_full field extended)

    -- ---- the name that is printed

    label_is : (e : FieldType) → IsNamed e
        → elim (field_at V e.full_name) as (λ _. Text) [ None ↦ [] | Some c ↦ label_of V c ]
        ≡ print.label_of p e
    label_is e k =
        let c = k.known.content in
        ap (λ o. elim o as (λ _. Text) [ None ↦ [] | Some c ↦ label_of V c ]) k.known.at
        ∙ ap (λ b. elim (cond b (message_of V c) None) as (λ _. Text)
        [ None ↦ text_of c.name | Some m ↦ text_of m.name ]) (sym k.known.both.entry.group)
        ∙ kinds.label_same p l tells values c e.group e.name e.kind
        (kind_is p l tells values c e.kind k.known.both.entry.holds) (sym k.name)

    pub printed_same : printed_name V (field_under V t n) (extension_under V t n)
        ≡ pool.printed_name p field extended
    printed_same =
        ap (λ o. printed_name V o (extension_under V t n)) (alike.fields n)
        ∙ ap (printed_name V (option_map full field)) (alike.extended n)
        ∙ by field refl extended where
          by : (o : Option FieldType) → field ≡ o → (x : Option FieldType)
              → printed_name V (option_map full o) (option_map full x) ≡ pool.printed_name p o x
          by (Some e) is x = label_is e (alike.known n e is)
          by None is (Some x) = refl
          by None is None = refl

    -- ---- values

    kind_same : pool.kind_at p i n ≡ option_map (λ e. (types.values_of p e).kind) either
    kind_same = by field extended where
      by : (f x : Option FieldType) → pool.value_kind p f x
          ≡ option_map (λ e. (types.values_of p e).kind) (option_or f x)
      by (Some f) x = refl
      by None (Some x) = refl
      by None None = refl

    abbrev valued : Option FieldContent → List EnumValueContent
    valued o = elim (option_and_then (of_values V) o) as (λ _. List EnumValueContent)
        [ None ↦ [] | Some f ↦ values_of (type_at V f) ]

    values_is : (e : FieldType) (k : Some_known e) → valued (Some k.1.content)
        ≡ values_of (type_at V (values_are k.0 e k.1).content)
    values_is e k = ap (λ o. elim o as (λ _. List EnumValueContent)
        [ None ↦ [] | Some f ↦ values_of (type_at V f) ]) (values_are k.0 e k.1).found

    content_is : (e : FieldType) → either ≡ Some e → (k : Some_known e)
        → record_under V t n ≡ Some k.1.content
    content_is e is k =
        record_same ∙ ap (λ o. option_and_then (field_at V) (option_map full o)) is ∙ k.1.at

    -- what is told of the values that a record has is told of the kind that stands there
    told_same : {X : Type 0} (said : List EnumValueContent → Option X) (of : KindType → Option X)
        → said [] ≡ None
        → ((c : FieldContent) (k : KindType) → kinds.IsOf p l tells values c k
        → said (values_of (type_at V c)) ≡ of k)
        → said (enum_values V t n) ≡ option_and_then of (pool.kind_at p i n)
    told_same said of none same = by either refl where
      by : (o : Option FieldType) → either ≡ o
          → said (enum_values V t n) ≡ option_and_then of (pool.kind_at p i n)
      by None is =
          ap (λ o. said (valued o))
          (record_same ∙ ap (λ o. option_and_then (field_at V) (option_map full o)) is)
          ∙ none
          ∙ sym (ap (option_and_then of)
          (kind_same ∙ ap (option_map (λ e. (types.values_of p e).kind)) is))
      by (Some e) is =
          let k = known_either e is in
          let v = values_are k.0 e k.1 in
          ap (λ o. said (valued o)) (content_is e is k)
          ∙ ap said (values_is e k)
          ∙ same v.content (types.values_of p e).kind v.kind
          ∙ sym (ap (option_and_then of)
          (kind_same ∙ ap (option_map (λ e. (types.values_of p e).kind)) is))

    pub number_same : (w : Text) → value_number w (enum_values V t n)
        ≡ option_and_then (λ k. pool.number_in p k w) (pool.kind_at p i n)
    number_same w = told_same (value_number w) (λ k. pool.number_in p k w) refl
        (λ c. kinds.number_same p l tells values c w)

    pub value_same : (z : ℤ) → name_of_value z (enum_values V t n)
        ≡ option_and_then (λ k. pool.name_in p k z) (pool.kind_at p i n)
    value_same z = told_same (name_of_value z) (λ k. pool.name_in p k z) refl
        (λ c. kinds.value_same p l tells values c z)

    -- ---- the types of maps' entries

    entry_same : pool.entry_name p field extended
        ≡ elim either as (λ _. Name) [ None ↦ [] | Some e ↦ pool.kind_name p e.kind ]
    entry_same = by field extended where
      by : (f x : Option FieldType) → pool.entry_name p f x
          ≡ elim (option_or f x) as (λ _. Name) [ None ↦ [] | Some e ↦ pool.kind_name p e.kind ]
      by (Some f) x = refl
      by None (Some x) = refl
      by None None = refl

    abbrev entry_of : Option FieldContent → Name
    entry_of o = elim o as (λ _. Name) [ None ↦ [] | Some f ↦ message_name V f ]

    pub type_same : entry_type V t n ≡ pool.entry_name p field extended
    type_same = by either refl ∙ sym entry_same where
      by : (o : Option FieldType) → either ≡ o → entry_type V t n
          ≡ elim either as (λ _. Name) [ None ↦ [] | Some e ↦ pool.kind_name p e.kind ]
      by None is =
          ap entry_of (record_same ∙ ap (λ o. option_and_then (field_at V) (option_map full o)) is)
          ∙ sym (ap (λ o. elim o as (λ _. Name)
          [ None ↦ [] | Some e ↦ pool.kind_name p e.kind ]) is)
      by (Some e) is =
          let k = known_either e is in
          ap entry_of (content_is e is k)
          ∙ kinds.name_same p l tells values k.1.content e.kind
          (kind_is p l tells values k.1.content e.kind k.1.both.entry.holds)
          ∙ sym (ap (λ o. elim o as (λ _. Name)
          [ None ↦ [] | Some e ↦ pool.kind_name p e.kind ]) is)
