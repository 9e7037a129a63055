-- Fields as messages hold them, by their records and by their entries.
use Rattle.std.proofs.Common.{◌≡◌, ◌∙◌, ◌⊎◌, inl, inr, ℕ, ℤ, pos, Bool, true, false, not, ◌&&◌, ◌||◌, ◌==◌, cond, List, [], ◌∷◌, Option, Some, None, is_some, length, map, slice_get, slice_index_or, unwrap_or, ap, sym, subst, refl}
use Rattle.std.proofs.lemmas.Option.{same_Some}
use Rattle.std.specs.List.{Contains, filter, find}
use Rattle.std.specs.Option.{option_and_then, option_map}
use Rattle.descriptor_records.specs.Content.{Text, FieldContent, FileContent, OptionsContent, file_view}
use Rattle.descriptor_records.specs.FieldNumbers.{type_number}
use Rattle.descriptor_records.specs.declared.field.FieldType.{FieldType as TypeNumber}
use Rattle.descriptor_records.specs.declared.field.FieldType.TheVariants as numbers
use Rattle.protobuf_model.specs.Types.{Field, Key, Kind, Part, keyed, many, nested, one, scalar}
use Rattle.reflect_fields.specs.Fields.{is_message, scalar_type}
use Rattle.reflect_tables.specs.Names.{FullName, enums, messages, names_of}
use Rattle.reflect_tables.specs.Types.{FieldType, KindType, MessageType, PoolType, is_member, no_field, no_oneof, no_type, type_at}
use Rattle.reflect_tables.specs.Types as types
use Rattle.schema_view.specs.Declarations.{Declaration, FieldFacts, MessageFacts, declarations, facts_of, of_field, of_message}
use Rattle.schema_view.specs.Fields.{asks_packed, has_presence, is_group, is_packed, is_repeated, packed_option}
use Rattle.schema_view.specs.Files.{join, text_of}
use Rattle.schema_view.specs.Rules.{HasFieldNumber, IsEntry, IsEntryType, IsMessage, SaysEntry, is_number}
use Rattle.schema_view.specs.Scalars as view
use Rattle.schema_view.specs.Types as said
use Rattle.schema_view.specs.Types.{field_at, field_in, held_field, is_proto3_at, map_field, message_at, message_in, name_of_field, names_entry, plain_field, type_name, undotted}
use Rattle.schema_view.specs.Views.{View, first, when}
use Rattle.schema_view.proofs.Lists.{contains_cases, contains_here, contains_none, contains_there, first_some}
use Rattle.schema_view.proofs.Looking.{fields_declared}
use Rattle.schema_view.proofs.Road.{AreLinked}
use Rattle.schema_view.proofs.Standing.{StandsIn, and_false, field_sound}
use Rattle.linked_view.specs.Entries.{HasDeclaredEntries, TellsEntries}
use Rattle.reflect_message.specs.Known.{entry_field, has_floats, if_held, is_float}
use Rattle.reflect_pool.specs.Shapes as shapes
use Rattle.reflect_pool.specs.Shapes.{holds_map}
use Rattle.message_view.specs.Singles.{scalar_of}
use Rattle.message_view.specs.Sound.{HaveNames}
use Rattle.message_view.specs.Types as pool
use Rattle.message_view.specs.Types.{field_of, kind_in, label_of, values_of}
use Rattle.linked_view.specs.Valued.{TellsValues}
use Rattle.linked_view.proofs.Places.{contains_get, get_contains, get_less}
use Rattle.reflect_index.proofs.Among.{index_is}
use Rattle.types_view.specs.Fields.{IsEntryOf, IsListed, TellsFields, is_optional}
use Rattle.types_view.proofs.Defaults.{default_same}
use Rattle.types_view.proofs.Found.{body_found, proto3_found}
use Rattle.types_view.proofs.KindNumbers.{IsSuited, Sorted, a_message, a_scalar, an_enum, each_scalar, number_of_message, scalar_kind, sorted, suited}
use Rattle.types_view.proofs.Listed.{Agree, HasFirst, HasNone, first_or_none, numbers_agree, one_bit}
use Rattle.types_view.proofs.Told as told
use Rattle.types_view.proofs.Told.{IsDeclaredAs, IsMessageNumber, MessageTold, V, body_is, message_told, one_body, type_is}

-- ---- types of entries

entry_said : (m : MessageFacts) → SaysEntry m.options → said.is_entry m ≡ true
entry_said m (o, e, t) =
    ap (λ (x : Option OptionsContent). elim x as (λ _. Bool) [
      | None ↦ false
      | Some y ↦ elim y.map_entry as (λ _. Bool) [ None ↦ false | Some b ↦ b ]
    ]) e
    ∙ ap (λ (x : Option Bool). elim x as (λ _. Bool) [ None ↦ false | Some b ↦ b ]) t

said_entry : (o : Option OptionsContent)
    → elim o as (λ _. Bool) [
      | None ↦ false
      | Some y ↦ elim y.map_entry as (λ _. Bool) [ None ↦ false | Some b ↦ b ]
    ] ≡ true → SaysEntry o
said_entry None e = absurd (cc e)
said_entry (Some y) e = (y, refl, by y.map_entry e) where
  by : (x : Option Bool) → elim x as (λ _. Bool) [ None ↦ false | Some b ↦ b ] ≡ true → x ≡ Some true
  by None e = absurd (cc e)
  by (Some b) e = ap Some e

-- a type of entries lists a key and a value
pub record ListsEntry (xs : List FieldFacts) : Type 0 where
  pub key : FieldFacts
  pub value : FieldFacts
  pub key_there : Contains xs key
  pub value_there : Contains xs value
  pub is : IsEntry key value
  pub only : (x : FieldFacts) → Contains xs x → (x ≡ key) ⊎ (x ≡ value)

pair_only : (a b x : FieldFacts) → Contains (a ∷ b ∷ []) x → (x ≡ a) ⊎ (x ≡ b)
pair_only a b x h = elim (contains_cases a (b ∷ []) x h) [
  | inl e ↦ inl (sym e)
  | inr j ↦ elim (contains_cases b [] x j) [ inl e ↦ inr (sym e) | inr k ↦ absurd (contains_none x k) ]
]

lists_entry : (xs : List FieldFacts) → IsEntryType xs → ListsEntry xs
lists_entry [] h = absurd h
lists_entry (a ∷ []) h = absurd h
lists_entry (a ∷ b ∷ c ∷ xs) h = absurd h
lists_entry (a ∷ b ∷ []) (inl is) = record {
  key = a;
  value = b;
  key_there = contains_here a (b ∷ []);
  value_there = contains_there a (b ∷ []) b (contains_here b []);
  is = is;
  only = pair_only a b;
}
lists_entry (a ∷ b ∷ []) (inr is) = record {
  key = b;
  value = a;
  key_there = contains_there a (b ∷ []) b (contains_here b []);
  value_there = contains_here a (b ∷ []);
  is = is;
  only = λ x h. elim (pair_only a b x h) [ inl e ↦ inr e | inr e ↦ inl e ];
}

-- ---- bits

or_right : (a b : Bool) → (a || b) ≡ false → b ≡ false
or_right true b e = absurd (cc e)
or_right false b e = e

shuffled : (entry repeated group number : Bool) → number ≡ not group
    → (entry && (repeated && not group)) ≡ (repeated && (number && entry))
shuffled entry repeated true number e = by entry repeated
    ∙ sym (ap (λ n. repeated && (n && entry)) e) where
      by : (x r : Bool) → (x && (r && false)) ≡ (r && (false && x))
      by true true = refl
      by true false = refl
      by false true = refl
      by false false = refl
shuffled entry repeated false number e = by entry repeated
    ∙ sym (ap (λ n. repeated && (n && entry)) e) where
      by : (x r : Bool) → (x && (r && true)) ≡ (r && (true && x))
      by true true = refl
      by true false = refl
      by false true = refl
      by false false = refl

-- ---- the kinds of keys

float_key : (t : TypeNumber) (k : KindType) → scalar_type t ≡ Some k
    → view.is_key_type (Some (type_number t)) ≡ true → is_float k ≡ false
float_key numbers.Double k e h = absurd (cc h)
float_key numbers.Float k e h = absurd (cc h)
float_key numbers.Group k e h = absurd (cc e)
float_key numbers.Message k e h = absurd (cc e)
float_key numbers.Enum k e h = absurd (cc e)
float_key t k e h = subst (λ j. is_float j ≡ false) (same_Some _ k e) refl

key_kind : (p : PoolType) (group : Bool) (ms es : List FullName) (c : FieldContent) (k : KindType)
    → Sorted ms es c k → view.is_key_type (view.scalar_type c.field_type c.type_name) ≡ true
    → (is_float k ≡ false) × (kind_in p group k ≡ scalar (scalar_of k))
key_kind p group ms es c k (a_scalar h) is =
    let type : view.scalar_type c.field_type c.type_name ≡ Some (type_number h.type) =
    ap (view.scalar_type c.field_type) h.unnamed ∙ h.number in (
      float_key h.type k h.holds (sym (ap view.is_key_type type) ∙ is),
      scalar_kind p group h.type k h.holds,
    )
key_kind p group ms es c _ (a_message w) is =
    let no : false ≡ true = sym (ap (λ o. view.is_key_type (view.scalar_type c.field_type o)) w.written) ∙ is in
    absurd (cc)
key_kind p group ms es c _ (an_enum w) is =
    let no : false ≡ true = sym (ap (λ o. view.is_key_type (view.scalar_type c.field_type o)) w.written) ∙ is in
    absurd (cc)

module _ (p : PoolType) (l : AreLinked (map file_view p.records)) (tells : TellsFields p)
    (values : TellsValues p) where
  abbrev fs : List FileContent
  fs = map file_view p.records

  abbrev W : View
  W = V p l

  abbrev ms : List FullName
  ms = names_of p messages

  abbrev es : List FullName
  es = names_of p enums

  -- a field by its record and by its entry
  pub record IsBoth (proto3 extension : Bool) (c : FieldContent) (e : FieldType) : Type 0 where
    pub stands : StandsIn fs c
    pub entry : IsEntryOf ms es proto3 extension c e

  module _ (proto3 extension : Bool) (c : FieldContent) (e : FieldType)
      (h : IsBoth proto3 extension c e) where
    sort : Sorted ms es c e.kind
    sort = sorted ms es c e.kind h.entry.holds

    suits : IsSuited p e.group c e.kind
    suits = suited p l tells values c h.stands e.group e.kind h.entry.group sort

    presence_same : has_presence proto3 extension c ≡ e.presence
    presence_same =
        ap (λ b. not (is_repeated c) && (b || (is_some c.oneof_index || (not proto3 || extension))))
        suits.message ∙ sym h.entry.presence

    packed_same : is_packed proto3 c ≡ e.packed
    packed_same =
        ap (λ b. is_repeated c && (b && asks_packed proto3 (packed_option c.options)))
        suits.packable ∙ sym h.entry.packed

    part_by : Kind → Part
    part_by k = record {
      kind = k;
      presence = has_presence proto3 extension c;
      default = said.default_of (said.values_of (said.type_at W c)) c.default_value k;
    }

    part_same : said.part_of W proto3 extension c
        ≡ cond (is_float e.kind) None (Some (pool.part_of p e))
    unfolding part_by
    part_same = ap (option_map part_by) suits.kind ∙ by (is_float e.kind) refl where
      by : (b : Bool) → is_float e.kind ≡ b
          → option_map part_by (cond b None (Some (kind_in p e.group e.kind)))
          ≡ cond b None (Some (pool.part_of p e))
      by true is = refl
      by false is =
          let default = default_same p l tells values c h.stands e.group e.kind e.default sort
          h.entry.default is in
          λ i. Some (record {
            kind = kind_in p e.group e.kind;
            presence = presence_same i;
            default = sym default i;
          })

  -- ---- the fields of a message by their numbers

  -- the full name of the first field that passes
  abbrev pub first_by : Text → (FieldFacts → Bool) → MessageFacts → Option Text
  first_by t test x =
      first (λ (f : FieldFacts). when (test f) (join t (text_of f.name))) x.fields

  -- the first field of the type at a place that passes, by its record and by its entry
  pub record OwnField (i : ℕ) (m : MessageType) (xs : List FieldFacts) (test : FieldFacts → Bool)
      (passes : FieldType → Bool) : Type 0 where
    pub content : FieldContent
    pub entry : FieldType
    pub proto3 : Bool
    pub both : IsBoth proto3 false content entry
    pub found : find passes (type_at p i).fields ≡ Some entry
    pub called : option_and_then (first_by m.full_name test) (message_at W m.full_name)
        ≡ Some entry.full_name
    pub at : field_at W entry.full_name ≡ Some content
    pub syntax : is_proto3_at W entry.full_name ≡ proto3
    pub there : Contains xs (facts_of content)
    pub stands : IsListed m.full_name (facts_of content) entry
    pub is : test (facts_of content) ≡ true
    pub synthetic : (k : ℕ) → entry.oneof ≡ Some k
        → (slice_index_or m.oneofs k no_oneof).synthetic
        ≡ (is_optional content && (length (filter (is_member k) m.fields) == 1))

  -- or none passes
  pub record NoField (i : ℕ) (m : MessageType) (test : FieldFacts → Bool)
      (passes : FieldType → Bool) : Type 0 where
    pub found : find passes (type_at p i).fields ≡ None
    pub called : option_and_then (first_by m.full_name test) (message_at W m.full_name) ≡ None

  -- the field of a number
  abbrev pub has_number : ℕ → FieldFacts → Bool
  has_number n f = is_number (pos n) f.number

  abbrev pub is_numbered : ℕ → FieldType → Bool
  is_numbered n e = e.number == n

  abbrev pub NumberedField : (i : ℕ) → MessageType → List FieldFacts → ℕ → Type 0
  NumberedField i m xs n = OwnField i m xs (has_number n) (is_numbered n)

  abbrev pub NoNumber : (i : ℕ) → MessageType → ℕ → Type 0
  NoNumber i m n = NoField i m (has_number n) (is_numbered n)

  module _ (i : ℕ) (m : MessageType) (at : slice_get p.messages i ≡ Some m) where
    pub own : MessageTold p l m
    own = message_told p l tells i m at

    type_there : type_at p i ≡ m
    type_there = index_is p.messages i m no_type at

    pub message_is : message_at W m.full_name ≡ Some own.facts
    message_is =
        ap (option_and_then message_in) (body_is p l m.full_name (of_message own.facts) own.declared)

    -- the field that one of the facts are of
    pub record IsOf (x : FieldFacts) : Type 0 where
      pub content : FieldContent
      pub declared : IsDeclaredAs p l (join m.full_name (text_of x.name)) (of_field content)
      pub facts : facts_of content ≡ x

    content_of : (x : FieldFacts) → Contains own.facts.fields x → IsOf x
    content_of x h =
        let d = own.declared in
        let f = fields_declared d.file m.full_name own.facts d.inside x h in
        record {
          content = f.0;
          declared = record { file = d.file; there = d.there; inside = f.1 };
          facts = f.2;
        }

    numbered : (x : FieldFacts) → Contains own.facts.fields x → HasFieldNumber x.number
    numbered x h =
        let c = content_of x h in
        subst (λ (y : FieldFacts). HasFieldNumber y.number) c.facts
        (field_sound fs l c.content (record {
          file = c.declared.file;
          declaration = record { name = join m.full_name (text_of x.name); body = of_field c.content };
          there = c.declared.there;
          inside = c.declared.inside;
          is = refl;
        })).number

    -- a field that is listed, by its record and by its entry
    pub record IsListedAs (f : FieldFacts) (e : FieldType) : Type 0 where
      pub content : FieldContent
      pub proto3 : Bool
      pub both : IsBoth proto3 false content e
      pub here : field_at W e.full_name ≡ Some content
      pub syntax : is_proto3_at W e.full_name ≡ proto3
      pub facts : facts_of content ≡ f
      pub synthetic : (k : ℕ) → e.oneof ≡ Some k → (slice_index_or m.oneofs k no_oneof).synthetic
          ≡ (is_optional content && (length (filter (is_member k) m.fields) == 1))

    pub listed_as : (f : FieldFacts) (e : FieldType) → Contains own.facts.fields f
        → Contains m.fields e → IsListed m.full_name f e → IsListedAs f e
    listed_as f e inside there stands =
        let whole = tells.fields m e (get_contains p.messages i m at) there in
        let t = whole.field in
        let d : Declaration = record { name = e.full_name; body = of_field t.content } in
        let c = content_of f inside in
        let here : IsDeclaredAs p l e.full_name (of_field t.content) =
        record { file = t.file; there = t.there; inside = t.inside } in
        let bodies : of_field c.content ≡ of_field t.content =
        one_body p l e.full_name (of_field c.content) (of_field t.content)
        (subst (λ n. IsDeclaredAs p l n (of_field c.content)) (sym stands.full_name) c.declared)
        here in
        let same : c.content ≡ t.content = cc bodies in
        record {
          content = t.content;
          proto3 = _;
          both = record {
            stands = record {
              file = t.file;
              declaration = d;
              there = t.there;
              inside = t.inside;
              is = refl;
            };
            entry = t.entry;
          };
          here = ap (option_and_then field_in) (body_found fs l t.file d t.there t.inside);
          syntax = proto3_found fs l t.file d t.there t.inside;
          facts = ap facts_of (sym same) ∙ c.facts;
          synthetic = whole.synthetic;
        }

    module _ (test : FieldFacts → Bool) (passes : FieldType → Bool) where
      field_by : HasFirst m.full_name test passes own.facts.fields m.fields
          ⊎ HasNone m.full_name test passes own.facts.fields m.fields
          → OwnField i m own.facts.fields test passes ⊎ NoField i m test passes
      field_by (inr h) = inr (record {
        found = ap (λ (x : MessageType). find passes x.fields) type_there ∙ h.found;
        called = ap (option_and_then (first_by m.full_name test)) message_is ∙ h.called;
      })
      field_by (inl h) =
          let o = listed_as h.facts h.entry h.inside h.there h.stands in
          inl (record {
            content = o.content;
            entry = h.entry;
            proto3 = o.proto3;
            both = o.both;
            found = ap (λ (x : MessageType). find passes x.fields) type_there ∙ h.found;
            called = ap (option_and_then (first_by m.full_name test)) message_is ∙ h.called;
            at = o.here;
            syntax = o.syntax;
            there = subst (Contains own.facts.fields) (sym o.facts) h.inside;
            stands = subst (λ x. IsListed m.full_name x h.entry) (sym o.facts) h.stands;
            is = ap test o.facts ∙ h.is;
            synthetic = o.synthetic;
          })

      pub first_field : Agree m.full_name test passes own.facts.fields m.fields
          → OwnField i m own.facts.fields test passes ⊎ NoField i m test passes
      first_field agree =
          field_by (first_or_none m.full_name test passes own.facts.fields m.fields own.fields agree)

    pub own_field : (n : ℕ) → NumberedField i m own.facts.fields n ⊎ NoNumber i m n
    own_field n = first_field (has_number n) (is_numbered n)
        (numbers_agree m.full_name n own.facts.fields m.fields numbered)

    entry_same : (n : ℕ) (o : NumberedField i m own.facts.fields n)
        → said.entry_part W m.full_name n
        ≡ cond (is_float o.entry.kind) None (Some (pool.part_of p o.entry))
    entry_same n o =
        let name = o.entry.full_name in
        ap (option_and_then (λ t. option_and_then (said.part_of W (is_proto3_at W t) false)
        (field_at W t))) o.called
        ∙ ap (option_and_then (said.part_of W (is_proto3_at W name) false)) o.at
        ∙ ap (λ b. said.part_of W b false o.content) o.syntax
        ∙ part_same o.proto3 false o.content o.entry o.both

    -- ---- a map's entries

    some_field : (n : ℕ) (x : FieldFacts) → Contains own.facts.fields x → x.number ≡ Some (pos n)
        → is_number (pos n) (Some (pos n)) ≡ true → NumberedField i m own.facts.fields n
    some_field n x h e is = by (own_field n) where
      by : NumberedField i m own.facts.fields n ⊎ NoNumber i m n
          → NumberedField i m own.facts.fields n
      by (inl o) = o
      by (inr none) =
          let name = join m.full_name (text_of x.name) in
          let first = first_some (λ (f : FieldFacts). when (is_number (pos n) f.number)
          (join m.full_name (text_of f.name))) own.facts.fields x name h
          (ap (λ b. when b name) (ap (is_number (pos n)) e ∙ is)) in
          absurd (cc (sym first.1
          ∙ sym (ap (option_and_then (said.named_in m.full_name n)) message_is) ∙ none.called))

    pub record IsKeyed : Type 0 where
      pub key : NumberedField i m own.facts.fields 1
      pub value : NumberedField i m own.facts.fields 2
      pub is_key : view.is_key_type
          (view.scalar_type key.content.field_type key.content.type_name) ≡ true

    is_keyed : said.is_entry own.facts ≡ true → IsKeyed
    is_keyed entry =
        let d = own.declared in
        let sound : IsMessage own.facts =
        (l.each d.file d.there).sound (record { name = m.full_name; body = of_message own.facts })
        d.inside in
        let e = lists_entry own.facts.fields (sound.entry (said_entry own.facts.options entry)) in
        let key = some_field 1 e.key e.key_there e.is.key.number refl in
        let value = some_field 2 e.value e.value_there e.is.value.number refl in
        record {
          key = key;
          value = value;
          is_key = elim (e.only (facts_of key.content) key.there) [
            | inl same ↦ ap (λ (x : FieldFacts). view.is_key_type x.scalar) same ∙ e.is.key_type
            | inr same ↦ (
                let no : false ≡ true =
                sym (ap (is_number (pos 1)) e.is.value.number)
                ∙ sym (ap (λ (x : FieldFacts). is_number (pos 1) x.number) same) ∙ key.is in
                absurd (cc no))
          ];
        }

  -- ---- maps

  module _ (entries : TellsEntries p) (declared : HasDeclaredEntries p) (names : HaveNames p) where
    pub same_type : (i k : ℕ) (m q : MessageType) → slice_get p.messages i ≡ Some m
        → slice_get p.messages k ≡ Some q → m.full_name ≡ q.full_name → i ≡ k
    same_type i k m q e f name =
        let first = index_is p.messages i m no_type e in
        let second = index_is p.messages k q no_type f in
        names i k (get_less p.messages i m e) (get_less p.messages k q f)
        (ap (λ (x : MessageType). x.full_name) first ∙ name
        ∙ sym (ap (λ (x : MessageType). x.full_name) second))

    -- a type has the parts of a map's entry where its record says that it is one
    marks : (i : ℕ) (m : MessageType) (at : slice_get p.messages i ≡ Some m)
        → is_some m.entry ≡ said.is_entry (own i m at).facts
    marks i m at = one_bit (is_some m.entry) (said.is_entry (own i m at).facts) to from where
      to : is_some m.entry ≡ true → said.is_entry (own i m at).facts ≡ true
      to e =
          let d = declared m (get_contains p.messages i m at) e in
          let here : IsDeclaredAs p l m.full_name (of_message d.facts) = record {
            file = d.file;
            there = d.there;
            inside = subst (λ n. Contains (declarations d.file) (record { name = n; body = of_message d.facts }))
                d.name (subst (λ b. Contains (declarations d.file)
                (record { name = d.message.name; body = b })) d.body d.inside);
          } in
          let bodies : of_message d.facts ≡ of_message (own i m at).facts =
          one_body p l m.full_name (of_message d.facts) (of_message (own i m at).facts) here
          (own i m at).declared in
          let same : d.facts ≡ (own i m at).facts = cc bodies in
          ap said.is_entry (sym same) ∙ entry_said d.facts d.says

      from : said.is_entry (own i m at).facts ≡ true → is_some m.entry ≡ true
      from e =
          let o = own i m at in
          let t = entries o.declared.file (record { name = m.full_name; body = of_message o.facts })
          o.facts o.declared.there o.declared.inside refl (said_entry o.facts.options e) in
          let k = contains_get p.messages t.0 t.1 in
          let place = same_type i k.0 m t.0 at k.1 (sym t.2) in
          let same : m ≡ t.0 =
          cc (sym at ∙ ap (slice_get p.messages) place ∙ k.1) in
          ap (λ (x : MessageType). is_some x.entry) same ∙ t.3

    abbrev says_map : FieldContent → Bool
    says_map c = is_repeated c && names_entry W c

    module _ (proto3 extension : Bool) (c : FieldContent) (e : FieldType)
        (h : IsBoth proto3 extension c e) where
      plain_map : (k : KindType) → e.kind ≡ k → shapes.is_entry p k ≡ false → is_message k ≡ false
          → holds_map p e ≡ says_map c
      plain_map k is entry message =
          let number : is_number (pos 11) c.field_type ≡ false =
          or_right (is_group c) (is_number (pos 11) c.field_type)
          ((suits proto3 extension c e h).message ∙ ap is_message is ∙ message) in
          ap (λ b. b && (shapes.is_repeated e.cardinality && not e.group)) (ap (shapes.is_entry p) is ∙ entry)
          ∙ sym (and_false (is_repeated c))
          ∙ sym (ap (λ b. is_repeated c && (b && elim (option_and_then message_in (said.type_at W c))
          as (λ _. Bool) [ None ↦ false | Some m ↦ said.is_entry m ])) number)

      message_map : (i : ℕ) (m : MessageType) (at : slice_get p.messages i ≡ Some m)
          → e.kind ≡ types.message i → c.type_name ≡ Some (46 ∷ m.full_name)
          → holds_map p e ≡ (is_repeated c && (is_number (pos 11) c.field_type
          && said.is_entry (own i m at).facts))
      message_map i m at kind written =
          let entry : shapes.is_entry p e.kind ≡ said.is_entry (own i m at).facts =
          ap (shapes.is_entry p) kind
          ∙ ap (λ (x : MessageType). is_some x.entry) (index_is p.messages i m no_type at)
          ∙ marks i m at in
          ap (λ b. b && (shapes.is_repeated e.cardinality && not e.group)) entry
          ∙ ap (λ b. said.is_entry (own i m at).facts && (b && not e.group)) h.entry.repeated
          ∙ ap (λ b. said.is_entry (own i m at).facts && (is_repeated c && not b)) h.entry.group
          ∙ shuffled (said.is_entry (own i m at).facts) (is_repeated c) (is_group c)
          (is_number (pos 11) c.field_type)
          (opposite c.field_type (number_of_message p l tells values c h.stands i m at written)) where
            opposite : (o : Option ℤ) → IsMessageNumber o
                → is_number (pos 11) o ≡ not (is_number (pos 10) o)
            opposite o (inl ten) = ap (is_number (pos 11)) ten ∙ sym (ap (λ x. not (is_number (pos 10) x)) ten)
            opposite o (inr eleven) = ap (is_number (pos 11)) eleven ∙ sym (ap (λ x. not (is_number (pos 10) x)) eleven)

      message_says : (i : ℕ) (m : MessageType) (at : slice_get p.messages i ≡ Some m)
          → c.type_name ≡ Some (46 ∷ m.full_name)
          → says_map c ≡ (is_repeated c && (is_number (pos 11) c.field_type
          && said.is_entry (own i m at).facts))
      message_says i m at written =
          ap (λ b. is_repeated c && (is_number (pos 11) c.field_type
          && elim (option_and_then message_in b) as (λ _. Bool)
          [ None ↦ false | Some m ↦ said.is_entry m ]))
          (type_is p l c m.full_name (of_message (own i m at).facts) written (own i m at).declared)

      pub map_same : (k : KindType) → e.kind ≡ k → Sorted ms es c k → holds_map p e ≡ says_map c
      map_same k is (a_scalar s) =
          plain_map k is (each_scalar (λ j. shapes.is_entry p j ≡ false) refl refl refl refl refl refl
          refl refl refl refl refl refl refl refl refl s.type k s.holds)
          (each_scalar (λ j. is_message j ≡ false) refl refl refl refl refl refl
          refl refl refl refl refl refl refl refl refl s.type k s.holds)
      map_same _ is (an_enum {i} w) = plain_map (types.enumeration i) is refl refl
      map_same _ is (a_message {i} w) =
          let m = told.message_at p c.type_name i w in
          message_map i m.type m.at is m.written ∙ sym (message_says i m.type m.at m.written)

      -- ---- a field that is no map

      plain_by : Option ℕ → Part → Field
      plain_by oneof q = record {
        part = q;
        label = cond (is_repeated c) (many (is_packed proto3 c)) one;
        oneof = oneof;
        extension = extension;
      }

      plain_same : (oneof : Option ℕ) → holds_map p e ≡ false
          → plain_field W proto3 extension oneof c
          ≡ option_map (field_of p oneof extension) (if_held p e)
      unfolding plain_by
      plain_same oneof plain =
          ap (option_map (plain_by oneof)) (part_same proto3 extension c e h)
          ∙ by (is_float e.kind)
          ∙ sym (ap (λ b. option_map (field_of p oneof extension)
          (cond (is_float e.kind || (b && has_floats p e.kind)) None (Some e))) plain) where
            label : cond (is_repeated c) (many (is_packed proto3 c)) one ≡ label_of p e
            label =
                ap (λ b. cond (is_repeated c) (many b) one) (packed_same proto3 extension c e h)
                ∙ sym (ap (λ b. cond b (many e.packed) one) h.entry.repeated)
                ∙ sym (ap (λ b. cond b (keyed (pool.key_of p (pool.entry_part p e 1)))
                (cond (shapes.is_repeated e.cardinality) (many e.packed) one)) plain)

            own_part : pool.part_of p e ≡ pool.part_of p (values_of p e)
            own_part = sym (ap (λ b. pool.part_of p (cond b (pool.entry_part p e 2) e)) plain)

            by : (b : Bool)
                → option_map (plain_by oneof) (cond b None (Some (pool.part_of p e)))
                ≡ option_map (field_of p oneof extension)
                (cond (b || (false && has_floats p e.kind)) None (Some e))
            by true = refl
            by false = λ i. Some (record {
              part = own_part i;
              label = label i;
              oneof = oneof;
              extension = extension;
            })

      -- ---- a map

      map_by : Option ℕ → Option Part → Option Part → Option Field
      map_by oneof key value =
          option_and_then (λ part. option_map
          (λ k. record { part = part; label = keyed k; oneof = oneof; extension = extension })
          (option_and_then said.key_of key)) value

      module _ (i : ℕ) (m : MessageType) (at : slice_get p.messages i ≡ Some m)
          (kind : e.kind ≡ types.message i) (written : c.type_name ≡ Some (46 ∷ m.full_name))
          (mapped : holds_map p e ≡ true) (q : IsKeyed i m at) where
        abbrev k : FieldType
        k = q.key.entry

        abbrev v : FieldType
        v = q.value.entry

        keyed_by : (is_float k.kind ≡ false) × (kind_in p k.group k.kind ≡ scalar (scalar_of k.kind))
        keyed_by =
            key_kind p k.group ms es q.key.content k.kind
            (sort q.key.proto3 false q.key.content k q.key.both) q.is_key

        key_part : said.entry_part W (type_name c) 1 ≡ Some (pool.part_of p k)
        key_part =
            ap (λ n. said.entry_part W n 1) named
            ∙ entry_same i m at 1 q.key
            ∙ ap (λ b. cond b None (Some (pool.part_of p k))) keyed_by.0 where
              named : type_name c ≡ m.full_name
              named = ap (λ o. elim o as (λ _. Text) [ None ↦ [] | Some t ↦ undotted t ]) written

        value_part : said.entry_part W (type_name c) 2
            ≡ cond (is_float v.kind) None (Some (pool.part_of p v))
        value_part =
            ap (λ n. said.entry_part W n 2)
            (ap (λ o. elim o as (λ _. Text) [ None ↦ [] | Some t ↦ undotted t ]) written)
            ∙ entry_same i m at 2 q.value

        key_same : said.key_of (pool.part_of p k) ≡ Some (pool.key_of p k)
        key_same = ap (λ j. elim j as (λ _. Option Key) [
          | scalar s ↦ Some (record {
            kind = s;
            presence = k.presence;
            default = pool.default_of p k;
          })
          | nested frame t ↦ None
        ]) keyed_by.1

        key_entry : pool.entry_part p e 1 ≡ k
        key_entry =
            ap (λ j. unwrap_or (entry_field p j 1) no_field) kind
            ∙ ap (λ o. unwrap_or o no_field) q.key.found

        value_entry : pool.entry_part p e 2 ≡ v
        value_entry =
            ap (λ j. unwrap_or (entry_field p j 2) no_field) kind
            ∙ ap (λ o. unwrap_or o no_field) q.value.found

        floats : has_floats p e.kind ≡ is_float v.kind
        floats =
            ap (has_floats p) kind
            ∙ ap (λ (o : Option FieldType).
            elim o as (λ _. Bool) [ None ↦ false | Some x ↦ is_float x.kind ]) q.value.found

        held_is : if_held p e ≡ cond (is_float v.kind) None (Some e)
        held_is =
            ap (λ j. cond (is_float j || (holds_map p e && has_floats p e.kind)) None (Some e)) kind
            ∙ ap (λ b. cond (b && has_floats p e.kind) None (Some e)) mapped
            ∙ ap (λ b. cond b None (Some e)) floats

        part_is : pool.part_of p v ≡ pool.part_of p (values_of p e)
        part_is =
            sym (ap (λ b. pool.part_of p (cond b (pool.entry_part p e 2) e)) mapped
            ∙ ap (pool.part_of p) value_entry)

        label_is : keyed (pool.key_of p k) ≡ label_of p e
        label_is =
            sym (ap (λ b. cond b (keyed (pool.key_of p (pool.entry_part p e 1)))
            (cond (shapes.is_repeated e.cardinality) (many e.packed) one)) mapped
            ∙ ap (λ x. keyed (pool.key_of p x)) key_entry)

        mapped_same : (oneof : Option ℕ) → map_field W extension oneof c
            ≡ option_map (field_of p oneof extension) (if_held p e)
        unfolding map_by
        mapped_same oneof =
            ap (map_by oneof (said.entry_part W (type_name c) 1)) value_part
            ∙ ap (λ o. map_by oneof o (cond (is_float v.kind) None (Some (pool.part_of p v)))) key_part
            ∙ by (is_float v.kind)
            ∙ sym (ap (option_map (field_of p oneof extension)) held_is) where
              by : (b : Bool)
                  → map_by oneof (Some (pool.part_of p k)) (cond b None (Some (pool.part_of p v)))
                  ≡ option_map (field_of p oneof extension) (cond b None (Some e))
              by true = refl
              by false =
                  ap (option_map (λ j. record {
                    part = pool.part_of p v;
                    label = keyed j;
                    oneof = oneof;
                    extension = extension;
                  })) key_same
                  ∙ (λ i. Some (record {
                    part = part_is i;
                    label = label_is i;
                    oneof = oneof;
                    extension = extension;
                  }))

      -- ---- each

      -- the type of a map's entries
      record HasEntryType : Type 0 where
        place : ℕ
        type : MessageType
        there : slice_get p.messages place ≡ Some type
        kind : e.kind ≡ types.message place
        written : c.type_name ≡ Some (46 ∷ type.full_name)
        parts : IsKeyed place type there

      entry_type : (j : KindType) → e.kind ≡ j → Sorted ms es c j → holds_map p e ≡ true
          → HasEntryType
      entry_type j is (a_scalar s) mapped =
          let none : shapes.is_entry p j ≡ false =
          each_scalar (λ j. shapes.is_entry p j ≡ false) refl refl refl refl refl refl
          refl refl refl refl refl refl refl refl refl s.type j s.holds in
          absurd (cc (sym mapped ∙ ap (λ b. b && (shapes.is_repeated e.cardinality && not e.group))
          (ap (shapes.is_entry p) is ∙ none)))
      entry_type _ is (an_enum w) mapped =
          absurd (cc (sym mapped ∙ ap (λ b. shapes.is_entry p b
          && (shapes.is_repeated e.cardinality && not e.group)) is))
      entry_type _ is (a_message {i} w) mapped =
          let m = told.message_at p c.type_name i w in
          let both = sym (message_map i m.type m.at is m.written) ∙ mapped in
          record {
            place = i;
            type = m.type;
            there = m.at;
            kind = is;
            written = m.written;
            parts = is_keyed i m.type m.at (last (is_repeated c) (is_number (pos 11) c.field_type)
                (said.is_entry (own i m.type m.at).facts) both);
          } where
            last : (a b x : Bool) → (a && (b && x)) ≡ true → x ≡ true
            last true true x e = e
            last true false x e = absurd (cc e)
            last false b x e = absurd (cc e)

      typed_map : holds_map p e ≡ true → HasEntryType
      typed_map = entry_type e.kind refl (sort proto3 extension c e h)

      -- the values of a map, by the record and by the entry of the field that they are
      pub record HasValues : Type 0 where
        pub content : FieldContent
        pub entry : FieldType
        pub syntax : Bool
        pub both : IsBoth syntax false content entry
        pub is : pool.entry_part p e 2 ≡ entry
        pub at : option_and_then (field_at W) (name_of_field W (type_name c) 2) ≡ Some content

      pub map_values : holds_map p e ≡ true → HasValues
      map_values mapped =
          let t = typed_map mapped in
          let v = t.parts.value in
          record {
            content = v.content;
            entry = v.entry;
            syntax = v.proto3;
            both = v.both;
            is = value_entry t.place t.type t.there t.kind t.written mapped t.parts;
            at = ap (λ n. option_and_then (field_at W) (name_of_field W n 2))
                (ap (λ o. elim o as (λ _. Text) [ None ↦ [] | Some x ↦ undotted x ]) t.written)
                ∙ ap (option_and_then (field_at W)) v.called
                ∙ v.at;
          }

      some_map : (oneof : Option ℕ) → holds_map p e ≡ true
          → map_field W extension oneof c ≡ option_map (field_of p oneof extension) (if_held p e)
      some_map oneof mapped =
          let t = typed_map mapped in
          mapped_same t.place t.type t.there t.kind t.written mapped t.parts oneof

      pub held_same : (oneof : Option ℕ) → held_field W proto3 extension oneof c
          ≡ option_map (field_of p oneof extension) (if_held p e)
      held_same oneof =
          sym (ap (λ b. cond b (map_field W extension oneof c) (plain_field W proto3 extension oneof c))
          (map_same e.kind refl (sort proto3 extension c e h)))
          ∙ by (holds_map p e) refl where
            by : (b : Bool) → holds_map p e ≡ b
                → cond b (map_field W extension oneof c) (plain_field W proto3 extension oneof c)
                ≡ option_map (field_of p oneof extension) (if_held p e)
            by true mapped = some_map oneof mapped
            by false plain = plain_same oneof plain
