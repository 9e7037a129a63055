-- A sound pool stays sound as the entries of a batch without faults stand behind its own.
use Rattle.std.proofs.Common.{◌≡◌, ◌⊎◌, inl, inr, ◌<◌, ◌≤◌, ◌-◌, ◌++◌, ℕ, pos, Bool, true, false, cond, ◌&&◌, ◌==◌, List, [], map, length, Option, None, Some, is_some, refl, sym, ap, ◌∙◌, subst, arith, length-append, slice_get, slice_index_or}
use Rattle.std.proofs.Math.ListN.{get_or-append}
use Rattle.std.proofs.Math.Seq.{get_or-append_right}
use Rattle.std.proofs.lemmas.Bool.{cases_lt}
use Rattle.std.proofs.lemmas.List.Elements.{All-contains}
use Rattle.std.proofs.lemmas.List.Folds.{find-append}
use Rattle.std.specs.List.{find}
use Rattle.std.specs.Option.{option_and_then, option_or}
use Rattle.reflect_tables.specs.Types.{PoolType, FieldType, KindType, MessageType, ExtensionType, IsWithin, ExtensionWithin, ArePooled, counts_of, no_field, type_at, extension_at}
use Rattle.reflect_tables.specs.Types as types
use Rattle.reflect_tables.specs.Views.{message_of, enum_of, extension_of}
use Rattle.reflect_tables.specs.Ranges.{IsIn, IsRangeOf}
use Rattle.reflect_tables.specs.declared.stored.StoredEntry.{StoredEntry}
use Rattle.reflect_tables.specs.declared.stored.StoredMessage.{StoredMessage}
use Rattle.reflect_pool.specs.Shapes.{is_repeated, is_entry}
use Rattle.reflect_fields.specs.Fields as fields
use Rattle.reflect_index.specs.declared.batch.Batch.{Batch}
use Rattle.reflect_message.specs.KindTypes.{IsScalarType}
use Rattle.reflect_message.specs.Known.{entry_field, holds_floats, if_held, numbered_field, known_field, known_extension}
use Rattle.reflect_scalar.specs.Defaults.{default_in}
use Rattle.reflect_scalar.specs.Singles.{Single, text, blob, enumerated}
use Rattle.protobuf_model.specs.Bytes.{is_packable}
use Rattle.protobuf_model.specs.Scalars.{Suits}
use Rattle.protobuf_model.specs.Values as model
use Rattle.reflect_decode.specs.Refused.{IsKeyKind, IsKeyValue}
use Rattle.message_view.specs.Singles.{scalar_of, single_view}
use Rattle.message_laws.specs.MapKeys.{HaveMapKeys}
use Rattle.message_view.specs.Sound.{HaveNames, HaveEntryFields, IsPartAt, HaveEntryParts, HaveEntryDefaults, HasField, HaveLists, HaveNumbers, IsFieldNumber, IsNotKept, IsSound}
use Rattle.message_view.specs.Types.{kind_in}
use Rattle.message_view.proofs.Entries.{key_scalar}
use Rattle.message_view.proofs.Fields.{held_is}
use Rattle.reflect_index.proofs.Among.{Among, of_all, of_find, of_place, get_at}
use Rattle.linked_view.proofs.DefaultValues.{HasOne, IsOfKind}
use Rattle.linked_view.proofs.Fields.{IsList, HasParts}
use Rattle.linked_view.proofs.RuledEntries.{HasPart, IsNumbered, IsKeptIn}
use Rattle.linked_view.specs.Kept.{ExtensionsAreApart}
use Rattle.linked_view.proofs.Grown.{IsNew, type_stays, field_within, which_type, entry_stays, part_stays, floats_stay, default_stays}

-- what a value of a key's kind is
key_value : (k : KindType) (v : Single) → IsKeyKind k → IsOfKind k v → IsKeyValue (Some v)
key_value types.bytes (blob b) i h = absurd i
key_value (types.message j) (blob b) i h = absurd i
key_value k (blob b) i h = absurd h
key_value (types.enumeration j) (enumerated z) i h = absurd i
key_value k (enumerated z) i h = absurd h
key_value k v i h = tt

-- the model packs what the rules do
packs : (pool : PoolType) (group : Bool) (k : KindType) → fields.is_packable k ≡ true
    → is_packable (kind_in pool group k) ≡ true
packs pool group types.string h = absurd (cc h)
packs pool group types.bytes h = absurd (cc h)
packs pool group (types.message i) h = absurd (cc h)
packs pool group k h = refl

packs_same : (p q : PoolType) (group : Bool) (k : KindType)
    → is_packable (kind_in p group k) ≡ is_packable (kind_in q group k)
packs_same p q group (types.message i) = refl
packs_same p q group k = refl

-- the numbers of a type's fields are numbers of fields that it does not keep, each of one field
pub record FieldsWell (t : MessageType) : Type 0 where
  pub numbered : (j : ℕ) → j < length t.fields
      → IsNumbered t.extension_ranges (slice_index_or t.fields j no_field)
  pub apart : (j k : ℕ) → j < length t.fields → k < length t.fields
      → (slice_index_or t.fields j no_field).number
      ≡ (slice_index_or t.fields k no_field).number → j ≡ k

-- what the messages and extensions of a batch have in the pool that they become part of
pub record BringsWell (pool : PoolType) (b : Batch) : Type 0 where
  pub parts : (k : ℕ) (m : StoredMessage) → slice_get b.messages.items k ≡ Some m
      → is_some m.entry ≡ true → HasParts m.is_entry (message_of m).fields
  pub keys : (k : ℕ) (m : StoredMessage) (f : FieldType) → slice_get b.messages.items k ≡ Some m
      → m.is_entry ≡ true → find (λ (f : FieldType). f.number == 1) (message_of m).fields ≡ Some f
      → IsKeyKind f.kind
  pub lists : (k : ℕ) (m : StoredMessage) (f : FieldType) → slice_get b.messages.items k ≡ Some m
      → Among f (message_of m).fields → IsList f
  pub defaults : (k : ℕ) (m : StoredMessage) (f : FieldType) → slice_get b.messages.items k ≡ Some m
      → Among f (message_of m).fields → IsScalarType f.kind → HasOne f.kind (default_in pool f)
  pub places : (k : ℕ) (m : StoredMessage) (e : StoredEntry) → slice_get b.messages.items k ≡ Some m
      → m.entry ≡ Some e → HasPart (message_of m).fields 1 e.key
      × HasPart (message_of m).fields 2 e.value
  pub fields : (k : ℕ) (m : StoredMessage) → slice_get b.messages.items k ≡ Some m
      → FieldsWell (message_of m)
  pub extensions : (x : ExtensionType) → Among x (map extension_of b.extensions.items)
      → IsList x.field × IsKeptIn (type_at pool x.extendee).extension_ranges x

-- so a list of the pool has no presence, and is packed where values of its kind can be
record ListsWell (pool : PoolType) (f : FieldType) : Type 0 where
  unset : is_repeated f.cardinality ≡ true → f.presence ≡ false
  packed : is_repeated f.cardinality ≡ true → f.packed ≡ true
      → is_packable (kind_in pool f.group f.kind) ≡ true

listed : (pool : PoolType) (f : FieldType) → IsList f → ListsWell pool f
listed pool f h = record { unset = h.unset; packed = λ r e. packs pool f.group f.kind (h.packed e) }

module _ (old new : PoolType) (b : Batch)
    (messages : new.messages ≡ old.messages ++ map message_of b.messages.items)
    (enums : new.enums ≡ old.enums ++ map enum_of b.enums.items)
    (extensions : new.extensions ≡ old.extensions ++ map extension_of b.extensions.items)
    (sound : IsSound old) (brings : BringsWell new b) where
  within : (i n : ℕ) (f : FieldType) → numbered_field old i n ≡ Some f
      → IsWithin (counts_of old) f.kind
  within i n f found =
      field_within old i f sound.pooled
      (of_find (λ (g : FieldType). g.number == n) f (type_at old i).fields found).0

  -- a map's entries in the grown pool: those of an old type, or of one of the batch
  record NewEntry (i : ℕ) : Type 0 where
    k : ℕ
    stored : StoredMessage
    at : slice_get b.messages.items k ≡ Some stored
    type : type_at new i ≡ message_of stored
    parts : HasParts stored.is_entry (message_of stored).fields

  abbrev OldEntry : ℕ → Type 0
  OldEntry i = (i < length old.messages) × (is_entry old (types.message i) ≡ true)

  which_entry : (i : ℕ) → is_entry new (types.message i) ≡ true → OldEntry i ⊎ NewEntry i
  which_entry i is = by (which_type old new b messages enums i) where
    by : (i < length old.messages) ⊎ (IsNew b (type_at new i) ⊎ (type_at new i ≡ types.no_type))
        → OldEntry i ⊎ NewEntry i
    by (inl lt) = inl (lt, sym (entry_stays old new b messages enums (types.message i) lt) ∙ is)
    by (inr (inl (k, m, at, type))) =
        inr (record {
          k = k;
          stored = m;
          at = at;
          type = type;
          parts =
              brings.parts k m at (sym (ap (λ (t : MessageType). is_some t.entry) type) ∙ is);
        })
    by (inr (inr none)) = absurd (cc (sym (ap (λ (t : MessageType). is_some t.entry) none) ∙ is))

  of_new : (i n : ℕ) (t : MessageType) (f : FieldType) → type_at new i ≡ t
      → numbered_field new i n ≡ Some f → find (λ (g : FieldType). g.number == n) t.fields ≡ Some f
  of_new i n t f type found =
      sym (ap (λ (t : MessageType). find (λ (g : FieldType). g.number == n) t.fields) type) ∙ found

  stays_found : (i n : ℕ) (f : FieldType) → i < length old.messages
      → numbered_field new i n ≡ Some f → numbered_field old i n ≡ Some f
  stays_found i n f lt found = sym (part_stays old new b messages enums (types.message i) n lt)
      ∙ found

  keys : HaveMapKeys new
  keys (types.message i) f is found = by (which_entry i is) where
    by : OldEntry i ⊎ NewEntry i → IsKeyKind f.kind × IsKeyValue (default_in new f)
    by (inl (lt, was)) =
        let before = stays_found i 1 f lt found in
        let key = sound.keys (types.message i) f was before in (
          key.0,
          subst IsKeyValue
              (sym (default_stays old new b messages enums f (within i 1 f before))) key.1,
        )
    by (inr e) =
        let here = of_new i 1 (message_of e.stored) f e.type found in
        let kind = brings.keys e.k e.stored f e.at e.parts.says_so here in
        let one = brings.defaults e.k e.stored f e.at
        (of_find (λ (g : FieldType). g.number == 1) f (message_of e.stored).fields here).0
        (key_scalar f.kind kind) in
        (kind, subst IsKeyValue (sym one.1) (key_value f.kind one.0 kind one.2))
  keys t f is found = absurd (cc is)

  entries : HaveEntryFields new
  entries (types.message i) is = by (which_entry i is) where
    by : OldEntry i ⊎ NewEntry i → (keys values : FieldType)
        × (entry_field new (types.message i) 1 ≡ Some keys)
        × (entry_field new (types.message i) 2 ≡ Some values)
    by (inl (lt, was)) =
        let parts = sound.entries (types.message i) was in (
          parts.0,
          parts.1,
          part_stays old new b messages enums (types.message i) 1 lt
              ∙ parts.2,
          part_stays old new b messages enums (types.message i) 2 lt ∙ parts.3,
        )
    by (inr e) = (
      e.parts.key.0,
      e.parts.value.0,
      ap
          (λ (t : MessageType). find (λ (g : FieldType). g.number == 1) t.fields) e.type
          ∙ e.parts.key.1,
      ap (λ (t : MessageType). find (λ (g : FieldType). g.number == 2)
          t.fields) e.type ∙ e.parts.value.1,
    )
  entries t is = absurd (cc is)

  abbrev Shown : FieldType → Option Single → Type 0
  Shown f o = Suits (scalar_of f.kind) (elim o [ None ↦ model.text [] | Some v ↦ single_view v ])

  defaults : HaveEntryDefaults new
  defaults (types.message i) n f is found scalar = by (which_entry i is) where
    by : OldEntry i ⊎ NewEntry i → Shown f (default_in new f)
    by (inl (lt, was)) =
        let before = stays_found i n f lt found in
        subst (Shown f) (sym (default_stays old new b messages enums f (within i n f before)))
        (sound.defaults (types.message i) n f was before scalar)
    by (inr e) =
        let here = of_new i n (message_of e.stored) f e.type found in
        let one = brings.defaults e.k e.stored f e.at
        (of_find (λ (g : FieldType). g.number == n) f (message_of e.stored).fields here).0
        scalar in
        subst (Shown f) (sym one.1) one.2
  defaults t n f is found scalar = absurd (cc is)

  -- of what the old pool has
  was_listed : (i n : ℕ) (f : FieldType) → HasField old i n f → ListsWell new f
  was_listed i n f has = record {
    unset = sound.lists.unset i n f has;
    packed = λ r e. packs_same new old f.group f.kind ∙ sound.lists.packed i n f has r e;
  }

  was_held : (f : FieldType) → IsWithin (counts_of old) f.kind → holds_floats new f ≡ false
      → if_held old f ≡ Some f
  was_held f h whole =
      ap (λ b. cond b None (Some f)) (sym (floats_stay old new b messages enums f h) ∙ whole)

  field_listed : (i n : ℕ) (f : FieldType) → known_field new i n ≡ Some f → ListsWell new f
  field_listed i n f known = by (numbered_field new i n) refl where
    from : (h : FieldType) → numbered_field new i n ≡ Some h → holds_floats new h ≡ false
        → (i < length old.messages) ⊎ (IsNew b (type_at new i) ⊎ (type_at new i ≡ types.no_type))
        → ListsWell new h
    from h found whole (inl lt) = let before = stays_found i n h lt found in
        was_listed i n h (inl
        (ap (option_and_then (if_held old)) before ∙ was_held h (within i n h before) whole))
    from h found whole (inr (inl (k, m, at, type))) =
        listed new h (brings.lists k m h at
        (of_find (λ (g : FieldType). g.number == n) h (message_of m).fields
        (of_new i n (message_of m) h type found)).0)
    from h found whole (inr (inr none)) = absurd (cc (sym (of_new i n types.no_type h none found)))

    by : (o : Option FieldType) → numbered_field new i n ≡ o → ListsWell new f
    by None is = absurd (cc (sym (ap (option_and_then (if_held new)) is) ∙ known))
    by (Some h) is =
        let kept = held_is new h f (sym (ap (option_and_then (if_held new)) is) ∙ known) in
        subst (ListsWell new) kept.1 (from h is kept.0 (which_type old new b messages enums i))

  extension_listed : (i n : ℕ) (f : FieldType) → known_extension new i n ≡ Some f → ListsWell new f
  extension_listed i n f known = by (find test old.extensions) refl (find test more) refl where
    test : ExtensionType → Bool
    test x = (x.extendee == i) && (x.field.number == n)

    more : List ExtensionType
    more = map extension_of b.extensions.items

    all : find test new.extensions ≡ option_or (find test old.extensions) (find test more)
    all = ap (find test) extensions ∙ find-append test old.extensions more

    kept : (x : ExtensionType) → find test new.extensions ≡ Some x
        → (holds_floats new x.field ≡ false) × (x.field ≡ f)
    kept x found = held_is new x.field f
        (sym (ap (option_and_then (λ (x : ExtensionType). if_held new x.field)) found) ∙ known)

    by : (o : Option ExtensionType) → find test old.extensions ≡ o → (p : Option ExtensionType)
        → find test more ≡ p → ListsWell new f
    by (Some x) is p also =
        let held = kept x (all ∙ ap (λ o. option_or o (find test more)) is) in
        let there = of_all (ExtensionWithin (counts_of old)) x old.extensions
        sound.pooled.extensions (of_find test x old.extensions is).0 in
        let known_before : known_extension old i n ≡ Some x.field =
        ap (option_and_then (λ (x : ExtensionType). if_held old x.field)) is
        ∙ was_held x.field there.kind held.0 in
        subst (ListsWell new) held.1 (was_listed i n x.field (inr known_before))
    by None is (Some x) also =
        let held = kept x (all ∙ ap (λ o. option_or o (find test more)) is ∙ also) in
        subst (ListsWell new) held.1
        (listed new x.field (brings.extensions x (of_find test x more also).0).0)
    by None is None also =
        absurd (cc (sym (ap (option_and_then (λ (x : ExtensionType). if_held new x.field))
        (all ∙ ap (λ o. option_or o (find test more)) is ∙ also)) ∙ known))

  lists : HaveLists new
  lists = record {
    unset = λ i n f has. (either i n f has).unset;
    packed = λ i n f has. (either i n f has).packed;
  } where
    either : (i n : ℕ) (f : FieldType) → HasField new i n f → ListsWell new f
    either i n f (inl known) = field_listed i n f known
    either i n f (inr known) = extension_listed i n f known

  -- ---- numbers

  module _ (i : ℕ) where
    fields_well : FieldsWell (type_at new i)
    fields_well = by (which_type old new b messages enums i) where
      by : (i < length old.messages) ⊎ (IsNew b (type_at new i) ⊎ (type_at new i ≡ types.no_type))
          → FieldsWell (type_at new i)
      by (inl lt) = subst FieldsWell (sym (type_stays old new b messages enums i lt)) (record {
        numbered = λ j less. record {
          is = sound.numbers.fields i j less;
          free = sound.apart.free i j less;
        };
        apart = sound.apart.fields i;
      })
      by (inr (inl (k, m, at, type))) = subst FieldsWell (sym type) (brings.fields k m at)
      by (inr (inr none)) = subst FieldsWell (sym none) (record {
        numbered = λ j less. absurd (omega (arith, less));
        apart = λ j l lt less e. absurd (omega (arith, lt));
      })

    places_of : (t : MessageType) → type_at new i ≡ t → (n place : ℕ) → HasPart t.fields n place
        → IsPartAt new i n place
    places_of t type n place h =
        let part = subst (λ (t : MessageType). HasPart t.fields n place) (sym type) h in
        record { there = part.at.there; number = part.at.number; one = part.one }

    was_part : (n place : ℕ) → IsPartAt old i n place → HasPart (type_at old i).fields n place
    was_part n place h =
        record { at = record { there = h.there; number = h.number }; one = h.one }

  parts : HaveEntryParts new
  parts i e is = by (which_type old new b messages enums i) where
    by : (i < length old.messages) ⊎ (IsNew b (type_at new i) ⊎ (type_at new i ≡ types.no_type))
        → IsPartAt new i 1 e.key × IsPartAt new i 2 e.value
    by (inl lt) =
        let type = type_stays old new b messages enums i lt in
        let both = sound.parts i e (sym (ap (λ (t : MessageType). t.entry) type) ∙ is) in (
          places_of i (type_at old i) type 1 e.key (was_part i 1 e.key both.0),
          places_of i (type_at old i) type 2 e.value (was_part i 2 e.value both.1),
        )
    by (inr (inl (k, m, at, type))) =
        let both = brings.places k m e at (sym (ap (λ (t : MessageType). t.entry) type) ∙ is) in (
          places_of i (message_of m) type 1 e.key both.0,
          places_of i (message_of m) type 2 e.value both.1,
        )
    by (inr (inr none)) = absurd (cc (sym (ap (λ (t : MessageType). t.entry) none) ∙ is))

  -- an extension of the old pool is as it was, and so is the message that it extends
  was_kept : (x : ExtensionType) (k : ℕ) → k < length old.extensions → extension_at old k ≡ x
      → IsFieldNumber x.field.number × (IsNotKept new x.extendee x.field.number → ⊥)
  was_kept x k lt is = subst (λ (x : ExtensionType). IsFieldNumber x.field.number
      × (IsNotKept new x.extendee x.field.number → ⊥)) is (
        sound.numbers.extensions k lt,
        λ none. sound.apart.kept k lt
            (subst (λ (t : MessageType). IsRangeOf t.extension_ranges
            (pos (extension_at old k).field.number) None)
            (type_stays old new b messages enums (extension_at old k).extendee
            (of_all (ExtensionWithin (counts_of old)) (extension_at old k) old.extensions
            sound.pooled.extensions
            (of_place (extension_at old k) old.extensions k
            (get_at old.extensions k types.no_extension lt))).extendee) none),
      )

  brings_kept : (x : ExtensionType) → Among x (map extension_of b.extensions.items)
      → IsFieldNumber x.field.number × (IsNotKept new x.extendee x.field.number → ⊥)
  brings_kept x h = let kept = (brings.extensions x h).1 in (
    kept.is,
    λ none. All-contains (λ q. IsIn (pos x.field.number) q → ⊥)
        (type_at new x.extendee).extension_ranges kept.range none kept.kept.0 kept.kept.1,
  )

  extension_kept : (k : ℕ) → k < length new.extensions
      → IsFieldNumber (extension_at new k).field.number
      × (IsNotKept new (extension_at new k).extendee (extension_at new k).field.number → ⊥)
  extension_kept k lt = by (cases_lt k (length old.extensions)) where
    more : List ExtensionType
    more = map extension_of b.extensions.items

    by : (k < length old.extensions) ⊎ (length old.extensions ≤ k)
        → IsFieldNumber (extension_at new k).field.number
        × (IsNotKept new (extension_at new k).extendee (extension_at new k).field.number → ⊥)
    by (inl less) = was_kept (extension_at new k) k less
        (sym (ap (λ l. slice_index_or l k types.no_extension) extensions
        ∙ get_or-append old.extensions more types.no_extension k less))
    by (inr le) =
        let count = ap (λ (l : List ExtensionType). length l) extensions
        ∙ length-append old.extensions more in
        brings_kept (extension_at new k)
        (of_place (extension_at new k) more (k - length old.extensions)
        (get_at more (k - length old.extensions) types.no_extension (omega (arith, lt, le, count))
        ∙ ap Some (sym (ap (λ l. slice_index_or l k types.no_extension) extensions
        ∙ get_or-append_right old.extensions more k types.no_extension le))))

  pub grown_sound : ArePooled new → HaveNames new → ExtensionsAreApart new → HaveNumbers new → IsSound new
  grown_sound pooled names one values =
      record {
        pooled = pooled;
        names = names;
        keys = keys;
        entries = entries;
        parts = parts;
        defaults =
            defaults;
        lists = lists;
        values = values;
        numbers = record {
          fields = λ i j lt. ((fields_well i).numbered j lt).is;
          extensions = λ k lt. (extension_kept k lt).0;
        };
        apart = record {
          fields = λ i j k lt less e. (fields_well i).apart j k lt less e;
          extensions = one;
          kept = λ k lt none. (extension_kept k lt).1 none;
          free = λ i j lt. ((fields_well i).numbered j lt).free;
        };
      }
