-- What a pool has of messages stays as the entries of a batch stand behind its own.
use Rattle.std.proofs.Common.{◌≡◌, ◌⊎◌, inl, inr, ◌<◌, ◌≤◌, ◌-◌, ℕ, zero, suc, false, not, ◌&&◌, ◌||◌, ◌==◌, List, [], ◌∷◌, ◌++◌, map, length, Option, None, Some, is_some, option_map, refl, ap, ◌∙◌, subst, slice_get, slice_index_or}
use Rattle.std.proofs.Math.ListN.{get_or-append}
use Rattle.std.proofs.Math.Seq.{get_or-append_right}
use Rattle.std.proofs.lemmas.Bool.{cases_lt}
use Rattle.std.specs.List.{AllByRecursion, find}
use Rattle.std.specs.Option.{option_and_then, option_or}
use Rattle.std.specs.Str.{bytes_eq}
use Rattle.reflect_tables.specs.Types.{PoolType, FieldType, KindType, DefaultType, MessageType, EnumType, ValueType, IsWithin, MessageWithin, ArePooled, counts_of, no_type, no_enum, type_at, enum_at}
use Rattle.reflect_tables.specs.Types as types
use Rattle.reflect_tables.specs.declared.tables.Counts.{Counts}
use Rattle.reflect_tables.specs.Views.{message_of, enum_of}
use Rattle.reflect_tables.specs.declared.stored.StoredMessage.{StoredMessage}
use Rattle.reflect_pool.specs.Parts.{no_value}
use Rattle.reflect_pool.specs.Shapes.{is_repeated, is_entry}
use Rattle.reflect_pool.proofs.Grown.{all_through}
use Rattle.reflect_index.specs.declared.batch.Batch.{Batch}
use Rattle.reflect_message.specs.Known.{is_float, entry_field, holds_floats}
use Rattle.reflect_scalar.specs.Defaults.{declared_in, kind_default, default_in}
use Rattle.reflect_scalar.specs.Singles.{enumerated}
use Rattle.reflect_index.proofs.Among.{Among, of_all}
use Rattle.linked_view.proofs.DefaultValues.{at_or}

-- the default of a kind in pools that have one enum there
default_at : (p q : PoolType) (k : KindType) (d : Option DefaultType)
    → ((i : ℕ) → k ≡ types.enumeration i → enum_at p i ≡ enum_at q i)
    → option_or (option_and_then (declared_in p k) d) (kind_default p k)
    ≡ option_or (option_and_then (declared_in q k) d) (kind_default q k)
default_at p q (types.enumeration i) None same =
    ap (λ (e : EnumType). Some (enumerated (slice_index_or e.values 0 no_value).number))
    (same i refl)
default_at p q (types.enumeration i) (Some (types.named s)) same =
    ap (λ (e : EnumType). option_or
    (option_map enumerated
    (option_map (λ (v : ValueType). v.number)
    (find (λ (v : ValueType). bytes_eq v.name s) e.values)))
    (Some (enumerated (slice_index_or e.values 0 no_value).number))) (same i refl)
default_at p q (types.enumeration i) (Some (types.fraction s)) same =
    ap (λ (e : EnumType). Some (enumerated (slice_index_or e.values 0 no_value).number))
    (same i refl)
default_at p q (types.enumeration i) (Some d) same = refl
default_at p q k d same = refl

abbrev HasWithin : Counts → MessageType → Type 0
HasWithin c m = AllByRecursion (λ (f : FieldType). IsWithin c f.kind) m.fields

-- the fields of a pool's types hold what is there
pub field_within : (pool : PoolType) (i : ℕ) (f : FieldType) → ArePooled pool
    → Among f (type_at pool i).fields → IsWithin (counts_of pool) f.kind
field_within pool i f pooled h =
    let c = counts_of pool in
    of_all (λ (g : FieldType). IsWithin c g.kind) f (type_at pool i).fields
    (at_or (HasWithin c) pool.messages i no_type
    (all_through (MessageWithin c) (HasWithin c) pool.messages (λ m k. k.fields)
    pooled.messages) tt) h

-- a type of the batch stands at the place
abbrev pub IsNew : Batch → MessageType → Type 0
IsNew b t = (k : ℕ) × (m : StoredMessage) × (slice_get b.messages.items k ≡ Some m)
    × (t ≡ message_of m)

mapped_at : (ms : List StoredMessage) (k : ℕ)
    → ((m : StoredMessage) × (slice_get ms k ≡ Some m)
    × (slice_index_or (map message_of ms) k no_type ≡ message_of m))
    ⊎ (slice_index_or (map message_of ms) k no_type ≡ no_type)
mapped_at [] k = inr refl
mapped_at (m ∷ ms) zero = inl (m, refl, refl)
mapped_at (m ∷ ms) (suc k) = mapped_at ms k

module _ (old new : PoolType) (b : Batch)
    (messages : new.messages ≡ old.messages ++ map message_of b.messages.items)
    (enums : new.enums ≡ old.enums ++ map enum_of b.enums.items) where
  -- the old types stand where they did
  pub type_stays : (i : ℕ) → i < length old.messages → type_at new i ≡ type_at old i
  type_stays i lt = ap (λ l. slice_index_or l i no_type) messages
      ∙ get_or-append old.messages (map message_of b.messages.items) no_type i lt

  pub enum_stays : (i : ℕ) → i < length old.enums → enum_at new i ≡ enum_at old i
  enum_stays i lt = ap (λ l. slice_index_or l i no_enum) enums
      ∙ get_or-append old.enums (map enum_of b.enums.items) no_enum i lt

  -- behind them stand those of the batch, and behind these none
  pub which_type : (i : ℕ) → (i < length old.messages)
      ⊎ (IsNew b (type_at new i) ⊎ (type_at new i ≡ no_type))
  which_type i = by (cases_lt i (length old.messages)) where
    by : (i < length old.messages) ⊎ (length old.messages ≤ i) → (i < length old.messages)
        ⊎ (IsNew b (type_at new i) ⊎ (type_at new i ≡ no_type))
    by (inl lt) = inl lt
    by (inr le) = inr (from (mapped_at b.messages.items (i - length old.messages))) where
      there : type_at new i ≡ slice_index_or (map message_of b.messages.items)
          (i - length old.messages) no_type
      there = ap (λ l. slice_index_or l i no_type) messages
          ∙ get_or-append_right old.messages (map message_of b.messages.items) i no_type le

      from : ((m : StoredMessage) × (slice_get b.messages.items (i - length old.messages) ≡ Some m)
          × (slice_index_or (map message_of b.messages.items) (i - length old.messages) no_type
          ≡ message_of m))
          ⊎ (slice_index_or (map message_of b.messages.items) (i - length old.messages) no_type
          ≡ no_type) → IsNew b (type_at new i) ⊎ (type_at new i ≡ no_type)
      from (inl found) = inl (i - length old.messages, found.0, found.1, there ∙ found.2)
      from (inr none) = inr (there ∙ none)

  -- of a kind that was there all is as it was
  pub entry_stays : (t : KindType) → IsWithin (counts_of old) t → is_entry new t ≡ is_entry old t
  entry_stays (types.message i) h = ap (λ (m : MessageType). is_some m.entry) (type_stays i h)
  entry_stays t h = refl

  pub part_stays : (t : KindType) (n : ℕ) → IsWithin (counts_of old) t
      → entry_field new t n ≡ entry_field old t n
  part_stays (types.message i) n h =
      ap (λ (m : MessageType). find (λ (f : FieldType). f.number == n) m.fields) (type_stays i h)
  part_stays t n h = refl

  pub floats_stay : (f : FieldType) → IsWithin (counts_of old) f.kind
      → holds_floats new f ≡ holds_floats old f
  floats_stay f h =
      ap (λ e. is_float f.kind ||
      ((e && (is_repeated f.cardinality && not f.group)) && elim (entry_field new f.kind 2)
      [ None ↦ false | Some v ↦ is_float v.kind ])) (entry_stays f.kind h)
      ∙ ap (λ (o : Option FieldType). is_float f.kind ||
      ((is_entry old f.kind && (is_repeated f.cardinality && not f.group)) && elim o
      [ None ↦ false | Some v ↦ is_float v.kind ])) (part_stays f.kind 2 h)

  pub default_stays : (f : FieldType) → IsWithin (counts_of old) f.kind
      → default_in new f ≡ default_in old f
  default_stays f h = default_at new old f.kind f.default
      (λ i is. enum_stays i (subst (IsWithin (counts_of old)) is h))
