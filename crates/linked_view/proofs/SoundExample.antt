-- A batch that brings a message with a map and a packed list, and the type of the map's entries:
-- the pool that it becomes is sound, whatever is stored of them besides.
use Rattle.std.proofs.Common.{◌≡◌, ◌⊎◌, inl, inr, ◌<◌, ◌==◌, ℕ, zero, suc, pos, true, cond, List, [], ◌∷◌, map, length, Some, is_some, refl, sym, ap, ◌∙◌, subst, slice_get, slice_index_or, arith}
use Rattle.std.specs.List.{find}
use Rattle.reflect_tables.specs.Types.{PoolType, FieldType, MessageType, no_field, no_type}
use Rattle.reflect_tables.specs.Types as types
use Rattle.reflect_tables.specs.Views.{message_of, enum_of, extension_of}
use Rattle.reflect_tables.specs.declared.kind.Cardinality.TheVariants.{Repeated}
use Rattle.reflect_tables.specs.declared.stored.StoredEntry.{StoredEntry}
use Rattle.reflect_tables.specs.declared.stored.StoredMessage.{StoredMessage}
use Rattle.reflect_pool.specs.Linked.{empty_pool}
use Rattle.reflect_index.specs.declared.batch.Batch.{Batch}
use Rattle.reflect_message.specs.KindTypes.{IsScalarType}
use Rattle.reflect_decode.specs.Refused.{IsKeyKind}
use Rattle.reflect_scalar.specs.Defaults.{default_in}
use Rattle.reflect_scalar.specs.Singles.{int32, int64}
use Rattle.message_view.specs.Sound.{IsFieldNumber, IsSound}
use Rattle.linked_view.specs.Kept.{IsKept}
use Rattle.reflect_index.proofs.Among.{Among, get_map}
use Rattle.linked_view.proofs.DefaultValues.{HasOne}
use Rattle.linked_view.proofs.Fields.{IsList, HasParts}
use Rattle.linked_view.proofs.RuledEntries.{HasPart}
use Rattle.linked_view.proofs.SoundPools.{FieldsWell, BringsWell, grown_sound}
use Rattle.linked_view.proofs.Stays.{empty_sound}

-- message M { map<int32, int64> sums = 1; repeated int32 marks = 2; }
abbrev the_sums : FieldType
the_sums = record no_field { number = 1; kind = types.message 1; cardinality = Repeated }

abbrev the_marks : FieldType
the_marks = record no_field { number = 2; cardinality = Repeated; packed = true }

abbrev the_key : FieldType
the_key = record no_field { number = 1 }

abbrev the_value : FieldType
the_value = record no_field { number = 2; kind = types.int64 }

abbrev the_message : MessageType
the_message = record no_type { full_name = 77 ∷ []; fields = the_sums ∷ the_marks ∷ [] }

abbrev the_entry : MessageType
the_entry = record no_type {
  full_name = 77 ∷ 46 ∷ 69 ∷ [];
  fields = the_key ∷ the_value ∷ [];
  entry = Some (record { key = 0; value = 1 });
}

abbrev the_pool : PoolType
the_pool = record empty_pool { messages = the_message ∷ the_entry ∷ [] }

-- what is shown of a field is shown of each that stands there
first_of : (P : FieldType → Type 0) (f a b : FieldType) → P a → P b → Among f (a ∷ b ∷ []) → P f
first_of P f a b p q (inl same) = subst P same p
first_of P f a b p q (inr (inl same)) = subst P same q
first_of P f a b p q (inr (inr none)) = absurd none

is_list : (t : MessageType) → (t ≡ the_message) ⊎ (t ≡ the_entry) → (f : FieldType)
    → Among f t.fields → IsList f
is_list t (inl same) f h =
    first_of IsList f the_sums the_marks (record { unset = λ e. refl; packed = λ e. absurd (cc e) })
    (record { unset = λ e. refl; packed = λ e. refl })
    (subst (λ (t : MessageType). Among f t.fields) same h)
is_list t (inr same) f h =
    first_of IsList f the_key the_value (record { unset = λ e. refl; packed = λ e. absurd (cc e) })
    (record { unset = λ e. refl; packed = λ e. absurd (cc e) })
    (subst (λ (t : MessageType). Among f t.fields) same h)

abbrev HasDefault : FieldType → Type 0
HasDefault f = IsScalarType f.kind → HasOne f.kind (default_in the_pool f)

has_default : (t : MessageType) → (t ≡ the_message) ⊎ (t ≡ the_entry) → (f : FieldType)
    → Among f t.fields → HasDefault f
has_default t (inl same) f h =
    first_of HasDefault f the_sums the_marks (λ scalar. absurd scalar)
    (λ scalar. (int32 (pos 0), refl, record { sfits = omega arith }))
    (subst (λ (t : MessageType). Among f t.fields) same h)
has_default t (inr same) f h =
    first_of HasDefault f the_key the_value
    (λ scalar. (int32 (pos 0), refl, record { sfits = omega arith }))
    (λ scalar. (int64 (pos 0), refl, record { sfits = omega arith }))
    (subst (λ (t : MessageType). Among f t.fields) same h)

-- two fields have the numbers 1 and 2, and none is kept for extensions
module _ (t : MessageType) (a b : FieldType) (one : a.number ≡ 1) (two : b.number ≡ 2) where
  abbrev both : List FieldType
  both = a ∷ b ∷ []

  abbrev place_of : ℕ → ℕ
  place_of n = cond (n == 1) 0 1

  numbered : (j : ℕ) → j < length both → IsFieldNumber (slice_index_or both j no_field).number
  numbered zero lt = subst IsFieldNumber (sym one) (omega arith, omega arith)
  numbered (suc zero) lt = subst IsFieldNumber (sym two) (omega arith, omega arith)
  numbered (suc (suc j)) lt = absurd (omega (arith, lt))

  found_back : (j : ℕ) → j < length both → place_of (slice_index_or both j no_field).number ≡ j
  found_back zero lt = ap place_of one
  found_back (suc zero) lt = ap place_of two
  found_back (suc (suc j)) lt = absurd (omega (arith, lt))

  fields_well : FieldsWell (record t { fields = both; extension_ranges = [] })
  fields_well = record {
    numbered = λ j lt. record {
      is = numbered j lt;
      free = λ k d less. absurd (omega (arith, less));
    };
    apart = λ j k lt less e. sym (found_back j lt) ∙ ap place_of e ∙ found_back k less;
  }

well : (t : MessageType) → (t ≡ the_message) ⊎ (t ≡ the_entry) → FieldsWell t
well t (inl same) =
    subst FieldsWell (sym same) (fields_well the_message the_sums the_marks refl refl)
well t (inr same) = subst FieldsWell (sym same) (fields_well the_entry the_key the_value refl refl)

abbrev HasPlaces : StoredEntry → List FieldType → Type 0
HasPlaces e fs = HasPart fs 1 e.key × HasPart fs 2 e.value

places_of : (t : MessageType) (e : StoredEntry) → (t ≡ the_message) ⊎ (t ≡ the_entry)
    → t.entry ≡ Some e → HasPlaces e t.fields
places_of t e (inl same) is =
    absurd (cc (sym (ap (λ (t : MessageType). t.entry) same) ∙ is))
places_of t e (inr same) is =
    let place : record { key = 0; value = 1 } ≡ e =
    cc (sym (ap (λ (t : MessageType). t.entry) same) ∙ is) in
    subst (λ (t : MessageType). HasPlaces e t.fields) (sym same)
    (subst (λ e. HasPlaces e (the_key ∷ the_value ∷ [])) place (
      record { at = record { there = omega arith; number = refl }; one = refl },
      record { at = record { there = omega arith; number = refl }; one = refl },
    ))

-- the batch has these types and no enums or extensions, and says of the second that it is a map's
-- entry; and what each pool has by its type the pool has
module _ (b : Batch) (stored : map message_of b.messages.items ≡ the_message ∷ the_entry ∷ [])
    (says : (m : StoredMessage) → m.is_entry ≡ is_some m.entry)
    (enums : map enum_of b.enums.items ≡ [])
    (extensions : map extension_of b.extensions.items ≡ []) (kept : IsKept the_pool) where
  one_of : (k : ℕ) (t : MessageType) → slice_get (the_message ∷ the_entry ∷ []) k ≡ Some t
      → (t ≡ the_message) ⊎ (t ≡ the_entry)
  one_of zero t e = inl (sym (cc e))
  one_of (suc zero) t e = inr (sym (cc e))
  one_of (suc (suc k)) t e = absurd (cc e)

  which : (k : ℕ) (m : StoredMessage) → slice_get b.messages.items k ≡ Some m
      → (message_of m ≡ the_message) ⊎ (message_of m ≡ the_entry)
  which k m at = one_of k (message_of m)
      (subst (λ ts. slice_get ts k ≡ Some (message_of m)) stored
      (get_map message_of b.messages.items k m at))

  parts_of : (m : StoredMessage) → (message_of m ≡ the_message) ⊎ (message_of m ≡ the_entry)
      → is_some m.entry ≡ true → HasParts m.is_entry (message_of m).fields
  parts_of m (inl same) e = absurd (cc (sym (ap (λ (t : MessageType). is_some t.entry) same) ∙ e))
  parts_of m (inr same) e = record {
    says_so = says m ∙ e;
    key = (
      the_key,
      ap (λ (t : MessageType). find (λ (f : FieldType). f.number == 1) t.fields)
          same,
    );
    value = (
      the_value,
      ap (λ (t : MessageType). find (λ (f : FieldType). f.number == 2) t.fields)
          same,
    );
  }

  key_of : (m : StoredMessage) (f : FieldType) → (message_of m ≡ the_message)
      ⊎ (message_of m ≡ the_entry) → m.is_entry ≡ true
      → find (λ (f : FieldType). f.number == 1) (message_of m).fields ≡ Some f → IsKeyKind f.kind
  key_of m f (inl same) e found =
      absurd (cc (sym (ap (λ (t : MessageType). is_some t.entry) same) ∙ sym (says m) ∙ e))
  key_of m f (inr same) e found =
      let is_key : the_key ≡ f =
      cc (sym (ap (λ (t : MessageType). find (λ (f : FieldType). f.number == 1) t.fields) same)
      ∙ found) in
      subst (λ (f : FieldType). IsKeyKind f.kind) is_key tt

  brings : BringsWell the_pool b
  brings = record {
    parts = λ k m at e. parts_of m (which k m at) e;
    keys = λ k m f at e found. key_of m f (which k m at) e found;
    lists = λ k m f at h. is_list (message_of m) (which k m at) f h;
    defaults = λ k m f at h scalar. has_default (message_of m) (which k m at) f h scalar;
    places = λ k m e at is. places_of (message_of m) e (which k m at) is;
    fields = λ k m at. well (message_of m) (which k m at);
    extensions = λ x h. absurd (subst (Among x) extensions h);
  }

  the_pool_is_sound : IsSound the_pool
  the_pool_is_sound = grown_sound empty_pool the_pool b (sym stored) (sym enums) (sym extensions)
      empty_sound brings kept.pooled kept.names kept.extensions kept.numbers
