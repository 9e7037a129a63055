-- Messages that suit their types and are tidy: under each number stands what is of its field's kind, or of its extension's.
use Rattle.std.proofs.Common.{◌≡◌, ℕ, suc, true, true≢false, List, [], ◌∷◌, Option, None, Some, refl, sym, ap, ◌∙◌}
use Rattle.std.specs.List.{AllByRecursion}
use Rattle.reflect_tables.specs.Types.{FieldType, KindType, PoolType}
use Rattle.reflect_pool.specs.declared.message.MessageDescriptor.{MessageDescriptor}
use Rattle.reflect_entries.specs.Entries.{value_at}
use Rattle.reflect_scalar.specs.declared.map_key.MapKey.{MapKey}
use Rattle.reflect_message.specs.Contents.{Content, content_of, nothing}
use Rattle.reflect_message.specs.Declares.{IsDeclared}
use Rattle.reflect_message.specs.Known.{known_extension, known_field}
use Rattle.reflect_message.specs.Names.{DynamicMessage, Value}
use Rattle.reflect_message.specs.Oneofs.{IsExclusive}
use Rattle.reflect_decode.specs.Ordered.{IsOrdered}
use Rattle.reflect_numbered.specs.Fits.{fit_of, suits_type, under_fits}
use Rattle.reflect_numbered.specs.declared.validity.Strictness.TheVariants.{Types}
use Rattle.protobuf_model.specs.Meaning.{payloads}
use Rattle.message_view.proofs.Changed.{empty_shaped}
use Rattle.valid_view.specs.Inside.{EachMessage, IfMessage}
use Rattle.valid_view.specs.Tidy.{Tidy}
use Rattle.valid_view.proofs.Deep.{pool_of, typed_kind}
use Rattle.valid_view.proofs.LeftOnes.{EntryLeft, OneLeft, WholeLeft, left_list, left_map, left_one, message_left, single_left}
use Rattle.valid_view.proofs.LeftValues.{left_each, left_typed}
use Rattle.valid_view.proofs.Passing.{message_passes, whole_passes}
use Rattle.valid_view.proofs.Testing.{under_extension, under_field}
use Rattle.valid_view.proofs.Valid.{IsEntry, One, Whole, one_message, one_single, whole_list, whole_map, whole_of, whole_one}

-- the message suits its type, and is tidy, of fewer levels than this
abbrev pub Both : PoolType → ℕ → DynamicMessage → Type 0
Both pool levels m = (suits_type Types m ≡ true) × Tidy pool levels m

-- a field, or an extension, has the number, and the value is of its kind
abbrev pub IsOf : (DynamicMessage → Type 0) → PoolType → Option FieldType → Value → Type 0
IsOf Q pool o v = (g : FieldType) × (o ≡ Some g) × WholeLeft Q pool g v

-- so is what stands under each number, all is in order, and of the type's own numbers no record is kept
pub record Sits (Q : DynamicMessage → Type 0) (d : MessageDescriptor) (c : Content) : Type 0 where
  pub fields : (n : ℕ) (v : Value) → value_at c.fields n ≡ Some v → IsOf Q d.pool.now (known_field d.pool.now d.index n) v
  pub extensions : (n : ℕ) (v : Value) → value_at c.extensions n ≡ Some v → IsOf Q d.pool.now (known_extension d.pool.now d.index n) v
  pub ordered : IsOrdered c
  pub declared : (n : ℕ) → IsDeclared d n → payloads n c.unknown ≡ []

pub nothing_sits : (Q : DynamicMessage → Type 0) (d : MessageDescriptor) → Sits Q d nothing
nothing_sits Q d = record {
  fields = λ n v at. absurd (cc at);
  extensions = λ n v at. absurd (cc at);
  ordered = (empty_shaped (λ m. ⊥) d).ordered;
  declared = λ n is. refl;
}

-- ---- from what stands under each number to the message
module _ (Q : DynamicMessage → Type 0) (m : DynamicMessage) (sits : Sits Q m.descriptor (content_of m)) where
  abbrev d : MessageDescriptor
  d = m.descriptor

  -- it suits its type, where those in it suit theirs
  pub sits_typed : ((n : DynamicMessage) → Q n → suits_type Types n ≡ true) → suits_type Types m ≡ true
  sits_typed typed =
      message_passes Types m
      sits.ordered.fields.ascending (λ n v at. passes (known_field d.pool.now d.index n) v (sits.fields n v at))
      sits.ordered.extensions.ascending (λ n v at. passes (known_extension d.pool.now d.index n) v (sits.extensions n v at)) where
        passes : (o : Option FieldType) (v : Value) → IsOf Q d.pool.now o v → under_fits Types d.pool.now o (fit_of v) ≡ true
        passes o v (g, is, whole) = ap (λ o. under_fits Types d.pool.now o (fit_of v)) is ∙ whole_passes Types d.pool.now g v (left_typed Q d.pool.now typed g v whole)

  -- and it is tidy, where those in it are
  pub sits_tidy : (pool : PoolType) (levels : ℕ) → m.descriptor.pool.now ≡ pool → IsExclusive m → ((n : DynamicMessage) → Q n → Tidy pool levels n) → Tidy pool (suc levels) m
  sits_tidy pool levels pooled sole tidy = (
    record {
      pooled = pooled;
      ordered = sits.ordered;
      declared = sits.declared;
      exclusive = sole;
    },
    record {
      fields = λ n v at. each (known_field d.pool.now d.index n) v (sits.fields n v at);
      extensions = λ n v at. each (known_extension d.pool.now d.index n) v (sits.extensions n v at);
    },
  ) where
    each : (o : Option FieldType) (v : Value) → IsOf Q d.pool.now o v → EachMessage (Tidy pool levels) v
    each o v (g, is, whole) = left_each Q d.pool.now (Tidy pool levels) tidy g v whole

module _ (pool : PoolType) (levels : ℕ) where
  pub sits_both : (m : DynamicMessage) → m.descriptor.pool.now ≡ pool → IsExclusive m → Sits (Both pool levels) m.descriptor (content_of m) → Both pool (suc levels) m
  sits_both m pooled sole sits = (sits_typed (Both pool levels) m sits (λ n h. h.0), sits_tidy (Both pool levels) m sits pool levels pooled sole (λ n h. h.1))

  -- ---- and from the message to what stands there
  module _ (p : PoolType) (same : p ≡ pool) where
    one_held : (t : KindType) (v : Value) → One Types p t v → IfMessage (Tidy pool levels) v → OneLeft (Both pool levels) p t v
    one_held t v (one_single w at is) tidy = single_left w at is
    one_held t v (one_message m at is) tidy =
        let two = typed_kind p t m is in
        let inner : Tidy pool levels m = tidy m at in
        message_left m at (pool_of pool levels m inner ∙ sym same, two.0) (two.1, inner)

    all_held : (t : KindType) (vs : List Value) → AllByRecursion (One Types p t) vs → AllByRecursion (IfMessage (Tidy pool levels)) vs → AllByRecursion (OneLeft (Both pool levels) p t) vs
    all_held t [] all tidy = tt
    all_held t (v ∷ vs) all tidy = (one_held t v all.0 tidy.0, all_held t vs all.1 tidy.1)

    entries_held : (keys values : KindType) (es : List (MapKey × Value)) → AllByRecursion (IsEntry Types p keys values) es → AllByRecursion (λ (e : MapKey × Value). IfMessage (Tidy pool levels) e.1) es
        → AllByRecursion (EntryLeft (Both pool levels) p keys values) es
    entries_held keys values [] all tidy = tt
    entries_held keys values (e ∷ es) all tidy = ((all.0.0, one_held values e.1 all.0.1 tidy.0), entries_held keys values es all.1 tidy.1)

    whole_held : (f : FieldType) (v : Value) → Whole Types p f v → EachMessage (Tidy pool levels) v → WholeLeft (Both pool levels) p f v
    whole_held f v (whole_one no_map once one) tidy = left_one no_map once (one_held f.kind v one tidy.itself)
    whole_held f v (whole_list no_map repeats vs at all) tidy = left_list no_map repeats vs at (all_held f.kind vs all (tidy.items vs at))
    whole_held f v (whole_map is_map es at keys values first second all) tidy =
        left_map is_map es at keys values first second (entries_held keys.kind values.kind es all (tidy.entries es at))

    under_held : (o : Option FieldType) (v : Value) → under_fits Types p o (fit_of v) ≡ true → EachMessage (Tidy pool levels) v → IsOf (Both pool levels) p o v
    under_held None v passes tidy = absurd (true≢false (sym passes))
    under_held (Some g) v passes tidy = (g, refl, whole_held g v (whole_of Types p g v passes) tidy)

  pub both_sits : (m : DynamicMessage) → Both pool (suc levels) m → Sits (Both pool levels) m.descriptor (content_of m)
  both_sits m both = record {
    fields = λ n v at. under_held m.descriptor.pool.now both.1.0.pooled (known_field m.descriptor.pool.now m.descriptor.index n) v (under_field Types m both.0 n v at) (both.1.1.fields n v at);
    extensions = λ n v at. under_held m.descriptor.pool.now both.1.0.pooled (known_extension m.descriptor.pool.now m.descriptor.index n) v (under_extension Types m both.0 n v at) (both.1.1.extensions n v at);
    ordered = both.1.0.ordered;
    declared = both.1.0.declared;
  }
