-- Messages that suit their types at each depth, and are tidy, are in shape.
use Rattle.std.proofs.Common.{◌≡◌, ℕ, zero, suc, Bool, true, sym, ◌∙◌, subst}
use Rattle.std.proofs.lemmas.Bool.{and_parts}
use Rattle.reflect_pool.specs.FieldsLeft.{field_type}
use Rattle.reflect_pool.specs.declared.message.MessageDescriptor.{MessageDescriptor}
use Rattle.reflect_tables.specs.Types.{KindType, PoolType}
use Rattle.reflect_tables.specs.Types as types
use Rattle.reflect_scalar.specs.FieldTypes.{extension_type}
use Rattle.reflect_message.specs.Contents.{content_of}
use Rattle.reflect_message.specs.Names.{DynamicMessage}
use Rattle.reflect_numbered.specs.Fits.{has_type, suits_type}
use Rattle.reflect_numbered.specs.declared.validity.Strictness.TheVariants.{Types}
use Rattle.message_view.specs.Shaped.{HasShape, IsShaped}
use Rattle.message_view.specs.Sound.{IsSound}
use Rattle.message_view.proofs.Deeper.{whole_shape}
use Rattle.valid_view.specs.Inside.{EachMessage}
use Rattle.valid_view.specs.Tidy.{IsTidy, OfHeld, Tidy}
use Rattle.valid_view.proofs.Fitting.{of_type, whole_fits}
use Rattle.valid_view.proofs.Opened.{kinds_of}
use Rattle.valid_view.proofs.Testing.{extension_whole, field_whole, none_beside, none_unowned}
use Rattle.valid_view.proofs.Valid.{whole_of}

pub pool_of : (pool : PoolType) (levels : ℕ) (m : DynamicMessage) → Tidy pool levels m → m.descriptor.pool.now ≡ pool
pool_of pool zero m h = absurd h
pool_of pool (suc levels) m h = h.0.pooled

-- what the test of types says of a message that suits a kind: its type, and what it holds
pub typed_kind : (pool : PoolType) (t : KindType) (m : DynamicMessage) → kinds_of m Types pool t ≡ true → (t ≡ types.message m.descriptor.index) × (suits_type Types m ≡ true)
typed_kind pool t m is = let two = and_parts (has_type pool t m.descriptor) (suits_type Types m) is in (of_type pool t m.descriptor two.0, two.1)

module _ (exclusive : Bool) (pool : PoolType) (sound : IsSound pool) where
  module _ (levels : ℕ) (below : (m : DynamicMessage) → Tidy pool levels m → suits_type Types m ≡ true → HasShape exclusive levels m)
      (m : DynamicMessage) (tidy : IsTidy pool m) (inner : OfHeld (EachMessage (Tidy pool levels)) m) (typed : suits_type Types m ≡ true) where
    abbrev d : MessageDescriptor
    d = m.descriptor

    its_sound : IsSound d.pool.now
    its_sound = subst IsSound (sym tidy.pooled) sound

    told : (t : KindType) (n : DynamicMessage) → kinds_of n Types d.pool.now t ≡ true → Tidy pool levels n → (n.descriptor.pool.now ≡ d.pool.now) × (t ≡ types.message n.descriptor.index) × HasShape exclusive levels n
    told t n is h = let two = typed_kind d.pool.now t n is in (pool_of pool levels n h ∙ sym tidy.pooled, two.0, below n h two.1)

    one_shaped : IsShaped (HasShape exclusive levels) d (content_of m)
    one_shaped = record {
      ordered = tidy.ordered;
      fields = λ f owns v at. whole_fits Types d.pool.now (Tidy pool levels) (HasShape exclusive levels) told (field_type f) v
          (whole_of Types d.pool.now (field_type f) v (field_whole Types m typed f owns v at)) (inner.fields (field_type f).number v at);
      extensions = λ x owns none v at. whole_fits Types d.pool.now (Tidy pool levels) (HasShape exclusive levels) told (extension_type x) v
          (whole_of Types d.pool.now (extension_type x) v (extension_whole Types m typed x owns v at)) (inner.extensions (extension_type x).number v at);
      apart = λ f owns. none_beside Types m typed its_sound f owns;
      unowned = λ n none. none_unowned Types m typed n none;
      declared = λ n is. tidy.declared n is;
    }

  pub typed_shaped : (levels : ℕ) (m : DynamicMessage) → Tidy pool levels m → suits_type Types m ≡ true → HasShape exclusive levels m
  typed_shaped zero m h typed = absurd h
  typed_shaped (suc levels) m h typed = whole_shape exclusive levels m (one_shaped levels (typed_shaped levels) m h.0 h.1 typed) h.0.exclusive
