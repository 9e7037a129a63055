-- What is in shape of some levels is so of more, and what is exclusive is in shape.
use Rattle.std.proofs.Common.{◌≤◌, ℕ, zero, suc, Bool, true, false, arith}
use Rattle.protobuf_model.proofs.Lists.{all_map}
use Rattle.reflect_message.specs.Contents.{Content, content_of}
use Rattle.reflect_message.specs.Names.{DynamicMessage, Value}
use Rattle.reflect_message.specs.Oneofs.{IsExclusive}
use Rattle.reflect_pool.specs.FieldsLeft.{field_type}
use Rattle.reflect_pool.specs.Shapes.{holds_list, holds_map}
use Rattle.reflect_pool.specs.declared.message.MessageDescriptor.{MessageDescriptor}
use Rattle.reflect_scalar.specs.FieldTypes.{extension_type}
use Rattle.reflect_tables.specs.Types.{FieldType, PoolType}
use Rattle.message_view.specs.Shaped.{Exclusive, FitsShaped, FitsAs, FitsEntry, FitsOne, HasShape, IsShaped, Shaped}

-- where less is asked of the messages inside
module _ (inner outer : DynamicMessage → Type 0)
    (weaker : (m : DynamicMessage) → inner m → outer m) where
  one_weaker : (pool : PoolType) (f : FieldType) (v : Value) → FitsOne inner pool f v
      → FitsOne outer pool f v
  one_weaker pool f v fits = record {
    plain = λ type. fits.plain type;
    nested = λ type. let m = fits.nested type in (m.0, m.1, m.2, weaker m.0 m.3);
  }

  as_weaker : (pool : PoolType) (f : FieldType) (keyed listed : Bool) (v : Value)
      → FitsAs inner pool f keyed listed v → FitsAs outer pool f keyed listed v
  as_weaker pool f true listed v (es, is, all) = (
    es,
    is,
    all_map (FitsEntry inner pool f) (FitsEntry outer pool f) es
        (λ e fits values there. one_weaker pool values e.1 (fits values there)) all,
  )
  as_weaker pool f false true v (vs, is, all) =
      (vs, is, all_map (FitsOne inner pool f) (FitsOne outer pool f) vs (one_weaker pool f) all)
  as_weaker pool f false false v fits = one_weaker pool f v fits

  fits_weaker : (pool : PoolType) (f : FieldType) (v : Value) → FitsShaped inner pool f v
      → FitsShaped outer pool f v
  fits_weaker pool f v fits = as_weaker pool f (holds_map pool f) (holds_list pool f) v fits

  shape_weaker : (d : MessageDescriptor) (c : Content) → IsShaped inner d c → IsShaped outer d c
  shape_weaker d c shape = record {
    ordered = shape.ordered;
    fields = λ f owns v at. fits_weaker d.pool.now (field_type f) v (shape.fields f owns v at);
    extensions = λ x owns none v at.
        fits_weaker d.pool.now (extension_type x) v (shape.extensions x owns none v at);
    apart = λ f owns. shape.apart f owns;
    unowned = λ n none. shape.unowned n none;
    declared = λ n is. shape.declared n is;
  }

-- one level
pub one_level : (exclusive : Bool) (levels : ℕ) (m : DynamicMessage)
    → HasShape exclusive (suc levels) m
    → IsShaped (HasShape exclusive levels) m.descriptor (content_of m)
one_level true levels m shape = shape.0
one_level false levels m shape = shape

pub whole_shape : (exclusive : Bool) (levels : ℕ) (m : DynamicMessage)
    → IsShaped (HasShape exclusive levels) m.descriptor (content_of m) → IsExclusive m
    → HasShape exclusive (suc levels) m
whole_shape true levels m shape sole = (shape, sole)
whole_shape false levels m shape sole = shape

-- more levels
exclusive_deeper : (levels deeper : ℕ) → levels ≤ deeper → (m : DynamicMessage)
    → Exclusive levels m → Exclusive deeper m
exclusive_deeper zero deeper le m h = absurd h
exclusive_deeper (suc levels) zero le m h = absurd (omega (arith, le))
exclusive_deeper (suc levels) (suc deeper) le m h = (
  shape_weaker (Exclusive levels) (Exclusive deeper)
      (exclusive_deeper levels deeper (omega (arith, le))) m.descriptor (content_of m) h.0,
  h.1,
)

shaped_deeper : (levels deeper : ℕ) → levels ≤ deeper → (m : DynamicMessage) → Shaped levels m
    → Shaped deeper m
shaped_deeper zero deeper le m h = absurd h
shaped_deeper (suc levels) zero le m h = absurd (omega (arith, le))
shaped_deeper (suc levels) (suc deeper) le m h =
    shape_weaker (Shaped levels) (Shaped deeper) (shaped_deeper levels deeper (omega (arith, le)))
    m.descriptor (content_of m) h

pub deeper_shape : (exclusive : Bool) (levels deeper : ℕ) → levels ≤ deeper → (m : DynamicMessage)
    → HasShape exclusive levels m → HasShape exclusive deeper m
deeper_shape true levels deeper le = exclusive_deeper levels deeper le
deeper_shape false levels deeper le = shaped_deeper levels deeper le

module _ (exclusive : Bool) (levels deeper : ℕ) (le : levels ≤ deeper) (pool : PoolType)
    (f : FieldType) (v : Value) where
  pub deeper_fits : FitsShaped (HasShape exclusive levels) pool f v
      → FitsShaped (HasShape exclusive deeper) pool f v
  deeper_fits fits =
      fits_weaker (HasShape exclusive levels) (HasShape exclusive deeper)
      (deeper_shape exclusive levels deeper le) pool f v fits

  pub deeper_one : FitsOne (HasShape exclusive levels) pool f v
      → FitsOne (HasShape exclusive deeper) pool f v
  deeper_one fits =
      one_weaker (HasShape exclusive levels) (HasShape exclusive deeper)
      (deeper_shape exclusive levels deeper le) pool f v fits

-- exclusive messages are in shape
pub exclusive_shaped : (levels : ℕ) (m : DynamicMessage) → Exclusive levels m → Shaped levels m
exclusive_shaped zero m h = absurd h
exclusive_shaped (suc levels) m h =
    shape_weaker (Exclusive levels) (Shaped levels) (exclusive_shaped levels) m.descriptor
    (content_of m) h.0
