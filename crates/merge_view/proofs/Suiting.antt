-- What is exclusive at each depth suits its type as `merge` asks for it.
use Rattle.std.proofs.Common.{◌≡◌, ℕ, zero, suc, Bool, true, false, Option, None, Some, is_some, refl, sym, ap, subst}
use Rattle.reflect_decode.specs.Suits.{HeldSuits, Suiting, Suits, SuitsAs, SuitsBelow, SuitsBy}
use Rattle.reflect_entries.specs.Entries.{value_at}
use Rattle.reflect_message.specs.Contents.{Content, content_of}
use Rattle.reflect_message.specs.Names.{DynamicMessage, Value}
use Rattle.reflect_message.specs.Oneofs.{AreChosen}
use Rattle.reflect_pool.specs.FieldsLeft.{field_type}
use Rattle.reflect_pool.specs.Shapes.{holds_list, holds_map}
use Rattle.reflect_pool.specs.declared.message.MessageDescriptor.{MessageDescriptor}
use Rattle.reflect_scalar.specs.FieldTypes.{extension_type}
use Rattle.reflect_tables.specs.Types.{FieldType, PoolType}
use Rattle.message_view.specs.Shaped.{Exclusive, FitsShaped, FitsAs, IsShaped}
use Rattle.message_view.proofs.Fields.{none_known}

-- where the messages inside suit theirs
module _ (inner : DynamicMessage → Type 0) (suits : Suiting)
    (each : (m : DynamicMessage) → inner m → suits m.descriptor (content_of m)) where
  as_suits : (pool : PoolType) (f : FieldType) (keyed listed : Bool) (v : Value)
      → FitsAs inner pool f keyed listed v → SuitsAs suits pool f.kind keyed listed v
  as_suits pool f true listed v (es, is, all) = ap is_some is
  as_suits pool f false true v (vs, is, all) = ap is_some is
  as_suits pool f false false v fits = λ type.
      let m = fits.nested type in (m.0, m.1, m.2, each m.0 m.3)

  held_suits : (pool : PoolType) (f : FieldType) (o : Option Value)
      → ((v : Value) → o ≡ Some v → FitsShaped inner pool f v) → HeldSuits suits pool f o
  held_suits pool f None fits = tt
  held_suits pool f (Some v) fits =
      as_suits pool f (holds_map pool f) (holds_list pool f) v (fits v refl)

  shape_suits : (d : MessageDescriptor) (c : Content) → IsShaped inner d c
      → AreChosen d c.choices c.fields → SuitsBy suits d c
  shape_suits d c shape chosen = record {
    chosen = chosen;
    fields = λ f owns.
        let g = field_type f in
        let o = value_at c.fields g.number in
        subst (λ p. HeldSuits suits p g o) (sym owns.0.1)
        (held_suits d.pool.now g o (shape.fields f owns));
    extensions = λ x owns free.
        let g = extension_type x in
        let o = value_at c.extensions g.number in
        subst (λ p. HeldSuits suits p g o) (sym owns.0.0)
        (held_suits d.pool.now g o (shape.extensions x owns (none_known d g.number free)));
  }

below_suits : (levels below : ℕ) (m : DynamicMessage) → Exclusive levels m
    → SuitsBelow below m.descriptor (content_of m)
below_suits levels zero m h = tt
below_suits zero (suc below) m h = absurd h
below_suits (suc levels) (suc below) m h =
    shape_suits (Exclusive levels) (SuitsBelow below) (below_suits levels below) m.descriptor
    (content_of m) h.0 h.1

pub exclusive_suits : (d : MessageDescriptor) (m : DynamicMessage) → m.descriptor ≡ d
    → (levels below : ℕ) → Exclusive levels m → Suits below d (content_of m)
exclusive_suits d m type levels below h =
    subst (λ (d : MessageDescriptor). Suits below d (content_of m)) type
    (below_suits levels (suc below) m h)
