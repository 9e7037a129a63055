-- Values that suit a field by the tests suit it in messages in shape, where those inside are so.
use Rattle.std.proofs.Common.{◌≡◌, ℕ, ◌==◌, ◌&&◌, not, Bool, true, false, List, [], ◌∷◌, Some, unwrap_or, sym, ap, ◌∙◌, subst, arith, bytes_eq}
use Rattle.std.proofs.lemmas.Bool.{and_parts}
use Rattle.std.specs.List.{AllByRecursion}
use Rattle.reflect_pool.specs.Shapes.{holds_list, holds_map}
use Rattle.reflect_pool.specs.declared.message.MessageDescriptor.{MessageDescriptor}
use Rattle.reflect_tables.specs.Types.{FieldType, KindType, PoolType, type_at}
use Rattle.reflect_tables.specs.Types as types
use Rattle.reflect_scalar.specs.Singles as held
use Rattle.reflect_scalar.specs.declared.map_key.MapKey.{MapKey}
use Rattle.reflect_message.specs.KindTypes.{IsMessageType, IsScalarType}
use Rattle.reflect_message.specs.Known.{entry_field}
use Rattle.reflect_message.specs.Names.{DynamicMessage, Value}
use Rattle.reflect_decode.proofs.Telling.{both_kinds}
use Rattle.reflect_numbered.specs.Fits.{fit_of, has_type, is_one}
use Rattle.reflect_numbered.specs.declared.validity.Strictness.{Strictness}
use Rattle.reflect_numbered.specs.declared.validity.Strictness.TheVariants.{Surface}
use Rattle.message_view.specs.Shaped.{FitsAs, FitsEntry, FitsOne, FitsShaped, HasShape}
use Rattle.valid_view.specs.Inside.{EachMessage, IfMessage, IsShapedIn}
use Rattle.valid_view.proofs.Opened.{kinds_of}
use Rattle.valid_view.proofs.Valid.{IsEntry, One, one_message, one_of, one_single, Whole, whole_list, whole_map, whole_of, whole_one}

-- a single value is one of a kind that is no message
pub of_scalar : (t : KindType) (w : held.Single) → is_one t w ≡ true → IsScalarType t
of_scalar types.double w e = absurd (cc e)
of_scalar types.float w e = absurd (cc e)
of_scalar (types.message i) w e = absurd (cc e)
of_scalar t w e = tt

-- and a message of one that is
pub of_type : (pool : PoolType) (t : KindType) (d : MessageDescriptor) → has_type pool t d ≡ true → t ≡ types.message d.index
of_type pool (types.message i) d e =
    let two = and_parts (d.index == i) (bytes_eq (type_at d.pool.now d.index).full_name (type_at pool i).full_name) e in
    let same : i ≡ d.index = grind (arith, two.0) in
    ap types.message same
of_type pool t d e = absurd (cc e)

pub is_message_type : (t : KindType) (i : ℕ) → t ≡ types.message i → IsMessageType t
is_message_type t i e = subst IsMessageType (sym e) tt

-- what is known of a message that suits a kind by a test, where `Q` holds of it
module _ (how : Strictness) (pool : PoolType) (Q inner : DynamicMessage → Type 0)
    (use_it : (t : KindType) (m : DynamicMessage) → kinds_of m how pool t ≡ true → Q m → (m.descriptor.pool.now ≡ pool) × (t ≡ types.message m.descriptor.index) × inner m) where
  pub one_fits : (f : FieldType) (v : Value) → One how pool f.kind v → IfMessage Q v → FitsOne inner pool f v
  one_fits f v (one_single w at is) inside = record {
    plain = λ type. (w, at);
    nested = λ type. absurd (both_kinds f.kind (of_scalar f.kind w is) type);
  }
  one_fits f v (one_message m at is) inside =
      let told = use_it f.kind m is (inside m at) in
      record {
        plain = λ type. absurd (both_kinds f.kind type (is_message_type f.kind m.descriptor.index told.1));
        nested = λ type. (m, at, (told.0, told.1), told.2);
      }

  all_fit : (f : FieldType) (vs : List Value) → AllByRecursion (One how pool f.kind) vs → AllByRecursion (IfMessage Q) vs → AllByRecursion (FitsOne inner pool f) vs
  all_fit f [] all inside = tt
  all_fit f (v ∷ vs) all inside = (one_fits f v all.0 inside.0, all_fit f vs all.1 inside.1)

  module _ (f keys values : FieldType) (there : entry_field pool f.kind 2 ≡ Some values) where
    entry_fits : (e : MapKey × Value) → IsEntry how pool keys.kind values.kind e → IfMessage Q e.1 → FitsEntry inner pool f e
    entry_fits e is inside others at =
        let same : values ≡ others = ap (λ o. unwrap_or o values) (sym there ∙ at) in
        subst (λ (g : FieldType). FitsOne inner pool g e.1) same (one_fits values e.1 is.1 inside)

    entries_fit : (es : List (MapKey × Value)) → AllByRecursion (IsEntry how pool keys.kind values.kind) es → AllByRecursion (λ (e : MapKey × Value). IfMessage Q e.1) es → AllByRecursion (FitsEntry inner pool f) es
    entries_fit [] all inside = tt
    entries_fit (e ∷ es) all inside = (entry_fits e all.0 inside.0, entries_fit es all.1 inside.1)

  -- by which the field holds
  as_one : (f : FieldType) (v : Value) → holds_map pool f ≡ false → holds_list pool f ≡ false → FitsOne inner pool f v → FitsShaped inner pool f v
  as_one f v no_map no_list h = subst (λ b. FitsAs inner pool f b (holds_list pool f) v) (sym no_map) (subst (λ b. FitsAs inner pool f false b v) (sym no_list) h)

  as_list : (f : FieldType) (v : Value) → holds_map pool f ≡ false → holds_list pool f ≡ true → FitsAs inner pool f false true v → FitsShaped inner pool f v
  as_list f v no_map list h = subst (λ b. FitsAs inner pool f b (holds_list pool f) v) (sym no_map) (subst (λ b. FitsAs inner pool f false b v) (sym list) h)

  pub whole_fits : (f : FieldType) (v : Value) → Whole how pool f v → EachMessage Q v → FitsShaped inner pool f v
  whole_fits f v (whole_one no_map no_list one) inside =
      let list_not : holds_list pool f ≡ false = ap (λ b. b && not (holds_map pool f)) no_list in
      as_one f v no_map list_not (one_fits f v one inside.itself)
  whole_fits f v (whole_list no_map repeated vs at all) inside =
      let list : holds_list pool f ≡ true = ap (λ b. b && not (holds_map pool f)) repeated ∙ ap not no_map in
      as_list f v no_map list (vs, at, all_fit f vs all (inside.items vs at))
  whole_fits f v (whole_map is_map es at keys values first second all) inside =
      subst (λ b. FitsAs inner pool f b (holds_list pool f) v) (sym is_map) (es, at, entries_fit f keys values second es all (inside.entries es at))

-- what the test of the surface says of messages
module _ (exclusive : Bool) (levels : ℕ) (pool : PoolType) where
  surface : (t : KindType) (m : DynamicMessage) → kinds_of m Surface pool t ≡ true → IsShapedIn exclusive levels pool m
      → (m.descriptor.pool.now ≡ pool) × (t ≡ types.message m.descriptor.index) × HasShape exclusive levels m
  surface t m is h = (h.0, of_type pool t m.descriptor is, h.1)

  pub valid_fits : (f : FieldType) (v : Value) → (fit_of v).whole Surface pool f ≡ true → EachMessage (IsShapedIn exclusive levels pool) v → FitsShaped (HasShape exclusive levels) pool f v
  valid_fits f v valid inside = whole_fits Surface pool (IsShapedIn exclusive levels pool) (HasShape exclusive levels) surface f v (whole_of Surface pool f v valid) inside

  pub valid_fits_one : (f : FieldType) (v : Value) → (fit_of v).one Surface pool f.kind ≡ true → IfMessage (IsShapedIn exclusive levels pool) v → FitsOne (HasShape exclusive levels) pool f v
  valid_fits_one f v valid inside = one_fits Surface pool (IsShapedIn exclusive levels pool) (HasShape exclusive levels) surface f v (one_of Surface pool f.kind v valid) inside
