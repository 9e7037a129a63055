-- What is right inside a value: the value itself, and the values of its list or of its map.
use Rattle.std.specs.Prelude.{◌≡◌, Bool, List, Some, ℕ}
use Rattle.std.specs.List.{AllByRecursion}
use Rattle.std.specs.List.Sorted.{IsStrictlySortedBy}
use Rattle.std.specs.Map.{keys_of}
use Rattle.protobuf_model.specs.Typed.{IsTyped}
use Rattle.reflect_message.specs.Lists.{list_items}
use Rattle.reflect_message.specs.Maps.{key_order, map_entries}
use Rattle.reflect_message.specs.Messages.{message_in}
use Rattle.reflect_message.specs.Names.{DynamicMessage, Value}
use Rattle.reflect_message.specs.Singles as singles
use Rattle.reflect_scalar.specs.Keys.{key_view}
use Rattle.reflect_scalar.specs.Singles.{Single}
use Rattle.reflect_scalar.specs.Written.{Fits}
use Rattle.reflect_scalar.specs.declared.map_key.MapKey.{MapKey}
use Rattle.reflect_tables.specs.Types.{PoolType}
use Rattle.message_view.specs.Shaped.{HasShape}
use Rattle.message_view.specs.Types.{name_at, types_of}
use Rattle.message_view.specs.Views.{view}

-- of the value, and of each in its list or in its map
pub record OfEach (P : Value → Type 0) (v : Value) : Type 0 where
  pub itself : P v
  pub items : (vs : List Value) → list_items v ≡ Some vs → AllByRecursion P vs
  pub entries : (es : List (MapKey × Value)) → map_entries v ≡ Some es
      → AllByRecursion (λ (e : MapKey × Value). P e.1) es

-- of the message that the value is, if it is one
abbrev pub IfMessage : (DynamicMessage → Type 0) → Value → Type 0
IfMessage P v = (m : DynamicMessage) → message_in v ≡ Some m → P m

-- of each message that the value is or has
abbrev pub EachMessage : (DynamicMessage → Type 0) → Value → Type 0
EachMessage P v = OfEach (IfMessage P) v

-- of the single value that the value is, if it is one
abbrev pub IfSingle : (Single → Type 0) → Value → Type 0
IfSingle P v = (w : Single) → singles.single v ≡ Some w → P w

-- keys as the types of the code have them, and values
abbrev pub KeysFit : List (MapKey × Value) → Type 0
KeysFit es = AllByRecursion (λ (e : MapKey × Value). Fits (key_view e.0)) es

abbrev pub ValuesFit : List (MapKey × Value) → Type 0
ValuesFit es = AllByRecursion (λ (e : MapKey × Value). IfSingle Fits e.1) es

-- keys that ascend, as those of each map of the code
abbrev pub AreAscending : List (MapKey × Value) → Type 0
AreAscending es = IsStrictlySortedBy key_order (keys_of es)

-- the types of the code have such values: numbers of their bits, texts of UTF-8, and maps whose
-- keys ascend
pub record IsWhole (v : Value) : Type 0 where
  pub values : OfEach (IfSingle Fits) v
  pub keys : (es : List (MapKey × Value)) → map_entries v ≡ Some es → KeysFit es
  pub ascending : (es : List (MapKey × Value)) → map_entries v ≡ Some es → AreAscending es

-- a message of a type of the pool, that is in shape
abbrev pub IsShapedIn : Bool → ℕ → PoolType → DynamicMessage → Type 0
IsShapedIn exclusive levels pool m = (m.descriptor.pool.now ≡ pool) × HasShape exclusive levels m

-- a message that suits the type at its place in the pool
abbrev pub IsTypedIn : ℕ → PoolType → DynamicMessage → Type 0
IsTypedIn levels pool m = IsTyped levels (types_of pool) (name_at pool m.descriptor.index) (view m)
