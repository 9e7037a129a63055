-- Messages that pass a test of their types hold values of the kinds of their fields.
use Rattle.std.proofs.Common.{◌≡◌, ◌&&◌, ℕ, not, true, List, [], ◌∷◌, Option, Some, None, option_map, refl, sym, ap, ◌∙◌, subst}
use Rattle.std.proofs.lemmas.Bool.{and_parts}
use Rattle.std.specs.List.{AllByRecursion}
use Rattle.reflect_tables.specs.Types.{FieldType, KindType, PoolType}
use Rattle.reflect_tables.specs.Types as types
use Rattle.reflect_pool.specs.Shapes.{holds_map}
use Rattle.reflect_entries.specs.Entries.{value_at}
use Rattle.reflect_scalar.specs.Keys.{key_view}
use Rattle.reflect_scalar.specs.Singles as held
use Rattle.reflect_scalar.specs.declared.map_key.MapKey.{MapKey}
use Rattle.reflect_message.specs.Held.{extensions_of, fields_of}
use Rattle.reflect_message.specs.KindTypes.{IsMessageType}
use Rattle.reflect_message.specs.Known.{known_extension, known_field}
use Rattle.reflect_message.specs.Names.{DynamicMessage, Value}
use Rattle.reflect_decode.proofs.Telling.{both_kinds}
use Rattle.reflect_numbered.specs.Fits.{fit_of, has_type, is_message, is_one, suits_type, under_fits}
use Rattle.reflect_numbered.specs.declared.validity.Strictness.{Strictness}
use Rattle.reflect_numbered.specs.declared.validity.Strictness.TheVariants.{Shape, Surface, Types}
use Rattle.message_view.specs.Singles.{scalar_of, single_view}
use Rattle.message_view.proofs.Entries.{part_is}
use Rattle.valid_view.proofs.Fitting.{is_message_type, of_scalar, of_type}
use Rattle.valid_view.proofs.Opened.{held_fits, kinds_of}
use Rattle.valid_view.proofs.Testing.{under_extension, under_field}
use Rattle.valid_view.proofs.Valid.{IsEntry, One, Whole, one_message, one_single, whole_list, whole_map, whole_of, whole_one}
use Rattle.text_view.specs.Holds.{HasForm, HaveKeys, HoldsKinds, IsHeldAs, IsOfKind}
use Rattle.text_view.proofs.Kept.{list_kind, map_kind}
use Rattle.text_view.proofs.Scalars.{one_value}
use Rattle.text_view.proofs.Set.{held_one}

-- a single value that is one of a kind has the form of the kind
form_of : (t : KindType) (w : held.Single) → is_one t w ≡ true → HasForm (scalar_of t) (single_view w)
form_of types.int32 (held.int32 z) e = tt
form_of types.sint32 (held.int32 z) e = tt
form_of types.sfixed32 (held.int32 z) e = tt
form_of types.int64 (held.int64 z) e = tt
form_of types.sint64 (held.int64 z) e = tt
form_of types.sfixed64 (held.int64 z) e = tt
form_of types.uint32 (held.uint32 n) e = tt
form_of types.fixed32 (held.uint32 n) e = tt
form_of types.uint64 (held.uint64 n) e = tt
form_of types.fixed64 (held.uint64 n) e = tt
form_of types.bool (held.truth b) e = tt
form_of types.string (held.text t) e = tt
form_of types.bytes (held.blob b) e = tt
form_of (types.enumeration i) (held.enumerated z) e = tt
form_of t w e = absurd (cc e)

-- by each test a message suits messages alone
is_of_messages : (t : KindType) → is_message t ≡ true → IsMessageType t
is_of_messages (types.message i) e = tt
is_of_messages t e = absurd (cc e)

message_kind : (how : Strictness) (pool : PoolType) (t : KindType) (m : DynamicMessage) → kinds_of m how pool t ≡ true → IsMessageType t
message_kind Surface pool t m e = is_message_type t m.descriptor.index (of_type pool t m.descriptor e)
message_kind Shape pool t m e = is_of_messages t (and_parts (is_message t) (held_fits m.held Shape m.descriptor.pool.now m.descriptor.index) e).0
message_kind Types pool t m e =
    let two = and_parts (has_type pool t m.descriptor) (held_fits m.held Types m.descriptor.pool.now m.descriptor.index) e in
    is_message_type t m.descriptor.index (of_type pool t m.descriptor two.0)

module _ (how : Strictness) (pool : PoolType) where
  one_kind : (t : KindType) (v : Value) → One how pool t v → IsOfKind t v
  one_kind t v (one_single w at is) = (
    (λ type. absurd (both_kinds t (of_scalar t w is) type)),
    (λ type. (single_view w, one_value v ∙ ap (option_map single_view) at, form_of t w is)),
  )
  one_kind t v (one_message m at is) = (
    (λ type. (m, at)),
    (λ type. absurd (both_kinds t type (message_kind how pool t m is))),
  )

  keys_kind : (keys values : KindType) (es : List (MapKey × Value)) → AllByRecursion (IsEntry how pool keys values) es → HaveKeys (scalar_of keys) es
  keys_kind keys values [] all = tt
  keys_kind keys values (e ∷ es) all = (form_of keys (key_view e.0) all.0.0, keys_kind keys values es all.1)

  -- a value that suits a field is held as one of its kind
  whole_kind : (f : FieldType) (v : Value) → Whole how pool f v → IsHeldAs pool f (Some v)
  whole_kind f v (whole_one no_map once one) = held_one pool f no_map (ap (λ b. b && not (holds_map pool f)) once) v (one_kind f.kind v one)
  whole_kind f v (whole_list no_map repeats vs at all) =
      list_kind pool f no_map (ap (λ b. b && not (holds_map pool f)) repeats ∙ ap not no_map) (Some v) vs at
  whole_kind f v (whole_map is_map es at keys values first second all) =
      map_kind pool f is_map (Some v) es at
      (subst (λ (g : FieldType). HaveKeys (scalar_of g.kind) es) (sym (part_is pool f 1 keys first)) (keys_kind keys.kind values.kind es all))

pub tested_kinds : (how : Strictness) (m : DynamicMessage) → suits_type how m ≡ true → HoldsKinds m
tested_kinds how m typed = record {
  fields = λ n f known. of_field n f known (value_at (fields_of m) n) refl;
  extensions = λ n x known. of_extension n x known (value_at (extensions_of m) n) refl;
} where
  pool : PoolType
  pool = m.descriptor.pool.now

  of_field : (n : ℕ) (f : FieldType) → known_field pool m.descriptor.index n ≡ Some f → (o : Option Value) → value_at (fields_of m) n ≡ o → IsHeldAs pool f o
  of_field n f known None at = tt
  of_field n f known (Some v) at =
      whole_kind how pool f v (whole_of how pool f v (ap (λ o. under_fits how pool o (fit_of v)) (sym known) ∙ under_field how m typed n v at))

  of_extension : (n : ℕ) (x : FieldType) → known_extension pool m.descriptor.index n ≡ Some x → (o : Option Value) → value_at (extensions_of m) n ≡ o → IsHeldAs pool x o
  of_extension n x known None at = tt
  of_extension n x known (Some v) at =
      whole_kind how pool x v (whole_of how pool x v (ap (λ o. under_fits how pool o (fit_of v)) (sym known) ∙ under_extension how m typed n v at))
