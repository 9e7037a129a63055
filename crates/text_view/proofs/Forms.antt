-- Values that texts give have the form of their kind.
use Rattle.std.proofs.Common.{◌≡◌, ◌==◌, ℕ, ℤ, Bool, true, false, cond, Option, Some, None, option_map, refl, sym, ap, ◌∙◌, subst, rules, string_bytes}
use Rattle.std.proofs.lemmas.Option.{same_Some}
use Rattle.protox_lex.specs.Class.{Text}
use Rattle.protobuf_model.specs.Scalars.{Suits}
use Rattle.protobuf_model.specs.Types.{Scalar}
use Rattle.protobuf_model.specs.Types as kinds
use Rattle.protobuf_model.specs.Values as model
use Rattle.protobuf_model.specs.Values.{Single}
use Rattle.reflect_tables.specs.Types.{PoolType, KindType}
use Rattle.reflect_tables.specs.Types as types
use Rattle.reflect_pool.specs.Kinds.{IsKind}
use Rattle.reflect_pool.specs.declared.kind.Kind as publics
use Rattle.reflect_pool.specs.declared.kind.Kind.TheVariants as values
use Rattle.reflect_scalar.specs.declared.map_key.MapKey.{MapKey}
use Rattle.reflect_scalar.specs.declared.map_key.MapKey.TheVariants as keys
use Rattle.reflect_decode.specs.Refused.{IsKeyKind}
use Rattle.reflect_message.specs.KindTypes.{IsMessageType}
use Rattle.reflect_message.specs.MapKeys.{key_of_value}
use Rattle.reflect_message.specs.Messages.{message_in}
use Rattle.reflect_message.specs.Names.{DynamicMessage, Value}
use Rattle.reflect_message.specs.declared.value.ValueOf.{the_lemmas}
use Rattle.reflect_message.specs.declared.value.ValueOf.TheVariants as held
use Rattle.reflect_format.specs.Filled.{IsScalar}
use Rattle.reflect_format.specs.Kinds.{names_of, single_of}
use Rattle.text_model.specs.Scalars.{identifier_in, integer_in, is_false, is_true, scalar_in, string_in}
use Rattle.text_model.specs.Tree.{integer, floating, identifier, ScalarValue, signed, strings}
use Rattle.text_scalars.specs.Number.{nameless}
use Rattle.message_view.specs.Singles.{scalar_of}
use Rattle.message_view.proofs.Entries.{form_at}
use Rattle.message_view.proofs.Keys.{form_of, key_single}
use Rattle.text_view.specs.Holds.{HasForm, IsOfKind}
use Rattle.text_view.proofs.Puts.{message_is}

only : (k : Scalar) (b : Bool) (y x : Single) → HasForm k y → cond b (Some y) None ≡ Some x → HasForm k x
only k true y x h e = subst (HasForm k) (same_Some y x e) h
only k false y x h e = absurd (cc e)

integer_form : (k : Scalar) (minus : Bool) (n : ℕ) (x : Single) → integer_in k minus n ≡ Some x → HasForm k x
integer_form kinds.int32 minus n x e = only kinds.int32 _ _ x tt e
integer_form kinds.sint32 minus n x e = only kinds.sint32 _ _ x tt e
integer_form kinds.sfixed32 minus n x e = only kinds.sfixed32 _ _ x tt e
integer_form kinds.enumeration minus n x e = only kinds.enumeration _ _ x tt e
integer_form kinds.int64 minus n x e = only kinds.int64 _ _ x tt e
integer_form kinds.sint64 minus n x e = only kinds.sint64 _ _ x tt e
integer_form kinds.sfixed64 minus n x e = only kinds.sfixed64 _ _ x tt e
integer_form kinds.uint32 false n x e = only kinds.uint32 _ _ x tt e
integer_form kinds.fixed32 false n x e = only kinds.fixed32 _ _ x tt e
integer_form kinds.uint64 false n x e = only kinds.uint64 _ _ x tt e
integer_form kinds.fixed64 false n x e = only kinds.fixed64 _ _ x tt e
integer_form kinds.bool false n x e = by (n == 0) e where
  by : (a : Bool) → cond a (Some (model.truth false)) (cond (n == 1) (Some (model.truth true)) None) ≡ Some x → HasForm kinds.bool x
  by true h = subst (HasForm kinds.bool) (same_Some (model.truth false) x h) tt
  by false h = only kinds.bool (n == 1) (model.truth true) x tt h
integer_form k true n x e = absurd (cc e)
integer_form k false n x e = absurd (cc e)

identifier_form : (enum : Text → Option ℤ) (k : Scalar) (w : Text) (x : Single) → identifier_in enum k w ≡ Some x → HasForm k x
identifier_form enum kinds.bool w x e = by (is_true w) e where
  by : (a : Bool) → cond a (Some (model.truth true)) (cond (is_false w) (Some (model.truth false)) None) ≡ Some x → HasForm kinds.bool x
  by true h = subst (HasForm kinds.bool) (same_Some (model.truth true) x h) tt
  by false h = only kinds.bool (is_false w) (model.truth false) x tt h
identifier_form enum kinds.enumeration w x e = by (enum w) e where
  by : (o : Option ℤ) → option_map model.enumerated o ≡ Some x → HasForm kinds.enumeration x
  by None h = absurd (cc h)
  by (Some z) h = subst (HasForm kinds.enumeration) (same_Some (model.enumerated z) x h) tt
identifier_form enum k w x e = absurd (cc e)

string_form : (k : Scalar) (s : Text) (x : Single) → string_in k s ≡ Some x → HasForm k x
string_form kinds.string s x e = only kinds.string _ _ x tt e
string_form kinds.bytes s x e = subst (HasForm kinds.bytes) (same_Some (model.blob s) x e) tt
string_form k s x e = absurd (cc e)

-- what a text gives to a kind
form_read : (enum : Text → Option ℤ) (k : Scalar) (s : ScalarValue) (x : Single) → scalar_in enum k s ≡ Some x → HasForm k x
form_read enum k (signed minus (integer r digits)) x e = integer_form k minus _ x e
form_read enum k (signed false (identifier w)) x e = identifier_form enum k w x e
form_read enum k (signed true (identifier w)) x e = absurd (cc e)
form_read enum k (signed minus (floating t)) x e = absurd (cc e)
form_read enum k (strings s ss) x e = string_form k _ x e

pub single_kind : (t u : KindType) → t ≡ u → (IsMessageType u → ⊥) → (v : Value) (x : Single) → single_of v ≡ Some x → HasForm (scalar_of u) x → IsOfKind t v
single_kind t u is no_message v x one form = subst (λ t. IsOfKind t v) (sym is) ((λ h. absurd (no_message h)), λ h. (x, one, form))

-- so it is a value of the kind
pub scalar_kind : (pool : PoolType) (k : publics.Kind) (t : KindType) (s : ScalarValue) (v : Value) → IsKind pool k t → IsScalar k s v → IsOfKind t v
scalar_kind pool values.Double t s v is (x, given, one) = absurd (cc given)
scalar_kind pool values.Float t s v is (x, given, one) = absurd (cc given)
scalar_kind pool values.Int32 t s v is (x, given, one) = single_kind t types.int32 is (λ h. h) v x one (form_read nameless kinds.int32 s x given)
scalar_kind pool values.Int64 t s v is (x, given, one) = single_kind t types.int64 is (λ h. h) v x one (form_read nameless kinds.int64 s x given)
scalar_kind pool values.Uint32 t s v is (x, given, one) = single_kind t types.uint32 is (λ h. h) v x one (form_read nameless kinds.uint32 s x given)
scalar_kind pool values.Uint64 t s v is (x, given, one) = single_kind t types.uint64 is (λ h. h) v x one (form_read nameless kinds.uint64 s x given)
scalar_kind pool values.Sint32 t s v is (x, given, one) = single_kind t types.sint32 is (λ h. h) v x one (form_read nameless kinds.sint32 s x given)
scalar_kind pool values.Sint64 t s v is (x, given, one) = single_kind t types.sint64 is (λ h. h) v x one (form_read nameless kinds.sint64 s x given)
scalar_kind pool values.Fixed32 t s v is (x, given, one) = single_kind t types.fixed32 is (λ h. h) v x one (form_read nameless kinds.fixed32 s x given)
scalar_kind pool values.Fixed64 t s v is (x, given, one) = single_kind t types.fixed64 is (λ h. h) v x one (form_read nameless kinds.fixed64 s x given)
scalar_kind pool values.Sfixed32 t s v is (x, given, one) = single_kind t types.sfixed32 is (λ h. h) v x one (form_read nameless kinds.sfixed32 s x given)
scalar_kind pool values.Sfixed64 t s v is (x, given, one) = single_kind t types.sfixed64 is (λ h. h) v x one (form_read nameless kinds.sfixed64 s x given)
scalar_kind pool values.Bool t s v is (x, given, one) = single_kind t types.bool is (λ h. h) v x one (form_read nameless kinds.bool s x given)
scalar_kind pool values.String t s v is (x, given, one) = single_kind t types.string is (λ h. h) v x one (form_read nameless kinds.string s x given)
scalar_kind pool values.Bytes t s v is (x, given, one) = single_kind t types.bytes is (λ h. h) v x one (form_read nameless kinds.bytes s x given)
scalar_kind pool (values.Enum e) t s v is (x, given, one) = single_kind t (types.enumeration e.index) is.1 (λ h. h) v x one (form_read (names_of (values.Enum e)) kinds.enumeration s x given)
scalar_kind pool (values.Message d) t s v is (x, given, one) = absurd (cc given)

-- and a message one of its kind
pub message_kind : (t : KindType) (i : ℕ) (v : Value) (m : DynamicMessage) → t ≡ types.message i → v ≡ held.Message m → IsOfKind t v
message_kind t i v m type is = subst (λ t. IsOfKind t v) (sym type) ((λ h. (m, ap message_in is ∙ message_is m)), λ h. absurd h)

-- ---- defaults and keys

pub suited_form : (k : Scalar) (x : Single) → Suits k x → HasForm k x
suited_form kinds.int32 (model.int32 z) h = tt
suited_form kinds.int64 (model.int64 z) h = tt
suited_form kinds.uint32 (model.uint32 n) h = tt
suited_form kinds.uint64 (model.uint64 n) h = tt
suited_form kinds.sint32 (model.int32 z) h = tt
suited_form kinds.sint64 (model.int64 z) h = tt
suited_form kinds.fixed32 (model.uint32 n) h = tt
suited_form kinds.fixed64 (model.uint64 n) h = tt
suited_form kinds.sfixed32 (model.int32 z) h = tt
suited_form kinds.sfixed64 (model.int64 z) h = tt
suited_form kinds.bool (model.truth b) h = tt
suited_form kinds.string (model.text t) h = tt
suited_form kinds.bytes (model.blob b) h = tt
suited_form kinds.enumeration (model.enumerated z) h = tt
suited_form k x h = absurd h

pub form_is : (k : Scalar) (x : Single) → HasForm k x → form_of x ≡ form_at k
form_is kinds.int32 (model.int32 z) h = refl
form_is kinds.int64 (model.int64 z) h = refl
form_is kinds.uint32 (model.uint32 n) h = refl
form_is kinds.uint64 (model.uint64 n) h = refl
form_is kinds.sint32 (model.int32 z) h = refl
form_is kinds.sint64 (model.int64 z) h = refl
form_is kinds.fixed32 (model.uint32 n) h = refl
form_is kinds.fixed64 (model.uint64 n) h = refl
form_is kinds.sfixed32 (model.int32 z) h = refl
form_is kinds.sfixed64 (model.int64 z) h = refl
form_is kinds.bool (model.truth b) h = refl
form_is kinds.string (model.text t) h = refl
form_is kinds.bytes (model.blob b) h = refl
form_is kinds.enumeration (model.enumerated z) h = refl
form_is k x h = absurd h

no_blob : (t : KindType) (b : Text) → IsKeyKind t → HasForm (scalar_of t) (model.blob b) → ⊥
no_blob types.bytes b h g = h
no_blob (types.message i) b h g = h
no_blob t b h g = g

no_enumerated : (t : KindType) (z : ℤ) → IsKeyKind t → HasForm (scalar_of t) (model.enumerated z) → ⊥
no_enumerated (types.enumeration i) z h g = h
no_enumerated t z h g = g

-- a value of a key's kind is a key
pub key_is : (t : KindType) → IsKeyKind t → (v : Value) (x : Single) → single_of v ≡ Some x → HasForm (scalar_of t) x → (k : MapKey) × (key_of_value v ≡ Some k) × (key_single k ≡ x)
key_is t h (held.Bool b) x e form = (keys.Bool b, search (rules, the_lemmas), same_Some (model.truth b) x e)
key_is t h (held.I32 z) x e form = (keys.I32 z, search (rules, the_lemmas), same_Some (model.int32 z) x e)
key_is t h (held.I64 z) x e form = (keys.I64 z, search (rules, the_lemmas), same_Some (model.int64 z) x e)
key_is t h (held.U32 n) x e form = (keys.U32 n, search (rules, the_lemmas), same_Some (model.uint32 n) x e)
key_is t h (held.U64 n) x e form = (keys.U64 n, search (rules, the_lemmas), same_Some (model.uint64 n) x e)
key_is t h (held.String s) x e form = (keys.String s, search (rules, the_lemmas), same_Some (model.text (string_bytes s)) x e)
key_is t h (held.Bytes b) x e form = absurd (no_blob t b.items h (subst (HasForm (scalar_of t)) (sym (same_Some (model.blob b.items) x e)) form))
key_is t h (held.EnumNumber z) x e form = absurd (no_enumerated t z h (subst (HasForm (scalar_of t)) (sym (same_Some (model.enumerated z) x e)) form))
key_is t h v x e form = absurd (cc e)
