-- Refusals that are told, and what they are true of.
use Rattle.std.proofs.Common.{◌≡◌, inl, inr, ℕ, List, true, false, refl, sym, subst, Result, IfErr, IsErrAnd}
use Rattle.std.proofs.lemmas.Result.{err_from_is_err_and}
use Rattle.reflect_pool.specs.declared.enums.EnumDescriptor.{EnumDescriptor}
use Rattle.reflect_pool.specs.declared.message.MessageDescriptor.{MessageDescriptor}
use Rattle.reflect_pool.specs.declared.kind.Kind.{Kind}
use Rattle.reflect_pool.specs.declared.kind.Kind.TheVariants as values
use Rattle.reflect_tables.specs.Types.{PoolType}
use Rattle.reflect_format.specs.Lacks.{LacksField, LacksGroup, LacksExtension, HasFloatField, HasFloatExtension}
use Rattle.reflect_format.specs.Refusals.{RefusesExtension, RefusesField, RefusesScalar, RefusesSecond, RefusesValue, TellsFloatField, Shares, HoldsMember, TellsOneof}
use Rattle.reflect_pool.specs.declared.oneof.OneofDescriptor.{OneofDescriptor}
use Rattle.reflect_format.specs.Takes.{holds_many, target_pool}
use Rattle.reflect_format.specs.declared.target.Target.{Target}
use Rattle.reflect_message.specs.Names.{DynamicMessage}
use Rattle.reflect_format.specs.Truth.{TrueFor, TrueOf}
use Rattle.text_scalars.specs.Refusals.{is_of_text}
use Rattle.text_error.specs.declared.error.ParseErrorKind.{ParseErrorKind}
use Rattle.text_error.specs.declared.error.ParseErrorKind.TheVariants as kinds

module _ (m : MessageDescriptor) (name : List ℕ) where
  -- a field is told to hold floating-point numbers
  pub float_field_told : (k : ParseErrorKind) → TellsFloatField m name k → HasFloatField m name → RefusesField m name k
  float_field_told (kinds.FloatField field message span) told has = (told.0, told.1, has)
  float_field_told _ told has = absurd told

  -- an extension is
  pub float_extension_told : (brackets : List ℕ) (k : ParseErrorKind) → TellsFloatField m brackets k → HasFloatExtension m brackets → RefusesExtension m name k
  float_extension_told brackets (kinds.FloatField field message span) told has = (told.1, subst (HasFloatExtension m) (sym told.0) has)
  float_extension_told brackets _ told has = absurd told

  -- a refusal of a field's name is true of the pool
  pub field_true : (k : ParseErrorKind) → RefusesField m name k → TrueOf m.pool.now k
  field_true (kinds.FieldNotFound field message span) h = (m, (refl, h.1), subst (LacksField m) (sym h.0) h.2, subst (LacksGroup m) (sym h.0) h.3)
  field_true (kinds.FloatField field message span) h = (m, (refl, h.1), inl (subst (HasFloatField m) (sym h.0) h.2))
  field_true kinds.Memory h = tt
  field_true _ h = absurd h

  -- and one of an extension's
  pub extension_true : (k : ParseErrorKind) → RefusesExtension m name k → TrueOf m.pool.now k
  extension_true (kinds.ExtensionNotFound extension message span) h = (m, (refl, h.1), subst (LacksExtension m) (sym h.0) h.2)
  extension_true (kinds.FloatField field message span) h = (m, (refl, h.0), inr h.1)
  extension_true kinds.Memory h = tt
  extension_true _ h = absurd h

-- a refusal of the text alone is true of each pool
pub text_true : (pool : PoolType) (k : ParseErrorKind) → is_of_text k ≡ true → TrueOf pool k
text_true pool (kinds.FieldNotFound field message span) h = absurd (cc h)
text_true pool (kinds.ExtensionNotFound extension message span) h = absurd (cc h)
text_true pool (kinds.MessageNotFound message span) h = absurd (cc h)
text_true pool (kinds.EnumValueNotFound value enumeration span) h = absurd (cc h)
text_true pool (kinds.FloatField field message span) h = absurd (cc h)
text_true pool (kinds.FieldAlreadySet field span) h = absurd (cc h)
text_true pool (kinds.OneofAlreadySet oneof span) h = absurd (cc h)
text_true pool (kinds.InvalidTypeForAny span) h = absurd (cc h)
text_true pool kinds.InvalidMapKey h = absurd (cc h)
text_true pool (kinds.TooLong span) h = absurd (cc h)
text_true pool _ h = tt

-- a oneof is told that has the field for a member, and one of whose members is held
pub oneof_told : (m : DynamicMessage) (t : Target) (o : OneofDescriptor) (k : ParseErrorKind) → Shares t o → HoldsMember m o → TellsOneof o k → RefusesSecond m t k
oneof_told m t o (kinds.OneofAlreadySet oneof span) shares holds told = (o, shares, holds, told)
oneof_told m t o _ shares holds told = absurd told

-- a refusal of a second value is true of the pool that the message's type stands in
pub second_true : (m : DynamicMessage) (t : Target) (k : ParseErrorKind) → target_pool t ≡ m.descriptor.pool.now → holds_many t ≡ false → RefusesSecond m t k → TrueOf m.descriptor.pool.now k
second_true m t (kinds.FieldAlreadySet field span) pool one h = (t, pool, one, h.1)
second_true m t (kinds.OneofAlreadySet oneof span) pool one h = (t, pool, one, h.0, h.1, h.3)
second_true m t kinds.Memory pool one h = tt
second_true m t _ pool one h = absurd h

-- one of an enum's value is true of the enum's pool
value_true : (e : EnumDescriptor) (k : ParseErrorKind) → RefusesValue e k → TrueOf e.pool.now k
value_true e (kinds.EnumValueNotFound value enumeration span) h = (e, (refl, h.0), h.1)
value_true e k h = text_true e.pool.now k h

-- one of a value that is no message is true of its kind
pub scalar_true : (kind : Kind) (k : ParseErrorKind) → RefusesScalar kind k → TrueFor kind k
scalar_true (values.Message d) k h = text_true d.pool.now k h
scalar_true (values.Enum e) k h = value_true e k h
scalar_true _ k h = h

-- what is true of a fault is true of a result that passes it on
pub passed : {T : Type 0} (r : Result T ParseErrorKind) (P : ParseErrorKind → Type 0) (k : ParseErrorKind) → IsErrAnd r (λ e. e ≡ k) → P k → IfErr r P
passed r P k is h = let p = err_from_is_err_and r is in rw (p.1, p.2) h
