-- What an option says to a field suits it as one value, and so does a message of the field's type.
use Rattle.std.proofs.Common.{◌≡◌, ℕ, suc, ◌≤◌, Bool, Some, refl, sym, subst}
use Rattle.descriptor_records.specs.Content.{OptionContent}
use Rattle.message_view.specs.Shaped.{Exclusive, FitsOne}
use Rattle.message_view.specs.Singles as views
use Rattle.message_view.specs.Sound.{IsSound}
use Rattle.message_view.specs.Types.{kind_in}
use Rattle.option_setter.specs.OptionValues.{IsSaid, said}
use Rattle.protobuf_model.specs.Types.{scalar}
use Rattle.protobuf_model.specs.Values.{Single}
use Rattle.reflect_decode.proofs.Telling.{both_kinds}
use Rattle.reflect_format.specs.Kinds.{single_of}
use Rattle.reflect_message.specs.KindTypes.{IsScalarType}
use Rattle.reflect_message.specs.Names.{DynamicMessage, Value}
use Rattle.reflect_message.specs.declared.value.ValueOf.TheVariants as held
use Rattle.reflect_pool.specs.Kinds.{IsKind}
use Rattle.reflect_pool.specs.declared.kind.Kind.{Kind}
use Rattle.reflect_pool.specs.declared.kind.Kind.TheVariants as values
use Rattle.reflect_tables.specs.Types.{FieldType, KindType, PoolType}
use Rattle.text_view.proofs.Puts.{message_is}
use Rattle.text_view.proofs.Set.{singled}
use Rattle.stored_options.proofs.Fine.{made_shape, made_type}

-- what an option says something to that is no message is of a scalar type
abbrev pub IsPlainKind : PoolType → Bool → KindType → Type 0
IsPlainKind pool g t = (kind_in pool g t ≡ scalar (views.scalar_of t)) × IsScalarType t

pub plain_kind : (pool : PoolType) (g : Bool) (k : Kind) (t : KindType) → IsKind pool k t → (o : OptionContent) (x : Single) → said k o ≡ Some x → IsPlainKind pool g t
plain_kind pool g (values.Message d) t is o x e = absurd (cc e)
plain_kind pool g (values.Enum d) t is o x e = subst (IsPlainKind pool g) (sym is.1) (refl, tt)
plain_kind pool g values.Double t is o x e = absurd (cc e)
plain_kind pool g values.Float t is o x e = absurd (cc e)
plain_kind pool g k t is o x e = subst (IsPlainKind pool g) (sym is) (refl, tt)

module _ (inner : DynamicMessage → Type 0) (pool : PoolType) (f : FieldType) where
  pub fits_as_single : (v : Value) (x : Single) → IsScalarType f.kind → single_of v ≡ Some x → FitsOne inner pool f v
  fits_as_single v x type given = record {
    plain = λ also. let w = singled v x given in (w.0, w.1);
    nested = λ other. absurd (both_kinds f.kind type other);
  }

  pub fits_as_message : (m : DynamicMessage) → IsKind pool (values.Message m.descriptor) f.kind → inner m → FitsOne inner pool f (held.Message m)
  fits_as_message m is shape = record {
    plain = λ type. absurd (subst IsScalarType is.1 type);
    nested = λ type. (m, message_is m, is, shape);
  }

pub said_fits : (pool : PoolType) → IsSound pool → (o : OptionContent) (f : FieldType) (v : Value) (levels : ℕ) (k : Kind) → IsKind pool k f.kind → IsSaid k o v → 100 ≤ levels
    → FitsOne (Exclusive (suc levels)) pool f v
said_fits pool sound o f v levels (values.Message d) is s le =
    let d_sound = subst IsSound (sym is.0) sound in
    let text = s.1.2 in
    let type = made_type d d_sound s.1.0 text.0 text.1 s.0 text.2 in
    subst (FitsOne (Exclusive (suc levels)) pool f) (sym s.2)
    (fits_as_message (Exclusive (suc levels)) pool f s.0 (subst (λ c. IsKind pool (values.Message c) f.kind) (sym type) is) (made_shape d d_sound s.1.0 text.0 text.1 s.0 text.2 levels le))
said_fits pool sound o f v levels k is s le = fits_as_single (Exclusive (suc levels)) pool f v s.0 (plain_kind pool f.group k f.kind is o s.0 s.1).1 s.2
