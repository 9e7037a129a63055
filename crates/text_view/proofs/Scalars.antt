-- The single values that texts give, in the words of the model.
use Rattle.std.proofs.Common.{◌≡◌, ℤ, Bool, false, Option, Some, None, option_map, unwrap_or, refl, sym, ap, ◌∙◌, rules}
use Rattle.std.specs.List.{find}
use Rattle.std.specs.Str.{bytes_eq}
use mathlib.Core.Path.{fun_ext}
use Rattle.protox_lex.specs.Class.{Text}
use Rattle.protobuf_model.specs.Types.{Scalar, Kind, scalar}
use Rattle.protobuf_model.specs.Types as kinds
use Rattle.protobuf_model.specs.Values.{Single, Content, single}
use Rattle.reflect_tables.specs.Types.{PoolType, KindType, enum_at}
use Rattle.reflect_tables.specs.Types as types
use Rattle.reflect_pool.specs.Kinds.{IsKind}
use Rattle.reflect_pool.specs.declared.kind.Kind as publics
use Rattle.reflect_pool.specs.declared.kind.Kind.TheVariants as values
use Rattle.reflect_scalar.specs.Singles as scalars
use Rattle.reflect_message.specs.Known.{is_float}
use Rattle.reflect_message.specs.Singles as singles
use Rattle.reflect_message.specs.Names.{Value}
use Rattle.reflect_message.specs.declared.value.ValueOf.{the_lemmas}
use Rattle.reflect_message.specs.declared.value.ValueOf.TheVariants as held
use Rattle.text_model.specs.Schemas.{Schema}
use Rattle.text_model.specs.Scalars.{scalar_in}
use Rattle.text_model.specs.Tree.{ScalarValue}
use Rattle.text_model.specs.Value.{scalar_content, wanted_in}
use Rattle.text_scalars.specs.Number.{nameless}
use Rattle.reflect_format.specs.Filled.{IsScalar}
use Rattle.reflect_format.specs.Kinds.{scalar_given, single_of}
use Rattle.message_view.specs.Singles.{single_view}
use Rattle.message_view.specs.Types.{kind_in}
use Rattle.message_view.specs.Views.{content_view}
use Rattle.message_view.proofs.Seen.{single_seen}
use Rattle.text_view.specs.Names.{number_in}

-- the single value of a value, by one word and by another
pub one_value : (v : Value) → single_of v ≡ option_map single_view (singles.single v)
one_value (held.Bool b) = search (rules, the_lemmas)
one_value v = search (rules, the_lemmas)

-- and it is the content that is seen
pub content_is : (v : Value) (x : Single) → single_of v ≡ Some x → content_view v ≡ single x
content_is v x e = by (singles.single v) refl where
  by : (o : Option scalars.Single) → singles.single v ≡ o → content_view v ≡ single x
  by None is = absurd (cc (sym e ∙ one_value v ∙ ap (option_map single_view) is))
  by (Some w) is = single_seen v w is ∙ ap (λ o. single (unwrap_or o (single_view w))) (sym (ap (option_map single_view) is) ∙ sym (one_value v) ∙ e)

-- what a text gives to a kind that a type is
module _ (w : Schema) (pool : PoolType) (group : Bool) (s : ScalarValue) where
  abbrev read_as : KindType → Option Content
  read_as t = scalar_content (wanted_in w (number_in pool t) (kind_in pool group t)) s

  of_kind : (t u : KindType) (k : Scalar) → t ≡ u → kind_in pool group u ≡ scalar k → ((v : Text) → number_in pool u v ≡ None) → read_as t ≡ option_map single (scalar_in nameless k s)
  of_kind t u k is kind none =
      ap (λ t. scalar_content (wanted_in w (number_in pool t) (kind_in pool group t)) s) is
      ∙ ap (λ k. scalar_content (wanted_in w (number_in pool u) k) s) kind
      ∙ ap (λ (e : Text → Option ℤ). option_map single (scalar_in e k s)) (fun_ext none)

  pub told : (k : publics.Kind) (t : KindType) → IsKind pool k t → is_float t ≡ false → read_as t ≡ option_map single (scalar_given k s)
  told values.Double t is whole = absurd (cc (sym (ap is_float is) ∙ whole))
  told values.Float t is whole = absurd (cc (sym (ap is_float is) ∙ whole))
  told values.Int32 t is whole = of_kind t types.int32 kinds.int32 is refl (λ v. refl)
  told values.Int64 t is whole = of_kind t types.int64 kinds.int64 is refl (λ v. refl)
  told values.Uint32 t is whole = of_kind t types.uint32 kinds.uint32 is refl (λ v. refl)
  told values.Uint64 t is whole = of_kind t types.uint64 kinds.uint64 is refl (λ v. refl)
  told values.Sint32 t is whole = of_kind t types.sint32 kinds.sint32 is refl (λ v. refl)
  told values.Sint64 t is whole = of_kind t types.sint64 kinds.sint64 is refl (λ v. refl)
  told values.Fixed32 t is whole = of_kind t types.fixed32 kinds.fixed32 is refl (λ v. refl)
  told values.Fixed64 t is whole = of_kind t types.fixed64 kinds.fixed64 is refl (λ v. refl)
  told values.Sfixed32 t is whole = of_kind t types.sfixed32 kinds.sfixed32 is refl (λ v. refl)
  told values.Sfixed64 t is whole = of_kind t types.sfixed64 kinds.sfixed64 is refl (λ v. refl)
  told values.Bool t is whole = of_kind t types.bool kinds.bool is refl (λ v. refl)
  told values.String t is whole = of_kind t types.string kinds.string is refl (λ v. refl)
  told values.Bytes t is whole = of_kind t types.bytes kinds.bytes is refl (λ v. refl)
  told (values.Message d) t is whole = ap (λ t. scalar_content (wanted_in w (number_in pool t) (kind_in pool group t)) s) is.1
  told (values.Enum d) t is whole =
      ap (λ t. scalar_content (wanted_in w (number_in pool t) (kind_in pool group t)) s) is.1
      ∙ ap (λ (e : Text → Option ℤ). option_map single (scalar_in e kinds.enumeration s))
      (fun_ext (λ v. ap (λ p. option_map (λ v. v.number) (find (λ u. bytes_eq u.name v) (enum_at p d.index).values)) (sym is.0)))

  -- what is given is no floating-point number
  given_whole : (k : publics.Kind) (t : KindType) (x : Single) → IsKind pool k t → scalar_given k s ≡ Some x → is_float t ≡ false
  given_whole values.Double t x is e = absurd (cc e)
  given_whole values.Float t x is e = absurd (cc e)
  given_whole (values.Message d) t x is e = ap is_float is.1
  given_whole (values.Enum d) t x is e = ap is_float is.1
  given_whole k t x is e = ap is_float is

  pub scalar_is_given : (k : publics.Kind) (t : KindType) (v : Value) → IsKind pool k t → IsScalar k s v → read_as t ≡ Some (content_view v)
  scalar_is_given k t v is (x, given, one) =
      told k t is (given_whole k t x is given) ∙ ap (option_map single) given ∙ ap Some (sym (content_is v x one))

  pub none_is_given : (k : publics.Kind) (t : KindType) → IsKind pool k t → is_float t ≡ false → scalar_given k s ≡ None → read_as t ≡ None
  none_is_given k t is whole none = told k t is whole ∙ ap (option_map single) none
