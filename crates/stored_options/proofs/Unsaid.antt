-- An option that says nothing to a kind, for the reason that is told, says nothing in the words of the
-- model either.
use Rattle.std.proofs.Common.{◌≡◌, ℤ, Bool, true, false, true≢false, Option, Some, option_map, sym, ap, ◌∙◌, subst}
use Rattle.std.proofs.lemmas.Option.{same_Some}
use Rattle.std.specs.List.{find}
use Rattle.std.specs.Str.{bytes_eq}
use mathlib.Core.Path.{fun_ext}
use Rattle.descriptor_records.specs.Content.{OptionContent}
use Rattle.message_view.specs.Sound.{IsSound}
use Rattle.message_view.specs.Types.{kind_in, name_at}
use Rattle.option_parts.specs.declared.option_error.OptionErrorKind.{OptionErrorKind}
use Rattle.option_parts.specs.declared.option_error.OptionErrorKind.TheVariants as refusals
use Rattle.option_setter.specs.OptionValues.{SaysNothing, scalar_said}
use Rattle.option_setter.specs.SetOptions.{RefusesValue}
use Rattle.option_setter.specs.declared.option_value.ValueFault.TheVariants as faults
use Rattle.protobuf_model.specs.Types.{Name}
use Rattle.protobuf_model.specs.Types as kinds
use Rattle.protobuf_model.specs.Values.{Content, Message, single}
use Rattle.protox_lex.specs.Class.{Text}
use Rattle.reflect_format.specs.Unfit.{CannotMake, Unfit}
use Rattle.reflect_message.specs.Known.{is_float}
use Rattle.reflect_pool.specs.Kinds.{IsKind}
use Rattle.reflect_pool.specs.declared.kind.Kind.{Kind}
use Rattle.reflect_pool.specs.declared.kind.Kind.TheVariants as values
use Rattle.reflect_pool.specs.declared.message.MessageDescriptor.{MessageDescriptor}
use Rattle.reflect_tables.specs.Types.{KindType, PoolType, enum_at}
use Rattle.reflect_tables.specs.Types as types
use Rattle.text_model.specs.Texts.{Gives, IsText}
use Rattle.text_model.specs.Tree.{Fields}
use Rattle.text_model.specs.Value.{wanted_in}
use Rattle.text_view.specs.Names.{number_in}
use Rattle.text_view.specs.Schemas.{schema_of}
use Rattle.text_view.proofs.Made.{none_given}
use Rattle.stored_options.specs.SetOptions.{Says}

module _ (decoded : Name → Text → Option Message) (o : OptionContent) (pool : PoolType) (sound : IsSound pool) (group : Bool) (c : Content) where
  abbrev Reads : KindType → Type 0
  Reads t = Says (schema_of pool decoded) o (wanted_in (schema_of pool decoded) (number_in pool t) (kind_in pool group t)) c

  -- where the value says nothing that suits the kind
  unsuited : (k : Kind) (t : KindType) → IsKind pool k t → is_float t ≡ false → SaysNothing k o faults.Unsuited → Reads t → ⊥
  unsuited (values.Message d) t is whole none reads =
      let at = subst Reads is.1 reads in
      cc (sym none ∙ at.3)
  unsuited (values.Enum d) t is whole none reads =
      let at : option_map single (scalar_said (number_in pool (types.enumeration d.index)) kinds.enumeration o) ≡ Some c = subst Reads is.1 reads in
      let names = ap (λ (enum : Text → Option ℤ). option_map single (scalar_said enum kinds.enumeration o))
      (fun_ext (λ v. ap (λ p. option_map (λ v. v.number) (find (λ u. bytes_eq u.name v) (enum_at p d.index).values)) (sym is.0))) in
      cc (sym (ap (option_map single) none) ∙ sym names ∙ at)
  unsuited values.Double t is whole none reads = true≢false (sym (ap is_float is) ∙ whole)
  unsuited values.Float t is whole none reads = true≢false (sym (ap is_float is) ∙ whole)
  unsuited values.Int32 t is whole none reads = cc (sym (ap (option_map single) none) ∙ subst Reads is reads)
  unsuited values.Int64 t is whole none reads = cc (sym (ap (option_map single) none) ∙ subst Reads is reads)
  unsuited values.Uint32 t is whole none reads = cc (sym (ap (option_map single) none) ∙ subst Reads is reads)
  unsuited values.Uint64 t is whole none reads = cc (sym (ap (option_map single) none) ∙ subst Reads is reads)
  unsuited values.Sint32 t is whole none reads = cc (sym (ap (option_map single) none) ∙ subst Reads is reads)
  unsuited values.Sint64 t is whole none reads = cc (sym (ap (option_map single) none) ∙ subst Reads is reads)
  unsuited values.Fixed32 t is whole none reads = cc (sym (ap (option_map single) none) ∙ subst Reads is reads)
  unsuited values.Fixed64 t is whole none reads = cc (sym (ap (option_map single) none) ∙ subst Reads is reads)
  unsuited values.Sfixed32 t is whole none reads = cc (sym (ap (option_map single) none) ∙ subst Reads is reads)
  unsuited values.Sfixed64 t is whole none reads = cc (sym (ap (option_map single) none) ∙ subst Reads is reads)
  unsuited values.Bool t is whole none reads = cc (sym (ap (option_map single) none) ∙ subst Reads is reads)
  unsuited values.String t is whole none reads = cc (sym (ap (option_map single) none) ∙ subst Reads is reads)
  unsuited values.Bytes t is whole none reads = cc (sym (ap (option_map single) none) ∙ subst Reads is reads)

  -- where the text in its braces makes no message
  no_text : (d : MessageDescriptor) (t : KindType) → IsKind pool (values.Message d) t → (z : Text) → o.aggregate_value ≡ Some z → ((fs : Fields) → IsText z fs → CannotMake d (Unfit fs)) → Reads t → ⊥
  no_text d t is z written unfit reads =
      let at = subst Reads is.1 reads in
      let same : at.0 ≡ z = same_Some at.0 z (sym at.3 ∙ written) in
      let given : Gives (schema_of pool decoded) (name_at pool d.index) z at.2 =
      subst (λ x. Gives (schema_of pool decoded) (name_at pool d.index) x at.2) same (at.1, at.4, at.5) in
      none_given d (subst IsSound (sym is.0) sound) decoded z unfit at.2 (subst (λ p. Gives (schema_of p decoded) (name_at p d.index) z at.2) (sym is.0) given)

  -- so it is of each refusal
  pub nothing_read : (k : Kind) (t : KindType) → IsKind pool k t → is_float t ≡ false → (e : OptionErrorKind) → RefusesValue k o e → Reads t → ⊥
  nothing_read k t is whole (refusals.InvalidOptionType name) refuses reads = unsuited k t is whole refuses reads
  nothing_read (values.Message d) t is whole (refusals.InvalidMessageOption name e) refuses reads = no_text d t is refuses.0 refuses.1 refuses.3.0 reads
  nothing_read k t is whole e refuses reads = absurd refuses
