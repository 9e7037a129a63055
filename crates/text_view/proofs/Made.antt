-- Messages that texts make of a type, from nothing.
use Rattle.std.proofs.Common.{◌≡◌, Option, Some, None, refl, sym, ap, ◌∙◌, subst}
use Rattle.protox_lex.specs.Class.{Text}
use Rattle.protobuf_model.specs.Bytes.{bytes_of}
use Rattle.protobuf_model.specs.Types.{Name}
use Rattle.protobuf_model.specs.Values.{Message, nothing}
use Rattle.reflect_pool.specs.declared.message.MessageDescriptor.{MessageDescriptor}
use Rattle.reflect_message.specs.Bytes.{message_bytes}
use Rattle.reflect_message.specs.Names.{DynamicMessage}
use Rattle.reflect_format.specs.Filled.{Fills, Makes}
use Rattle.reflect_format.specs.Unfit.{CannotMake, Unfit}
use Rattle.text_model.specs.Schemas.{Schema, shape_of}
use Rattle.text_model.specs.Texts.{Gives, IsText}
use Rattle.text_model.specs.Tree.{Fields}
use Rattle.text_model.specs.Value.{value}
use Rattle.message_view.specs.Types.{name_at, types_of}
use Rattle.message_view.specs.Views.{view}
use Rattle.message_view.specs.Sound.{IsSound}
use Rattle.text_view.specs.Schemas.{schema_of, shape_at}
use Rattle.text_view.proofs.Bodies.{made_written}
use Rattle.text_view.proofs.Filling.{filled, unfilled}
use Rattle.text_view.proofs.Kept.{blank_exclusive, blank_kinds, blank_view}
use Rattle.text_view.proofs.Shapes.{shape_is}

module _ (d : MessageDescriptor) (sound : IsSound d.pool.now) (decoded : Name → Text → Option Message) where
  abbrev its_schema : Schema
  its_schema = schema_of d.pool.now decoded

  -- what fields give to a message of a type in which nothing is set
  abbrev given : Fields → MessageDescriptor → Message → Option Message
  given fs c start = value (schema_of c.pool.now decoded) (shape_at c.pool.now c.index) fs start

  made : (fs : Fields) (m : DynamicMessage) → Makes d (Fills fs) m → given fs d nothing ≡ Some (view m)
  made fs m (blank, type, empty, fills) =
      let sound_there = subst (λ (c : MessageDescriptor). IsSound c.pool.now) (sym type) sound in
      let there = filled decoded blank m sound_there (blank_exclusive blank empty) (blank_kinds blank empty) fs fills in
      subst (λ c. given fs c nothing ≡ Some (view m)) type (ap (given fs blank.descriptor) (sym (blank_view blank empty)) ∙ there)

  not_made : (fs : Fields) → CannotMake d (Unfit fs) → given fs d nothing ≡ None
  not_made fs (blank, type, empty, unfit) =
      let sound_there = subst (λ (c : MessageDescriptor). IsSound c.pool.now) (sym type) sound in
      let there = unfilled decoded blank sound_there (blank_exclusive blank empty) (blank_kinds blank empty) fs unfit in
      subst (λ c. given fs c nothing ≡ None) type (ap (given fs blank.descriptor) (sym (blank_view blank empty)) ∙ there)

  -- the same by the type's name
  by_name : (fs : Fields) → value its_schema (shape_of its_schema (name_at d.pool.now d.index)) fs nothing ≡ given fs d nothing
  by_name fs = ap (λ s. value its_schema s fs nothing) (shape_is d.pool.now sound.names decoded d.index d.in_range)

  pub made_given : (z : Text) (fs : Fields) → IsText z fs → (m : DynamicMessage) → Makes d (Fills fs) m
      → Gives its_schema (name_at d.pool.now d.index) z (view m)
      × (message_bytes m ≡ bytes_of (types_of d.pool.now) (name_at d.pool.now d.index) (view m))
  made_given z fs text m makes = ((fs, text, by_name fs ∙ made fs m makes), made_written d.pool.now sound fs d m refl makes)

  pub none_given : (z : Text) → ((fs : Fields) → IsText z fs → CannotMake d (Unfit fs)) → (m : Message) → Gives its_schema (name_at d.pool.now d.index) z m → ⊥
  none_given z unfit m (fs, text, gives) = cc (sym (by_name fs ∙ not_made fs (unfit fs text)) ∙ gives)
