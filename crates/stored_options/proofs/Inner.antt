-- The message that a part of an option's name leads into, where all suits its type in the message that
-- holds it, and of each oneof one member at most is set: so it is in that one.
use Rattle.std.proofs.Common.{◌≡◌, ◌⊎◌, inl, inr, ℕ, suc, true, false, Some, unwrap_or, sym, ap, ◌∙◌, subst}
use Rattle.message_view.specs.Shaped.{Exclusive}
use Rattle.message_view.specs.Sound.{IsSound}
use Rattle.message_view.proofs.Changed.{nothing_shaped}
use Rattle.option_setter.specs.SetOptions.{LeadsInto}
use Rattle.reflect_format.specs.Steps.{held_by, is_set}
use Rattle.reflect_format.specs.Takes.{holds_many, target_pool, target_type}
use Rattle.reflect_format.specs.declared.target.Target.{Target}
use Rattle.reflect_message.specs.Contents.{content_of, nothing}
use Rattle.reflect_message.specs.KindTypes.{IsMessageType}
use Rattle.reflect_message.specs.Messages.{message_in}
use Rattle.reflect_message.specs.Names.{DynamicMessage, Value}
use Rattle.reflect_message.specs.declared.value.ValueOf.TheVariants as held
use Rattle.reflect_pool.specs.Kinds.{IsKind}
use Rattle.reflect_pool.specs.Shapes.{holds_list, holds_map}
use Rattle.reflect_pool.specs.declared.kind.Kind.TheVariants as values
use Rattle.reflect_pool.specs.declared.message.MessageDescriptor.{MessageDescriptor}
use Rattle.reflect_tables.specs.Types.{FieldType, PoolType}
use Rattle.text_view.proofs.Once.{one_of}
use Rattle.text_view.proofs.Owned.{OwnsTarget, pool_is}
use Rattle.text_view.proofs.Puts.{message_is}
use Rattle.text_view.proofs.Shaped.{single_fits}
use Rattle.stored_options.proofs.Shapes.{stood}

module _ (levels : ℕ) (old : DynamicMessage) (sound : IsSound old.descriptor.pool.now) (shape : Exclusive (suc (suc levels)) old) (t : Target)
    (owns : OwnsTarget old.descriptor t) (one_value : holds_many t ≡ false) where
  abbrev pool : PoolType
  pool = old.descriptor.pool.now

  abbrev f : FieldType
  f = target_type t

  none : (holds_map pool f ≡ false) × (holds_list pool f ≡ false)
  none = one_of old.descriptor sound.apart t owns one_value

  -- what a target of messages holds is one
  pub held_message : IsMessageType f.kind → (v : Value) → held_by old t ≡ Some v
      → (m : DynamicMessage) × (message_in v ≡ Some m) × IsKind pool (values.Message m.descriptor) f.kind × Exclusive (suc levels) m
  held_message type v at = (single_fits (Exclusive (suc levels)) pool f v none.0 none.1 (stood (suc levels) old sound shape t owns v at)).nested type

  pub leads_shape : (left inner : DynamicMessage) → LeadsInto t old left inner → Exclusive (suc levels) inner × IsKind pool (values.Message inner.descriptor) f.kind
  leads_shape left inner leads = by leads.kind where
    by : (d : MessageDescriptor) × IsKind (target_pool t) (values.Message d) f.kind × ((held_by old t ≡ Some (held.Message inner)) ⊎ ((is_set old t ≡ false) × (inner.descriptor ≡ d) × (content_of inner ≡ nothing)))
        → Exclusive (suc levels) inner × IsKind pool (values.Message inner.descriptor) f.kind
    by (d, of, inl at) =
        let stands = held_message (subst IsMessageType (sym of.1) tt) (held.Message inner) at in
        let same : stands.0 ≡ inner = ap (λ o. unwrap_or o inner) (sym stands.1 ∙ message_is inner) in
        (subst (Exclusive (suc levels)) same stands.3, subst (λ (m : DynamicMessage). IsKind pool (values.Message m.descriptor) f.kind) same stands.2)
    by (d, of, inr (unset, same_type, empty)) =
        (nothing_shaped true levels inner empty, subst (λ c. IsKind pool (values.Message c) f.kind) (sym same_type) (subst (λ p. IsKind p (values.Message d) f.kind) (pool_is old.descriptor sound.apart t owns) of))
