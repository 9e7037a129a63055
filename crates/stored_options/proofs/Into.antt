-- A part of a name that leads into a message leads into the one that the model has under its
-- number, and what is put back there is assigned to the number.
use Rattle.std.proofs.Common.{◌≡◌, ◌≢◌, ◌⊎◌, inl, inr, ℕ, suc, ◌==◌, Bool, true, false, true≢false, cond, Option, Some, option_map, refl, sym, ap, ◌∙◌, subst}
use mathlib.Core.Path.{fun_ext}
use Rattle.message_view.specs.Shaped.{Exclusive}
use Rattle.message_view.specs.Sound.{AreApart, IsSound}
use Rattle.message_view.specs.Types.{field_at, frame_of, kind_in, name_at, types_of}
use Rattle.message_view.specs.Views.{content_view, held_in, view}
use Rattle.message_view.proofs.Seen.{message_seen}
use Rattle.option_setter.specs.SetOptions.{LeadsInto}
use Rattle.protobuf_model.specs.Meaning.{message_in}
use Rattle.protobuf_model.specs.Types.{Field, Part, nested, one, rival}
use Rattle.protobuf_model.specs.Values.{Held, Message, absent, content, message, nothing}
use Rattle.reflect_format.specs.Steps.{Puts, held_by, is_set}
use Rattle.reflect_format.specs.Takes.{target_pool, target_type}
use Rattle.reflect_format.specs.declared.target.Target.{Target}
use Rattle.reflect_message.specs.Contents as contents
use Rattle.reflect_message.specs.Contents.{content_of}
use Rattle.reflect_message.specs.Names.{DynamicMessage}
use Rattle.reflect_message.specs.declared.value.ValueOf.TheVariants as held
use Rattle.reflect_pool.specs.Kinds.{IsKind}
use Rattle.reflect_pool.specs.Shapes.{holds_list, holds_map}
use Rattle.reflect_pool.specs.declared.kind.Kind.TheVariants as values
use Rattle.reflect_pool.specs.declared.message.MessageDescriptor.{MessageDescriptor}
use Rattle.reflect_tables.specs.Types.{FieldType, PoolType}
use Rattle.set_view.proofs.Viewed.{empty_view}
use Rattle.text_model.specs.Value.{assign, settled}
use Rattle.text_model.specs.Value as model
use Rattle.text_view.specs.Targets.{target_field}
use Rattle.text_view.proofs.Adds.{label_one, target_label, types_are}
use Rattle.text_view.proofs.Given.{target_part}
use Rattle.text_view.proofs.Once.{one_of, put_assigned}
use Rattle.text_view.proofs.Owned.{OwnsTarget, under_target}
use Rattle.text_view.proofs.Puts.{message_is, number_is, one_part}
use Rattle.text_view.proofs.Set.{unset_absent}
use Rattle.stored_options.proofs.Owning.{left_exclusive, left_type}
use Rattle.stored_options.proofs.Held.{set_seen}
use Rattle.stored_options.proofs.Inner.{leads_shape}
use Rattle.stored_options.proofs.Shapes.{unset_so}

-- what stood under the number does not count
assigned_over : (type : ℕ → Option Field) (n : ℕ) (h : Held) (a b : Message) → ((q : ℕ) → q ≢ n → a q ≡ b q) → assign type n h a ≡ assign type n h b
assigned_over type n h a b others = fun_ext (λ q. by q (q == n) refl) where
  by : (q : ℕ) (e : Bool) → (q == n) ≡ e → cond (q == n) h (cond (rival type n q) absent (a q)) ≡ cond (q == n) h (cond (rival type n q) absent (b q))
  by q true is = ap (λ e. cond e h (cond (rival type n q) absent (a q))) is ∙ sym (ap (λ e. cond e h (cond (rival type n q) absent (b q))) is)
  by q false is = ap (λ x. cond (q == n) h (cond (rival type n q) absent x)) (others q (λ e. true≢false (sym (number_is q n e) ∙ is)))

module _ (levels : ℕ) (old : DynamicMessage) (sound : IsSound old.descriptor.pool.now) (shape : Exclusive (suc (suc levels)) old) (t : Target)
    (owns : OwnsTarget old.descriptor t) (left inner : DynamicMessage) (leads : LeadsInto t old left inner) where
  abbrev d : MessageDescriptor
  d = old.descriptor

  abbrev pool : PoolType
  pool = old.descriptor.pool.now

  abbrev f : FieldType
  f = target_type t

  none : (holds_map pool f ≡ false) × (holds_list pool f ≡ false)
  none = one_of d sound.apart t owns leads.one

  pub inner_kind : IsKind old.descriptor.pool.now (values.Message inner.descriptor) (target_type t).kind
  inner_kind = (leads_shape levels old sound shape t owns leads.one left inner leads).1

  pub inner_label : (target_field old.descriptor t).label ≡ one
  inner_label = target_label d t ∙ label_one pool f none.0 none.1

  pub inner_part : (target_field old.descriptor t).part.kind ≡ nested (frame_of (target_type t).group) (name_at old.descriptor.pool.now inner.descriptor.index)
  inner_part = ap (λ (p : Part). p.kind) (target_part d t ∙ one_part pool f none.0) ∙ ap (kind_in pool f.group) inner_kind.1

  -- what is held under the number
  under : view old f.number ≡ held_in pool f (option_map content_view (held_by old t))
  under = under_target d sound.apart t owns old refl

  pub inner_message : message_in (view old (target_type t).number) ≡ view inner
  inner_message = by leads.kind where
    by : (c : MessageDescriptor) × IsKind (target_pool t) (values.Message c) f.kind × ((held_by old t ≡ Some (held.Message inner)) ⊎ ((is_set old t ≡ false) × (inner.descriptor ≡ c) × (content_of inner ≡ contents.nothing)))
        → message_in (view old f.number) ≡ view inner
    by (c, of, inl at) =
        ap message_in
        (under ∙ ap (λ o. held_in pool f (option_map content_view o)) at
        ∙ ap (λ x. held_in pool f (Some x)) (message_seen (held.Message inner) inner (message_is inner)))
    by (c, of, inr (unset, same_type, empty)) =
        let not_set : model.is_set (held_in pool f (option_map content_view (held_by old t))) ≡ false =
        sym (ap model.is_set under) ∙ sym (set_seen (suc levels) old sound shape t owns leads.one) ∙ unset in
        let here : view old f.number ≡ absent = under ∙ unset_absent pool f (option_map content_view (held_by old t)) not_set in
        let none_seen : nothing ≡ view inner = sym (fun_ext (empty_view inner empty)) in
        ap message_in here ∙ none_seen

  -- what is put back
  module _ (set new : DynamicMessage) (puts : Puts t (held.Message set) left new) (type : new.descriptor ≡ old.descriptor) where
    its_type : left.descriptor ≡ old.descriptor
    its_type = left_type t old left leads.taken

    abbrev put_by : MessageDescriptor → Message
    put_by c = assign (field_at c.pool.now c.index) f.number (settled (target_field c t).part (content_view (held.Message set))) (view left)

    put : view new ≡ put_by left.descriptor
    put =
        put_assigned left new (subst (λ (c : MessageDescriptor). AreApart c.pool.now) (sym its_type) sound.apart) t (subst (λ (c : MessageDescriptor). OwnsTarget c t) (sym its_type) owns)
        (subst (λ (c : MessageDescriptor). holds_map c.pool.now f ≡ false) (sym its_type) none.0) (held.Message set) (inr (set, refl)) (left_exclusive t old left leads.taken shape.1)
        (type ∙ sym its_type) puts

    pub put_back : view new ≡ assign (types_of old.descriptor.pool.now (name_at old.descriptor.pool.now old.descriptor.index)) (target_type t).number (content (message (view set))) (view old)
    put_back =
        put ∙ ap put_by its_type
        ∙ ap (λ x. assign (field_at pool d.index) f.number (settled (target_field d t).part x) (view left)) (message_seen (held.Message set) set (message_is set))
        ∙ assigned_over (field_at pool d.index) f.number (content (message (view set))) (view left) (view old) (unset_so (suc levels) old sound shape left t owns leads.taken).others
        ∙ ap (λ fs. assign fs f.number (content (message (view set))) (view old)) (sym (types_are pool sound.names d refl))
