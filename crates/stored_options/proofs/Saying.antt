-- The value that an option says suits what it is said to, and so does a message that a part of its
-- name leads into.
use Rattle.std.proofs.Common.{◌≡◌, ◌⊎◌, inl, inr, ℕ, suc, ◌≤◌, false, Some, option_map, refl, sym, ap, ◌∙◌, subst}
use Rattle.descriptor_records.specs.Content.{OptionContent}
use Rattle.known_messages.specs.KnownMessages.{KnowsAll, KnowsContent, KnowsHeld}
use Rattle.message_view.specs.Shaped.{Exclusive}
use Rattle.message_view.specs.Singles as views
use Rattle.message_view.specs.Sound.{IsSound}
use Rattle.message_view.specs.Types.{frame_of, kind_in, name_at, types_of}
use Rattle.message_view.specs.Views.{content_view, held_in, view}
use Rattle.message_view.proofs.Seen.{message_seen}
use Rattle.option_setter.specs.OptionValues.{IsSaid, said}
use Rattle.option_setter.specs.SetOptions.{LeadsInto}
use Rattle.protobuf_model.specs.Scalars.{Suits}
use Rattle.protobuf_model.specs.Typed.{IsFieldOf, IsHeldOf, IsOf, IsTyped, IsTypedBy}
use Rattle.protobuf_model.specs.Types.{Name, Part, Types, nested, one, scalar}
use Rattle.protobuf_model.specs.Values.{Single, content, message}
use Rattle.reflect_format.specs.Kinds.{single_of}
use Rattle.reflect_format.specs.Steps.{held_by, is_set}
use Rattle.reflect_format.specs.Takes.{holds_many, target_pool, target_type}
use Rattle.reflect_format.specs.declared.target.Target.{Target}
use Rattle.reflect_message.specs.Contents.{content_of, nothing}
use Rattle.reflect_message.specs.Names.{DynamicMessage, Value}
use Rattle.reflect_message.specs.declared.value.ValueOf.TheVariants as held
use Rattle.reflect_pool.specs.Kinds.{IsKind}
use Rattle.reflect_pool.specs.Shapes.{holds_list, holds_map}
use Rattle.reflect_pool.specs.declared.kind.Kind.{Kind}
use Rattle.reflect_pool.specs.declared.kind.Kind.TheVariants as values
use Rattle.reflect_pool.specs.declared.message.MessageDescriptor.{MessageDescriptor}
use Rattle.reflect_tables.specs.Types.{FieldType, PoolType}
use Rattle.text_view.specs.Targets.{target_field}
use Rattle.text_view.specs.Values.{IsOne}
use Rattle.text_view.proofs.Adds.{label_one, target_label}
use Rattle.text_view.proofs.Given.{target_part}
use Rattle.text_view.proofs.Once.{one_of}
use Rattle.text_view.proofs.Owned.{OwnsTarget, under_target}
use Rattle.text_view.proofs.Puts.{message_is, one_part}
use Rattle.text_view.proofs.Scalars.{content_is}
use Rattle.stored_options.proofs.Fine.{IsFine, empty_fine, made_fine, made_type}
use Rattle.stored_options.proofs.Inner.{leads_shape}
use Rattle.stored_options.proofs.Putting.{IsSuited, has}
use Rattle.stored_options.proofs.SaidFits.{IsPlainKind, fits_as_message, fits_as_single, plain_kind}
use Rattle.stored_options.proofs.SaidSuits.{HasFewBits, said_suits}

-- ---- a message

module _ (levels : ℕ) (pool : PoolType) (f : FieldType) (m : DynamicMessage) (is : IsKind pool (values.Message m.descriptor) f.kind) (fine : IsFine levels m) where
  its_kind : kind_in pool f.group f.kind ≡ nested (frame_of f.group) (name_at pool m.descriptor.index)
  its_kind = ap (kind_in pool f.group) is.1

  its_content : content_view (held.Message m) ≡ message (view m)
  its_content = message_seen (held.Message m) m (message_is m)

  typed : IsOf (IsTyped (suc levels) (types_of pool)) (nested (frame_of f.group) (name_at pool m.descriptor.index)) (message (view m))
  typed = subst (λ p. IsTyped (suc levels) (types_of p) (name_at p m.descriptor.index) (view m)) is.0 fine.typed

  known : KnowsContent (types_of pool) (nested (frame_of f.group) (name_at pool m.descriptor.index)) (message (view m))
  known = subst (λ p. KnowsAll (types_of p) (name_at p m.descriptor.index) (view m)) is.0 fine.known

  pub message_suited : IsSuited (suc levels) pool f (held.Message m)
  message_suited = record {
    fits = fits_as_message (Exclusive (suc levels)) pool f m is fine.shape;
    typed = subst (λ k. IsOf (IsTyped (suc levels) (types_of pool)) k (content_view (held.Message m))) (sym its_kind)
        (subst (IsOf (IsTyped (suc levels) (types_of pool)) (nested (frame_of f.group) (name_at pool m.descriptor.index))) (sym its_content) typed);
    known = subst (λ k. KnowsContent (types_of pool) k (content_view (held.Message m))) (sym its_kind)
        (subst (KnowsContent (types_of pool) (nested (frame_of f.group) (name_at pool m.descriptor.index))) (sym its_content) known);
  }

-- ---- a single value

module _ (levels : ℕ) (pool : PoolType) (f : FieldType) (v : Value) (x : Single) (plain : IsPlainKind pool f.group f.kind)
    (given : single_of v ≡ Some x) (suits : Suits (views.scalar_of f.kind) x) where
  single_suited : IsSuited levels pool f v
  single_suited = record {
    fits = fits_as_single (Exclusive levels) pool f v x plain.1 given;
    typed = subst (λ k. IsOf (IsTyped levels (types_of pool)) k (content_view v)) (sym plain.0) (subst (IsOf (IsTyped levels (types_of pool)) (scalar (views.scalar_of f.kind))) (sym (content_is v x given)) suits);
    known = subst (λ k. KnowsContent (types_of pool) k (content_view v)) (sym plain.0) (subst (KnowsContent (types_of pool) (scalar (views.scalar_of f.kind))) (sym (content_is v x given)) tt);
  }

-- ---- what an option says

module _ (pool : PoolType) (sound : IsSound pool) (o : OptionContent) (few : HasFewBits o) (f : FieldType) (v : Value) where
  single_said : (levels : ℕ) (k : Kind) → IsKind pool k f.kind → (x : Single) → said k o ≡ Some x → single_of v ≡ Some x → IsSuited levels pool f v × IsOne v
  single_said levels k is x e given =
      (single_suited levels pool f v x (plain_kind pool f.group k f.kind is o x e) given (said_suits o few pool sound.values k f.kind is x e), inl (x, given))

  message_said : (levels : ℕ) (d : MessageDescriptor) → IsKind pool (values.Message d) f.kind → IsSaid (values.Message d) o v → 100 ≤ levels
      → IsSuited (suc levels) pool f v × IsOne v
  message_said levels d is s le =
      let d_sound = subst IsSound (sym is.0) sound in
      let made = s.1.2 in
      let type = made_type d d_sound s.1.0 made.0 made.1 s.0 made.2 in
      let suited = message_suited levels pool f s.0 (subst (λ c. IsKind pool (values.Message c) f.kind) (sym type) is) (made_fine d d_sound s.1.0 made.0 made.1 s.0 made.2 levels le) in
      (subst (IsSuited (suc levels) pool f) (sym s.2) suited, inr (s.0, s.2))

  pub said_suited : (levels : ℕ) (k : Kind) → IsKind pool k f.kind → IsSaid k o v → 100 ≤ levels → IsSuited (suc levels) pool f v × IsOne v
  said_suited levels (values.Message d) is s le = message_said levels d is s le
  said_suited levels k is s le = single_said (suc levels) k is s.0 s.1 s.2

-- ---- the message that a part leads into

module _ (levels : ℕ) (old : DynamicMessage) (sound : IsSound old.descriptor.pool.now) (fine : IsFine (suc levels) old) (t : Target)
    (owns : OwnsTarget old.descriptor t) (one_value : holds_many t ≡ false) where
  abbrev pool : PoolType
  pool = old.descriptor.pool.now

  abbrev f : FieldType
  f = target_type t

  module _ (inner : DynamicMessage) (shape : Exclusive (suc levels) inner) (kind : IsKind pool (values.Message inner.descriptor) f.kind) (at : held_by old t ≡ Some (held.Message inner)) where
    none : (holds_map pool f ≡ false) × (holds_list pool f ≡ false)
    none = one_of old.descriptor sound.apart t owns one_value

    abbrev types : Types
    types = types_of pool

    abbrev name : Name
    name = name_at pool old.descriptor.index

    abbrev its_name : Name
    its_name = name_at pool inner.descriptor.index

    seen : view old f.number ≡ content (message (view inner))
    seen =
        under_target old.descriptor sound.apart t owns old refl ∙ ap (λ o. held_in pool f (option_map content_view o)) at
        ∙ ap (λ c. held_in pool f (Some c)) (message_seen (held.Message inner) inner (message_is inner))

    part_kind : (target_field old.descriptor t).part.kind ≡ nested (frame_of f.group) its_name
    part_kind = ap (λ (p : Part). p.kind) (target_part old.descriptor t ∙ one_part pool f none.0) ∙ ap (kind_in pool f.group) kind.1

    label : (target_field old.descriptor t).label ≡ one
    label = target_label old.descriptor t ∙ label_one pool f none.0 none.1

    there : types name f.number ≡ Some (target_field old.descriptor t)
    there = has (suc levels) old sound fine old refl t owns

    whole : IsTypedBy (IsTyped (suc levels) (types_of old.descriptor.pool.now)) (suc (suc levels)) (types_of old.descriptor.pool.now (name_at old.descriptor.pool.now old.descriptor.index)) (view old)
    whole = fine.typed

    inner_typed : IsTyped (suc levels) types its_name (view inner)
    inner_typed =
        let held_so = subst (λ o. IsHeldOf (IsTyped (suc levels) types) (suc (suc levels)) o (content (message (view inner)))) there (subst (IsHeldOf (IsTyped (suc levels) types) (suc (suc levels)) (types name f.number)) seen (whole.contents f.number)) in
        let as_one = subst (λ l. IsFieldOf (IsTyped (suc levels) types) (target_field old.descriptor t).part l (message (view inner))) label held_so in
        subst (λ k. IsOf (IsTyped (suc levels) types) k (message (view inner))) part_kind as_one.0

    inner_known : KnowsAll types its_name (view inner)
    inner_known =
        let held_so = subst (λ o. KnowsHeld types o (content (message (view inner)))) there (subst (KnowsHeld types (types name f.number)) seen (fine.known f.number)) in
        subst (λ k. KnowsContent types k (message (view inner))) part_kind held_so

    inner_fine : IsFine levels inner
    inner_fine = record {
      shape = shape;
      typed = subst (λ p. IsTyped (suc levels) (types_of p) (name_at p inner.descriptor.index) (view inner)) (sym kind.0) inner_typed;
      known = subst (λ p. KnowsAll (types_of p) (name_at p inner.descriptor.index) (view inner)) (sym kind.0) inner_known;
    }

  pub leads_fine : (left inner : DynamicMessage) → LeadsInto t old left inner → IsFine levels inner × IsKind pool (values.Message inner.descriptor) f.kind
  leads_fine left inner leads = (by leads.kind, led.1) where
    led : Exclusive (suc levels) inner × IsKind pool (values.Message inner.descriptor) f.kind
    led = leads_shape levels old sound fine.shape t owns one_value left inner leads

    by : (d : MessageDescriptor) × IsKind (target_pool t) (values.Message d) f.kind × ((held_by old t ≡ Some (held.Message inner)) ⊎ ((is_set old t ≡ false) × (inner.descriptor ≡ d) × (content_of inner ≡ nothing)))
        → IsFine levels inner
    by (d, of, inl at) = inner_fine inner led.0 led.1 at
    by (d, of, inr (unset, same_type, empty)) = empty_fine levels inner empty
