-- What an expansion puts into a google.protobuf.Any, in what is seen of it.
use Rattle.std.proofs.Common.{◌≡◌, inl, inr, ℕ, ◌<◌, Option, Some, option_and_then, refl, sym, ap, ◌∙◌, subst, length}
use Rattle.protox_lex.specs.Class.{Text}
use Rattle.protobuf_model.specs.Meaning.{settle}
use Rattle.protobuf_model.specs.Types.{Field}
use Rattle.protobuf_model.specs.Values.{Single, text, blob}
use Rattle.reflect_tables.specs.Finding.{IsFirst}
use Rattle.reflect_tables.specs.Types.{PoolType, FieldType, KindType, type_at, type_of_field}
use Rattle.reflect_tables.specs.Types as types
use Rattle.reflect_pool.specs.FieldsLeft.{field_type}
use Rattle.reflect_pool.specs.declared.field.FieldDescriptor.{FieldDescriptor}
use Rattle.reflect_pool.specs.declared.message.MessageDescriptor.{MessageDescriptor}
use Rattle.reflect_scalar.specs.FieldTypes.{field_pool}
use Rattle.reflect_scalar.specs.Floats.{IsFloat, HasFloats, HoldsFloats}
use Rattle.reflect_any.specs.Any.{IsAny, IsLone}
use Rattle.reflect_message.specs.Declares.{Declares, Owns}
use Rattle.reflect_message.specs.KindTypes.{IsMessageType}
use Rattle.reflect_message.specs.Known.{numbered_field}
use Rattle.reflect_message.specs.Oneofs.{IsExclusive}
use Rattle.reflect_message.specs.Names.{DynamicMessage}
use Rattle.reflect_message.proofs.Known.{field_found}
use Rattle.reflect_format.specs.Steps.{SetsNumber}
use Rattle.reflect_format.specs.declared.target.Target.TheVariants as targets
use Rattle.text_model.specs.Value.{assign, hold, settled, with_field}
use Rattle.message_view.specs.Singles.{scalar_of}
use Rattle.message_view.specs.Types.{field_at, part_of}
use Rattle.message_view.specs.Views.{view}
use Rattle.message_view.specs.Sound.{AreApart}
use Rattle.text_view.specs.Holds.{HasForm, HoldsKinds, IsHeldAs}
use Rattle.text_view.specs.Schemas.{shape_at}
use Rattle.text_view.specs.Targets.{target_field}
use Rattle.text_view.proofs.Apart.{field_first}
use Rattle.text_view.proofs.Forms.{single_kind}
use Rattle.text_view.proofs.Kept.{kinds_kept, put_leaves, same_kinds}
use Rattle.text_view.proofs.Owned.{target_there}
use Rattle.text_view.proofs.Puts.{field_put, one_part}
use Rattle.text_view.proofs.Scalars.{content_is}
use Rattle.text_view.proofs.Set.{held_one}

-- a kind of no floating-point numbers
abbrev pub IsWhole : KindType → Type 0
IsWhole t = (IsFloat t → ⊥) × ((p : PoolType) → HasFloats p t → ⊥)

pub string_whole : IsWhole types.string
string_whole = ((λ h. h), λ p h. h)

pub bytes_whole : IsWhole types.bytes
bytes_whole = ((λ h. h), λ p h. h)

-- the field of a type that has the number, which one of the kind alone has
module _ (d : MessageDescriptor) (apart : AreApart d.pool.now) (n : ℕ) (kind : KindType) (f : FieldDescriptor) (has : Declares d f) (is : (field_type f).number ≡ n)
    (lone : IsLone d.pool.now d.index kind (numbered_field d.pool.now d.index n)) where
  place : type_of_field d.pool.now d.index f.index ≡ field_type f
  place = ap (λ j. type_of_field d.pool.now j f.index) (sym has.0) ∙ ap (λ p. type_of_field p f.message.index f.index) (sym has.1)

  in_fields : f.index < length (type_at d.pool.now d.index).fields
  in_fields = subst (λ (p : PoolType). f.index < length (type_at p d.index).fields) has.1 (subst (λ j. f.index < length (type_at f.message.pool.now j).fields) has.0 f.in_range)

  first : IsFirst (λ (g : FieldType). g.number ≡ (field_type f).number) (type_at d.pool.now d.index).fields (Some f.index)
  first =
      subst (λ (t : FieldType). IsFirst (λ (g : FieldType). g.number ≡ t.number) (type_at d.pool.now d.index).fields (Some f.index)) place
      (field_first d apart (record { message = d; index = f.index; in_range = in_fields }) refl in_fields)

  found : numbered_field d.pool.now d.index n ≡ Some (field_type f)
  found = ap (numbered_field d.pool.now d.index) (sym is) ∙ field_found d.pool.now d.index (field_type f).number f.index first ∙ ap Some place

  pub lone_type : IsLone d.pool.now d.index kind (Some (field_type f))
  lone_type = subst (IsLone d.pool.now d.index kind) found lone

  pub lone_owns : IsWhole kind → Owns d f
  lone_owns whole = (has, first, none) where
    none : HoldsFloats (field_pool f) (field_type f) → ⊥
    none (inl h) = whole.0 (subst IsFloat lone_type.0 h)
    none (inr h) = whole.1 (field_pool f) (subst (HasFloats (field_pool f)) lone_type.0 h.1)

module _ (old new : DynamicMessage) (apart : AreApart old.descriptor.pool.now) (n : ℕ) (x : Single) (kind : KindType) (whole : IsWhole kind)
    (sets : SetsNumber n x old new) (lone : IsLone old.descriptor.pool.now old.descriptor.index kind (numbered_field old.descriptor.pool.now old.descriptor.index n)) where
  abbrev d : MessageDescriptor
  d = old.descriptor

  abbrev pool : PoolType
  pool = old.descriptor.pool.now

  abbrev f : FieldDescriptor
  f = sets.0

  pub its_lone : IsLone pool d.index kind (Some (field_type f))
  its_lone = lone_type d apart n kind f sets.2 sets.3 lone

  pub number_owns : Owns d f
  number_owns = lone_owns d apart n kind f sets.2 sets.3 lone whole

  -- the number's field gets the value
  number_set : IsExclusive old → new.descriptor ≡ old.descriptor → view new ≡ assign (field_at pool d.index) n (settle (target_field d (targets.Field f)).part x) (view old)
  number_set exclusive same =
      let type = field_at pool d.index in
      field_put old new same f sets.1 number_owns exclusive sets.5 (inl (x, sets.4)) type (λ n. refl)
      ∙ ap (λ c. assign type (field_type f).number (settled (part_of pool (field_type f)) c) (view old)) (content_is sets.1 x sets.4)
      ∙ ap (λ p. assign type (field_type f).number (settle p x) (view old)) (sym (one_part pool (field_type f) its_lone.1.1))
      ∙ ap (λ k. assign type k (settle (target_field d (targets.Field f)).part x) (view old)) sets.3

  number_there : field_at pool d.index n ≡ Some (target_field d (targets.Field f))
  number_there = ap (field_at pool d.index) (sym sets.3) ∙ target_there d apart (targets.Field f) number_owns

  pub number_kinds : HasForm (scalar_of kind) x → (IsMessageType kind → ⊥) → HoldsKinds old → new.descriptor ≡ old.descriptor → HoldsKinds new
  number_kinds form no_message kinds same =
      same_kinds old new same (kinds_kept d (targets.Field f) old new number_owns (put_leaves (targets.Field f) sets.1 old new sets.5)
      (subst (IsHeldAs pool (field_type f)) (sym sets.5.here) (held_one pool (field_type f) its_lone.1.1 its_lone.1.0 sets.1 (single_kind (field_type f).kind kind its_lone.0 no_message sets.1 x sets.4 form))) kinds)

-- both parts of a google.protobuf.Any
pub any_held : (old between new : DynamicMessage) → AreApart old.descriptor.pool.now → IsExclusive old → IsExclusive between → between.descriptor ≡ old.descriptor → new.descriptor ≡ old.descriptor
    → IsAny old.descriptor → (url bytes : Text) → SetsNumber 1 (text url) old between → SetsNumber 2 (blob bytes) between new
    → hold (shape_at old.descriptor.pool.now old.descriptor.index) url bytes (view old) ≡ Some (view new)
any_held old between new apart exclusive stays typed same any url bytes first second = by where
  one_lone : IsLone between.descriptor.pool.now between.descriptor.index types.bytes (numbered_field between.descriptor.pool.now between.descriptor.index 2)
  one_lone = subst (λ (c : MessageDescriptor). IsLone c.pool.now c.index types.bytes (numbered_field c.pool.now c.index 2)) (sym typed) any.2

  its_apart : AreApart between.descriptor.pool.now
  its_apart = subst (λ (c : MessageDescriptor). AreApart c.pool.now) (sym typed) apart

  one : Field
  one = target_field old.descriptor (targets.Field first.0)

  two : Field
  two = target_field old.descriptor (targets.Field second.0)

  type : ℕ → Option Field
  type = field_at old.descriptor.pool.now old.descriptor.index

  one_there : field_at old.descriptor.pool.now old.descriptor.index 1 ≡ Some (target_field old.descriptor (targets.Field first.0))
  one_there = number_there old between apart 1 (text url) types.string string_whole first any.1

  two_there : field_at old.descriptor.pool.now old.descriptor.index 2 ≡ Some (target_field old.descriptor (targets.Field second.0))
  two_there = subst (λ (c : MessageDescriptor). field_at c.pool.now c.index 2 ≡ Some (target_field c (targets.Field second.0))) typed (number_there between new its_apart 2 (blob bytes) types.bytes bytes_whole second one_lone)

  first_set : view between ≡ assign (field_at old.descriptor.pool.now old.descriptor.index) 1 (settle (target_field old.descriptor (targets.Field first.0)).part (text url)) (view old)
  first_set = number_set old between apart 1 (text url) types.string string_whole first any.1 exclusive typed

  second_set : view new ≡ assign (field_at old.descriptor.pool.now old.descriptor.index) 2 (settle (target_field old.descriptor (targets.Field second.0)).part (blob bytes)) (view between)
  second_set =
      subst (λ (c : MessageDescriptor). view new ≡ assign (field_at c.pool.now c.index) 2 (settle (target_field c (targets.Field second.0)).part (blob bytes)) (view between)) typed
      (number_set between new its_apart 2 (blob bytes) types.bytes bytes_whole second one_lone stays (same ∙ sym typed))

  by : hold (shape_at old.descriptor.pool.now old.descriptor.index) url bytes (view old) ≡ Some (view new)
  by =
      ap (option_and_then (λ (f : Field). with_field (shape_at old.descriptor.pool.now old.descriptor.index) (Some 2) (λ q g. Some (assign type q (settle g.part (blob bytes)) (assign type 1 (settle f.part (text url)) (view old)))))) one_there
      ∙ ap (option_and_then (λ (g : Field). Some (assign type 2 (settle g.part (blob bytes)) (assign type 1 (settle one.part (text url)) (view old))))) two_there
      ∙ ap (λ m. Some (assign type 2 (settle two.part (blob bytes)) m)) (sym first_set)
      ∙ ap Some (sym second_set)
