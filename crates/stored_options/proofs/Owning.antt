-- What a part of an option's name leads to has the records of its number, and what leading into it
-- and putting a value there keep of a message.
use Rattle.std.proofs.Common.{◌≡◌, ◌⊎◌, inl, inr, ℕ, ℤ, zero, suc, Bool, true, false, true≢false, ◌&&◌, ◌||◌, List, [], ◌∷◌, is_some, sym, ap, ◌∙◌, subst}
use Rattle.std.proofs.lemmas.Bool.Decides.{eqb_tells}
use Rattle.std.specs.Option.{IsSome}
use Rattle.std.specs.Prelude.{MatchBool, string_bytes}
use Rattle.descriptor_records.specs.Content.{OptionContent, option_view}
use Rattle.descriptor_records.specs.declared.options.NamePart.{NamePart}
use Rattle.descriptor_records.specs.declared.options.UninterpretedOption.{UninterpretedOption}
use Rattle.message_view.specs.Sound.{AreApart}
use Rattle.option_setter.specs.OptionNames.{NamesExtension, NamesField, NamesTarget}
use Rattle.option_setter.specs.SetOptions.{LeadsInto, SetsParts, Unsets}
use Rattle.option_setter.specs.declared.option_setter.NameScope.{NameScope}
use Rattle.protox_lex.specs.Class.{Text}
use Rattle.reflect_entries.specs.Entries.{value_at}
use Rattle.reflect_format.specs.Takes.{target_pool, target_type}
use Rattle.reflect_format.specs.declared.target.Target.{Target}
use Rattle.reflect_format.specs.declared.target.Target.TheVariants as targets
use Rattle.reflect_message.specs.Held.{choices_of, fields_of}
use Rattle.reflect_message.specs.Known.{has_floats, is_float}
use Rattle.reflect_message.proofs.Known.{floats_held}
use Rattle.reflect_message.specs.Names.{DynamicMessage}
use Rattle.reflect_message.specs.Oneofs.{AreChosen, IsExclusive}
use Rattle.reflect_options.specs.Settled.{SetsOption}
use Rattle.reflect_pool.specs.FieldsLeft.{field_type}
use Rattle.reflect_pool.specs.Kinds.{IsKind}
use Rattle.reflect_pool.specs.Shapes.{holds_list, holds_map}
use Rattle.reflect_pool.specs.declared.kind.Kind.TheVariants as values
use Rattle.reflect_pool.specs.declared.message.MessageDescriptor.{MessageDescriptor}
use Rattle.reflect_scalar.specs.Floats.{HoldsFloats}
use Rattle.reflect_tables.specs.Types.{FieldType, PoolType, extension_at, no_extension}
use Rattle.text_view.proofs.Apart.{called_owns, named_extension_owns}
use Rattle.text_view.proofs.Owned.{OwnsTarget}
use Rattle.text_view.proofs.Steady.{stays}

module _ (s : NameScope) (d : MessageDescriptor) (apart : AreApart d.pool.now) where
  target_owned : (b : Bool) (name : Text) (t : Target) → MatchBool b (NamesExtension s d name t) (NamesField d name t)
      → (HoldsFloats (target_pool t) (target_type t) → ⊥) → OwnsTarget d t
  target_owned true name (targets.Field f) h whole = absurd h
  target_owned true name (targets.Extension x) h whole =
      let of : (extension_at x.pool.now x.index).extendee ≡ d.index = ap (λ p. (extension_at p x.index).extendee) h.0 ∙ (h.3.1.0 no_extension).0 in
      named_extension_owns d apart h.1 x (((h.0, of), h.3), whole)
  target_owned false name (targets.Field f) h whole = called_owns d apart name f (record { message = h.0; first = h.1; held = whole })
  target_owned false name (targets.Extension x) h whole = absurd h

  pub named_owns : (part : NamePart) (t : Target) → NamesTarget s d part t → (HoldsFloats (target_pool t) (target_type t) → ⊥) → OwnsTarget d t
  named_owns part t h whole = target_owned part.is_extension (string_bytes part.name_part) t h whole

-- ---- a part that leads into a message

second_false : (a b : Bool) → (a || b) ≡ false → b ≡ false
second_false true b e = absurd (cc e)
second_false false b e = e

-- a message holds no floating-point numbers of its own
message_whole : (pool : PoolType) (d : MessageDescriptor) (f : FieldType) → IsKind pool (values.Message d) f.kind → holds_map pool f ≡ false → HoldsFloats pool f → ⊥
message_whole pool d f is no_map h = true≢false (sym (floats_held pool f h) ∙ ap (λ b. is_float f.kind || (b && has_floats pool f.kind)) no_map ∙ ap (λ k. is_float k || false) is.1)

pub leads_whole : (t : Target) (old left inner : DynamicMessage) → LeadsInto t old left inner → HoldsFloats (target_pool t) (target_type t) → ⊥
leads_whole t old left inner leads =
    message_whole (target_pool t) leads.kind.0 (target_type t) leads.kind.1 (second_false (holds_list (target_pool t) (target_type t)) (holds_map (target_pool t) (target_type t)) leads.one)

-- what is left behind is of the type
pub left_type : (t : Target) (old left : DynamicMessage) → Unsets t old left → left.descriptor ≡ old.descriptor
left_type (targets.Field f) old left unsets = unsets.same_type
left_type (targets.Extension x) old left unsets = unsets.same_type

-- and of each oneof in it one member at most is set
fewer_exclusive : (old left : DynamicMessage) → left.descriptor ≡ old.descriptor → choices_of left ≡ choices_of old
    → ((n : ℕ) → IsSome (value_at (fields_of left) n) → IsSome (value_at (fields_of old) n)) → IsExclusive old → IsExclusive left
fewer_exclusive old left type choices fewer sole =
    subst (λ (d : MessageDescriptor). AreChosen d (choices_of left) (fields_of left)) (sym type)
    (subst (λ cs. AreChosen old.descriptor cs (fields_of left)) (sym choices)
    (record { member = sole.member; noted = λ f owns first is some. sole.noted f owns first is (fewer (field_type f).number some) }))

pub left_exclusive : (t : Target) (old left : DynamicMessage) → Unsets t old left → IsExclusive old → IsExclusive left
left_exclusive (targets.Field f) old left unsets = fewer_exclusive old left unsets.same_type unsets.choices fewer where
  fewer : (n : ℕ) → IsSome (value_at (fields_of left) n) → IsSome (value_at (fields_of old) n)
  fewer n some = by (eqb_tells n (field_type f).number) where
    by : {A B : Type 0} → (A × (n ≡ (field_type f).number)) ⊎ (B × (n ≡ (field_type f).number → ⊥)) → IsSome (value_at (fields_of old) n)
    by (inl (_, same)) = absurd (true≢false (sym some ∙ ap is_some (ap (value_at (fields_of left)) same ∙ unsets.field.here)))
    by (inr (_, other)) = ap is_some (sym (unsets.field.others n other)) ∙ some
left_exclusive (targets.Extension x) old left unsets = fewer_exclusive old left unsets.same_type unsets.choices (λ n some. ap (λ es. is_some (value_at es n)) (sym unsets.fields) ∙ some)

-- ---- options that are set one after another

parts_exclusive : (s : NameScope) (o : OptionContent) (levels : ℕ) (parts : List NamePart) (old new : DynamicMessage) (path : List ℤ)
    → AreApart old.descriptor.pool.now → SetsParts s o levels parts old new path → IsExclusive old → IsExclusive new
parts_exclusive s o levels [] old new path apart sets sole = subst IsExclusive (sym sets.0) sole
parts_exclusive s o levels (part ∷ []) old new path apart sets sole = stays sets.0 old new (named_owns s old.descriptor apart part sets.0 sets.2 sets.3.no_floats) sets.3.exclusive sole
parts_exclusive s o zero (part ∷ next ∷ parts) old new path apart sets sole = absurd sets
parts_exclusive s o (suc levels) (part ∷ next ∷ parts) old new path apart sets sole =
    let owns = named_owns s old.descriptor apart part sets.0 sets.5 (leads_whole sets.0 old sets.2 sets.3 sets.6) in
    stays sets.0 sets.2 new (subst (λ (d : MessageDescriptor). OwnsTarget d sets.0) (sym (left_type sets.0 old sets.2 sets.6.taken)) owns) sets.11 (left_exclusive sets.0 old sets.2 sets.6.taken sole)

-- of each oneof still one member at most is set
pub option_exclusive : (s : NameScope) (o : UninterpretedOption) (old new : DynamicMessage) (path : List ℤ) → AreApart old.descriptor.pool.now
    → SetsOption s o old new path → IsExclusive old → IsExclusive new
option_exclusive s o old new path apart sets sole = parts_exclusive s (option_view o) 100 o.name.items old new path apart sets sole
