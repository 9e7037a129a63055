-- What is so of a message before options are set, and is kept by each step of setting one, is so of it
-- afterwards.
use Rattle.std.proofs.Common.{◌≡◌, ℕ, ℤ, zero, suc, ◌≤◌, false, List, [], ◌∷◌, sym, ◌∙◌, subst, arith}
use Rattle.std.specs.List.{AllByRecursion}
use Rattle.descriptor_records.specs.Content.{OptionContent, option_view}
use Rattle.descriptor_records.specs.declared.options.NamePart.{NamePart}
use Rattle.descriptor_records.specs.declared.options.UninterpretedOption.{UninterpretedOption}
use Rattle.message_view.specs.Sound.{IsSound}
use Rattle.option_setter.specs.SetOptions.{LeadsInto, SetsLast, SetsParts, Unsets}
use Rattle.option_setter.specs.declared.option_setter.NameScope.{NameScope}
use Rattle.reflect_format.specs.Steps.{Puts, StaysAscending, StaysExclusive}
use Rattle.reflect_format.specs.Takes.{holds_many, target_type}
use Rattle.reflect_format.specs.declared.target.Target.{Target}
use Rattle.reflect_message.specs.Names.{DynamicMessage}
use Rattle.reflect_message.specs.declared.value.ValueOf.TheVariants as held
use Rattle.reflect_options.specs.Settled.{SetsAll}
use Rattle.reflect_pool.specs.Kinds.{IsKind}
use Rattle.reflect_pool.specs.declared.kind.Kind.TheVariants as values
use Rattle.reflect_pool.specs.declared.message.MessageDescriptor.{MessageDescriptor}
use Rattle.settled_records.proofs.Kept.{parts_type}
use Rattle.text_view.proofs.Owned.{OwnsTarget}
use Rattle.stored_options.proofs.Owning.{leads_whole, left_type, named_owns}

-- so many levels may lie below a message, where a text may have 100 more
abbrev pub above : ℕ → ℕ
above zero = 100
above (suc levels) = suc (above levels)

pub above_least : (levels : ℕ) → 100 ≤ above levels
above_least zero = omega arith
above_least (suc levels) = let h = above_least levels in omega (arith, h)

-- by each step of setting an option this is kept, which is said of messages by so many levels
pub record EachKeeps (o : OptionContent) (Is : ℕ → DynamicMessage → Type 0) : Type 0 where
  -- the last part of its name is set
  pub last : (levels : ℕ) → 100 ≤ levels → (old new : DynamicMessage) → IsSound old.descriptor.pool.now → Is (suc levels) old
      → (t : Target) → OwnsTarget old.descriptor t → (path : List ℤ) → SetsLast t o old new path → Is (suc levels) new
  -- a part before it leads into a message
  pub inside : (levels : ℕ) (old : DynamicMessage) → IsSound old.descriptor.pool.now → Is (suc levels) old
      → (t : Target) → OwnsTarget old.descriptor t → (left inner : DynamicMessage) → LeadsInto t old left inner
      → Is levels inner × IsKind old.descriptor.pool.now (values.Message inner.descriptor) (target_type t).kind
  -- which is taken out of the one that holds it
  pub taken : (levels : ℕ) (old : DynamicMessage) → IsSound old.descriptor.pool.now → Is levels old
      → (t : Target) → OwnsTarget old.descriptor t → (left : DynamicMessage) → left.descriptor ≡ old.descriptor → Unsets t old left → Is levels left
  -- and put back
  pub back : (levels : ℕ) (left : DynamicMessage) → IsSound left.descriptor.pool.now → Is (suc levels) left
      → (t : Target) → OwnsTarget left.descriptor t → holds_many t ≡ false → (set new : DynamicMessage) → Is levels set
      → IsKind left.descriptor.pool.now (values.Message set.descriptor) (target_type t).kind → Puts t (held.Message set) left new
      → new.descriptor ≡ left.descriptor → StaysExclusive t left new → StaysAscending left new → Is (suc levels) new

module _ (s : NameScope) (Is : ℕ → DynamicMessage → Type 0) where
  pub parts_keep : (o : OptionContent) → EachKeeps o Is → (levels : ℕ) (parts : List NamePart) (old new : DynamicMessage) (path : List ℤ)
      → IsSound old.descriptor.pool.now → SetsParts s o levels parts old new path → Is (suc (above levels)) old → Is (suc (above levels)) new
  parts_keep o keeps levels [] old new path sound sets is = subst (Is (suc (above levels))) (sym sets.0) is
  parts_keep o keeps levels (part ∷ []) old new path sound sets is =
      keeps.last (above levels) (above_least levels) old new sound is sets.0 (named_owns s old.descriptor sound.apart part sets.0 sets.2 sets.3.no_floats) sets.1 sets.3
  parts_keep o keeps zero (part ∷ next ∷ parts) old new path sound sets is = absurd sets
  parts_keep o keeps (suc levels) (part ∷ next ∷ parts) old new path sound sets is =
      let t = sets.0 in
      let left = sets.2 in
      let inner = sets.3 in
      let set = sets.4 in
      let owns = named_owns s old.descriptor sound.apart part t sets.5 (leads_whole t old left inner sets.6) in
      let led = keeps.inside (suc (above levels)) old sound is t owns left inner sets.6 in
      let below = parts_keep o keeps levels (next ∷ parts) inner set sets.1 (subst IsSound (sym led.1.0) sound) sets.7 led.0 in
      let set_type : set.descriptor ≡ inner.descriptor = parts_type s o levels (next ∷ parts) inner set sets.1 sets.7 in
      let type : left.descriptor ≡ old.descriptor = left_type t old left sets.6.taken in
      let kind : IsKind left.descriptor.pool.now (values.Message set.descriptor) (target_type t).kind =
      subst (λ (c : MessageDescriptor). IsKind c.pool.now (values.Message set.descriptor) (target_type t).kind) (sym type)
      (subst (λ c. IsKind old.descriptor.pool.now (values.Message c) (target_type t).kind) (sym set_type) led.1) in
      keeps.back (suc (above levels)) left (subst (λ (c : MessageDescriptor). IsSound c.pool.now) (sym type) sound) (keeps.taken (suc (suc (above levels))) old sound is t owns left type sets.6.taken) t
      (subst (λ (c : MessageDescriptor). OwnsTarget c t) (sym type) owns) sets.6.one set new below kind sets.8 (sets.9 ∙ sym type) sets.11 sets.12

  -- one option after another
  pub all_keep : (os : List UninterpretedOption) → AllByRecursion (λ (o : UninterpretedOption). EachKeeps (option_view o) Is) os → (old new : DynamicMessage) (paths : List (List ℤ))
      → IsSound old.descriptor.pool.now → SetsAll s os old new paths → Is (suc (above 100)) old → Is (suc (above 100)) new
  all_keep [] keeps old new paths sound sets is = subst (Is (suc (above 100))) (sym sets.0) is
  all_keep (o ∷ os) keeps old new paths sound sets is =
      let type : sets.0.descriptor ≡ old.descriptor = parts_type s (option_view o) 100 o.name.items old sets.0 sets.1 sets.3 in
      all_keep os keeps.1 sets.0 new sets.2 (subst (λ (c : MessageDescriptor). IsSound c.pool.now) (sym type) sound) sets.4
      (parts_keep (option_view o) keeps.0 100 o.name.items old sets.0 sets.1 sound sets.3 is)
