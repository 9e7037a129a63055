-- Options that are set one after another set what they set in the model.
use Rattle.std.proofs.Common.{◌≡◌, ℕ, ℤ, zero, suc, List, [], ◌∷◌, map, Option, Some, refl, sym, ap, ◌∙◌, subst}
use Rattle.descriptor_records.specs.Content.{OptionContent, name_view, option_view}
use Rattle.descriptor_records.specs.declared.options.NamePart.{NamePart}
use Rattle.descriptor_records.specs.declared.options.UninterpretedOption.{UninterpretedOption}
use Rattle.message_view.specs.Sound.{IsSound}
use Rattle.message_view.specs.Types.{frame_of, name_at, types_of}
use Rattle.message_view.specs.Views.{view}
use Rattle.message_view.proofs.Sound.{named}
use Rattle.stored_options.specs.SetOptions as model
use Rattle.option_setter.specs.SetOptions.{SetsParts}
use Rattle.option_setter.specs.declared.option_setter.NameScope.{NameScope}
use Rattle.protobuf_model.specs.Types.{Name, nested}
use Rattle.protobuf_model.specs.Values.{Message, content, message}
use Rattle.protox_lex.specs.Class.{Text}
use Rattle.reflect_format.specs.Takes.{target_type}
use Rattle.reflect_message.specs.Names.{DynamicMessage}
use Rattle.reflect_options.specs.Settled.{SetsAll}
use Rattle.reflect_pool.specs.declared.message.MessageDescriptor.{MessageDescriptor}
use Rattle.settled_records.proofs.Kept.{parts_type}
use Rattle.text_model.specs.Schemas.{Schema}
use Rattle.text_model.specs.Value.{assign}
use Rattle.text_view.specs.Schemas.{schema_of}
use Rattle.text_view.specs.Targets.{target_field}
use Rattle.text_view.proofs.Owned.{target_there}
use Rattle.stored_options.proofs.Along.{HaveFewBits, all_fine}
use Rattle.stored_options.proofs.Fine.{IsFine}
use Rattle.stored_options.proofs.Owning.{leads_whole, named_owns}
use Rattle.stored_options.proofs.Saying.{leads_fine}
use Rattle.stored_options.specs.NamedNumbers.{numbers_named}
use Rattle.stored_options.proofs.Given.{last_set}
use Rattle.stored_options.proofs.EachStep.{above, above_least}
use Rattle.stored_options.proofs.Into.{inner_kind, inner_label, inner_message, inner_part, put_back}

module _ (s : NameScope) (decoded : Name → Text → Option Message) where
  abbrev w : Schema
  w = schema_of s.pool.now decoded

  abbrev leads : model.Leads
  leads = numbers_named s

  -- the name that the type of a descriptor into the pool has
  abbrev called : MessageDescriptor → Name
  called d = name_at s.pool.now d.index

  -- ---- along a name

  abbrev Set : OptionContent → ℕ → List NamePart → DynamicMessage → DynamicMessage → List ℤ → Type 0
  Set o levels parts old new path = model.SetsParts w leads o levels (called old.descriptor) (map name_view parts) (view old) (view new) path

  parts_set : (o : OptionContent) (levels : ℕ) (parts : List NamePart) (old new : DynamicMessage) (path : List ℤ) → IsSound old.descriptor.pool.now → old.descriptor.pool.now ≡ s.pool.now
      → SetsParts s o levels parts old new path → IsFine (suc (above levels)) old → Set o levels parts old new path
  parts_set o levels [] old new path sound at sets fine = (ap view sets.0, sets.1)
  parts_set o levels (part ∷ []) old new path sound at sets fine =
      let d = old.descriptor in
      let t = sets.0 in
      let owns = named_owns s d sound.apart part t sets.2 sets.3.no_floats in
      subst (λ p. model.SetsLast (schema_of p decoded) leads o (name_at p d.index) (name_view part) (view old) (view new) path) at
      (subst (model.SetsLast (schema_of d.pool.now decoded) leads o (name_at d.pool.now d.index) (name_view part) (view old) (view new)) (sym sets.4)
      (last_set o (above levels) old new sound fine.shape t owns sets.1 sets.3 (above_least levels) fine decoded s at part sets.2))
  parts_set o zero (part ∷ next ∷ parts) old new path sound at sets fine = absurd sets
  parts_set o (suc levels) (part ∷ next ∷ parts) old new path sound at sets fine =
      let d = old.descriptor in
      let t = sets.0 in
      let left = sets.2 in
      let inner = sets.3 in
      let set = sets.4 in
      let lead = sets.6 in
      let n : ℕ = (target_type t).number in
      let top : ℕ = suc (above levels) in
      let owns = named_owns s d sound.apart part t sets.5 (leads_whole t old left inner lead) in
      let kind = inner_kind top old sound fine.shape t owns left inner lead in
      let below =
      parts_set o levels (next ∷ parts) inner set sets.1 (subst IsSound (sym kind.0) sound) (kind.0 ∙ at) sets.7
      (leads_fine top old sound fine t owns lead.one left inner lead).0 in (
        n,
        called inner.descriptor,
        record {
          field = target_field d t;
          frame = frame_of (target_type t).group;
          led = record { of_type = d; target = t; written = part; in_pool = at; called = ap (λ p. name_at p d.index) at; same_part = refl; named = sets.5; number = refl };
          declared = subst (λ p. types_of p (name_at p d.index) n ≡ Some (target_field d t)) at (named d.pool.now sound.names d.index n d.in_range ∙ target_there d sound.apart t owns);
          alone = inner_label top old sound fine.shape t owns left inner lead;
          kind = inner_part top old sound fine.shape t owns left inner lead ∙ ap (λ p. nested (frame_of (target_type t).group) (name_at p inner.descriptor.index)) at;
        },
        view set,
        sets.1,
        subst (λ m. model.SetsParts w leads o levels (called inner.descriptor) (map name_view (next ∷ parts)) m (view set) sets.1) (sym (inner_message top old sound fine.shape t owns left inner lead)) below,
        subst (λ p. view new ≡ assign (types_of p (name_at p d.index)) n (content (message (view set))) (view old)) at
            (put_back top old sound fine.shape t owns left inner lead set new sets.8 sets.9),
        sets.10,
      )

  -- ---- one option after another

  pub all_set : (os : List UninterpretedOption) → HaveFewBits os → (old new : DynamicMessage) (paths : List (List ℤ)) → IsSound old.descriptor.pool.now → old.descriptor.pool.now ≡ s.pool.now
      → SetsAll s os old new paths → IsFine (suc (above 100)) old
      → model.SetsAll (schema_of s.pool.now decoded) (numbers_named s) (name_at s.pool.now old.descriptor.index) (map option_view os) (view old) (view new) paths
  all_set [] few old new paths sound at sets fine = (ap view sets.0, sets.1)
  all_set (o ∷ os) few old new paths sound at sets fine =
      let next = sets.0 in
      let path = sets.1 in
      let type : next.descriptor ≡ old.descriptor = parts_type s (option_view o) 100 o.name.items old next path sets.3 in
      let its_sound = subst (λ (c : MessageDescriptor). IsSound c.pool.now) (sym type) sound in
      let next_fine = all_fine s (o ∷ []) (few.0, tt) old next (path ∷ []) sound (next, path, [], sets.3, (refl, refl), refl) fine in
      let later = all_set os few.1 next new sets.2 its_sound (ap (λ (c : MessageDescriptor). c.pool.now) type ∙ at) sets.4 next_fine in (
        view next,
        path,
        sets.2,
        parts_set (option_view o) 100 o.name.items old next path sound at sets.3 fine,
        subst (λ c. model.SetsAll w leads (called c) (map option_view os) (view next) (view new) sets.2) type later,
        sets.5,
      )
