-- Options that are set one after another leave a fine message fine.
use Rattle.std.proofs.Common.{◌≡◌, inl, inr, ℕ, ℤ, suc, ◌≤◌, Bool, true, false, List, [], ◌∷◌, refl, sym, ap, ◌∙◌, subst, arith}
use Rattle.std.specs.List.{AllByRecursion}
use Rattle.descriptor_records.specs.Content.{OptionContent, option_view}
use Rattle.descriptor_records.specs.declared.options.UninterpretedOption.{UninterpretedOption}
use Rattle.message_view.specs.Sound.{IsSound}
use Rattle.message_view.proofs.Entries.{entry_of_map}
use Rattle.option_setter.specs.OptionValues.{IsSaid}
use Rattle.option_setter.specs.SetOptions.{PutsSaid, SetsLast}
use Rattle.option_setter.specs.declared.option_setter.NameScope.{NameScope}
use Rattle.reflect_format.specs.Steps.{AddsValues}
use Rattle.reflect_format.specs.Takes.{holds_many, target_pool, target_type}
use Rattle.reflect_format.specs.declared.target.Target.{Target}
use Rattle.reflect_message.specs.Names.{DynamicMessage, Value}
use Rattle.reflect_message.specs.declared.value.ValueOf.TheVariants as held
use Rattle.reflect_options.specs.Settled.{SetsAll}
use Rattle.reflect_pool.specs.Kinds.{IsKind}
use Rattle.reflect_pool.specs.Shapes.{holds_list, holds_map}
use Rattle.reflect_pool.specs.declared.kind.Kind.TheVariants as values
use Rattle.reflect_tables.specs.Types.{FieldType, PoolType}
use Rattle.text_view.proofs.Given.{entry_kind}
use Rattle.text_view.proofs.Once.{second}
use Rattle.text_view.proofs.Owned.{OwnsTarget, pool_is}
use Rattle.stored_options.proofs.EachStep.{EachKeeps, above, all_keep}
use Rattle.stored_options.proofs.Fine.{IsFine, made_fine, made_kinds, made_type}
use Rattle.stored_options.proofs.Mapping.{map_fine}
use Rattle.stored_options.proofs.Putting.{IsSuited, left_fine, list_fine, put_fine}
use Rattle.stored_options.proofs.SaidSuits.{HasFewBits}
use Rattle.stored_options.proofs.Saying.{leads_fine, message_suited, said_suited}

-- ---- the last part of a name

module _ (o : OptionContent) (few : HasFewBits o) (levels : ℕ) (le : 100 ≤ levels) (old new : DynamicMessage)
    (sound : IsSound old.descriptor.pool.now) (fine : IsFine (suc levels) old) (t : Target) (owns : OwnsTarget old.descriptor t) (path : List ℤ)
    (sets : SetsLast t o old new path) where
  abbrev pool : PoolType
  pool = old.descriptor.pool.now

  abbrev f : FieldType
  f = target_type t

  in_pool : target_pool t ≡ pool
  in_pool = pool_is old.descriptor sound.apart t owns

  kind : IsKind pool sets.put.0 f.kind
  kind = subst (λ p. IsKind p sets.put.0 f.kind) in_pool sets.put.1

  map_set : holds_map pool f ≡ true → (v : Value) → IsSaid sets.put.0 o v → AddsValues t (v ∷ []) old new → IsFine (suc levels) new
  map_set is_map v said adds =
      let c = entry_kind pool sets.put.0 f.kind kind (entry_of_map pool f is_map) in
      let made = subst (λ k. IsSaid k o v) c.1 said in
      let c_sound = subst IsSound (sym c.2) sound in
      let text = made.1.2 in
      map_fine levels old sound fine new sets.same_type t owns is_map c.0 c.2 c.3 made.0 (made_type c.0 c_sound made.1.0 text.0 text.1 made.0 text.2) (made_kinds c.0 c_sound made.1.0 text.0 text.1 made.0 text.2)
      (made_fine c.0 c_sound made.1.0 text.0 text.1 made.0 text.2 (suc levels) (omega (arith, le))) (subst (λ v. AddsValues t (v ∷ []) old new) made.2 adds)

  last_fine : IsFine (suc levels) new
  last_fine = by sets.put.4 where
    suited : IsSuited (suc levels) pool f sets.put.2
    suited = (said_suited pool sound o few f sets.put.2 levels sets.put.0 kind sets.put.3 le).0

    many : holds_many t ≡ true → AddsValues t (sets.put.2 ∷ []) old new → (b : Bool) → holds_map pool f ≡ b → IsFine (suc levels) new
    many of_many adds true is = map_set is sets.put.2 sets.put.3 adds
    many of_many adds false is =
        let is_list = second (holds_list (target_pool t) f) (holds_map (target_pool t) f) of_many (ap (λ p. holds_map p f) in_pool ∙ is) in
        list_fine (suc levels) old sound fine new sets.same_type t owns (subst (λ p. holds_list p f ≡ true) in_pool is_list) sets.put.2 suited adds

    by : PutsSaid t sets.put.2 old new → IsFine (suc levels) new
    by (inl (one, unset, puts)) =
        put_fine (suc levels) old sound fine new sets.same_type t owns one sets.put.2 suited (said_suited pool sound o few f sets.put.2 levels sets.put.0 kind sets.put.3 le).1 puts sets.exclusive sets.ascending
    by (inr (of_many, adds)) = many of_many adds (holds_map pool f) refl

-- ---- one option after another

fine_keeps : (o : OptionContent) → HasFewBits o → EachKeeps o IsFine
fine_keeps o few = record {
  last = λ levels le old new sound fine t owns path sets. last_fine o few levels le old new sound fine t owns path sets;
  inside = λ levels old sound fine t owns left inner leads. leads_fine levels old sound fine t owns leads.one left inner leads;
  taken = λ levels old sound fine t owns left type unsets. left_fine levels old sound fine left t type owns unsets;
  back = λ levels left sound fine t owns one set new below kind puts type exclusive ascending.
      put_fine (suc levels) left sound fine new type t owns one (held.Message set) (message_suited levels left.descriptor.pool.now (target_type t) set kind below) (inr (set, refl)) puts exclusive ascending;
}

-- of each of them the numbers are of 64 bits
abbrev pub HaveFewBits : List UninterpretedOption → Type 0
HaveFewBits = AllByRecursion (λ o. HasFewBits (option_view o))

all_keep_fine : (os : List UninterpretedOption) → HaveFewBits os → AllByRecursion (λ (o : UninterpretedOption). EachKeeps (option_view o) IsFine) os
all_keep_fine [] few = tt
all_keep_fine (o ∷ os) few = (fine_keeps (option_view o) few.0, all_keep_fine os few.1)

pub all_fine : (s : NameScope) (os : List UninterpretedOption) → HaveFewBits os → (old new : DynamicMessage) (paths : List (List ℤ))
    → IsSound old.descriptor.pool.now → SetsAll s os old new paths → IsFine (suc (above 100)) old → IsFine (suc (above 100)) new
all_fine s os few = all_keep s IsFine os (all_keep_fine os few)
