-- Options that are set one after another leave a message such that all suits its type, and of each
-- oneof one member at most is set.
use Rattle.std.proofs.Common.{◌≡◌, inl, inr, ℕ, ℤ, suc, ◌≤◌, Bool, true, false, List, [], ◌∷◌, refl, sym, ap, ◌∙◌, subst, arith}
use Rattle.std.specs.List.{AllByRecursion}
use Rattle.descriptor_records.specs.Content.{OptionContent, option_view}
use Rattle.descriptor_records.specs.declared.options.NamePart.{NamePart}
use Rattle.descriptor_records.specs.declared.options.UninterpretedOption.{UninterpretedOption}
use Rattle.message_view.specs.Shaped.{Exclusive, FitsOne}
use Rattle.message_view.specs.Sound.{IsSound}
use Rattle.message_view.proofs.Entries.{entry_of_map}
use Rattle.option_setter.specs.OptionValues.{IsSaid}
use Rattle.option_setter.specs.SetOptions.{PutsSaid, SetsLast, SetsParts}
use Rattle.option_setter.specs.declared.option_setter.NameScope.{NameScope}
use Rattle.reflect_format.specs.Steps.{AddsValues}
use Rattle.reflect_format.specs.Takes.{holds_many, target_pool, target_type}
use Rattle.reflect_format.specs.declared.target.Target.{Target}
use Rattle.reflect_message.specs.Names.{DynamicMessage, Value}
use Rattle.reflect_message.specs.declared.value.ValueOf.TheVariants as held
use Rattle.reflect_options.specs.Settled.{SetsAll}
use Rattle.reflect_pool.specs.Kinds.{IsKind}
use Rattle.reflect_pool.specs.Shapes.{holds_list, holds_map}
use Rattle.reflect_pool.specs.declared.kind.Kind.TheVariants as values
use Rattle.reflect_tables.specs.Types.{FieldType, PoolType}
use Rattle.text_view.proofs.Given.{entry_kind}
use Rattle.text_view.proofs.Once.{second}
use Rattle.text_view.proofs.Owned.{OwnsTarget, pool_is}
use Rattle.stored_options.proofs.EachStep.{EachKeeps, above, all_keep, parts_keep}
use Rattle.stored_options.proofs.Fine.{made_shape, made_type}
use Rattle.stored_options.proofs.Inner.{leads_shape}
use Rattle.stored_options.proofs.MapShape.{map_shape}
use Rattle.stored_options.proofs.SaidFits.{fits_as_message, said_fits}
use Rattle.stored_options.proofs.Shapes.{left_shape, list_shape, put_shape}

-- ---- the last part of a name

module _ (o : OptionContent) (levels : ℕ) (le : 100 ≤ levels) (old new : DynamicMessage)
    (sound : IsSound old.descriptor.pool.now) (shape : Exclusive (suc (suc levels)) old) (t : Target) (owns : OwnsTarget old.descriptor t) (path : List ℤ)
    (sets : SetsLast t o old new path) where
  abbrev pool : PoolType
  pool = old.descriptor.pool.now

  abbrev f : FieldType
  f = target_type t

  in_pool : target_pool t ≡ pool
  in_pool = pool_is old.descriptor sound.apart t owns

  kind : IsKind pool sets.put.0 f.kind
  kind = subst (λ p. IsKind p sets.put.0 f.kind) in_pool sets.put.1

  fits : FitsOne (Exclusive (suc levels)) pool f sets.put.2
  fits = said_fits pool sound o f sets.put.2 levels sets.put.0 kind sets.put.3 le

  map_set : holds_map pool f ≡ true → (v : Value) → IsSaid sets.put.0 o v → AddsValues t (v ∷ []) old new → Exclusive (suc (suc levels)) new
  map_set is_map v said adds =
      let c = entry_kind pool sets.put.0 f.kind kind (entry_of_map pool f is_map) in
      let made = subst (λ k. IsSaid k o v) c.1 said in
      let c_sound = subst IsSound (sym c.2) sound in
      let text = made.1.2 in
      map_shape levels old sound shape new sets.same_type t owns is_map c.0 c.2 c.3 made.0 (made_type c.0 c_sound made.1.0 text.0 text.1 made.0 text.2)
      (made_shape c.0 c_sound made.1.0 text.0 text.1 made.0 text.2 (suc levels) (omega (arith, le))) (subst (λ v. AddsValues t (v ∷ []) old new) made.2 adds)

  last_shape : Exclusive (suc (suc levels)) new
  last_shape = by sets.put.4 where
    many : holds_many t ≡ true → AddsValues t (sets.put.2 ∷ []) old new → (b : Bool) → holds_map pool f ≡ b → Exclusive (suc (suc levels)) new
    many of_many adds true is = map_set is sets.put.2 sets.put.3 adds
    many of_many adds false is =
        let is_list = second (holds_list (target_pool t) f) (holds_map (target_pool t) f) of_many (ap (λ p. holds_map p f) in_pool ∙ is) in
        list_shape (suc levels) old sound shape new sets.same_type t owns (subst (λ p. holds_list p f ≡ true) in_pool is_list) sets.put.2 fits adds

    by : PutsSaid t sets.put.2 old new → Exclusive (suc (suc levels)) new
    by (inl (one, unset, puts)) = put_shape (suc levels) old sound shape new sets.same_type t owns one sets.put.2 fits puts sets.exclusive sets.ascending
    by (inr (of_many, adds)) = many of_many adds (holds_map pool f) refl

-- ---- along a name, and one option after another

-- of at most so many levels below the message
abbrev IsWell : ℕ → DynamicMessage → Type 0
IsWell levels m = Exclusive (suc levels) m

shape_keeps : (o : OptionContent) → EachKeeps o IsWell
shape_keeps o = record {
  last = λ levels le old new sound shape t owns path sets. last_shape o levels le old new sound shape t owns path sets;
  inside = λ levels old sound shape t owns left inner leads. leads_shape levels old sound shape t owns leads.one left inner leads;
  taken = λ levels old sound shape t owns left type unsets. left_shape levels old sound shape left t owns unsets;
  back = λ levels left sound shape t owns one set new below kind puts type exclusive ascending.
      put_shape (suc levels) left sound shape new type t owns one (held.Message set) (fits_as_message (Exclusive (suc levels)) left.descriptor.pool.now (target_type t) set kind below) puts exclusive ascending;
}

all_keep_shape : (os : List UninterpretedOption) → AllByRecursion (λ (o : UninterpretedOption). EachKeeps (option_view o) IsWell) os
all_keep_shape [] = tt
all_keep_shape (o ∷ os) = (shape_keeps (option_view o), all_keep_shape os)

pub parts_shape : (s : NameScope) (o : OptionContent) (levels : ℕ) (parts : List NamePart) (old new : DynamicMessage) (path : List ℤ) → IsSound old.descriptor.pool.now
    → SetsParts s o levels parts old new path → Exclusive (suc (suc (above levels))) old → Exclusive (suc (suc (above levels))) new
parts_shape s o = parts_keep s IsWell o (shape_keeps o)

pub all_shape : (s : NameScope) (os : List UninterpretedOption) (old new : DynamicMessage) (paths : List (List ℤ))
    → IsSound old.descriptor.pool.now → SetsAll s os old new paths → Exclusive (suc (suc (above 100))) old → Exclusive (suc (suc (above 100))) new
all_shape s os = all_keep s IsWell os (all_keep_shape os)
