-- What adding values to a list does to what is seen of a message.
use Rattle.std.proofs.Common.{◌≡◌, ◌⊎◌, ℕ, ◌&&◌, not, Bool, true, false, cond, List, [], ◌∷◌, ◌++◌, map, Option, Some, None, option_map, unwrap_or, refl, sym, ap, ◌∙◌, subst}
use Rattle.std.proofs.lemmas.Bool.{and_parts}
use Rattle.std.specs.Prelude.{IfSome, length, ◌<◌}
use mathlib.Core.Path.{fun_ext}
use Rattle.protobuf_model.specs.Types.{Field, one, many, keyed, oneof_of}
use Rattle.protobuf_model.specs.Values.{Content, list, Held, chain_of}
use Rattle.protobuf_model.specs.Meaning.{if_any, items}
use Rattle.protobuf_model.proofs.Pieces.{items-if_any}
use Rattle.protox_lex.specs.Class.{Text}
use Rattle.reflect_tables.specs.Types.{PoolType, FieldType}
use Rattle.reflect_pool.specs.Shapes.{holds_list, holds_map, is_repeated}
use Rattle.reflect_pool.specs.declared.message.MessageDescriptor.{MessageDescriptor}
use Rattle.reflect_message.specs.Held.{fields_of, choices_of}
use Rattle.reflect_message.specs.Lists.{items_held}
use Rattle.reflect_message.specs.Names.{DynamicMessage, Value}
use Rattle.reflect_format.specs.Named.{NamesField, NamesExtension}
use Rattle.reflect_message.specs.Oneofs.{IsExclusive}
use Rattle.reflect_format.specs.Steps.{AddsValues, Frees, held_by}
use Rattle.reflect_format.specs.Takes.{target_pool, target_type}
use Rattle.reflect_format.specs.declared.target.Target.{Target}
use Rattle.reflect_format.specs.declared.target.Target.TheVariants as targets
use Rattle.text_model.specs.Value.{add_all, assign}
use Rattle.message_view.specs.Sound.{HaveNames, AreApart}
use Rattle.message_view.specs.Types.{entry_part, field_at, key_of, label_of, name_at, types_of}
use Rattle.message_view.specs.Views.{held_in, content_view, view}
use Rattle.message_view.proofs.Seen.{list_seen}
use Rattle.message_view.proofs.Sound.{named}
use Rattle.text_view.specs.Targets.{target_field}
use Rattle.text_view.proofs.Apart.{extension_there, no_field_there}
use Rattle.text_view.proofs.Kept.{added_changes, gone, many_list, others_stay}
use Rattle.text_view.proofs.Owned.{OwnsTarget, named_target, pool_is, under_target}
use Rattle.text_view.proofs.Puts.{extension_changed, field_changed}

-- a list that is held, by its values
list_held : (pool : PoolType) (f : FieldType) (o : Option Value) (ws : List Value) → items_held o ≡ Some ws → held_in pool f (option_map content_view o) ≡ if_any (map content_view ws)
list_held pool f None ws e = ap (λ o. if_any (map content_view (unwrap_or o ws))) e
list_held pool f (Some v) ws e = ap (λ c. held_in pool f (Some c)) (list_seen v ws e) ∙ by (map content_view ws) where
  by : (cs : List Content) → held_in pool f (Some (list (chain_of cs))) ≡ if_any cs
  by [] = refl
  by (c ∷ cs) = refl

mapped : (vs ws : List Value) → map content_view (vs ++ ws) ≡ map content_view vs ++ map content_view ws
mapped [] ws = refl
mapped (v ∷ vs) ws = ap (λ cs. content_view v ∷ cs) (mapped vs ws)

-- the values of a list that gets more
lengthened : (pool : PoolType) (f : FieldType) (o p : Option Value) (before vs : List Value) → items_held o ≡ Some before → items_held p ≡ Some (before ++ vs)
    → held_in pool f (option_map content_view p) ≡ if_any (items (held_in pool f (option_map content_view o)) ++ map content_view vs)
lengthened pool f o p before vs e g =
    list_held pool f p (before ++ vs) g ∙ ap if_any (mapped before vs)
    ∙ ap (λ cs. if_any (cs ++ map content_view vs)) (sym (items-if_any (map content_view before)))
    ∙ ap (λ h. if_any (items h ++ map content_view vs)) (sym (list_held pool f o before e))

module _ (old new : DynamicMessage) (apart : AreApart old.descriptor.pool.now) (same : new.descriptor ≡ old.descriptor) (exclusive : IsExclusive old) where
  abbrev d : MessageDescriptor
  d = old.descriptor

  abbrev pool : PoolType
  pool = old.descriptor.pool.now

  abbrev type : ℕ → Option Field
  type = field_at old.descriptor.pool.now old.descriptor.index

  -- what is changed by values that are added to a target
  pub changed : (t : Target) (vs : List Value) → OwnsTarget d t → Frees t old new → AddsValues t vs old new → (h : Held)
      → held_in pool (target_type t) (option_map content_view (held_by new t)) ≡ h → view new ≡ assign type (target_type t).number h (view old)
  changed (targets.Field f) vs owns frees adds h stands =
      let changes = added_changes f old new adds.0 frees in
      field_changed old new same f owns (gone d f (choices_of old) (fields_of old) (fields_of new) exclusive changes)
      (others_stay d f (choices_of old) (fields_of old) (fields_of new) exclusive changes) adds.0.1 adds.0.2 h stands type (λ n. refl)
  changed (targets.Extension x) vs owns frees adds h stands =
      extension_changed old new same x owns adds.0.0 adds.0.1 adds.0.2 h stands type (ap oneof_of (extension_there d apart x owns)) (no_field_there d apart x owns)

  list_added : (t : Target) → OwnsTarget d t → holds_list pool (target_type t) ≡ true → (vs before : List Value) → items_held (held_by old t) ≡ Some before → AddsValues t vs old new
      → view new ≡ assign type (target_type t).number (if_any (items (view old (target_type t).number) ++ map content_view vs)) (view old)
  list_added t owns is_list vs before held adds =
      let its_list = subst (λ p. holds_list p (target_type t) ≡ true) (sym (pool_is d apart t owns)) is_list in
      let after = subst (λ o. IfSome o (λ b. items_held (held_by new t) ≡ Some (b ++ vs))) held (adds.1 its_list) in
      changed t vs owns (adds.5 (many_list t its_list)) adds (if_any (items (view old (target_type t).number) ++ map content_view vs))
      (lengthened pool (target_type t) (held_by old t) (held_by new t) before vs held after
      ∙ ap (λ h. if_any (items h ++ map content_view vs)) (sym (under_target d apart t owns old refl)))

pub not_so : (b : Bool) → not b ≡ true → b ≡ false
not_so true e = absurd (cc e)
not_so false e = refl

-- ---- labels

-- a list has many values
pub list_of_many : (pool : PoolType) (f : FieldType) → holds_list pool f ≡ true → (is_repeated f.cardinality ≡ true) × (holds_map pool f ≡ false)
list_of_many pool f e = let two = and_parts (is_repeated f.cardinality) (not (holds_map pool f)) e in (two.0, not_so (holds_map pool f) two.1)

pub label_many : (pool : PoolType) (f : FieldType) → holds_list pool f ≡ true → label_of pool f ≡ many f.packed
label_many pool f e =
    let two = list_of_many pool f e in
    ap (λ b. cond b (keyed (key_of pool (entry_part pool f 1))) (cond (is_repeated f.cardinality) (many f.packed) one)) two.1
    ∙ ap (λ b. cond b (many f.packed) one) two.0

pub label_keyed : (pool : PoolType) (f : FieldType) → holds_map pool f ≡ true → label_of pool f ≡ keyed (key_of pool (entry_part pool f 1))
label_keyed pool f e = ap (λ b. cond b (keyed (key_of pool (entry_part pool f 1))) (cond (is_repeated f.cardinality) (many f.packed) one)) e

pub label_one : (pool : PoolType) (f : FieldType) → holds_map pool f ≡ false → holds_list pool f ≡ false → label_of pool f ≡ one
label_one pool f no_map no_list =
    ap (λ b. cond b (keyed (key_of pool (entry_part pool f 1))) (cond (is_repeated f.cardinality) (many f.packed) one)) no_map
    ∙ ap (λ b. cond b (many f.packed) one) (by (is_repeated f.cardinality) (sym (ap (λ b. is_repeated f.cardinality && not b) no_map) ∙ no_list)) where
      by : (b : Bool) → (b && true) ≡ false → b ≡ false
      by true e = absurd (cc e)
      by false e = refl

pub target_label : (d : MessageDescriptor) (t : Target) → (target_field d t).label ≡ label_of d.pool.now (target_type t)
target_label d (targets.Field f) = refl
target_label d (targets.Extension x) = refl

-- what is added to a list
pub list_all : (old new : DynamicMessage) → AreApart old.descriptor.pool.now → new.descriptor ≡ old.descriptor → IsExclusive old → (t : Target) → OwnsTarget old.descriptor t → holds_list old.descriptor.pool.now (target_type t) ≡ true
    → (vs before : List Value) → items_held (held_by old t) ≡ Some before → AddsValues t vs old new
    → add_all (field_at old.descriptor.pool.now old.descriptor.index) (target_type t).number (target_field old.descriptor t).part (target_field old.descriptor t).label (view old) (map content_view vs) ≡ Some (view new)
list_all old new apart same exclusive t owns is_list vs before held adds =
    ap (λ l. add_all (field_at old.descriptor.pool.now old.descriptor.index) (target_type t).number (target_field old.descriptor t).part l (view old) (map content_view vs))
    (target_label old.descriptor t ∙ label_many old.descriptor.pool.now (target_type t) is_list)
    ∙ ap Some (sym (list_added old new apart same exclusive t owns is_list vs before held adds))

-- the types of a pool by its places
pub types_are : (pool : PoolType) → HaveNames pool → (d : MessageDescriptor) → d.pool.now ≡ pool → types_of pool (name_at pool d.index) ≡ field_at pool d.index
types_are pool names d at = fun_ext (λ n. named pool names d.index n (subst (λ (p : PoolType). d.index < length p.messages) at d.in_range))

pub added : (old new : DynamicMessage) → AreApart old.descriptor.pool.now → HaveNames old.descriptor.pool.now → (w : Text) (t : Target)
    → NamesField old.descriptor w t ⊎ NamesExtension old.descriptor w t → holds_list (target_pool t) (target_type t) ≡ true → IsExclusive old
    → (vs before : List Value) → items_held (held_by old t) ≡ Some before → new.descriptor ≡ old.descriptor → AddsValues t vs old new
    → add_all (types_of old.descriptor.pool.now (name_at old.descriptor.pool.now old.descriptor.index)) (target_type t).number (target_field old.descriptor t).part (target_field old.descriptor t).label (view old) (map content_view vs)
    ≡ Some (view new)
added old new apart names w t h is_list exclusive vs before held same adds =
    let owns = named_target old.descriptor apart w t h in
    ap (λ type. add_all type (target_type t).number (target_field old.descriptor t).part (target_field old.descriptor t).label (view old) (map content_view vs)) (types_are old.descriptor.pool.now names old.descriptor refl)
    ∙ list_all old new apart same exclusive t owns (subst (λ p. holds_list p (target_type t) ≡ true) (pool_is old.descriptor apart t owns) is_list) vs before held adds
