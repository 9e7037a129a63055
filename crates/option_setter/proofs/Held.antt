-- What stands under a target, as it is lent.
use Rattle.std.proofs.Common.{◌≡◌, List, Bool, true, false, cond, Option, None, Some, Result, Ok, Err, IfOk, length, refl, sym, ap, subst}
use Rattle.reflect_message.specs.Lists.{items_held, list_items}
use Rattle.reflect_message.specs.Names.{DynamicMessage, Value}
use Rattle.reflect_message.specs.Bytes.{form_of, is_set}
use Rattle.reflect_message.specs.Present.{held_if_set, is_held}
use Rattle.reflect_message.specs.Shown.{IsHeldOrDefault, Shows, shown}
use Rattle.reflect_message.specs.declared.field_ref.FieldRef.{FieldRef}
use Rattle.reflect_pool.specs.Shapes.{holds_list}
use Rattle.reflect_tables.specs.Types.{PoolType, FieldType}
use Rattle.reflect_format.specs.Steps.{held_by}
use Rattle.reflect_format.specs.Takes.{target_pool, target_type}
use Rattle.reflect_format.specs.declared.target.Target.{Target}
use Rattle.option_setter.specs.SetOptions.{count_held}

-- the values of a list that is lent are those that are held
pub shown_items : (pool : PoolType) (f : FieldType) (held : Option Value) (v : Value) → holds_list pool f ≡ true → IsHeldOrDefault pool f held v → list_items v ≡ items_held held
shown_items pool f None v l h = h.0 l
shown_items pool f (Some w) v l h = ap list_items h

-- the same of what is lent of a target that is another's
pub lent_items : (m : DynamicMessage) (t u : Target) → t ≡ u → (r s : FieldRef) → r ≡ s → Shows (target_pool u) (target_type u) (held_by m u) s → holds_list (target_pool t) (target_type t) ≡ true
    → list_items (shown r) ≡ items_held (held_by m t)
lent_items m t u same r s one h l =
    let there : Shows (target_pool u) (target_type u) (held_by m u) r = subst (λ x. Shows (target_pool u) (target_type u) (held_by m u) x) (sym one) h in
    shown_items (target_pool t) (target_type t) (held_by m t) (shown r) l (subst (λ x. Shows (target_pool x) (target_type x) (held_by m x) r) (sym same) there)

pub counted : (vs : List Value) (o : Option Value) → Some vs ≡ items_held o → length vs ≡ count_held o
counted vs o e = ap (λ (i : Option (List Value)). elim i [ None ↦ 0 | Some ws ↦ length ws ]) e

-- what is set is held
pub held_there : (pool : PoolType) (f : FieldType) (o : Option Value) (v : Value) → held_if_set pool f o ≡ Some v → o ≡ Some v
held_there pool f None v e = absurd (cc e)
held_there pool f (Some w) v e = by (is_set pool f (form_of w)) e where
  by : (b : Bool) → cond b (Some w) None ≡ Some v → Some w ≡ Some v
  by true e = e
  by false e = absurd (cc e)

pub held_gone : (pool : PoolType) (f : FieldType) (o : Option Value) → held_if_set pool f o ≡ None → is_held pool f o ≡ false
held_gone pool f None e = refl
held_gone pool f (Some w) e = by (is_set pool f (form_of w)) e where
  by : (b : Bool) → cond b (Some w) None ≡ None → b ≡ false
  by true e = absurd (cc e)
  by false e = refl

pub ok_then : {A E : Type 0} {P Q : A → Type 0} (r : Result A E) → ((a : A) → P a → Q a) → IfOk r P → IfOk r Q
ok_then (Ok a) f h = f a h
ok_then (Err e) f h = tt
