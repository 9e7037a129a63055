-- Values that are taken out of fields.
use Rattle.std.proofs.Common.{◌≡◌, Bool, true, false, true≢false, cond, Option, None, Some, IsTrue, IfSome, is_some, refl, sym, ap, ◌∙◌}
use Rattle.std.specs.Option.{IsSome}
use Rattle.reflect_tables.specs.Types.{PoolType, FieldType}
use Rattle.reflect_message.specs.Present.{held_if_set, is_held}
use Rattle.reflect_message.specs.Names.{Value}

-- what is taken is what was held
pub as_held : (taken held : Option Value) → taken ≡ held → IfSome taken (λ v. held ≡ Some v)
as_held None held is = tt
as_held (Some v) held is = sym is

-- nothing was held where a field that is set by anything is not set
pub nothing_held : {A : Type 0} (lent : Option A) (held : Option Value) (b : Bool) → is_some lent ≡ is_some held → (IsSome lent → IsTrue b) → b ≡ false → None ≡ held
nothing_held lent None b same set unset = refl
nothing_held lent (Some v) b same set unset = absurd (true≢false (sym (set same) ∙ unset))

module _ (pool : PoolType) (f : FieldType) where
  -- what a field held is taken if it is set
  pub all_taken : (held under seen : Option Value) (b : Bool) → held ≡ under → seen ≡ held → b ≡ is_held pool f seen → b ≡ true → held ≡ held_if_set pool f under
  all_taken held under seen b here is holds set = by held (sym (holds ∙ ap (is_held pool f) is) ∙ set) ∙ ap (held_if_set pool f) here where
    by : (o : Option Value) → is_held pool f o ≡ true → o ≡ held_if_set pool f o
    by None e = refl
    by (Some v) e = sym (ap (λ b. cond b (Some v) None) e)

  -- and nothing of one that is not
  pub none_taken : (held under seen : Option Value) (b : Bool) → held ≡ under → seen ≡ held → b ≡ is_held pool f seen → b ≡ false → None ≡ held_if_set pool f under
  none_taken held under seen b here is holds unset = by held (sym (holds ∙ ap (is_held pool f) is) ∙ unset) ∙ ap (held_if_set pool f) here where
    by : (o : Option Value) → is_held pool f o ≡ false → None ≡ held_if_set pool f o
    by None e = refl
    by (Some v) e = sym (ap (λ b. cond b (Some v) None) e)
