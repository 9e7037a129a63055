-- What stays under numbers that nothing is put under.
use Rattle.std.proofs.Common.{◌≡◌, ℕ, List, Option, None, Some, Result, Ok, Err, OnErr, refl, sym, ap, ◌∙◌, subst}
use Rattle.reflect_entries.specs.Entries.{value_at}
use Rattle.reflect_pool.specs.declared.field.FieldDescriptor.{FieldDescriptor}
use Rattle.reflect_message.specs.Lists.{list_items}
use Rattle.reflect_message.specs.Names.{Value}
use Rattle.reflect_extend.specs.Others.{KeepsOther, StaysUnset}
use Rattle.reflect_extend.specs.Siblings.{KeepsRest}

-- what holds in any case does so of a refusal
pub refused : {A E P : Type 0} (r : Result A E) → P → OnErr r P
refused (Ok x) h = tt
refused (Err e) h = h

-- ---- where nothing changes
module _ (old new : List (ℕ × Value)) (same : new ≡ old) where
  other_same : (n : ℕ) (o : Option Value) → value_at old n ≡ o → KeepsOther o (value_at new n)
  other_same n None at = tt
  other_same n (Some v) at = λ none. ap (λ l. value_at l n) same ∙ at

  pub other_at : (n : ℕ) → KeepsOther (value_at old n) (value_at new n)
  other_at n = other_same n (value_at old n) refl

  pub absent_at : (n : ℕ) → StaysUnset (value_at old n) (value_at new n)
  absent_at n = λ none. ap (λ l. value_at l n) same ∙ none

  pub rest_at : (f : FieldDescriptor) → KeepsRest f old new
  rest_at f = λ n other. ap (λ l. value_at l n) same

-- ---- where a value stood, or nothing
module _ (old new : Option Value) where
  pub other_there : (before after : Value) → Some before ≡ old → new ≡ Some after → (list_items before ≡ None → after ≡ before) → KeepsOther old new
  other_there before after at put stays = subst (λ o. KeepsOther o new) at (λ none. put ∙ ap Some (stays none))

  pub other_none : None ≡ old → KeepsOther old new
  other_none none = subst (λ o. KeepsOther o new) none tt

  pub absent_there : (before : Value) → Some before ≡ old → StaysUnset old new
  absent_there before at = λ none. absurd (cc (at ∙ none))

-- what holds of what was taken out of a message, and of what is put back, holds of the message
pub of_message : (P : List (ℕ × Value) → List (ℕ × Value) → Type 0) (before taken left behind : List (ℕ × Value)) → taken ≡ before → behind ≡ left → P taken left → P before behind
of_message P before taken left behind out back h = subst (λ l. P l behind) out (subst (P taken) (sym back) h)
