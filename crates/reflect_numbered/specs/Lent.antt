-- What messages end as, once a `&mut` to the value of a field that was looked for has ended, and
-- why none is lent.
use Rattle.std.specs.Prelude.{◌≡◌, ℕ, Option, Result}
use Rattle.std.specs.Borrow.{Fml, RattleType, MutBor, LendsSoOk}
use Rattle.reflect_entries.specs.Entries.{value_at}
use Rattle.reflect_message.specs.Held.{fields_of}
use Rattle.reflect_message.specs.contracts.value.ValueOf as value
use Rattle.reflect_message.specs.declared.message.MessageOf.{MessageOf}
use Rattle.reflect_message.specs.declared.value.ValueOf.{ValueOf}
use Rattle.reflect_numbered.specs.Called.{IfAny}
use Rattle.reflect_numbered.specs.declared.lend_error.LendError.{LendError}
use Rattle.reflect_numbered.specs.declared.lend_error.LendError.TheVariants as errors

-- what is lent is what the field that is meant shows of what the message has under its number
abbrev pub ShowsMeant : {F D : Type 0} → (F → Type 0) → (F → ℕ)
    → (F → Option (ValueOf D) → ValueOf D → Type 0) → MessageOf D → ValueOf D → Type 0
ShowsMeant {F} IsMeant number_of shows m v =
    (f : F) × IsMeant f × shows f (value_at (fields_of m) (number_of f)) v

-- no field is meant, or memory ran out for one that is
abbrev pub LacksLoan : {F : Type 0} → (F → Type 0) → LendError → Type 0
LacksLoan {F} IsMeant errors.NotFound = (f : F) → IsMeant f → ⊥
LacksLoan {F} IsMeant errors.Memory = (f : F) × IsMeant f

module _ (R D : RattleType) {F : Type 0} (message : R.Denot → MessageOf D.Denot) where
  -- the field that is meant is set to the last value written through r, as `sets` says; after a
  -- refusal the message is as `leaves` says, and where no field is meant it stays
  abbrev pub lends_meant : (F → Type 0)
      → (F → MessageOf D.Denot → MessageOf D.Denot → ValueOf D.Denot → Type 0)
      → (F → MessageOf D.Denot → MessageOf D.Denot → Type 0) → MutBor R.Denot
      → {E : Type 0} → Result (MutBor (ValueOf D.Denot)) E → Fml
  lends_meant IsMeant sets leaves lender r =
      LendsSoOk R (value.the_row D) lender r
      (λ n w. (f : F) × IsMeant f × sets f (message lender.now) (message n) w)
      (λ n. IfAny IsMeant (λ f. leaves f (message lender.now) (message n)) (n ≡ lender.now))
