-- What messages end as, once a `&mut` to the value of a field or an extension has ended, and what
-- values do, once one to what they hold has.
use Rattle.std.specs.Prelude.{ℕ, Option, Some, Result}
use Rattle.std.specs.Borrow.{Fml, RattleType, MutBor, LendsIf, LendsSo, LendsSoOk}
use Rattle.std.specs.Option.{IsSome}
use Rattle.reflect_message.specs.Held.{Stays, UpdatesExtension, UpdatesField}
use Rattle.reflect_message.specs.contracts.message.MessageOf as message
use Rattle.reflect_message.specs.contracts.value.ValueOf as value
use Rattle.reflect_message.specs.declared.message.MessageOf.{MessageOf}
use Rattle.reflect_message.specs.declared.value.ValueOf.{ValueOf}

module _ (D : RattleType) where
  -- under the number of a declared field stands the last value written through r, and at `None` the
  -- message stays
  abbrev pub lends_field : ℕ → MutBor (MessageOf D.Denot) → Option (MutBor (ValueOf D.Denot)) → Fml
  lends_field number lender r = LendsSo (message.the_row D) (value.the_row D) lender r
      (λ n w. IsSome r → UpdatesField lender.now n number (Some w)) (λ n. Stays lender.now n)

  -- the same under the number of an extension
  abbrev pub lends_extension : ℕ → MutBor (MessageOf D.Denot)
      → Option (MutBor (ValueOf D.Denot)) → Fml
  lends_extension number lender r = LendsSo (message.the_row D) (value.the_row D) lender r
      (λ n w. IsSome r → UpdatesExtension lender.now n number (Some w)) (λ n. Stays lender.now n)

  -- the message is set to the last value written through r, as `sets` says, and after a refusal it
  -- is as `leaves` says
  abbrev pub lends_set : (MessageOf D.Denot → MessageOf D.Denot → ValueOf D.Denot → Type 0)
      → (MessageOf D.Denot → MessageOf D.Denot → Type 0) → MutBor (MessageOf D.Denot)
      → {E : Type 0} → Result (MutBor (ValueOf D.Denot)) E → Fml
  lends_set sets leaves lender r = LendsSoOk (message.the_row D) (value.the_row D) lender r
      (λ n w. sets lender.now n w) (λ n. leaves lender.now n)

  -- an extension is set to it, and after a refusal the message stays
  abbrev pub lends_put : ℕ → MutBor (MessageOf D.Denot)
      → {E : Type 0} → Result (MutBor (ValueOf D.Denot)) E → Fml
  lends_put number lender r = LendsSoOk (message.the_row D) (value.the_row D) lender r
      (λ n w. UpdatesExtension lender.now n number (Some w)) (λ n. Stays lender.now n)

  -- the value is the same case with the last value written through r, and at `None` it stays
  abbrev pub lends_case : (T : RattleType) → (T.Denot → ValueOf D.Denot) → MutBor (ValueOf D.Denot)
      → Option (MutBor T.Denot) → Fml
  lends_case T case lender r = LendsIf (value.the_row D) T lender r case lender.now
