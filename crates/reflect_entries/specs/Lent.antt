-- What entries end as, once a `&mut` to the value under a number has ended.
use Rattle.std.specs.Prelude.{◌≡◌, ℕ, Some, Option, Result}
use Rattle.std.specs.Borrow.{Fml, RattleType, MutBor, LendsSo, LendsSoOk}
use Rattle.std.specs.Option.{IsSome}
use Rattle.reflect_entries.specs.contracts.entries.Entries as entries
use Rattle.reflect_entries.specs.Entries.{Updates}

module _ (V : RattleType) (lender : MutBor (entries.the_row V).Denot) (number : ℕ) where
  -- the number has the last value written through r, and at `None` the entries stay
  abbrev pub lends_value : Option (MutBor V.Denot) → Fml
  lends_value r = LendsSo (entries.the_row V) V lender r
      (λ n w. IsSome r → Updates lender.now n number (Some w)) (λ n. n ≡ lender.now)

  -- the same where there is always one, unless memory ran out
  abbrev pub lends_slot : {E : Type 0} → Result (MutBor V.Denot) E → Fml
  lends_slot r = LendsSoOk (entries.the_row V) V lender r
      (λ n w. Updates lender.now n number (Some w)) (λ n. n ≡ lender.now)
