-- What a rule reads that chooses by what comes next: what holds of the way that it takes holds of it.
use Rattle.protox_options.proofs.Behind.{Answers}
use Rattle.protox_tokens.specs.Parser.{Outcome, Parser, choose}
use Rattle.protox_tokens.specs.Stream.{Stream}
use Rattle.std.proofs.Common.{◌≡◌, Bool, true, false, sym, subst}
use Rattle.std.specs.Prelude.{if◌then◌else◌}

module _ {A : Type 0} {P : Outcome A → Type 0} (f : Stream → Bool) (p q : Parser A) {ts : Stream} where
  pub chosen : f ts ≡ true → Answers P p ts → Answers P (choose f p q) ts
  chosen e h = record { so = subst (λ b. P (if b then p ts else q ts)) (sym e) h.so }

  pub passed : f ts ≡ false → Answers P q ts → Answers P (choose f p q) ts
  passed e h = record { so = subst (λ b. P (if b then p ts else q ts)) (sym e) h.so }
