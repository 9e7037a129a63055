-- What a turn of a loop that keeps no value does.
use Rattle.protox_lex.specs.Token.{Token}
use Rattle.protox_tokens.proofs.Loops.{Shortens, many_goes, many_ends, many_stops, when_more, when_none, when_fails}
use Rattle.protox_tokens.specs.Parser.{Parser, and_then, ◌<$>◌, pure, pass_in, behind_in, when, many}
use Rattle.protox_tokens.specs.Reads.{Fails}
use Rattle.protox_tokens.specs.Stream.{Stream, Mode}
use Rattle.protox_tokens.specs.declared.fault.Stop.{Stop}
use Rattle.protox_tokens.specs.declared.fault.Stop.TheVariants.{Memory, Refused}
use Rattle.std.proofs.Common.{◌≡◌, Bool, true, false, Option, Some, None, Ok, ap, ◌∙◌}
use Rattle.std.specs.Prelude.{if◌then◌else◌}

module _ (m : Mode) (k : Token) (p : Parser (Unit {0})) (short : Shortens (behind_in m k p)) (s : Stream) where
  step : Parser (Option (Unit {0}))
  step = behind_in m k p

  after : Bool → Parser (Option (Unit {0}))
  after found = if found then Some <$> p else pure None

  pub between_goes : (r u : Stream) → pass_in m k s ≡ Ok (true, r) → p r ≡ Ok (tt, u) → many (behind_in m k p) s ≡ many (behind_in m k p) u
  unfolding step after
  between_goes r u e f =
      many_goes step short s u tt (ap (λ o. and_then o after) e ∙ ap (λ o. and_then o (λ x. pure (Some x))) f)

  pub between_ends : (r : Stream) → pass_in m k s ≡ Ok (false, r) → many (behind_in m k p) s ≡ Ok (tt, r)
  unfolding step after
  between_ends r e = many_ends step short s r (ap (λ o. and_then o after) e)

  no_token : (e : Stop) → Fails e (pass_in m k s) → Fails e (behind_in m k p s)
  unfolding after
  no_token Memory f = tt
  no_token (Refused g) f = ap (λ o. and_then o after) f

  pub between_fails : (e : Stop) → Fails e (pass_in m k s) → Fails e (many (behind_in m k p) s)
  unfolding step
  between_fails e f = many_stops step short e s (no_token e f)

  no_value : (e : Stop) (r : Stream) → pass_in m k s ≡ Ok (true, r) → Fails e (p r) → Fails e (behind_in m k p s)
  unfolding after
  no_value Memory r h f = tt
  no_value (Refused g) r h f = ap (λ o. and_then o after) h ∙ ap (λ o. and_then o (λ x. pure (Some x))) f

  pub between_stops : (e : Stop) (r : Stream) → pass_in m k s ≡ Ok (true, r) → Fails e (p r) → Fails e (many (behind_in m k p) s)
  unfolding step
  between_stops e r h f = many_stops step short e s (no_value e r h f)

module _ (f : Stream → Bool) (p : Parser (Unit {0})) (short : Shortens (when f p)) (s : Stream) where
  pub each_goes : (u : Stream) → f s ≡ true → p s ≡ Ok (tt, u) → many (when f p) s ≡ many (when f p) u
  each_goes u e g = many_goes (when f p) short s u tt (when_more f p s u tt e g)

  pub each_ends : f s ≡ false → many (when f p) s ≡ Ok (tt, s)
  each_ends e = many_ends (when f p) short s s (when_none f p s e)

  pub each_stops : (e : Stop) → f s ≡ true → Fails e (p s) → Fails e (many (when f p) s)
  each_stops e h g = many_stops (when f p) short e s (when_fails f p s e h g)
