-- What a turn of a loop up to a closing brace does, what it has read being in front.
use Rattle.protox_lex.specs.Token.{sign}
use Rattle.protox_tokens.proofs.Loops.{Shortens, with_front, when_goes, when_ends, when_stops}
use Rattle.protox_tokens.specs.Parser.{Outcome, Parser, loop, sees, until}
use Rattle.protox_tokens.specs.Reads.{Fails}
use Rattle.protox_tokens.specs.Stream.{Stream}
use Rattle.protox_tokens.specs.declared.fault.Stop.{Stop}
use Rattle.std.proofs.Common.{◌≡◌, ◌++◌, ◌∷◌, [], List, Bool, true, false, not, Ok, ap}
use Rattle.protox_lex.specs.declared.token.Sign.TheVariants as s

module _ {A : Type 0} (p : Parser A) (short : Shortens (until (sign s.RightBrace) p)) (front : List A) (at : Stream) {total : Outcome (List A)} (so_far : with_front front (loop (until (sign s.RightBrace) p) at) ≡ total) where
  abbrev pub open_there : Stream → Bool
  open_there ts = not (sees (sign s.RightBrace) ts)

  pub turn_goes : {r : Stream} {x : A} → sees (sign s.RightBrace) at ≡ false → p at ≡ Ok (x, r) → with_front (front ++ x ∷ []) (loop (until (sign s.RightBrace) p) r) ≡ total
  turn_goes {r = r} {x = x} e = when_goes open_there p short front at total so_far r x (ap not e)

  pub turns_end : sees (sign s.RightBrace) at ≡ true → total ≡ Ok (front, at)
  turns_end e = when_ends open_there p short front at total so_far (ap not e)

  pub turn_stops : (e : Stop) → sees (sign s.RightBrace) at ≡ false → Fails e (p at) → Fails e total
  turn_stops e f = when_stops open_there p short front at total so_far e (ap not f)
