-- What is left of bytes that were read from the front.
use Rattle.std.proofs.Common.{◌≡◌, ◌==◌, ℕ, ◌≤◌, ◌<◌, true, List, [], ◌∷◌, ◌++◌, length, arith, refl, ap}
use Rattle.std.proofs.lemmas.List.{length-append}
use Rattle.reflect_wire.specs.Key.{IsKey}
use Rattle.reflect_wire.specs.Reads.{Fronts}
use Rattle.reflect_wire.specs.declared.wire_key.WireKey.{WireKey}

-- no more is left than there was
pub no_longer : {X : Type 0} (R : List ℕ → X → Type 0) (bytes rest : List ℕ) (x : X) → Fronts R bytes x rest → length rest ≤ length bytes
no_longer R bytes rest x (front, _, e) = omega (arith, ap length e, length-append front rest)

-- a key takes bytes
pub key_shorter : (bytes rest : List ℕ) (key : WireKey) → Fronts IsKey bytes key rest → length rest < length bytes
key_shorter bytes rest key h = by h.0 h.1 h.2 where
  by : (front : List ℕ) → IsKey front key → bytes ≡ front ++ rest → length rest < length bytes
  by [] k e = absurd k.spelled.spelled
  by (b ∷ bs) k e = omega (arith, ap length e, length-append (b ∷ bs) rest)

-- bytes of which none are left
pub emptied : (bytes : List ℕ) → (length bytes == 0) ≡ true → bytes ≡ []
emptied [] e = refl
emptied (b ∷ bytes) e = absurd (grind (arith, e))
