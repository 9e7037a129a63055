-- The bytes of a text are bytes.
use Rattle.std.proofs.Common.{◌≡◌, ℕ, ◌<◌, Bool, true, false, List, [], ◌∷◌, ltb, IsUtf8, subst, refl, arith}
use Rattle.std.specs.List.{AllByRecursion}
use Rattle.std.proofs.lemmas.Bool.{ltb-true, and_parts}
use Rattle.protobuf_model.proofs.Arranged.{all_append}
use lib.Utf8.{scalar, scalars, encode, encodes, scalar_cases}
use mathlib.Core.Logic.{⊎_elim}

abbrev AreSmall : List ℕ → Type 0
AreSmall s = AllByRecursion (λ x. x < 256) s

encode_small : (c : ℕ) → c < 1114112 → AreSmall (encode c)
unfolding encode
encode_small c h = by (ltb c 128) refl (ltb c 2048) refl (ltb c 65536) refl where
  by : (x : Bool) → ltb c 128 ≡ x → (y : Bool) → ltb c 2048 ≡ y → (z : Bool) → ltb c 65536 ≡ z → AreSmall (encode c)
  by true e y f z g = let k = ltb-true c 128 e in rw e (omega arith, tt)
  by false e true f z g = let k = ltb-true c 2048 f in rw (e, f) (omega arith, (omega arith, tt))
  by false e false f true g = let k = ltb-true c 65536 g in rw (e, f, g) (omega arith, (omega arith, (omega arith, tt)))
  by false e false f false g = rw (e, f, g) (omega arith, (omega arith, (omega arith, (omega arith, tt))))

encodes_small : (cs : List ℕ) → scalars cs ≡ true → AreSmall (encodes cs)
encodes_small [] h = tt
encodes_small (c ∷ cs) h =
    let p = and_parts (scalar c) (scalars cs) h in
    all_append (λ x. x < 256) (encode c) (encodes cs) (encode_small c (⊎_elim (λ l. omega arith) (λ l. omega (arith, l.1)) (scalar_cases c p.0))) (encodes_small cs p.1)

pub utf8_small : (s : List ℕ) → IsUtf8 s → AllByRecursion (λ x. x < 256) s
utf8_small s h = subst AreSmall h.1.1 (encodes_small h.0 h.1.0)
