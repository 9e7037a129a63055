-- Texts of bytes.
use Rattle.std.proofs.Common.{◌≡◌, ◌⊎◌, inl, inr, ℕ, ◌<◌, ◌++◌, ◌&&◌, true, List, [], ◌∷◌, append-nil, subst, refl, ap, arith}
use Rattle.std.specs.List.{AllByRecursion}
use lib.Utf8.{scalar, encode}
use Rattle.text_model.proofs.Utf8.{utf8_small}

abbrev pub AreSmall : List ℕ → Type 0
AreSmall s = AllByRecursion (λ x. x < 256) s

scalar_is : (c : ℕ) → (c < 0xd800) ⊎ ((0xdfff < c) × (c < 0x110000)) → scalar c ≡ true
scalar_is c (inl h) = grind (arith, h)
scalar_is c (inr h) = let low = h.0 in let high = h.1 in grind (arith, low, high)

-- the bytes of a character
pub encode_small : (c : ℕ) → (c < 0xd800) ⊎ ((0xdfff < c) × (c < 0x110000)) → AreSmall (encode c)
encode_small c h = subst AreSmall (append-nil (encode c)) (utf8_small (encode c ++ []) (c ∷ [], (ap (λ b. b && true) (scalar_is c h), refl)))
