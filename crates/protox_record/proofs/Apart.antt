-- Names behind letters tell what they are made of.
use Rattle.std.proofs.Common.{◌≡◌, ◌∙◌, ◌∷◌, ℕ, zero, suc, List, [], ap, sym, arith}
use Rattle.protox_lex.specs.Class.{Text}
use Rattle.protox_message_records.specs.SyntheticOneofs.{IsFreed, behind_letters}

abbrev first_of_text : Text → ℕ
first_of_text [] = 0
first_of_text (b ∷ bs) = b

abbrev others_of_text : Text → Text
others_of_text [] = []
others_of_text (b ∷ bs) = bs

same_word : (i j : ℕ) (a b : Text) → behind_letters i (95 ∷ a) ≡ behind_letters j (95 ∷ b) → a ≡ b
same_word zero zero a b e = ap others_of_text e
same_word zero (suc j) a b e = let no : 95 ≡ 88 = ap first_of_text e in absurd (omega (arith, no))
same_word (suc i) zero a b e = let no : 88 ≡ 95 = ap first_of_text e in absurd (omega (arith, no))
same_word (suc i) (suc j) a b e = same_word i j a b (ap others_of_text e)

pub same_field : (xs ys : List Text) (a b made : Text) → IsFreed xs (95 ∷ a) made → IsFreed ys (95 ∷ b) made → a ≡ b
same_field xs ys a b made h k = same_word h.0 k.0 a b (sym h.1 ∙ k.1)
