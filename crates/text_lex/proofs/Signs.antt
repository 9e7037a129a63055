-- The signs of a text are signs of a source.
use Rattle.std.proofs.Common.{◌≡◌, ℕ, Bool, true, false, Some, None, ap, sym, ◌∙◌, refl}
use Rattle.std.specs.Prelude.{◌==◌}
use Rattle.std.proofs.lemmas.Bool.{eqb-true}
use Rattle.protox_lex.specs.Lex.{sign_of}
use Rattle.protox_lex.specs.declared.token.Sign.{Sign}
use Rattle.protox_lex.specs.declared.token.Sign.TheVariants as signs
use Rattle.text_lex.specs.Longest.{is_sign}
use Rattle.text_lex.specs.Lex.{sign_byte}

pub record IsSign (b : ℕ) (s : Sign) : Type 0 where
  pub known : sign_of b ≡ Some s
  pub byte : sign_byte s ≡ b

-- the byte is k, whose sign is s, or another
try_sign : {P : Type 0} (b k : ℕ) (s : Sign) → sign_of k ≡ Some s → sign_byte s ≡ k → ((s : Sign) → IsSign b s → P) → ((b == k) ≡ false → P) → P
try_sign {P} b k s known byte here other = by (b == k) refl where
  by : (v : Bool) → (b == k) ≡ v → P
  by true h = let e = eqb-true b k h in here s (record { known = ap sign_of e ∙ known; byte = byte ∙ sym e })
  by false h = other h

pub record HasSign (b : ℕ) : Type 0 where
  pub which : Sign
  pub is : IsSign b which

found : (b : ℕ) (s : Sign) → IsSign b s → HasSign b
found b s is = record { which = s; is = is }

pub sign_here : (b : ℕ) → is_sign b ≡ true → HasSign b
sign_here b e =
    try_sign b 46 signs.Dot refl refl (found b) λ h1. try_sign b 45 signs.Minus refl refl (found b) λ h2. try_sign b 123 signs.LeftBrace refl refl (found b) λ h3.
    try_sign b 125 signs.RightBrace refl refl (found b) λ h4. try_sign b 91 signs.LeftBracket refl refl (found b) λ h5. try_sign b 93 signs.RightBracket refl refl (found b) λ h6.
    try_sign b 60 signs.LeftAngleBracket refl refl (found b) λ h7. try_sign b 62 signs.RightAngleBracket refl refl (found b) λ h8. try_sign b 44 signs.Comma refl refl (found b) λ h9.
    try_sign b 58 signs.Colon refl refl (found b) λ h10. try_sign b 59 signs.Semicolon refl refl (found b) λ h11. try_sign b 47 signs.ForwardSlash refl refl (found b) λ h12.
    absurd (let f : false ≡ true = rw (h1, h2, h3, h4, h5, h6, h7, h8, h9, h10, h11, h12) at e in cc)

same_sign : (b : ℕ) (t : Sign) → sign_of b ≡ Some t → (s : Sign) → IsSign b s → sign_byte t ≡ b
same_sign b t e s is = let f : Some t ≡ Some s = sym e ∙ is.known in let g : t ≡ s = cc in ap sign_byte g ∙ is.byte

pub byte_is : (b : ℕ) (t : Sign) → sign_of b ≡ Some t → sign_byte t ≡ b
byte_is b t e =
    try_sign b 46 signs.Dot refl refl (same_sign b t e) λ h1. try_sign b 45 signs.Minus refl refl (same_sign b t e) λ h2. try_sign b 40 signs.LeftParen refl refl (same_sign b t e) λ h3.
    try_sign b 41 signs.RightParen refl refl (same_sign b t e) λ h4. try_sign b 123 signs.LeftBrace refl refl (same_sign b t e) λ h5. try_sign b 125 signs.RightBrace refl refl (same_sign b t e) λ h6.
    try_sign b 91 signs.LeftBracket refl refl (same_sign b t e) λ h7. try_sign b 93 signs.RightBracket refl refl (same_sign b t e) λ h8. try_sign b 60 signs.LeftAngleBracket refl refl (same_sign b t e) λ h9.
    try_sign b 62 signs.RightAngleBracket refl refl (same_sign b t e) λ h10. try_sign b 44 signs.Comma refl refl (same_sign b t e) λ h11. try_sign b 61 signs.Equals refl refl (same_sign b t e) λ h12.
    try_sign b 58 signs.Colon refl refl (same_sign b t e) λ h13. try_sign b 59 signs.Semicolon refl refl (same_sign b t e) λ h14. try_sign b 47 signs.ForwardSlash refl refl (same_sign b t e) λ h15.
    absurd (let f : None ≡ Some t = rw (h1, h2, h3, h4, h5, h6, h7, h8, h9, h10, h11, h12, h13, h14, h15) at e in cc)
