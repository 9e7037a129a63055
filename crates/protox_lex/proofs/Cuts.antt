-- What is right of a cut, and words and white space.
use Rattle.std.proofs.Common.{◌≡◌, ℕ, ◌<◌, Bool, true, false, eqb, ◌∷◌, Ok, Err, arith, refl}
use Rattle.std.specs.List.{list_all}
use Rattle.std.proofs.lemmas.Bool.{eqb-true}
use Rattle.protox_lex.specs.declared.class.Class.TheVariants as class
use Rattle.protox_lex.specs.Class.{Text, is_in}
use Rattle.protox_lex.specs.Token.{ident, gap, token}
use Rattle.protox_lex.specs.Lex.{Cut}
use Rattle.protox_lex.specs.Longest.{IsAlone}
use Rattle.protox_lex.proofs.Pieces.{if_all, piece_of, IsCut, IsFlaw}

-- what is cut is the longest piece, or a fault that is there
abbrev pub IsRight : Text → Cut → Type 0
IsRight z (Ok x) = IsCut z x.0 x.1 × IsAlone z x.0 x.1
IsRight z (Err f) = IsFlaw z f.kind f.start f.end

-- ---- what a piece that begins with b is

pub piece_blank : (b : ℕ) (y : Text) → is_in class.Blank b ≡ true → piece_of (b ∷ y) ≡ if_all (list_all (is_in class.Blank) y) gap
unfolding piece_of
piece_blank b y h = rw h refl

pub record IsWord (b : ℕ) : Type 0 where
  pub blank : is_in class.Blank b ≡ false
  pub letter : is_in class.Letter b ≡ true

pub piece_word : (b : ℕ) (y : Text) → IsWord b → piece_of (b ∷ y) ≡ if_all (list_all (is_in class.Word) y) (token (ident (b ∷ y)))
unfolding piece_of
piece_word b y h = rw (h.blank, h.letter) refl

pub record IsOther (b : ℕ) : Type 0 where
  pub blank : is_in class.Blank b ≡ false
  pub letter : is_in class.Letter b ≡ false

pub not_same : (a b : ℕ) → a < b → eqb a b ≡ false
not_same a b lt = by (eqb a b) refl where
  by : (v : Bool) → eqb a b ≡ v → eqb a b ≡ false
  by true e = absurd (omega (arith, eqb-true a b e))
  by false e = e
