-- Which tokens a tree spells, and what it tells of where they stand.
use Rattle.protox_lex.specs.Token.{Token, ident, int, float, str, sign, comment}
use Rattle.protox_lex.specs.declared.span.Span.{Span}
use Rattle.protox_tokens.specs.Stream.{Stream, source, Seen, look}
use Rattle.protox_tree.specs.Tree.{Word}
use Rattle.std.specs.Prelude.{◌≡◌, ℕ, List, [], ◌∷◌, ◌++◌, Option, Some, None}
use Rattle.protox_lex.specs.Lex as lex

pub data Place : Type 0 where
  anywhere : Place
  within : Span → Place
  from : ℕ → Place
  upto : ℕ → Place

pub data Mark : Type 0 where
  token : Place → Token → Mark
  -- a literal of these bytes
  literal : Word → Mark

abbrev pub IsIn : Place → Span → Type 0
IsIn anywhere s = Unit {0}
IsIn (within w) s = w ≡ s
IsIn (from a) s = a ≡ s.start
IsIn (upto b) s = b ≡ s.end

abbrev pub IsLiteral : Word → Token → Span → Type 0
IsLiteral w (str raw) at = (w.text ≡ lex.unescaped raw) × (w.span ≡ at)
IsLiteral w (ident t) at = ⊥
IsLiteral w (int t) at = ⊥
IsLiteral w (float t) at = ⊥
IsLiteral w (sign t) at = ⊥
IsLiteral w comment at = ⊥

abbrev pub FitsToken : Mark → Token → Span → Type 0
FitsToken (token p k) t at = IsIn p at × (k ≡ t)
FitsToken (literal w) t at = IsLiteral w t at

abbrev pub FitsMark : Mark → Seen → Type 0
FitsMark m None = ⊥
FitsMark m (Some x) = FitsToken m x.0 x.1

-- the first tokens are those of the marks, and the others are left
abbrev pub SpellsMarks : List Mark → Stream → Stream → Type 0
SpellsMarks [] ts r = ts ≡ r
SpellsMarks (m ∷ ms) [] r = ⊥
SpellsMarks (m ∷ ms) (t ∷ ts) r = FitsMark m (look source t) × SpellsMarks ms ts r

abbrev pub any : Token → Mark
any k = token anywhere k

abbrev pub spot : Span → Token → Mark
spot p k = token (within p) k

abbrev pub if_there : Option Span → Token → List Mark
if_there None k = []
if_there (Some p) k = spot p k ∷ []

abbrev pub each : {A : Type 0} → (A → List Mark) → List A → List Mark
each f [] = []
each f (x ∷ xs) = f x ++ each f xs

abbrev pub Each : {A : Type 0} → (A → Type 0) → List A → Type 0
Each P [] = Unit {0}
Each P (x ∷ xs) = P x × Each P xs

-- one or more, with this token between them
abbrev pub listed : {A : Type 0} → Token → (A → List Mark) → List A → List Mark
listed k f [] = []
listed k f (x ∷ xs) = f x ++ each (λ y. any k ∷ f y) xs

abbrev pub word_mark : Word → Mark
word_mark w = spot w.span (ident w.text)

abbrev pub IsSome_of : {A : Type 0} → (A → Type 0) → List A → Type 0
IsSome_of P [] = ⊥
IsSome_of P (x ∷ xs) = P x × Each P xs

abbrev pub IsAny : {A : Type 0} → A → Type 0
IsAny a = Unit {0}
